use Rattle.std.proofs.Common.{◌≡◌, refl, codes, ◌++◌, []}
use Rattle.std.specs.Fmt.{digits}
use Rattle.plain_model.specs.Lines.{lines_of}
use Rattle.model_examples.specs.Runs.{line, ok_line}
use Rattle.model_examples.proofs.written.lines_so_far.Goals as goal

pub returns-clause-a_front : goal.returns-clause-a_front
unfolding digits lines_of
returns-clause-a_front c = record { enough = (codes "o", refl); no_more = (line (codes "k"), refl) }

pub returns-clause-the_line_before_the_next : goal.returns-clause-the_line_before_the_next
unfolding digits lines_of
returns-clause-the_line_before_the_next c = record { enough = ([], refl); no_more = (ok_line, refl) }

pub returns-clause-never_more : goal.returns-clause-never_more
unfolding digits lines_of
returns-clause-never_more c w = let e : codes "ok no" ++ w.no_more.0 ≡ ok_line = w.no_more.1 in cc

pub returns-clause-never_less_before_the_next : goal.returns-clause-never_less_before_the_next
unfolding digits lines_of
returns-clause-never_less_before_the_next c w = let e : ok_line ++ w.enough.0 ≡ codes "o" = w.enough.1 in cc
