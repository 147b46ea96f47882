use Rattle.std.proofs.Common.{◌≡◌, refl, codes, ◌++◌, []}
use Rattle.std.specs.Fmt.{digits}
use Rattle.plain_model.specs.Lines.{lines_of}
use Rattle.model_examples.specs.Runs.{ok_line, one_summed}
use Rattle.model_examples.proofs.Texts.{differ_at}
use Rattle.model_examples.proofs.written.was_written.Goals as goal

pub returns-clause-lines : goal.returns-clause-lines
unfolding digits lines_of
returns-clause-lines c = (((tt, tt), record { enough = ([], refl); no_more = (ok_line, refl) }), tt)

pub returns-clause-summary : goal.returns-clause-summary
unfolding digits lines_of
returns-clause-summary c = ((tt, refl), (one_summed, refl))

pub returns-clause-summary_so_far : goal.returns-clause-summary_so_far
unfolding digits lines_of
returns-clause-summary_so_far c = ([], refl)

pub returns-clause-never_lines_before_the_entry : goal.returns-clause-never_lines_before_the_entry
unfolding digits lines_of
returns-clause-never_lines_before_the_entry c w = let f = w.0.1.no_more in let e : ok_line ++ f.0 ≡ [] = f.1 in cc

pub returns-clause-never_a_summary_before_an_entry : goal.returns-clause-never_a_summary_before_an_entry
unfolding digits lines_of
returns-clause-never_a_summary_before_an_entry c w = let e : codes "c" ≡ [] = w.1 in cc

pub returns-clause-never_a_reply_of_a_summary : goal.returns-clause-never_a_reply_of_a_summary
unfolding digits lines_of
returns-clause-never_a_reply_of_a_summary c w = differ_at 0 111 _ _ w.1 refl refl
