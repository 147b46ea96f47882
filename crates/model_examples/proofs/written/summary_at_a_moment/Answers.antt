use Rattle.std.proofs.Common.{◌≡◌, ◌≤◌, arith, refl, codes, ◌++◌, []}
use Rattle.std.specs.Fmt.{digits}
use Rattle.plain_model.specs.Lines.{lines_of}
use Rattle.model_examples.specs.Runs.{line, one_summed}
use Rattle.model_examples.proofs.Texts.{differ_at}
use Rattle.model_examples.proofs.written.summary_at_a_moment.Goals as goal

pub returns-clause-none_by_the_entry : goal.returns-clause-none_by_the_entry
unfolding digits lines_of
returns-clause-none_by_the_entry c = record { quiet = λ by. refl; front = λ after. (one_summed, refl) }

pub returns-clause-none_after_it : goal.returns-clause-none_after_it
unfolding digits lines_of
returns-clause-none_after_it c = record { quiet = λ by. refl; front = λ after. (one_summed, refl) }

pub returns-clause-a_front : goal.returns-clause-a_front
unfolding digits lines_of
returns-clause-a_front c = record { quiet = λ by. absurd (let e : 2 ≤ 1 = by in omega arith); front = λ after. (line (codes "ands 1") ++ line (codes "ok 1") ++ line (codes "refused 0") ++ line (codes "fault 0"), refl) }

pub returns-clause-the_lines : goal.returns-clause-the_lines
unfolding digits lines_of
returns-clause-the_lines c = record { quiet = λ by. absurd (let e : 2 ≤ 1 = by in omega arith); front = λ after. ([], refl) }

pub returns-clause-never_before_the_last_entry : goal.returns-clause-never_before_the_last_entry
unfolding digits lines_of
returns-clause-never_before_the_last_entry c w = let by : 2 ≤ 2 = omega arith in let e : codes "c" ≡ [] = w.quiet by in cc

pub returns-clause-never_a_reply : goal.returns-clause-never_a_reply
unfolding digits lines_of
returns-clause-never_a_reply c w = let after : 1 ≤ 2 = omega arith in differ_at 0 111 _ _ (w.front after).1 refl refl

pub returns-clause-never_without_an_entry : goal.returns-clause-never_without_an_entry
unfolding digits lines_of
returns-clause-never_without_an_entry c w = let after : 0 ≤ 1 = omega arith in let front = w.front after in let e : codes "c" ++ front.0 ≡ [] = front.1 in cc
