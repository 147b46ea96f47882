use Rattle.std.proofs.Common.{◌≡◌, ◌≤◌, arith, refl, codes, ◌++◌, []}
use Rattle.std.specs.Fmt.{digits}
use Rattle.plain_model.specs.Lines.{lines_of}
use Rattle.model_examples.specs.Runs.{line, ok_line}
use Rattle.model_examples.proofs.Texts.{differ_at}
use Rattle.model_examples.proofs.written.lines_at_a_moment.Goals as goal

pub returns-clause-none_before : goal.returns-clause-none_before
unfolding digits lines_of
returns-clause-none_before c = let most : 0 ≤ 0 = omega arith in let least : 0 ≤ 0 = omega arith in record { front = (ok_line, refl); most = most; least = least }

pub returns-clause-none_yet : goal.returns-clause-none_yet
unfolding digits lines_of
returns-clause-none_yet c = let most : 0 ≤ 3 = omega arith in let least : 0 ≤ 0 = omega arith in record { front = (ok_line, refl); most = most; least = least }

pub returns-clause-a_front : goal.returns-clause-a_front
unfolding digits lines_of
returns-clause-a_front c = let most : 1 ≤ 3 = omega arith in let least : 0 ≤ 1 = omega arith in record { front = (line (codes "k"), refl); most = most; least = least }

pub returns-clause-the_line : goal.returns-clause-the_line
unfolding digits lines_of
returns-clause-the_line c = let most : 3 ≤ 3 = omega arith in let least : 0 ≤ 3 = omega arith in record { front = ([], refl); most = most; least = least }

pub returns-clause-the_line_before_the_next : goal.returns-clause-the_line_before_the_next
unfolding digits lines_of
returns-clause-the_line_before_the_next c = let most : 3 ≤ 6 = omega arith in let least : 3 ≤ 3 = omega arith in record { front = (ok_line, refl); most = most; least = least }

pub returns-clause-none_at_a_step : goal.returns-clause-none_at_a_step
unfolding digits lines_of
returns-clause-none_at_a_step c = let most : 0 ≤ 3 = omega arith in let least : 0 ≤ 0 = omega arith in record { front = (ok_line, refl); most = most; least = least }

pub returns-clause-tagged : goal.returns-clause-tagged
unfolding digits lines_of
returns-clause-tagged c = let most : 5 ≤ 5 = omega arith in let least : 0 ≤ 5 = omega arith in record { front = ([], refl); most = most; least = least }

pub returns-clause-from_where_the_run_began : goal.returns-clause-from_where_the_run_began
unfolding digits lines_of
returns-clause-from_where_the_run_began c = let most : 0 ≤ 3 = omega arith in let least : 0 ≤ 0 = omega arith in record { front = (ok_line, refl); most = most; least = least }

pub returns-clause-never_before_the_entry : goal.returns-clause-never_before_the_entry
unfolding digits lines_of
returns-clause-never_before_the_entry c w = let e : 3 ≤ 0 = w.most in omega arith

pub returns-clause-never_without_an_entry : goal.returns-clause-never_without_an_entry
unfolding digits lines_of
returns-clause-never_without_an_entry c w = let e : 1 ≤ 0 = w.most in omega arith

pub returns-clause-never_more_than_the_line : goal.returns-clause-never_more_than_the_line
unfolding digits lines_of
returns-clause-never_more_than_the_line c w = let e : 6 ≤ 3 = w.most in omega arith

pub returns-clause-never_other_bytes : goal.returns-clause-never_other_bytes
unfolding digits lines_of
returns-clause-never_other_bytes c w = differ_at 0 110 _ _ w.front.1 refl refl

pub returns-clause-never_less_before_the_next : goal.returns-clause-never_less_before_the_next
unfolding digits lines_of
returns-clause-never_less_before_the_next c w = let e : 3 ≤ 2 = w.least in omega arith

pub returns-clause-never_untagged : goal.returns-clause-never_untagged
unfolding digits lines_of
returns-clause-never_untagged c w = let e : ok_line ++ w.front.0 ≡ line (codes "1 ok") = w.front.1 in cc

pub returns-clause-never_of_a_later_entry : goal.returns-clause-never_of_a_later_entry
unfolding digits lines_of
returns-clause-never_of_a_later_entry c w = let e : 4 ≤ 3 = w.most in omega arith
