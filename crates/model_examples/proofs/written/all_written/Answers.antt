use Rattle.std.proofs.Common.{◌≡◌, refl, codes, ◌++◌, []}
use Rattle.std.specs.Fmt.{digits}
use Rattle.plain_model.specs.Lines.{lines_of}
use Rattle.model_examples.specs.Runs.{ok_line, one_summed}
use Rattle.model_examples.proofs.written.all_written.Goals as goal

pub returns-clause-the_line : goal.returns-clause-the_line
unfolding digits lines_of
returns-clause-the_line c = refl

pub returns-clause-in_two_parts : goal.returns-clause-in_two_parts
unfolding digits lines_of
returns-clause-in_two_parts c = refl

pub returns-clause-summary : goal.returns-clause-summary
unfolding digits lines_of
returns-clause-summary c = refl

pub returns-clause-nothing_to_sum_up : goal.returns-clause-nothing_to_sum_up
unfolding digits lines_of
returns-clause-nothing_to_sum_up c = refl

pub returns-clause-never_a_front : goal.returns-clause-never_a_front
unfolding digits lines_of
returns-clause-never_a_front c w = let e : codes "ok" ≡ ok_line = w in cc

pub returns-clause-never_one_of_two : goal.returns-clause-never_one_of_two
unfolding digits lines_of
returns-clause-never_one_of_two c w = let e : ok_line ≡ ok_line ++ ok_line = w in cc

pub returns-clause-never_without_the_summary : goal.returns-clause-never_without_the_summary
unfolding digits lines_of
returns-clause-never_without_the_summary c w = let e : [] ≡ one_summed = w in cc

pub returns-clause-never_what_was_there : goal.returns-clause-never_what_was_there
unfolding digits lines_of
returns-clause-never_what_was_there c w = let e : [] ≡ ok_line = w in cc
