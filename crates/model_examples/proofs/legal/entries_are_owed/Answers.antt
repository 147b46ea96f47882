use Rattle.std.proofs.Common.{◌≡◌, false, true, refl, sym, ◌∙◌, ap, is_some, []}
use Rattle.std.specs.FinMap as fin
use Rattle.std.specs.Ordering.{nat_cmp}
use Rattle.std.proofs.lemmas.Cmp.{nat_cmp_total}
use Rattle.plain_model.proofs.OwedLaws.{none_after_log}
use Rattle.model_examples.specs.Values.{two_sites, add_op, logging}
use Rattle.model_examples.proofs.Operations.{in_log}
use Rattle.model_examples.proofs.legal.entries_are_owed.Goals as goal

pub returns-clause-while_it_is_logged : goal.returns-clause-while_it_is_logged
returns-clause-while_it_is_logged c = none_after_log two_sites [] (logging (add_op 1 0 10)) (add_op 1 0 10) refl (ap is_some (in_log (add_op 1 0 10))) (λ number is. absurd cc)

pub returns-clause-never_of_a_live_one : goal.returns-clause-never_of_a_live_one
returns-clause-never_of_a_live_one c f = let e : false ≡ true = sym (ap is_some (fin.get-remove nat_cmp_total (fin.insert fin.empty 1 (add_op 1 0 10)) 1 1)) ∙ f 1 refl in cc

pub returns-clause-never_not_made : goal.returns-clause-never_not_made
returns-clause-never_not_made c f = let e : false ≡ true = sym (ap is_some (fin.get-empty nat_cmp 1)) ∙ f 1 refl in cc

pub returns-clause-never_unnamed : goal.returns-clause-never_unnamed
returns-clause-never_unnamed c f = let e : false ≡ true = sym (ap is_some (fin.get-empty nat_cmp 1)) ∙ f 1 refl in cc

pub returns-clause-never_by_another_number : goal.returns-clause-never_by_another_number
returns-clause-never_by_another_number c f = let e : false ≡ true = sym (ap is_some (fin.get-empty nat_cmp 1)) ∙ f 1 refl in cc
