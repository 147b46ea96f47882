use Rattle.std.proofs.Common.{true≢false, refl, sym, ap, ◌∙◌, inl, inr, [], ◌∷◌, is_some}
use Rattle.cell_world.specs.Lists.{IsOneOf}
use Rattle.cell_world.specs.declared.cells.Mark.TheVariants.{Plain}
use Rattle.cell_world.specs.declared.cells.Status.TheVariants.{Online, Offline}
use Rattle.world_examples.specs.Examples.{site_a, site_b, local_row}
use Rattle.world_examples.proofs.Accepting.{b_not_a}
use Rattle.world_examples.proofs.ImageParts.{b_attached}
use Rattle.world_examples.proofs.ShortTables.{local_in}
use Rattle.world_examples.proofs.Marking.{old_number, is_new, new_row, out_of_log}
use Rattle.world_examples.proofs.Sweeping.{not_done, zero_not_one}
use Rattle.world_examples.proofs.steps.operations_not_under_way.Goals as goal

-- `s/b` isn't `s/a`
not_among : IsOneOf (site_a ∷ []) site_b → ⊥
not_among (inl e) = b_not_a (sym e)
not_among (inr h) = h

pub returns-clause-not_in_log : goal.returns-clause-not_in_log
returns-clause-not_in_log c = λ h. true≢false (sym (ap is_some h.logged) ∙ ap is_some out_of_log)

pub returns-clause-not_done : goal.returns-clause-not_done
returns-clause-not_done c = λ h. not_done (local_row 0 5 0 Offline Plain ∷ []) tt site_a (local_row 0 5 0 Offline Plain) refl refl (λ e. zero_not_one (ap old_number e)) (λ e. true≢false (sym (ap is_new e.0))) (h.done site_a (inl refl))

pub returns-clause-born_at_target : goal.returns-clause-born_at_target
returns-clause-born_at_target c = λ h. (h.unborn site_b b_attached not_among new_row (local_in (new_row ∷ []) tt new_row refl)).0 refl

pub returns-clause-named_elsewhere : goal.returns-clause-named_elsewhere
returns-clause-named_elsewhere c = λ h. (h.unborn site_b b_attached (λ none. none) (local_row 5 9 1 Online Plain) (local_in (local_row 5 9 1 Online Plain ∷ []) tt (local_row 5 9 1 Online Plain) refl)).0 refl
