-- The log of one or two operations, and what `add m 0 10` reaches.
use Rattle.std.proofs.Common.{◌≡◌, ℕ, refl, sym, ap, ◌∙◌, Some, None, [], ◌∷◌, ⊎_elim}
use Rattle.std.specs.Ordering.{nat_cmp}
use Rattle.std.proofs.lemmas.Cmp.{nat_cmp_total}
use Rattle.std.specs.FinMap as fin
use Rattle.std.specs.FinMap.{nat_cmp-IsAntisymmetric}
use Rattle.cell_world.specs.KeyForms.{normal_of}
use Rattle.cell_world.specs.Sound.{HasLog}
use Rattle.cell_world.specs.declared.operations.Op.{Op}
use Rattle.cell_world.specs.declared.operations.Reach.TheVariants as reach
use Rattle.cell_world.proofs.StoreLaws.{get-insert_same, get-insert_cases}
use Rattle.plain_model.specs.OnTrail.{reach_of_command}
use Rattle.cell_world.specs.Images.{Image}
use Rattle.cell_world.specs.declared.cells.Status.TheVariants.{Online}
use Rattle.plain_model.specs.Legal.{IsOwnOf}
use Rattle.plain_model.specs.Steps.{Exchange, exchange_of}
use Rattle.plain_model.specs.Worked.{small_range, mapping_over}
use Rattle.model_examples.specs.Values.{state_with_jobs, add_0_10, add_op}
use Rattle.world_examples.specs.Examples.{map_m}
use Rattle.model_examples.proofs.JobStates.{m_stands}

pub reached : reach_of_command (state_with_jobs [] []) add_0_10 ≡ reach.Part map_m (small_range 0 10)
unfolding normal_of
reached = rw m_stands refl

-- what `add m 0 10` exchanges
pub exchanges : exchange_of (state_with_jobs [] []) add_0_10 ≡ ([], mapping_over (small_range 0 10) Online ∷ [])
unfolding normal_of
exchanges = rw m_stands refl

-- so it is the operation that adds this range
pub adds : (image : Image) (number : ℕ) → IsOwnOf (state_with_jobs [] []) add_0_10 None image (add_op number 0 10)
adds image number = (sym (ap (λ (e : Exchange). e.0) exchanges), sym (ap (λ (e : Exchange). e.1) exchanges))

-- the log has this operation
pub in_log : (op : Op) → HasLog (fin.insert fin.empty op.number op) op
in_log op = get-insert_same nat_cmp_total fin.empty op.number op

-- and no other
pub only_in_log : (op other : Op) → HasLog (fin.insert fin.empty op.number op) other → op ≡ other
only_in_log op other h = ⊎_elim
    (λ same. let e : Some op ≡ Some other = sym same.1 ∙ h in cc)
    (λ before. let e : None ≡ Some other = sym (fin.get-empty nat_cmp other.number) ∙ sym before ∙ h in absurd cc)
    (get-insert_cases nat_cmp_total nat_cmp-IsAntisymmetric fin.empty op.number op other.number)
