use Rattle.std.proofs.Common.{◌≡◌, ℕ, true≢false, ap, subst, [], ◌∷◌, arith}
use Rattle.std.specs.Prelude.{IfSome}
use Rattle.std.specs.Ordering.{nat_cmp}
use Rattle.cell_world.specs.Texts.{Text}
use Rattle.cell_world.specs.Orders.{pair_cmp, local_cmp}
use Rattle.cell_world.specs.Keys.{same}
use Rattle.cell_world.specs.Stores.{piece_key, local_key}
use Rattle.cell_world.specs.declared.cells.LocalRow.{LocalRow}
use Rattle.cell_world.specs.declared.cells.Mark.TheVariants.{Plain}
use Rattle.cell_world.specs.declared.cells.Status.TheVariants.{Online}
use Rattle.cell_world.specs.declared.operations.JobRow.{JobRow}
use Rattle.cell_world.specs.declared.operations.Op.{Op}
use Rattle.cell_world.specs.declared.operations.Phase.TheVariants.{Idle}
use Rattle.world_examples.specs.Examples.{int_key, map_m, site_a, free_piece, job_at, local_row, add_at_a}
use Rattle.world_examples.proofs.Tables.{get_of}
use Rattle.world_examples.proofs.sound.refused_keys.Goals as goal

pub returns-clause-mapping : goal.returns-clause-mapping
returns-clause-mapping c = λ h. true≢false (ap (λ (k : Text × Text). same k.1 (int_key 0)) (subst (λ o. IfSome o (λ p. piece_key p ≡ (map_m, int_key 1))) (get_of pair_cmp (((map_m, int_key 1), free_piece 0 5 site_a Online) ∷ []) tt (map_m, int_key 1)) (h.mappings (map_m, int_key 1))))

pub returns-clause-operation : goal.returns-clause-operation
returns-clause-operation c = λ h. let number : ◌≡◌ {A = ℕ} 1 2 = subst (λ o. IfSome o (λ (op : Op). op.number ≡ 2)) (get_of nat_cmp ((2, add_at_a) ∷ []) tt 2) (h.log 2) in omega arith

pub returns-clause-job : goal.returns-clause-job
returns-clause-job c = λ h. let number : ◌≡◌ {A = ℕ} 1 2 = subst (λ o. IfSome o (λ (job : JobRow). job.number ≡ 2)) (get_of nat_cmp ((2, job_at 0 Idle) ∷ []) tt 2) (h.jobs 2) in omega arith

pub returns-clause-local_row : goal.returns-clause-local_row
returns-clause-local_row c = λ h. let number : ◌≡◌ {A = ℕ} 0 1 = ap (λ (k : Text × (Text × ℕ)). k.1.1) (subst (λ o. IfSome o (λ (row : LocalRow). local_key row ≡ (map_m, (int_key 0, 1)))) (get_of local_cmp (((map_m, (int_key 0, 1)), local_row 0 5 0 Online Plain) ∷ []) tt (map_m, (int_key 0, 1))) (h.locals (map_m, (int_key 0, 1)))) in omega arith
