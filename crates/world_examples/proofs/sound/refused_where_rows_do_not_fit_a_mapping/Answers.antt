use Rattle.std.proofs.Common.{◌≡◌, ℕ, true, refl, ap, List, [], ◌∷◌, arith, is_some}
use Rattle.std.specs.Ordering.{nat_cmp}
use Rattle.cell_world.specs.Meaning.{counts}
use Rattle.cell_world.specs.Stores.{local_key}
use Rattle.cell_world.specs.declared.cells.LocalRow.{LocalRow}
use Rattle.cell_world.specs.declared.cells.Mark.TheVariants.{Plain, Old}
use Rattle.cell_world.specs.declared.cells.Status.TheVariants.{Online}
use Rattle.cell_world.proofs.OrderLaws.{exact_locals}
use Rattle.world_examples.specs.Examples.{site_a, free_piece, local_row, log_of}
use Rattle.world_examples.proofs.Tables.{get_of}
use Rattle.world_examples.proofs.Standing.{standing, not_both}
use Rattle.world_examples.proofs.ImageParts.{numbered_ops, keyed_locals}
use Rattle.world_examples.proofs.ShortTables.{piece_in, local_in}
use Rattle.world_examples.proofs.sound.refused_where_rows_do_not_fit_a_mapping.Goals as goal

pub returns-clause-no_row : goal.returns-clause-no_row
returns-clause-no_row c = λ h.
    let found = h.each (free_piece 0 5 site_a Online) (piece_in (free_piece 0 5 site_a Online ∷ []) tt (free_piece 0 5 site_a Online) refl) refl in
    standing exact_locals (λ k x. ⊥) (keyed_locals []) tt tt (local_key found.0) found.0 found.1

pub returns-clause-old_row : goal.returns-clause-old_row
returns-clause-old_row c = λ h.
    let found = h.each (free_piece 0 5 site_a Online) (piece_in (free_piece 0 5 site_a Online ∷ []) tt (free_piece 0 5 site_a Online) refl) refl in
    standing exact_locals (λ k row. counts (log_of []) row ≡ true → ⊥) (keyed_locals (local_row 0 5 0 Online (Old 1) ∷ [])) tt
    (not_both _ (ap is_some (get_of nat_cmp (numbered_ops []) tt 1)), tt) (local_key found.0) found.0 found.1 found.2

pub returns-clause-two_rows : goal.returns-clause-two_rows
returns-clause-two_rows c = λ h.
    let rows : List LocalRow = local_row 0 5 0 Online Plain ∷ local_row 0 5 1 Online Plain ∷ [] in
    let same = h.once (local_row 0 5 0 Online Plain) (local_row 0 5 1 Online Plain) (local_in rows tt (local_row 0 5 0 Online Plain) refl) (local_in rows tt (local_row 0 5 1 Online Plain) refl) refl refl refl refl in
    let number : ◌≡◌ {A = ℕ} 0 1 = ap (λ (row : LocalRow). row.number) same in omega arith
