use Rattle.std.proofs.Common.{true≢false, refl, sym, ap, [], ◌∷◌, is_some, not}
use Rattle.std.specs.Ordering.{nat_cmp}
use Rattle.cell_world.specs.Keys.{contains}
use Rattle.cell_world.specs.declared.cells.LocalRow.{LocalRow}
use Rattle.cell_world.specs.declared.cells.Mark.TheVariants.{Plain, New}
use Rattle.cell_world.specs.declared.cells.Status.TheVariants.{Online, Offline}
use Rattle.world_examples.proofs.Accepting.{b_not_a}
use Rattle.world_examples.specs.Examples.{int_key, site_a, site_b, free_piece, local_row}
use Rattle.world_examples.proofs.Tables.{get_of}
use Rattle.world_examples.proofs.ImageParts.{numbered_ops, offline_not_online}
use Rattle.world_examples.proofs.ShortTables.{local_in, no_match}
use Rattle.world_examples.proofs.sound.refused_where_a_row_counts.Goals as goal

pub returns-clause-of_none : goal.returns-clause-of_none
returns-clause-of_none c = λ h. no_match ([]) tt (local_row 0 5 0 Online Plain) tt (h.counted (local_row 0 5 0 Online Plain) (local_in (local_row 0 5 0 Online Plain ∷ []) tt (local_row 0 5 0 Online Plain) refl) refl)

pub returns-clause-elsewhere : goal.returns-clause-elsewhere
returns-clause-elsewhere c = λ h. no_match (free_piece 0 5 site_b Online ∷ []) tt (local_row 0 5 0 Online Plain) ((λ l m. b_not_a l), tt) (h.counted (local_row 0 5 0 Online Plain) (local_in (local_row 0 5 0 Online Plain ∷ []) tt (local_row 0 5 0 Online Plain) refl) refl)

pub returns-clause-other_span : goal.returns-clause-other_span
returns-clause-other_span c = λ h. no_match (free_piece 0 6 site_a Online ∷ []) tt (local_row 0 5 0 Online Plain) ((λ l m. true≢false (sym (ap (λ s. contains s (int_key 5)) m.span))), tt) (h.counted (local_row 0 5 0 Online Plain) (local_in (local_row 0 5 0 Online Plain ∷ []) tt (local_row 0 5 0 Online Plain) refl) refl)

pub returns-clause-other_status : goal.returns-clause-other_status
returns-clause-other_status c = λ h. no_match (free_piece 0 5 site_a Offline ∷ []) tt (local_row 0 5 0 Online Plain) ((λ l m. offline_not_online (sym m.status)), tt) (h.counted (local_row 0 5 0 Online Plain) (local_in (local_row 0 5 0 Online Plain ∷ []) tt (local_row 0 5 0 Online Plain) refl) refl)

pub returns-clause-new_row : goal.returns-clause-new_row
returns-clause-new_row c = λ h.
    let row : LocalRow = local_row 0 5 1 Online New in
    no_match [] tt row tt (h.counted row (local_in (row ∷ []) tt row refl) (ap (λ o. not (is_some o)) (get_of nat_cmp (numbered_ops []) tt 1)))
