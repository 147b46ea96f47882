use Rattle.std.proofs.Common.{◌≡◌, false, true≢false, refl, sym, ap, [], ◌∷◌, is_some, ⊎_elim}
use Rattle.cell_world.specs.declared.cells.RowName.{RowName}
use Rattle.cell_world.specs.declared.cells.Status.TheVariants.{Online}
use Rattle.cell_world.specs.declared.operations.Phase.TheVariants.{Idle, Moved}
use Rattle.cell_world.specs.declared.spans.High.TheVariants.{At}
use Rattle.world_examples.proofs.Accepting.{b_not_a}
use Rattle.world_examples.specs.Examples.{int_key, map_m, map_n, table_t, site_a, site_b, free_piece, job_at, row_of}
use Rattle.world_examples.specs.Sounds.{rows_with}
use Rattle.world_examples.proofs.Standing.{not_both}
use Rattle.world_examples.proofs.ShortTables.{row_in, set_has, no_owner, not_moved, batch_is}
use Rattle.world_examples.proofs.sound.refused_row_cells.Goals as goal

pub returns-clause-no_table : goal.returns-clause-no_table
returns-clause-no_table c = λ h.
    let row : RowName = record (row_of 1 1) { table = map_n } in
    not_both _ (set_has ((map_m, table_t) ∷ []) (map_m, map_n) false refl) (h.in_table row (row_in ((row, []) ∷ []) tt row refl))

pub returns-clause-nobody : goal.returns-clause-nobody
returns-clause-nobody c = λ h. ⊎_elim
    (λ own. no_owner ([]) tt (int_key 1) (λ p. p.location ≡ site_a) tt own.0 own.1 own.2)
    (λ moved. not_moved ([]) tt map_m (int_key 1) site_a tt moved)
    (h.placed (row_of 1 1) (row_in (rows_with (1 ∷ [])) tt (row_of 1 1) refl))

pub returns-clause-elsewhere : goal.returns-clause-elsewhere
returns-clause-elsewhere c = λ h. ⊎_elim
    (λ own. no_owner (free_piece 0 5 site_b Online ∷ []) tt (int_key 1) (λ p. p.location ≡ site_a) ((λ holds l. b_not_a l), tt) own.0 own.1 own.2)
    (λ moved. not_moved ([]) tt map_m (int_key 1) site_a tt moved)
    (h.placed (row_of 1 1) (row_in (rows_with (1 ∷ [])) tt (row_of 1 1) refl))

pub returns-clause-idle : goal.returns-clause-idle
returns-clause-idle c = λ h. ⊎_elim
    (λ own. no_owner (free_piece 0 5 site_b Online ∷ []) tt (int_key 1) (λ p. p.location ≡ site_a) ((λ holds l. b_not_a l), tt) own.0 own.1 own.2)
    (λ moved. not_moved (job_at 0 Idle ∷ []) tt map_m (int_key 1) site_a ((λ b. true≢false (sym (ap is_some b.3))), tt) moved)
    (h.placed (row_of 1 1) (row_in (rows_with (1 ∷ [])) tt (row_of 1 1) refl))

pub returns-clause-before_the_batch : goal.returns-clause-before_the_batch
returns-clause-before_the_batch c = λ h. ⊎_elim
    (λ own. no_owner (free_piece 0 5 site_b Online ∷ []) tt (int_key 1) (λ p. p.location ≡ site_a) ((λ holds l. b_not_a l), tt) own.0 own.1 own.2)
    (λ moved. not_moved (job_at 3 (Moved (At (int_key 5))) ∷ []) tt map_m (int_key 1) site_a ((λ b. true≢false (sym (batch_is (job_at 3 (Moved (At (int_key 5)))) (int_key 3) (At (int_key 5)) refl refl (int_key 1) b))), tt) moved)
    (h.placed (row_of 1 1) (row_in (rows_with (1 ∷ [])) tt (row_of 1 1) refl))
