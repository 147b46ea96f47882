use Rattle.std.proofs.Common.{◌≡◌, Bool, true, false, true≢false, refl, sym, ap, ◌∙◌, Some, None, Option, [], ◌∷◌, is_some}
use Rattle.std.specs.FinMap as fin
use Rattle.cell_world.specs.Texts.{Text}
use Rattle.cell_world.specs.Orders.{row_cmp}
use Rattle.cell_world.specs.Sound.{InBatch}
use Rattle.cell_world.specs.declared.operations.Phase.TheVariants.{Copying, Moved}
use Rattle.cell_world.specs.declared.spans.High.TheVariants.{At}
use Rattle.cell_world.proofs.OrderLaws.{exact_rows}
use Rattle.world_examples.specs.Examples.{int_key, job_at, row_of, rows_of}
use Rattle.world_examples.specs.Sounds.{rows_with}
use Rattle.world_examples.proofs.Tables.{get_of}
use Rattle.world_examples.proofs.Standing.{standing}
use Rattle.world_examples.proofs.ShortTables.{batch_is}
use Rattle.world_examples.proofs.sound.rows_of_a_batch.Goals as goal

abbrev has_bytes : Option Text → Bool
has_bytes None = false
has_bytes (Some []) = false
has_bytes (Some (b ∷ bs)) = true

pub returns-clause-copied : goal.returns-clause-copied
returns-clause-copied c = λ row of_map h bytes f. standing exact_rows (λ q bytes. InBatch (job_at 3 (Copying (At (int_key 6)))) q.key → fin.get (rows_of (rows_with (1 ∷ 4 ∷ 5 ∷ []))) q ≡ Some bytes) (rows_with (2 ∷ 4 ∷ [])) tt
    ((λ b. absurd (true≢false (sym (batch_is (job_at 3 (Copying (At (int_key 6)))) (int_key 3) (At (int_key 6)) refl refl (int_key 2) b)))), ((λ b. get_of row_cmp (rows_with (1 ∷ 4 ∷ 5 ∷ [])) tt (row_of 4 4)), tt)) row bytes f h

pub returns-clause-moved : goal.returns-clause-moved
returns-clause-moved c = λ row of_map h bytes f. standing exact_rows (λ q bytes. InBatch (job_at 3 (Moved (At (int_key 6)))) q.key → fin.get (rows_of (rows_with (2 ∷ 4 ∷ 5 ∷ []))) q ≡ Some bytes) (rows_with (1 ∷ 4 ∷ [])) tt
    ((λ b. absurd (true≢false (sym (batch_is (job_at 3 (Moved (At (int_key 6)))) (int_key 3) (At (int_key 6)) refl refl (int_key 1) b)))), ((λ b. get_of row_cmp (rows_with (2 ∷ 4 ∷ 5 ∷ [])) tt (row_of 4 4)), tt)) row bytes f h

pub returns-clause-copied_too_many : goal.returns-clause-copied_too_many
returns-clause-copied_too_many c = λ h.
    let there = h (row_of 5 5) refl (int_key 3, At (int_key 6), refl, refl, refl) [] (get_of row_cmp (rows_with (4 ∷ 5 ∷ [])) tt (row_of 5 5)) in
    true≢false (sym (ap is_some there) ∙ ap is_some (get_of row_cmp (rows_with (4 ∷ [])) tt (row_of 5 5)))

pub returns-clause-copied_otherwise : goal.returns-clause-copied_otherwise
returns-clause-copied_otherwise c = λ h.
    let there = h (row_of 4 4) refl (int_key 3, At (int_key 6), refl, refl, refl) (1 ∷ []) (get_of row_cmp ((row_of 4 4, 1 ∷ []) ∷ []) tt (row_of 4 4)) in
    true≢false (sym (ap has_bytes there) ∙ ap has_bytes (get_of row_cmp (rows_with (4 ∷ [])) tt (row_of 4 4)))

pub returns-clause-moved_too_few : goal.returns-clause-moved_too_few
returns-clause-moved_too_few c = λ h.
    let there = h (row_of 5 5) refl (int_key 3, At (int_key 6), refl, refl, refl) [] (get_of row_cmp (rows_with (4 ∷ 5 ∷ [])) tt (row_of 5 5)) in
    true≢false (sym (ap is_some there) ∙ ap is_some (get_of row_cmp (rows_with (4 ∷ [])) tt (row_of 5 5)))
