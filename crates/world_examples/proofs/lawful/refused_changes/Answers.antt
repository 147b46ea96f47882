use Rattle.std.proofs.Common.{refl, sym, ◌∙◌, inl, inr, [], ◌∷◌}
use Rattle.world_examples.specs.Examples.{range, map_m, row_of, numbered_rows}
use Rattle.world_examples.proofs.Tables.{none_under}
use Rattle.world_examples.proofs.Refusing.{some_under}
use Rattle.world_examples.proofs.lawful.refused_changes.Goals as goal

pub returns-clause-rows_missing : goal.returns-clause-rows_missing
returns-clause-rows_missing c h = elim h.shape as (λ x. ⊥) [ inl turns ↦ turns.other refl | inr moves ↦ some_under map_m (range 0 5) (numbered_rows 1 (1 ∷ [])) tt (row_of 1 1) refl (sym moves.same_rows ∙ none_under map_m (range 0 5) [] tt refl) ]

pub returns-clause-other_rows : goal.returns-clause-other_rows
returns-clause-other_rows c h = elim h.shape as (λ x. ⊥) [ inl turns ↦ turns.other refl | inr moves ↦ some_under map_m (range 0 5) (numbered_rows 1 (1 ∷ [])) tt (row_of 1 1) refl (moves.same_rows ∙ none_under map_m (range 0 5) [] tt refl) ]
