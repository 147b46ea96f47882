use Rattle.std.proofs.Common.{refl, [], ◌∷◌}
use Rattle.cell_world.specs.KeyForms.{normal_of}
use Rattle.cell_world.specs.declared.cells.Status.TheVariants.{Offline}
use Rattle.plain_model.specs.Refusing.{refusal}
use Rattle.world_examples.specs.Examples.{site_a, site_b, free_piece}
use Rattle.model_examples.proofs.JobStates.{m_stands}
use Rattle.cell_world.specs.Texts.{Text}
use Rattle.cell_world.specs.Orders.{row_cmp}
use Rattle.world_examples.specs.Examples.{map_n, row_of, numbered_rows}
use Rattle.model_examples.proofs.Lookups.{entries_of}
use Rattle.model_examples.proofs.RefusedStates.{attached, b_shard, pieces_are}
use Rattle.model_examples.proofs.refusals.rows_in_the_way.Goals as goal

pub returns-clause-deleted : goal.returns-clause-deleted
unfolding refusal normal_of
returns-clause-deleted c = rw (m_stands, m_stands, pieces_are (free_piece 0 10 site_a Offline ∷ []) tt, attached site_a, entries_of row_cmp (numbered_rows 1 (9 ∷ [])) tt) refl

pub returns-clause-moved : goal.returns-clause-moved
unfolding refusal normal_of
returns-clause-moved c = rw (m_stands, m_stands, pieces_are (free_piece 0 10 site_a Offline ∷ []) tt, attached site_a, b_shard, attached site_b, entries_of row_cmp (numbered_rows 1 (0 ∷ [])) tt) refl

pub returns-clause-not_of_another_map : goal.returns-clause-not_of_another_map
unfolding refusal normal_of
returns-clause-not_of_another_map c = rw (m_stands, m_stands, pieces_are (free_piece 0 10 site_a Offline ∷ []) tt, attached site_a, entries_of {X = Text} row_cmp ((record (row_of 5 1) { map = map_n }, []) ∷ []) tt) refl

pub returns-clause-not_beside : goal.returns-clause-not_beside
unfolding refusal normal_of
returns-clause-not_beside c = rw (m_stands, m_stands, pieces_are (free_piece 0 10 site_a Offline ∷ []) tt, attached site_a, entries_of row_cmp (numbered_rows 1 (10 ∷ [])) tt) refl
