use Rattle.std.proofs.Common.{refl, [], ◌∷◌}
use Rattle.cell_world.specs.declared.cells.Away.TheVariants.{Detached, Suspect}
use Rattle.world_examples.specs.Examples.{site_a, site_b}
use Rattle.world_examples.proofs.ShortTables.{not_attached}
use Rattle.world_examples.proofs.sound.refused_batches_with_a_site_away.Goals as goal

pub returns-clause-copied_from : goal.returns-clause-copied_from
returns-clause-copied_from c = λ h. not_attached ((site_a, Detached) ∷ []) tt site_a refl h.1

pub returns-clause-copied_to : goal.returns-clause-copied_to
returns-clause-copied_to c = λ h. not_attached ((site_b, Suspect) ∷ []) tt site_b refl h.2

pub returns-clause-moved_from : goal.returns-clause-moved_from
returns-clause-moved_from c = λ h. not_attached ((site_a, Suspect) ∷ []) tt site_a refl h.1

pub returns-clause-moved_to : goal.returns-clause-moved_to
returns-clause-moved_to c = λ h. not_attached ((site_b, Detached) ∷ []) tt site_b refl h.2
