use Rattle.std.proofs.Common.{true≢false, refl, [], ◌∷◌}
use Rattle.cell_world.specs.declared.cells.Mark.TheVariants.{Old}
use Rattle.cell_world.specs.declared.cells.Status.TheVariants.{Online}
use Rattle.world_examples.specs.Examples.{site_b, local_row, offline_for_b}
use Rattle.world_examples.specs.Sounds.{marks_with}
use Rattle.world_examples.proofs.ImageParts.{b_attached}
use Rattle.world_examples.proofs.ShortTables.{local_in}
use Rattle.world_examples.proofs.Marking.{no_mark, no_mark_but}
use Rattle.world_examples.proofs.stages.marks_at_the_other_site_of_a_job.Goals as goal

pub returns-clause-accepted : goal.returns-clause-accepted
returns-clause-accepted c = no_mark_but (marks_with [] 2 (local_row 0 10 0 Online (Old 1) ∷ []) []) offline_for_b ((λ here off. absurd (true≢false off)), ((λ here off. no_mark [] tt tt), tt))

pub returns-clause-old : goal.returns-clause-old
returns-clause-old c = λ h. (h site_b b_attached refl (local_row 0 10 0 Online (Old 1)) (local_in (local_row 0 10 0 Online (Old 1) ∷ []) tt (local_row 0 10 0 Online (Old 1)) refl)).0 refl
