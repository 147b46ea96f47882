use Rattle.std.proofs.Common.{true≢false, refl, sym, ap, ◌∙◌, Some, None, List, [], ◌∷◌, is_some}
use Rattle.cell_world.specs.Texts.{Text}
use Rattle.cell_world.specs.declared.operations.Op.{Op}
use Rattle.cell_world.specs.declared.operations.Piece.{Piece}
use Rattle.world_examples.proofs.Accepting.{b_not_a}
use Rattle.world_examples.specs.Examples.{add_at_a}
use Rattle.world_examples.proofs.ShortTables.{op_in}
use Rattle.world_examples.proofs.Marking.{out_of_log, in_log}
use Rattle.world_examples.proofs.stages.stage_logged.Goals as goal
use Rattle.std.proofs.Common.{Option}
use Rattle.cell_world.specs.Spelled.{listed}

-- where the first new mapping is
abbrev place_of : List Piece → Text
place_of [] = []
place_of (p ∷ ps) = p.location

abbrev place_in : Option Op → Text
place_in None = []
place_in (Some op) = place_of (listed op.news)

pub returns-clause-accepted : goal.returns-clause-accepted
returns-clause-accepted c = in_log

pub returns-clause-not_in_log : goal.returns-clause-not_in_log
returns-clause-not_in_log c = λ h. true≢false (sym (ap is_some h) ∙ ap is_some out_of_log)

pub returns-clause-other_in_log : goal.returns-clause-other_in_log
returns-clause-other_in_log c = λ h. b_not_a (ap place_in (sym h ∙ op_in (add_at_a ∷ []) tt add_at_a refl))
