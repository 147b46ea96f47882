-- Stages of operations, and the order in which they come.
use Rattle.std.specs.Prelude.{ℕ}
use Rattle.cell_world.specs.declared.operations.StageName.{StageName}
use Rattle.cell_world.specs.declared.operations.StageName.TheVariants.{Logged, SourceDone, TargetDone, Committed, Settled}
use Rattle.op_steps.specs.declared.stages.Stage.{Stage}

-- the number of the stage's operation
abbrev pub number_of : Stage → ℕ
number_of stage = stage.number

-- how far it has come
abbrev pub name_of : Stage → StageName
name_of stage = stage.name

-- the stage after this one; Settled is the last
abbrev pub next_stage : StageName → StageName
next_stage Logged = SourceDone
next_stage SourceDone = TargetDone
next_stage TargetDone = Committed
next_stage Committed = Settled
next_stage Settled = Settled
