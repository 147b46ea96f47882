-- The stages of an operation up to its commit.
use Rattle.cell_world.specs.declared.operations.StageName.{StageName}
use Rattle.cell_world.specs.declared.operations.StageName.TheVariants.{Logged, SourceDone, TargetDone, Committed, Settled}

-- a stage that a live operation has
abbrev pub IsForward : StageName → Type 0
IsForward Logged = Unit {0}
IsForward SourceDone = Unit {0}
IsForward TargetDone = Unit {0}
IsForward Committed = ⊥
IsForward Settled = ⊥

-- a stage from which it leads to a live one: by its local step at the site of the olds, or of the news
abbrev pub IsBeforeTarget : StageName → Type 0
IsBeforeTarget Logged = Unit {0}
IsBeforeTarget SourceDone = Unit {0}
IsBeforeTarget other = ⊥
