-- What a live operation needs of the stores, by its stage.
use Rattle.std.specs.Prelude.{ℕ, List, [], ◌++◌}
use Rattle.cell_world.specs.Texts.{Text}
use Rattle.cell_world.specs.Images.{Image}
use Rattle.cell_world.specs.Spelled.{listed}
use Rattle.cell_world.specs.Operations.{locations_of}
use Rattle.cell_world.specs.declared.operations.Op.{Op}
use Rattle.cell_world.specs.declared.operations.StageName.{StageName}
use Rattle.cell_world.specs.declared.operations.StageName.TheVariants.{SourceDone, TargetDone}
use Rattle.cell_world.specs.UnderWay.{IsUnderWay}
use Rattle.session_laws.specs.Doing.{Live}

-- where the local step is made by then
abbrev pub done_at : Op → StageName → List Text
done_at op SourceDone = locations_of (listed op.olds)
done_at op TargetDone = locations_of (listed op.olds) ++ locations_of (listed op.news)
done_at op other = []

-- it is under way
abbrev pub Needs : ℕ → Live → Image → Type 0
Needs session l image = IsUnderWay image l.op (done_at l.op l.stage)
