-- Committed operations that sessions have to settle.
use Rattle.std.specs.Prelude.{◌≡◌, ℕ, Option, Some, None}
use Rattle.cell_world.specs.Images.{Image}
use Rattle.cell_world.specs.declared.operations.Op.{Op}
use Rattle.cell_world.specs.declared.operations.StageName.TheVariants.{Committed}
use Rattle.op_steps.specs.Advancing.{AtStage}
use Rattle.session_laws.specs.Doing.{Doing, Resting, Working, Operating, AllDoing}

-- what the session has to settle
abbrev pub left_of : Doing → Option Op
left_of (Resting left) = left
left_of (Working command left) = left
left_of (Operating command op stage) = None

-- What sessions have to settle is committed, with no mark at a site where it has no mapping.
abbrev pub AreLeft : AllDoing → Image → Type 0
AreLeft doing image = (session : ℕ) (op : Op) → left_of (doing session) ≡ Some op → AtStage op Committed image

-- it has nothing to settle any more
abbrev pub without_left : Doing → Doing
without_left (Resting left) = Resting None
without_left (Working command left) = Working command None
without_left (Operating command op stage) = Operating command op stage
