-- At which stages an operation has something to do, and that what it does is one transaction.
use Rattle.std.specs.Prelude.{◌≡◌, Bool, true, false, not, List, [], ◌∷◌, Option, Some, None}
use Rattle.cell_world.specs.Images.{Image, Place, Happening, Committed}
use Rattle.cell_world.specs.Keys.{same}
use Rattle.cell_world.specs.declared.changes.Edit.{Edit}
use Rattle.cell_world.specs.declared.operations.Op.{Op}
use Rattle.cell_world.specs.declared.operations.Piece.{Piece}
use Rattle.cell_world.specs.declared.operations.StageName.{StageName}
use Rattle.cell_world.specs.declared.operations.StageName.TheVariants as stage

-- the mapping is there, and not at the site of this other one
abbrev pub is_beside : Option Piece → Option Piece → Bool
is_beside None other = false
is_beside (Some piece) None = true
is_beside (Some piece) (Some done) = not (same piece.location done.location)

-- Something leads on from the stage: a local step where the old mappings are, one where the new ones are, if that is another site, the commit, or the settling.
abbrev pub has_step : Op → StageName → Bool
has_step op stage.Logged = is_beside op.olds.one None
has_step op stage.SourceDone = is_beside op.news.one op.olds.one
has_step op stage.TargetDone = true
has_step op stage.Committed = true
has_step op stage.Settled = false

-- Just one transaction was tried, it was such a step, and it is made.
pub record MakesOne (Step : Image → Place → List Edit → Type 0) (image : Image) (hs : List Happening) : Type 0 where
  pub place : Place
  pub change : List Edit
  pub step : Step image place change
  pub is : hs ≡ Committed place change true ∷ []
