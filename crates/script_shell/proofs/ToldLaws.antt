-- Where contents are told after a step, they were told before it, if what is settled stays so by the step.
use Rattle.std.proofs.Common.{ℕ, ◌<◌, [], None, arith}
use Rattle.cell_world.specs.Images.{Image, image_at, end_of_trail}
use Rattle.cell_world.specs.Meaning.{next_operation}
use Rattle.cell_world.specs.Outside.{Outside, Told, TellsNothing, TellsContents, TellsTrail, IfContents}
use Rattle.cell_world.specs.declared.operations.Op.{Op}
use Rattle.cell_world.specs.declared.operations.Extra.TheVariants as extra
use Rattle.cell_world.specs.declared.spans.Span.TheVariants.{Point}
use Rattle.manager_core.specs.Steady.{IsSettledOp, KeepsSettled}

-- an operation of this number; no more of it matters
abbrev op_of : ℕ → Op
op_of number = record { number = number; map = []; hull = Point []; olds = record { one = None; two = None }; news = record { one = None; two = None }; extra = extra.None }

-- the next operation's number was not given, so it isn't settled
next_not_settled : (image : Image) → IsSettledOp (op_of (next_operation image)) image → ⊥
next_not_settled image settled = let given : next_operation image < next_operation image = settled.out.1 in absurd (omega (arith, given))

-- what was so where contents were told is so where they are told afterwards
pub still_told : (old new : Outside) → KeepsSettled old new → (P : Type 0) → IfContents old.told (λ image. P) → IfContents new.told (λ image. P)
still_told old new keeps P = by old.told new.told keeps
  where
    by : (before after : Told) → ((op : Op) → IfContents before (IsSettledOp op) → IfContents after (IsSettledOp op)) → IfContents before (λ image. P) → IfContents after (λ image. P)
    by before TellsNothing keeps p = tt
    by TellsNothing (TellsContents image) keeps p = absurd (next_not_settled image (keeps (op_of (next_operation image)) tt))
    by TellsNothing (TellsTrail trail) keeps p = let last = image_at trail (end_of_trail trail) in absurd (next_not_settled last (keeps (op_of (next_operation last)) tt))
    by (TellsContents one) (TellsContents image) keeps p = p
    by (TellsContents one) (TellsTrail trail) keeps p = p
    by (TellsTrail trail) (TellsContents image) keeps p = p
    by (TellsTrail one) (TellsTrail trail) keeps p = p
