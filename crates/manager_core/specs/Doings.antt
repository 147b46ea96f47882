-- What the sessions of a core do, in the words of its laws.
use Rattle.std.specs.Prelude.{◌≡◌, ℕ, true, List, [], ◌∷◌, ◌++◌, get_or, None, Some, if◌then◌else◌}
use Rattle.std.proofs.Common.{suc, zero}
use Rattle.cell_world.specs.declared.operations.StageName.TheVariants.{Committed}
use Rattle.map_ops.specs.Planning.{is_long}
use Rattle.manager_core.specs.declared.doings.Doing.{Doing}
use Rattle.manager_core.specs.declared.doings.Doing.TheVariants as seat
use Rattle.manager_core.specs.declared.doings.LeftOver.{LeftOver}
use Rattle.op_steps.specs.Live.{is_live}
use Rattle.op_steps.specs.Stages.{name_of}
use Rattle.operation_laws.specs.Forward.{IsForward}
use Rattle.session_laws.specs.Doing as laws

abbrev pub doing_of : Doing → laws.Doing
doing_of seat.Resting = laws.Resting None
doing_of (seat.Leaving op stage) = laws.Resting (Some op)
doing_of (seat.Operating c op stage) = laws.Operating c op (name_of stage)

-- A command that is going is one operation, at a stage up to its commit; what is left is committed.
abbrev pub IsProper : Doing → Type 0
IsProper seat.Resting = Unit {0}
IsProper (seat.Leaving op stage) = name_of stage ≡ Committed
IsProper (seat.Operating c op stage) = (is_long c ≡ true) × IsForward (name_of stage)

-- by session, from 1; there is no session 0, and none past the end
abbrev pub all_doing : List Doing → laws.AllDoing
all_doing ds zero = laws.Resting None
all_doing ds (suc n) = doing_of (get_or ds n seat.Resting)

-- each session rests, and nothing is left
abbrev pub AreAtRest : List Doing → Type 0
AreAtRest ds = (session : ℕ) → all_doing ds session ≡ laws.Resting None

-- with the number of what the session has live, once
abbrev pub with_live : List ℕ → Doing → List ℕ
with_live live (seat.Operating c op stage) = if is_live live op.number then live else live ++ op.number ∷ []
with_live live seat.Resting = live
with_live live (seat.Leaving op stage) = live

-- what was left is committed
abbrev pub IsLeftOver : LeftOver → Type 0
IsLeftOver left = name_of left.stage ≡ Committed
