-- What a plan says.
use Rattle.std.specs.Prelude.{◌≡◌, ℕ, Bool, true, false, ◌&&◌, ◌||◌, not, Option, Some, None, Result, Ok, Err, List, [], IsTrue}
use Rattle.std.specs.List.{AllByRecursion}
use Rattle.cell_world.specs.Images.{Image, after_one, global}
use Rattle.cell_world.specs.Lawful.{Lawful}
use Rattle.cell_world.specs.Plain.{PlainState, Connections, with_connections}
use Rattle.cell_world.specs.Meaning.{meaning}
use Rattle.cell_world.specs.Operations.{conflicts}
use Rattle.cell_world.specs.Sound.{Sound, HasLog}
use Rattle.cell_world.specs.Spelled.{is_spelled, listed}
use Rattle.cell_world.specs.declared.cells.Cell.TheVariants as cell
use Rattle.cell_world.specs.declared.cells.Token.{Token}
use Rattle.cell_world.specs.declared.changes.Edit.{Edit}
use Rattle.cell_world.specs.declared.operations.Extra.TheVariants as extra
use Rattle.cell_world.specs.declared.operations.Op.{Op}
use Rattle.cell_world.specs.declared.operations.Reach.{Reach}
use Rattle.global_tables.specs.Known.{Known, known_of}
use Rattle.op_log.specs.ShortChanges.{ShortChange}
use Rattle.plain_model.specs.declared.commands.Command.{Command}
use Rattle.plain_model.specs.declared.commands.Command.TheVariants as command
use Rattle.plain_model.specs.declared.plans.Plan.{Plan}
use Rattle.plain_model.specs.declared.plans.Plan.TheVariants as plan
use Rattle.plain_model.specs.declared.plans.PlanStop.{PlanStop}
use Rattle.plain_model.specs.declared.plans.PlanStop.TheVariants as stop
use Rattle.plain_model.specs.declared.replies.Reply.{Reply}
use Rattle.plain_model.specs.declared.replies.Reply.TheVariants as reply
use Rattle.plain_model.specs.declared.replies.Refusal.{Refusal}
use Rattle.plain_model.specs.Legal.{IsOwnOf}
use Rattle.plain_model.specs.OnTrail.{logs_put, reach_of_command}
use Rattle.plain_model.specs.Refusing.{Check, given_token, refusal, locked}
use Rattle.plain_model.specs.ShortCommands.{is_short, is_short_answer, is_short_refusal, short_commit, standing_with, IsShortChange, IsShortAnswer, IsRefusedWith}

-- `lock` and `unlock`, which are short
abbrev pub is_locking : Command → Bool
is_locking (command.Lock name key token) = true
is_locking (command.Unlock name key token) = true
is_locking other = false

-- those that add a mapping
abbrev pub is_adding : Command → Bool
is_adding (command.Add name low high location) = true
is_adding (command.Addpoint name key location) = true
is_adding other = false

-- those that exchange mappings that stand
abbrev pub is_exchange : Command → Bool
is_exchange (command.Delete name key token) = true
is_exchange (command.Offline name key token) = true
is_exchange (command.Online name key token) = true
is_exchange (command.Move name key location token) = true
is_exchange (command.Split name key token) = true
is_exchange (command.Merge name key token) = true
is_exchange other = false

-- the long commands: each is planned as an operation
abbrev pub is_long : Command → Bool
is_long c = is_adding c || is_exchange c

-- the commands that may be asked
abbrev pub is_asked : Command → Bool
is_asked c = is_short c || is_long c

-- those on a mapping that stands, which are planned by `mapping_plans`
abbrev pub is_mapping : Command → Bool
is_mapping c = is_locking c || is_exchange c

-- the others, which are planned by this crate: the short ones
abbrev pub is_short_here : Command → Bool
is_short_here c = is_short c && not (is_locking c)

-- and all of them
abbrev pub is_planned_here : Command → Bool
is_planned_here c = is_short_here c || is_adding c

-- ---- on an image

-- what the command table says to the command, for any session and whoever is connected
abbrev pub Refuses : Command → Option Refusal → Image → Type 0
Refuses c refused image = (session : ℕ) (connections : Connections) → refusal (standing_with image connections) session c ≡ refused

-- So it is where the copy of the tables is what the global cells say.
abbrev pub RefusesWith : Known → Command → Option Refusal → Image → Type 0
RefusesWith known c refused image = known ≡ known_of (global image) → Refuses c refused image

-- So it is on whatever image of which this is the copy.
abbrev pub RefusesOf : Known → Command → Option Refusal → Type 0
RefusesOf known c refused = (image : Image) → RefusesWith known c refused image

-- one check of the command table, on whatever image of which this is the copy
abbrev pub ChecksWith : Known → (PlainState → Check) → Check → Type 0
ChecksWith known test check = (image : Image) → known ≡ known_of (global image) → check ≡ test (meaning image)

-- no logged operation conflicts with the reach
abbrev pub NoneInWay : Image → Reach → Type 0
NoneInWay image reached = (op : Op) → HasLog (global image).log op → conflicts reached op ≡ false

-- The plan of a change.
pub record PlansChange (c : Command) (reached : Reach) (change : List Edit) (r : Reply) (image : Image) : Type 0 where
  -- it has the command's reach
  pub reaches : reached ≡ reach_of_command (meaning image) c
  -- the plain step doesn't refuse
  pub accepts : Refuses c None image
  -- on each sound image that stands for the same, where no logged operation conflicts with the reach, the change makes what the plain step makes, for any session
  pub changes : (later : Image) → Sound later → meaning later ≡ meaning image → NoneInWay later reached → (session : ℕ) → IsShortChange session c change r later
  -- and it is one of the short changes, with this reach
  pub short : (later : Image) → Sound later → meaning later ≡ meaning image → NoneInWay later reached → ShortChange later reached (after_one later (short_commit change true))

-- The plan of a long operation.
pub record PlansLong (c : Command) (op : Op) (image : Image) : Type 0 where
  -- the plain step doesn't refuse
  pub accepts : Refuses c None image
  -- the image admits the operation, whatever number it is given
  pub lawful : Lawful image op
  -- it replaces what the command exchanges, whoever is connected
  pub own : (connections : Connections) → IsOwnOf (with_connections (meaning image) connections) c None image op
  -- it goes on with no job
  pub no_job : op.extra ≡ extra.None
  -- and the command's token opens each mapping that it replaces
  pub tokens : AllByRecursion (λ old. (locked (given_token c) (Some old)).0 ≡ false) (listed op.olds)

-- On this image the plan is the plain step's, for any session.
abbrev pub Plans : Command → Result Plan PlanStop → Image → Type 0
Plans c (Ok (plan.Short reached change r)) image = PlansChange c reached change r image
Plans c (Ok (plan.Answer r)) image = (session : ℕ) → IsShortAnswer session c r image
Plans c (Ok (plan.Long op)) image = PlansLong c op image
Plans c (Err (stop.Refused r)) image = (session : ℕ) → IsRefusedWith session c r image
Plans c (Err stop.Store) image = Unit {0}
Plans c (Err stop.Memory) image = Unit {0}

-- It is so where the image is sound and the copy of the tables is what the global cells say.
abbrev pub PlansWith : Known → Command → Result Plan PlanStop → Image → Type 0
PlansWith known c result image = Sound image → known ≡ known_of (global image) → Plans c result image

-- So it is on whatever image.
abbrev pub PlansOf : Known → Command → Result Plan PlanStop → Type 0
PlansOf known c result = (image : Image) → PlansWith known c result image

-- ---- whatever the image

-- So is the plan of a short command: it is no long one. A change puts no log cell, and is answered `ok`; what is answered otherwise, or refused, is said by a short command.
abbrev pub IsShortPlan : Result Plan PlanStop → Type 0
IsShortPlan (Ok (plan.Short reached change r)) = (logs_put change ≡ []) × (r ≡ reply.Ok)
IsShortPlan (Ok (plan.Answer r)) = (is_short_answer r ≡ true) × (r ≡ reply.Ok → ⊥)
IsShortPlan (Ok (plan.Long op)) = ⊥
IsShortPlan (Err (stop.Refused r)) = is_short_refusal r ≡ true
IsShortPlan (Err stop.Store) = Unit {0}
IsShortPlan (Err stop.Memory) = Unit {0}

-- So is the plan of a long command: an operation whose log cell has a spelling, or a refusal of one word.
abbrev pub IsLongPlan : Result Plan PlanStop → Type 0
IsLongPlan (Ok (plan.Short reached change r)) = ⊥
IsLongPlan (Ok (plan.Answer r)) = ⊥
IsLongPlan (Ok (plan.Long op)) = IsTrue (is_spelled (cell.Log op))
IsLongPlan (Err (stop.Refused r)) = is_short_refusal r ≡ true
IsLongPlan (Err stop.Store) = Unit {0}
IsLongPlan (Err stop.Memory) = Unit {0}

-- So is the plan of a command: a short one's of a short command alone, and a long one's of a long command alone.
abbrev pub IsPlanOf : Command → Result Plan PlanStop → Type 0
IsPlanOf c (Ok (plan.Short reached change r)) = (is_short c ≡ true) × IsShortPlan (Ok (plan.Short reached change r))
IsPlanOf c (Ok (plan.Answer r)) = (is_short c ≡ true) × IsShortPlan (Ok (plan.Answer r))
IsPlanOf c (Ok (plan.Long op)) = (is_long c ≡ true) × IsLongPlan (Ok (plan.Long op))
IsPlanOf c (Err (stop.Refused r)) = is_short_refusal r ≡ true
IsPlanOf c (Err stop.Store) = Unit {0}
IsPlanOf c (Err stop.Memory) = Unit {0}

-- No store call failed.
abbrev pub IsCalm : Result Plan PlanStop → Type 0
IsCalm result = result ≡ Err stop.Store → ⊥
