-- A command is answered `pending`: a live operation of another session is in its way.
use Rattle.std.proofs.Common.{◌≡◌, ◌<◌, ◌^◌, ℕ, ◌+◌, arith, true, refl, sym, ap, ◌∙◌, subst, Some, None, Option, List, [], ◌∷◌, length}
use Rattle.std.specs.Prelude.{Ok, option_and_then}
use Rattle.cell_world.specs.Images.{Image, Happening, global}
use Rattle.cell_world.specs.Lawful.{Lawful}
use Rattle.cell_world.specs.Plain.{PlainState, Connections, with_connections}
use Rattle.cell_world.specs.Meaning.{meaning, next_operation}
use Rattle.cell_world.specs.Sound.{Sound}
use Rattle.cell_world.specs.declared.operations.Op.{Op}
use Rattle.cell_world.specs.declared.operations.Reach.{Reach}
use Rattle.plain_model.specs.declared.commands.Command.{Command}
use Rattle.plain_model.specs.declared.replies.Reply.TheVariants as reply
use Rattle.plain_model.specs.declared.history.Entry.{Entry}
use Rattle.plain_model.specs.Refusing.{refusal, job_of_number}
use Rattle.plain_model.specs.JobSteps.{asked_number, asked_job}
use Rattle.plain_model.specs.Follows.{Follows}
use Rattle.plain_model.specs.OnTrail as trail
use Rattle.plain_model.specs.OnTrail.{OnTrail, reach_of_command, is_open}
use Rattle.plain_model.specs.Timelines.{Timeline, Past, Entered, image_of, facts_of, happened_of, past_of}
use Rattle.plain_model.specs.Legal.{Promises, IsPlanned, is_job_running}
use Rattle.plain_model.specs.GoingOn.{IsOf}
use Rattle.plain_model.specs.Written.{Mode}
use Rattle.plain_model.specs.Running.{text_of}
use Rattle.session_laws.specs.Doing.{Resting, Working, AllDoing, live_of, going_of, all_going, IsThen}
use Rattle.session_laws.specs.Core.{Core, CoreAlone}
use Rattle.session_laws.specs.Needs.{Needs}
use Rattle.session_laws.proofs.AloneCore.{alone_core_enters}
use Rattle.session_laws.proofs.CoreLaws.{answers_alone}
use Rattle.session_laws.proofs.LookLaws.{open_numbered}
use Rattle.op_steps.specs.declared.stages.Stage.{Stage}
use Rattle.op_steps.specs.declared.beginning.Begun.TheVariants.{Going}
use Rattle.op_steps.specs.Beginning.{Begins}
use Rattle.op_steps.specs.Clearing as way
use Rattle.operation_laws.specs.LiveNumbers.{AreTheLive}
use Rattle.operation_laws.proofs.Beginnings.{pending_on_trail, alone_pending, had}
use Rattle.operation_laws.proofs.Done.{leaves_resting}

-- a command that asks for no job asks for none in any state
no_job_asked : (s : PlainState) (c : Command) → asked_number c ≡ None → asked_job s c ≡ None
no_job_asked s c none = ap (option_and_then (job_of_number s)) none

of_pending : (e : Entry) (number : ℕ) → e.operation ≡ 0 → e.reply ≡ Some (reply.Pending number) → IsOf (record { command = e.command; operation = 0 }) e
of_pending e number unnamed is = record { command = refl; operation = unnamed; runs = ap is_job_running is }

same_number : (a b : ℕ) → Some (reply.Pending a) ≡ Some (reply.Pending b) → a ≡ b
same_number a b e = cc

-- nothing changes, and the command isn't refused
follows_pending : (past : Past) (A : PlainState) (e : Entry) (number : ℕ) → refusal A e.session e.command ≡ None → asked_number e.command ≡ None → e.reply ≡ Some (reply.Pending number) → Follows past A e A e.reply
follows_pending past A e number accepted none is = subst (Follows past A e A) (sym is) (record { same = refl; accepted = accepted; no_job = none })

module _ (since : ℕ) (start : Image) (mode : Mode) (past : Timeline) (connections : Connections) (doing : AllDoing) (core : Core Needs since start mode past connections [] doing) (live : List ℕ) (are : AreTheLive live doing) (reach : Reach) (other : Op)
    (least : way.IsLeastInWay live reach (global (image_of start past)).log other) (e : Entry) (left : Option Op) (works : doing e.session ≡ Working e.command left) where
  abbrev A : PlainState
  A = with_connections (meaning (image_of start past)) connections

  abbrev A_p : PlainState
  A_p = with_connections (facts_of start past) connections

  a_is : A ≡ A_p
  a_is = ap (λ s. with_connections s connections) core.owing.run.exact

  idle : live_of (doing e.session) ≡ None
  idle = ap live_of works

  -- the number of a live operation isn't 0
  not_zero : other.number ≡ 0 → ⊥
  not_zero zero =
      let h = had since start mode connections [] doing past core live are reach other least e doing idle (λ t apart. refl) in
      open_numbered past core.sessions.tries (subst (λ n. is_open n past ≡ true) (h.named ∙ zero) (core.sessions.are_open h.session h.live h.here).unnamed)

  pub pending_answered : e.operation ≡ 0 → e.reply ≡ Some (reply.Pending other.number) → asked_number e.command ≡ None → reach_of_command A e.command ≡ reach → refusal A e.session e.command ≡ None → e.moment ≡ since + length (happened_of past)
      → (next : AllDoing) → IsThen doing e.session (Resting left) next → Core Needs since start mode (Entered e ∷ past) connections (text_of mode e) next
  pending_answered unnamed is none reaches accepted moment next then =
      let named = pending_on_trail since start mode past connections [] doing core live are reach other least e next idle then.others in
      answers_alone Needs since start mode past connections [] doing core e (record { command = e.command; operation = 0 }) (ap going_of works) (of_pending e other.number unnamed is) (Resting left) next then (leaves_resting e (reply.Pending other.number) is left)
      (subst (Promises (all_going next) e []) (sym is) named.1) (λ zero. not_zero (same_number other.number 0 (sym is ∙ zero))) connections (reply.Pending other.number) refl is
      (record {
        moment = moment;
        follows = subst (λ s. Follows (past_of start past) s e A e.reply) a_is (follows_pending (past_of start past) A e other.number accepted none is);
        on_trail = subst (OnTrail start past A_p e A) (sym is) (subst (λ r. trail.IsLeastInWay start past r other.number) (sym reaches ∙ ap (λ s. reach_of_command s e.command) a_is) named.0);
        planned = subst (IsPlanned start past A_p e A) (sym (no_job_asked (facts_of start past) e.command none)) tt;
      })

module _ (first : Image) (past : Past) (connections : Connections) (image : Image) (doing : AllDoing) (core : CoreAlone Needs first past connections image doing) (live : List ℕ) (are : AreTheLive live doing) (reach : Reach) (other : Op)
    (least : way.IsLeastInWay live reach (global image).log other) (e : Entry) (left : Option Op) (works : doing e.session ≡ Working e.command left) where
  pub pending_alone : e.operation ≡ 0 → e.reply ≡ Some (reply.Pending other.number) → (other.number ≡ 0 → ⊥) → asked_number e.command ≡ None → refusal (with_connections (meaning image) connections) e.session e.command ≡ None
      → (next : AllDoing) → IsThen doing e.session (Resting left) next → CoreAlone Needs first (record { entry = e; before = meaning image } ∷ past) connections image next
  pending_alone unnamed is some none accepted next then =
      alone_core_enters Needs first past connections image doing core e (record { command = e.command; operation = 0 }) (ap going_of works) (of_pending e other.number unnamed is) (Resting left) next then (leaves_resting e (reply.Pending other.number) is left)
      (subst (Promises (all_going next) e []) (sym is) (alone_pending first past connections image doing core live are reach other least e next (ap live_of works) then.others)) (λ zero. some (same_number other.number 0 (sym is ∙ zero))) image connections core.run.sound (λ t l apart at. core.stand t l at)
      (follows_pending past (with_connections (meaning image) connections) e other.number accepted none is)

-- an operation that has begun has a number of its own, which isn't 0
pub begun_numbered : (live : List ℕ) (op made : Op) (stage : Stage) (image : Image) (hs : List Happening) → Begins live op (Ok (Going made stage)) image hs → Sound image → Lawful image op → next_operation image < 2 ^ 63 → made.number ≡ 0 → ⊥
begun_numbered live op made stage image hs begun sound lawful below zero =
    let number : made.number ≡ next_operation image = ap (λ (o : Op). o.number) (begun sound lawful below).tried.named in
    omega (arith, sound.globals.operations.0, number, zero)
