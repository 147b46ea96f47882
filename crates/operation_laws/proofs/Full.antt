-- A command of one operation is answered `full`: no operation number is left.
use Rattle.std.proofs.Common.{◌≡◌, inr, ℕ, ◌+◌, ◌^◌, false, refl, sym, ap, ◌∙◌, subst, Some, None, Option, [], ◌∷◌, length}
use Rattle.std.specs.Prelude.{IsTrue}
use Rattle.cell_world.specs.Images.{Image}
use Rattle.cell_world.specs.Plain.{PlainState, Connections, with_connections}
use Rattle.cell_world.specs.Meaning.{meaning, next_operation}
use Rattle.cell_world.specs.declared.operations.Op.{Op}
use Rattle.plain_model.specs.declared.commands.Command.{Command}
use Rattle.plain_model.specs.declared.commands.Command.TheVariants as command
use Rattle.plain_model.specs.declared.replies.Reply.TheVariants as reply
use Rattle.plain_model.specs.declared.replies.Refusal.TheVariants as refused
use Rattle.plain_model.specs.declared.history.Entry.{Entry}
use Rattle.plain_model.specs.Refusing.{refusal}
use Rattle.plain_model.specs.JobSteps.{asked_job, is_finish_step}
use Rattle.plain_model.specs.Follows.{Follows, takes_number}
use Rattle.plain_model.specs.OnTrail.{OnTrail}
use Rattle.plain_model.specs.Timelines.{Timeline, Past, Entered, image_of, facts_of, happened_of, past_of}
use Rattle.plain_model.specs.Legal.{Promises, IsPlanned, is_job_running}
use Rattle.plain_model.specs.GoingOn.{IsOf}
use Rattle.plain_model.specs.Written.{Mode}
use Rattle.plain_model.specs.Running.{text_of}
use Rattle.session_laws.specs.Doing.{Resting, Working, AllDoing, going_of, all_going, IsThen}
use Rattle.session_laws.specs.Core.{Core, CoreAlone}
use Rattle.session_laws.specs.Needs.{Needs}
use Rattle.session_laws.proofs.AloneCore.{alone_core_enters}
use Rattle.session_laws.proofs.CoreLaws.{answers_alone}
use Rattle.operation_laws.specs.Entries.{IsOneOperation}
use Rattle.operation_laws.proofs.Done.{leaves_resting}

-- it takes a number
takes_one : (c : Command) → IsOneOperation c → IsTrue (takes_number c)
takes_one (command.Offline name key token) o = refl
takes_one (command.Add name low high location) o = refl
takes_one (command.Addpoint name key location) o = refl
takes_one (command.Delete name key token) o = refl
takes_one (command.Online name key token) o = refl
takes_one (command.Move name key location token) o = refl
takes_one (command.Split name key token) o = refl
takes_one (command.Merge name key token) o = refl
takes_one other o = absurd o

-- and is a step of no job
no_finish : (s : PlainState) (c : Command) → IsOneOperation c → (asked_job s c ≡ None) × (is_finish_step s c ≡ false)
no_finish s (command.Offline name key token) o = (refl, refl)
no_finish s (command.Add name low high location) o = (refl, refl)
no_finish s (command.Addpoint name key location) o = (refl, refl)
no_finish s (command.Delete name key token) o = (refl, refl)
no_finish s (command.Online name key token) o = (refl, refl)
no_finish s (command.Move name key location token) o = (refl, refl)
no_finish s (command.Split name key token) o = (refl, refl)
no_finish s (command.Merge name key token) o = (refl, refl)
no_finish s other o = absurd o

not_zero : Some (reply.Refused refused.Full) ≡ Some (reply.Pending 0) → ⊥
not_zero e = cc

module _ (e : Entry) (unnamed : e.operation ≡ 0) (is : e.reply ≡ Some (reply.Refused refused.Full)) where
  of_full : IsOf (record { command = e.command; operation = 0 }) e
  of_full = record { command = refl; operation = unnamed; runs = ap is_job_running is }

  follows_full : (past : Past) (A : PlainState) → IsOneOperation e.command → refusal A e.session e.command ≡ None → Follows past A e A e.reply
  follows_full past A one accepted = subst (Follows past A e A) (sym is) (inr (record { same = refl; accepted = accepted; takes = takes_one e.command one; no_finish = (no_finish A e.command one).1 }))

pub full_on_trail : (since : ℕ) (start : Image) (mode : Mode) (past : Timeline) (connections : Connections) (doing : AllDoing) → Core Needs since start mode past connections [] doing → (e : Entry) (left : Option Op) → doing e.session ≡ Working e.command left → e.operation ≡ 0 → e.reply ≡ Some (reply.Refused refused.Full)
    → IsOneOperation e.command → refusal (with_connections (meaning (image_of start past)) connections) e.session e.command ≡ None → next_operation (image_of start past) ≡ 2 ^ 63 → e.moment ≡ since + length (happened_of past)
    → (next : AllDoing) → IsThen doing e.session (Resting left) next → Core Needs since start mode (Entered e ∷ past) connections (text_of mode e) next
full_on_trail since start mode past connections doing core e left works unnamed is one accepted spent moment next then =
    answers_alone Needs since start mode past connections [] doing core e (record { command = e.command; operation = 0 }) (ap going_of works) (of_full e unnamed is) (Resting left) next then (leaves_resting e (reply.Refused refused.Full) is left)
    (subst (Promises (all_going next) e []) (sym is) tt) (λ zero. not_zero (sym is ∙ zero)) connections (reply.Refused refused.Full) refl is
    (record {
      moment = moment;
      follows = subst (λ s. Follows (past_of start past) s e (with_connections (meaning (image_of start past)) connections) e.reply) (ap (λ s. with_connections s connections) core.owing.run.exact) (follows_full e unnamed is (past_of start past) (with_connections (meaning (image_of start past)) connections) one accepted);
      on_trail = subst (OnTrail start past (with_connections (facts_of start past) connections) e (with_connections (meaning (image_of start past)) connections)) (sym is) (inr spent);
      planned = subst (IsPlanned start past (with_connections (facts_of start past) connections) e (with_connections (meaning (image_of start past)) connections)) (sym (no_finish (facts_of start past) e.command one).0) tt;
    })

pub full_alone : (first : Image) (past : Past) (connections : Connections) (image : Image) (doing : AllDoing) → CoreAlone Needs first past connections image doing → (e : Entry) (left : Option Op) → doing e.session ≡ Working e.command left → e.operation ≡ 0 → e.reply ≡ Some (reply.Refused refused.Full)
    → IsOneOperation e.command → refusal (with_connections (meaning image) connections) e.session e.command ≡ None → (next : AllDoing) → IsThen doing e.session (Resting left) next → CoreAlone Needs first (record { entry = e; before = meaning image } ∷ past) connections image next
full_alone first past connections image doing core e left works unnamed is one accepted next then =
    alone_core_enters Needs first past connections image doing core e (record { command = e.command; operation = 0 }) (ap going_of works) (of_full e unnamed is) (Resting left) next then (leaves_resting e (reply.Refused refused.Full) is left)
    (subst (Promises (all_going next) e []) (sym is) tt) (λ zero. not_zero (sym is ∙ zero)) image connections core.run.sound (λ t l apart at. core.stand t l at)
    (follows_full e unnamed is past (with_connections (meaning image) connections) one accepted)
