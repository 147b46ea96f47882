-- What comes of an event, from what becomes of a command that is asked, and of one that goes on.
use Rattle.std.proofs.Common.{◌≡◌, ℕ, Bool, true, refl, sym, ap, ◌∙◌, subst, Option, Some, None, []}
use Rattle.std.specs.Prelude.{IfSome}
use Rattle.cell_world.specs.Outside.{IsLater}
use Rattle.cell_world.specs.declared.operations.Op.{Op}
use Rattle.cell_world.specs.declared.operations.StageName.{StageName}
use Rattle.cell_world.specs.declared.operations.StageName.TheVariants.{Logged}
use Rattle.global_tables.specs.Known.{Known}
use Rattle.plain_model.specs.declared.commands.Command.{Command}
use Rattle.plain_model.specs.Written.{EachReply}
use Rattle.session_laws.specs.Contract.{KeepsCore, KeepsCoreTo}
use Rattle.session_laws.specs.Doing.{Doing, Resting, Working, Operating, IsThen}
use Rattle.manager_core.specs.declared.answers.Answer.{Answer}
use Rattle.manager_core.specs.declared.coming.Came.TheVariants.{Going, Ended}
use Rattle.manager_core.specs.declared.manager.Event.{Event}
use Rattle.manager_core.specs.declared.manager.Event.TheVariants as event
use Rattle.manager_core.specs.declared.manager.Outcome.{Outcome}
use Rattle.manager_core.specs.declared.manager.StopCause.{StopCause}
use Rattle.manager_core.specs.Answering.{IsCopy}
use Rattle.manager_core.specs.Coming.{ComesOfGoing, IsEndOfGoing}
use Rattle.manager_core.specs.Concluding.{ComesOf, ComesOfEvent, ComesWithTables, Waiting}
use Rattle.manager_core.specs.Cores.{Parts, IsReady, seen_of}
use Rattle.manager_core.specs.Events.{IsOf, IsNumbered, IsOperating, MayCome, ComesTo, HasCause, Goes, Comes, ComesAfter, StaysReady, rest_after}
use Rattle.manager_core.specs.Steady.{Becomes, Ends, seen_with}
use Rattle.manager_core.proofs.TableCopies.{if_some, keeps_known, known_or, known_or_is_copy}

-- nothing is entered, and the core goes on
module _ (old new : Parts) (same : new.history ≡ old.history) (becomes : IsReady old → Becomes old.outside new.outside old.doing new.doing) where
  seen : seen_of new ≡ seen_with old.history new.doing
  seen = ap (λ h. seen_with h new.doing) same

  pub keeps : IsReady old → (tagged : Bool) → KeepsCore (EachReply tagged) old.outside.told (seen_of old) new.outside.told (seen_of new) []
  keeps ready tagged = subst (λ s. KeepsCore (EachReply tagged) old.outside.told (seen_of old) new.outside.told s []) (sym seen) ((becomes ready).leads ready.steady (EachReply tagged) old.history).keeps

  pub keeps_to : IsReady old → KeepsCoreTo old.outside.told (seen_of old) new.outside.told (seen_of new)
  keeps_to ready = subst (λ s. KeepsCoreTo old.outside.told (seen_of old) new.outside.told s) (sym seen) ((becomes ready).leads ready.steady (EachReply true) old.history).keeps_to

  pub stays_going : new.known ≡ old.known → old.stop ≡ None → StaysReady old new
  stays_going same_known on = record {
    ready = λ ready. record {
      steady = (becomes ready).steady ready.steady;
      copy = λ still. subst (λ known. IfSome known (λ k. IsCopy k new.outside.told)) (sym same_known)
          (if_some old.known (λ k. IsCopy k old.outside.told) (λ k. IsCopy k new.outside.told) (λ k. (becomes ready).copy k ready.steady) (ready.copy on));
    };
    settled = λ ready going. (becomes ready).settled ready.steady;
  }

-- ---- a command that is asked

module _ (session : ℕ) (c : Command) (old new : Parts) (on : old.stop ≡ None) (same : new.history ≡ old.history) where
  module _ (number : ℕ) (w : ComesWithTables session c (Going number) old.known new.known old.doing new.doing old.outside new.outside) where
    is_copy : IsReady old → IsCopy w.copy old.outside.told
    is_copy ready = w.is_copy ready.steady (ready.copy on)

    asked_becomes : IsReady old → Becomes old.outside new.outside old.doing new.doing
    asked_becomes ready = w.comes.becomes.becomes (is_copy ready)

    pub asked_goes : new.stop ≡ None → Goes session (event.Ask c) number old new
    asked_goes still = record {
      command = c;
      of_event = refl;
      op = w.comes.becomes.op;
      named = w.comes.becomes.named;
      stage = Logged;
      stage_comes = refl;
      next = w.comes.becomes.next;
      same = same;
      on = still;
      has_cause = λ ready going. (w.comes.so.happens ready.steady (is_copy ready), w.comes.so.exact ready.steady (is_copy ready));
      settles = λ ready. w.comes.so.settles ready.steady (is_copy ready);
      keeps = λ ready going tagged. keeps old new same asked_becomes ready tagged;
      keeps_to = λ ready going. keeps_to old new same asked_becomes ready;
    }

    pub asked_stays : StaysReady old new
    asked_stays = record {
      ready = λ ready. record {
        steady = (asked_becomes ready).steady ready.steady;
        copy = λ still. if_some new.known (λ k. k ≡ w.last) (λ k. IsCopy k new.outside.told)
            (λ k is. subst (λ x. IsCopy x new.outside.told) (sym (is ∙ w.comes.becomes.copy)) ((asked_becomes ready).copy w.copy ready.steady (is_copy ready))) w.keeps;
      };
      settled = λ ready going. (asked_becomes ready).settled ready.steady;
    }

  pub asked_waits : (command : Command) (answer : Answer) (number : ℕ) → ComesWithTables session c (Ended command answer number) old.known new.known old.doing new.doing old.outside new.outside → IsLater old.outside new.outside
      → Waiting session (event.Ask c) command answer.reply number old new
  asked_waits command answer number w later = let ended = w.comes.becomes.1 in subst (λ d. Waiting session (event.Ask c) d answer.reply number old new) (sym w.comes.becomes.0) (record {
    on = on;
    of_event = refl;
    rests = ended.rests;
    may_end = tt;
    numbered = ended.names;
    waits_for = ended.waits_for;
    later = later;
    same = same;
    has_cause = λ ready. (w.comes.so.happens ready.steady (w.is_copy ready.steady (ready.copy on)), w.comes.so.exact ready.steady (w.is_copy ready.steady (ready.copy on)));
    settles = λ ready. w.comes.so.settles ready.steady (w.is_copy ready.steady (ready.copy on));
    fault = ended.fault;
    copy = w.copy;
    last = w.last;
    is_copy = λ ready. w.is_copy ready.steady (ready.copy on);
    keeps = w.keeps;
    ends = ended.ends;
  })

-- ---- a command that goes on

-- a session that has something going has an operation live
pub operating_is : (d : Doing) → IsOperating d → (c : Command) × (op : Op) × (stage : StageName) × (d ≡ Operating c op stage)
operating_is (Operating c op stage) going = (c, op, stage, refl)
operating_is (Resting left) going = absurd going
operating_is (Working c left) going = absurd going

module _ (session : ℕ) (old new : Parts) (on : old.stop ≡ None) (same : new.history ≡ old.history) (same_known : new.known ≡ old.known) (c : Command) (op : Op) (stage : StageName) (is : old.doing session ≡ Operating c op stage) where
  -- what the core has of the tables, or what they are
  abbrev pub had : Known
  had = known_or old.known old.outside.told

  module _ (number : ℕ) (comes : ComesOfGoing session c op stage (Going number) had old.doing new.doing old.outside new.outside) where
    pub gone_goes : new.stop ≡ None → Goes session event.Go number old new
    gone_goes still = record {
      command = c;
      of_event = subst (λ d. IsOf event.Go d c) (sym is) refl;
      op = op;
      named = sym comes.becomes.0;
      stage = comes.becomes.1.0;
      stage_comes = subst (λ d. ComesTo event.Go d op comes.becomes.1.0) (sym is) (refl, comes.becomes.1.1);
      next = comes.becomes.1.2;
      same = same;
      on = still;
      has_cause = λ ready going. subst (λ d. HasCause event.Go d session c None number old new.outside.told) (sym is) (comes.becomes.0, comes.happens ready.steady);
      settles = λ ready. tt;
      keeps = λ ready going tagged. keeps old new same (λ ready. comes.becomes.2) ready tagged;
      keeps_to = λ ready going. keeps_to old new same (λ ready. comes.becomes.2) ready;
    }

    pub gone_stays : StaysReady old new
    gone_stays = stays_going old new same (λ ready. comes.becomes.2) same_known on

  pub gone_waits : (command : Command) (answer : Answer) (number : ℕ) → ComesOfGoing session c op stage (Ended command answer number) had old.doing new.doing old.outside new.outside → IsLater old.outside new.outside
      → Waiting session event.Go command answer.reply number old new
  gone_waits command answer number comes later = let gone = comes.becomes in record {
    on = on;
    of_event = subst (λ d. IsOf event.Go d command) (sym is) gone.0;
    rests = subst (λ d. IsThen old.doing session (rest_after event.Go d answer.reply) new.doing) (sym is) gone.3;
    may_end = gone.2;
    numbered = subst (λ d. IsNumbered event.Go d command number) (sym is) gone.1;
    waits_for = λ other pending. absurd (subst IsEndOfGoing pending gone.2);
    later = later;
    same = same;
    has_cause = λ ready. subst (λ d. HasCause event.Go d session command (Some answer.reply) number old new.outside.told) (sym is) (gone.1, comes.happens ready.steady);
    settles = λ ready. tt;
    fault = gone.5;
    copy = had;
    last = had;
    is_copy = λ ready. known_or_is_copy old.known old.outside.told (ready.copy on);
    keeps = subst (λ known. IfSome known (λ k. k ≡ had)) (sym same_known) (keeps_known old.known old.outside.told);
    ends = subst (λ d. Ends session d answer.reply number had had old.outside new.outside old.doing new.doing) (sym gone.0) gone.4;
  }

-- ---- an event

-- why a core takes no more events is not there
pub still_on : (stop : Option StopCause) → ((x : StopCause) → stop ≡ Some x → ⊥) → stop ≡ None
still_on None none = refl
still_on (Some x) none = absurd (none x refl)

pub comes_on : (stop : Option StopCause) → stop ≡ None → (tagged : Bool) (session : ℕ) (e : Event) (old new : Parts) (outcome : Outcome) → Comes tagged session e old new outcome → ComesAfter stop tagged session e old new outcome
comes_on stop on tagged session e old new outcome comes = subst (λ s. ComesAfter s tagged session e old new outcome) (sym on) comes

module _ (session : ℕ) (e : Event) (old new : Parts) (on : old.stop ≡ None) (may : MayCome e (old.doing session)) where
  pub event_goes : (number : ℕ) → ComesOf session e (Going number) old new → Goes session e number old new
  event_goes number of = by e may of.comes
    where
      by : (e : Event) → MayCome e (old.doing session) → ComesOfEvent session e (Going number) old new → Goes session e number old new
      by (event.Ask c) may comes = asked_goes session c old new on of.same number comes (of.on ∙ on)
      by event.Go may comes = let d = operating_is (old.doing session) may in gone_goes session old new on of.same comes.0 d.0 d.1 d.2 d.3 number (comes.1 d.0 d.1 d.2 d.3 (known_or old.known old.outside.told)) (of.on ∙ on)

  pub event_stays : (number : ℕ) → ComesOf session e (Going number) old new → StaysReady old new
  event_stays number of = by e may of.comes
    where
      by : (e : Event) → MayCome e (old.doing session) → ComesOfEvent session e (Going number) old new → StaysReady old new
      by (event.Ask c) may comes = asked_stays session c old new on of.same number comes
      by event.Go may comes = let d = operating_is (old.doing session) may in gone_stays session old new on of.same comes.0 d.0 d.1 d.2 d.3 number (comes.1 d.0 d.1 d.2 d.3 (known_or old.known old.outside.told))

  pub event_waits : (command : Command) (answer : Answer) (number : ℕ) → ComesOf session e (Ended command answer number) old new → IsLater old.outside new.outside → Waiting session e command answer.reply number old new
  event_waits command answer number of later = by e may of.comes
    where
      by : (e : Event) → MayCome e (old.doing session) → ComesOfEvent session e (Ended command answer number) old new → Waiting session e command answer.reply number old new
      by (event.Ask c) may comes = asked_waits session c old new on of.same command answer number comes later
      by event.Go may comes = let d = operating_is (old.doing session) may in gone_waits session old new on of.same comes.0 d.0 d.1 d.2 d.3 command answer number (comes.1 d.0 d.1 d.2 d.3 (known_or old.known old.outside.told)) later
