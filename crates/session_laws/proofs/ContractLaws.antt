-- A core on its trail, and over contents alone: how it begins, that it goes on, and that it is a run.
use Rattle.std.proofs.Common.{◌≡◌, ℕ, refl, sym, ap, ◌∙◌, subst, Some, None, Option, [], ◌∷◌, ◌++◌, false}
use Rattle.cell_world.specs.Texts.{Text}
use Rattle.cell_world.specs.Images.{Image, Trail, Happening, Wrote, image_at, end_of_trail, extended, after_one}
use Rattle.cell_world.specs.Plain.{Connections, with_connections}
use Rattle.cell_world.specs.Meaning.{meaning}
use Rattle.cell_world.specs.Sound.{Sound}
use Rattle.cell_world.specs.Outside.{Told}
use Rattle.cell_world.specs.declared.operations.Op.{Op}
use Rattle.plain_model.specs.declared.commands.Command.{Command}
use Rattle.plain_model.specs.declared.history.Entry.{Entry}
use Rattle.plain_model.specs.declared.replies.Reply.{Reply}
use Rattle.plain_model.specs.declared.replies.Reply.TheVariants as reply
use Rattle.plain_model.specs.JobSteps.{asked_number}
use Rattle.plain_model.specs.Timelines.{Happened, Entered, image_of}
use Rattle.plain_model.specs.Follows.{Follows}
use Rattle.plain_model.specs.Legal.{AllGoing, Promises, is_job_running}
use Rattle.plain_model.specs.GoingOn.{IsOf}
use Rattle.plain_model.specs.Written.{Mode}
use Rattle.plain_model.specs.Running.{Running, text_of}
use Rattle.plain_model.specs.RunSoFar.{RunsOn, HasGoneOn, HasGoneTo}
use Rattle.plain_model.specs.ByMoments.{RunsByMoments}
use Rattle.plain_model.proofs.RunsAtMoments.{runs_by_moments}
use Rattle.plain_model.proofs.RunSoFar.{goes_on_same, goes_on_then, since_first, since_happened, since_entered}
use Rattle.session_laws.specs.Doing.{Doing, Resting, Working, AllDoing, command_of, going_of, all_going, IsThen, doing_then}
use Rattle.session_laws.specs.Core.{Core, OthersStand, Answers, Leaves, Quiet}
use Rattle.session_laws.specs.Contract.{Seen, course_of, all_rest, at_rest, CoreOn, CoreGoesOn, KeepsCore, CoreTo, CoreGoesTo, KeepsCoreTo}
use Rattle.session_laws.specs.Needs.{Needs}
use Rattle.session_laws.proofs.CoreLaws.{core_begins, core_takes, core_writes, answers_alone, answers_with}
use Rattle.session_laws.proofs.AloneCore.{alone_core_begins, alone_core_takes, alone_core_enters}
use Rattle.session_laws.proofs.SessionLaws.{then_is}

-- ---- it is a run

-- At each moment the stores are sound, the history is legal with what is going, and only what happened is written.
pub core_runs_by_moments : (mode : Mode) (t0 : ℕ) (start : Image) (trail : Trail) (seen : Seen) (rest : Text) → CoreOn mode t0 start trail seen rest → RunsByMoments mode trail t0 (all_going seen.doing) seen.history
core_runs_by_moments mode t0 start trail seen rest on =
    subst (RunsByMoments mode trail t0 (all_going seen.doing)) on.entries
    (runs_by_moments mode trail t0 (all_going seen.doing) on.past seen.connections on.since.began on.since.happened
    (subst (λ (i : Image). Running t0 i mode on.past seen.connections) (sym on.since.starts) on.core.owing.run) on.core.sessions.looks.promises on.core.sessions.looks.named)

pub core_is_a_run : (mode : Mode) (t0 : ℕ) (start : Image) (trail : Trail) (seen : Seen) (rest : Text) → CoreOn mode t0 start trail seen rest → RunsOn mode t0 start trail (course_of seen) rest
core_is_a_run mode t0 start trail seen rest on = record { past = on.past; connections = seen.connections; since = on.since; entries = on.entries; owing = on.core.owing; looks = on.core.sessions.looks }

pub core_has_gone_on : (mode : Mode) (t0 : ℕ) (start : Image) (before : Trail) (new : Told) (seen : Seen) (rest : Text) → CoreGoesOn mode t0 start before new seen rest → HasGoneOn mode t0 start before new (course_of seen) rest
core_has_gone_on mode t0 start before new seen rest gone = record { trail = gone.trail; told = gone.told; goes_on = gone.goes_on; runs = core_is_a_run mode t0 start gone.trail seen rest gone.core }

pub core_has_gone_to : (first : Image) (new : Told) (seen : Seen) → CoreGoesTo first new seen → HasGoneTo first new (course_of seen)
core_has_gone_to first new seen gone = record {
  image = gone.image;
  told = gone.told;
  runs = record { past = gone.core.past; connections = seen.connections; entries = gone.core.entries; run = gone.core.core.run; promises = gone.core.core.promises; pendings = gone.core.core.pendings };
}

-- ---- it begins

pub core_begins_on : (mode : Mode) (trail : Trail) → Sound (image_at trail (end_of_trail trail)) → CoreOn mode (end_of_trail trail) (image_at trail (end_of_trail trail)) trail (at_rest []) []
core_begins_on mode trail sound = record {
  past = [];
  since = since_first trail;
  entries = refl;
  core = core_begins Needs (end_of_trail trail) (image_at trail (end_of_trail trail)) mode all_rest sound (λ session. refl);
}

pub core_begins_to : (first : Image) → Sound first → CoreTo first first (at_rest [])
core_begins_to first sound = record { past = []; entries = refl; core = alone_core_begins Needs first all_rest sound (λ session. refl) }

-- ---- events one after the other

pub core_kept : (mode : Mode) (told : Told) (seen : Seen) → KeepsCore mode told seen told seen []
core_kept mode told seen t0 start trail is on = record { trail = trail; told = is; goes_on = goes_on_same trail; core = on }

pub core_kept_then : (mode : Mode) (old mid new : Told) (none one two : Seen) (rest : Text) → KeepsCore mode old none mid one [] → KeepsCore mode mid one new two rest → KeepsCore mode old none new two rest
core_kept_then mode old mid new none one two rest first second t0 start trail is on =
    let mids = first t0 start trail is on in
    let all = second t0 start mids.trail mids.told mids.core in
    record { trail = all.trail; told = all.told; goes_on = goes_on_then trail mids.trail all.trail mids.goes_on all.goes_on; core = all.core }

pub core_kept_to : (told : Told) (seen : Seen) → KeepsCoreTo told seen told seen
core_kept_to told seen first image is to = record { image = image; told = is; core = to }

pub core_kept_to_then : (old mid new : Told) (none one two : Seen) → KeepsCoreTo old none mid one → KeepsCoreTo mid one new two → KeepsCoreTo old none new two
core_kept_to_then old mid new none one two first second start image is to = let mids = first start image is to in second start mids.image mids.told mids.core

-- ---- lines are written

pub core_wrote : (mode : Mode) (t0 : ℕ) (start : Image) (trail : Trail) (seen : Seen) (rest part more : Text) → part ++ more ≡ rest → CoreOn mode t0 start trail seen rest → CoreOn mode t0 start (extended trail (Wrote part)) seen more
core_wrote mode t0 start trail seen rest part more is on = record {
  past = Happened (Wrote part) ∷ on.past;
  since = since_happened t0 start trail on.past on.since (Wrote part);
  entries = on.entries;
  core = core_writes Needs t0 start mode on.past seen.connections rest seen.doing on.core part more is;
}

-- ---- A command that begins and ends in one event: its session rests before it and after it, and it asks for no job.

module _ (seen : Seen) (e : Entry) (left : Option Op) (rests : seen.doing e.session ≡ Resting left) (no_job : asked_number e.command ≡ None) (r : Reply) (is : e.reply ≡ Some r) (plain : e.operation ≡ 0) (runs : is_job_running (Some r) ≡ false)
    (promise : (going : AllGoing) → Promises going e [] e.reply) (some : e.reply ≡ Some (reply.Pending 0) → ⊥) (after : Connections) where
  -- what the parts are afterwards
  abbrev pub seen_after : Seen
  seen_after = record { history = seen.history ++ e ∷ []; doing = seen.doing; connections = after }

  -- while the command is going
  abbrev middle : AllDoing
  middle = doing_then seen.doing e.session (Working e.command left)

  takes : IsThen seen.doing e.session (Working e.command left) middle
  takes = then_is seen.doing e.session (Working e.command left)

  gives : IsThen middle e.session (Resting left) seen.doing
  gives = record { here = rests; others = λ other apart. sym (takes.others other apart) }

  free : command_of (seen.doing e.session) ≡ None
  free = ap command_of rests

  going : going_of (middle e.session) ≡ Some (record { command = e.command; operation = 0 })
  going = ap going_of takes.here

  none_some : {A : Type 0} (a : A) → None ≡ Some a → ⊥
  none_some a is_some = cc

  only : (t : ℕ) (d : Command) (number : ℕ) → (e.session ≡ t → ⊥) → command_of (seen.doing t) ≡ Some d → asked_number e.command ≡ Some number → asked_number d ≡ Some number → ⊥
  only t d number apart at asked other = none_some number (sym no_job ∙ asked)

  of : IsOf (record { command = e.command; operation = 0 }) e
  of = record { command = refl; operation = plain; runs = ap is_job_running is ∙ runs }

  leaves : Leaves e (Resting left)
  leaves = record { no_operation = refl; answered = λ answer given. refl; going = λ silent. absurd (none_some r (sym silent ∙ is)) }

  module _ (mode : Mode) (t0 : ℕ) (start : Image) (trail : Trail) (on : CoreOn mode t0 start trail seen []) where
    taken : Core Needs t0 start mode on.past seen.connections [] middle
    taken = core_takes Needs t0 start mode on.past seen.connections [] seen.doing on.core e.session e.command left middle free takes only

    -- it is answered, and nothing happens
    pub core_answered : Answers t0 start on.past e seen.connections after → CoreOn mode t0 start trail seen_after (text_of mode e)
    core_answered a = record {
      past = Entered e ∷ on.past;
      since = since_entered t0 start trail on.past on.since e;
      entries = ap (λ es. es ++ e ∷ []) on.entries;
      core = answers_alone Needs t0 start mode on.past seen.connections [] middle taken e _ going of (Resting left) seen.doing gives leaves (promise (all_going seen.doing)) some after r refl is a;
    }

    -- it is answered just after one commit
    pub core_committed : (h : Happening) → Quiet start on.past h → OthersStand Needs seen.doing e.session (after_one (image_of start on.past) h) → Answers t0 start (Happened h ∷ on.past) e seen.connections after
        → CoreOn mode t0 start (extended trail h) seen_after (text_of mode e)
    core_committed h quiet others a = record {
      past = Entered e ∷ Happened h ∷ on.past;
      since = since_entered t0 start (extended trail h) (Happened h ∷ on.past) (since_happened t0 start trail on.past on.since h) e;
      entries = ap (λ es. es ++ e ∷ []) on.entries;
      core = answers_with Needs t0 start mode on.past seen.connections [] middle taken e _ going of (Resting left) seen.doing gives leaves (promise (all_going seen.doing)) some after h quiet
          (λ other l apart at. others other l apart (sym (ap Rattle.session_laws.specs.Doing.live_of (takes.others other apart)) ∙ at)) a r refl is;
    }

  -- over contents alone
  pub core_entered_to : (first image new : Image) (to : CoreTo first image seen) → Sound new → OthersStand Needs seen.doing e.session new
      → Follows to.past (with_connections (meaning image) seen.connections) e (with_connections (meaning new) after) e.reply → CoreTo first new seen_after
  core_entered_to first image new to sound others follows = record {
    past = record { entry = e; before = meaning image } ∷ to.past;
    entries = ap (λ es. es ++ e ∷ []) to.entries;
    core = alone_core_enters Needs first to.past seen.connections image middle
        (alone_core_takes Needs first to.past seen.connections image seen.doing to.core e.session e.command left middle free takes only) e _ going of (Resting left) seen.doing gives leaves (promise (all_going seen.doing)) some new after sound
        (λ other l apart at. others other l apart (sym (ap Rattle.session_laws.specs.Doing.live_of (takes.others other apart)) ∙ at)) follows;
  }
