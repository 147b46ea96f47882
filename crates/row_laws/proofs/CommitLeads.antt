-- A command by a connection is answered just after its one transaction, at its connection's shard.
use Rattle.std.proofs.Common.{◌≡◌, ℕ, ◌+◌, Bool, true, false, refl, sym, ap, ◌∙◌, subst, Some, None, Option, List, [], ◌∷◌, length, arith}
use Rattle.std.specs.Prelude.{IsTrue}
use Rattle.std.proofs.lemmas.List.{length_push}
use Rattle.cell_world.specs.Images.{Image, Trail, Happening, after_one, extended, end_of_trail}
use Rattle.cell_world.specs.Meaning.{meaning}
use Rattle.cell_world.specs.Outside.{Told, TellsContents, TellsTrail, IfContents, IfTrail, told_after}
use Rattle.cell_world.specs.Plain.{PlainState, Connections, holds_nothing, is_attached, with_connections}
use Rattle.cell_world.specs.Sound.{Sound, IsAttachedIn}
use Rattle.cell_world.specs.Texts.{Text}
use Rattle.cell_world.specs.declared.cells.Away.{Away}
use Rattle.cell_world.specs.declared.cells.Away.TheVariants as away
use Rattle.cell_world.specs.declared.changes.Edit.{Edit}
use Rattle.cell_world.specs.declared.operations.Op.{Op}
use Rattle.cell_world.specs.declared.operations.Reach.TheVariants as reach
use Rattle.plain_model.specs.declared.commands.Command.{Command}
use Rattle.plain_model.specs.declared.history.Entry.{Entry}
use Rattle.plain_model.specs.declared.replies.Reply.{Reply}
use Rattle.plain_model.specs.declared.replies.Reply.TheVariants as reply
use Rattle.plain_model.specs.Legal.{MayHappen}
use Rattle.plain_model.specs.OnTrail.{logs_put}
use Rattle.plain_model.specs.Running.{text_of}
use Rattle.plain_model.specs.ShortCommands.{short_entry, standing_with, FollowsShort}
use Rattle.plain_model.specs.Steps.{plain_step}
use Rattle.plain_model.specs.Timelines.{Timeline, Happened, image_of, facts_of, happened_of}
use Rattle.plain_model.specs.Written.{Mode}
use Rattle.plain_model.proofs.RunSoFar.{goes_on_same, goes_on_more, image_is, moment_is}
use Rattle.op_log.specs.ShortChanges.{ShortChange}
use Rattle.session_laws.specs.Contract.{Seen, CoreOn, CoreGoesOn, CoreTo, CoreGoesTo}
use Rattle.session_laws.specs.Core.{AllStand}
use Rattle.session_laws.specs.Doing.{AllDoing, Resting}
use Rattle.session_laws.specs.Needs.{Needs}
use Rattle.session_laws.proofs.ContractLaws.{core_committed, core_entered_to}
use Rattle.operation_laws.specs.Leading.{Leads}
use Rattle.connection_laws.specs.Keeping.{is_by_connection}
use Rattle.session_rows.specs.Rows.{changed_at, commit_at}
use Rattle.row_laws.specs.Commits.{RowCommits}
use Rattle.row_laws.specs.Replies.{is_row_answer, is_row_reply}
use Rattle.row_laws.specs.Seeing.{seen_of, answered_with}
use Rattle.row_laws.proofs.AloneLaws.{stand_nothing}
use Rattle.row_laws.proofs.EntryLaws.{none_asked, promises_none, pending_none, runs_none, answers_short, done_follows, unmade_follows, made_follows}

-- ---- it may happen

-- an attached site isn't detached
never_detached : (state : Option Away) → IsTrue (is_attached state) → state ≡ Some away.Detached → ⊥
never_detached None attached is = absurd cc
never_detached (Some state) attached is = absurd cc

may_happen : (start : Image) (past : Timeline) (location : Text) (change : List Edit) → logs_put change ≡ [] → IsAttachedIn (image_of start past) location → (took : Bool) → MayHappen start past (commit_at location change took)
may_happen start past location change no_log here true = (no_log, λ detached. absurd (never_detached _ here.attached detached))
may_happen start past location change no_log here false = (no_log, λ detached. absurd (never_detached _ here.attached detached))

-- ---- the core goes on

module _ (session : ℕ) (c : Command) (by_it : is_by_connection c ≡ true) (r : Reply) (word : is_row_reply r ≡ true) (before : AllDoing) (left : Option Op) (rests : before session ≡ Resting left) (connected : Connections)
    (location : Text) (change : List Edit) (took : Bool) (no_log : logs_put change ≡ []) where
  abbrev h : Happening
  h = commit_at location change took

  -- On an image as the core has it the transaction may come, and the entry follows.
  abbrev Fits : Image → Type 0
  Fits image = Sound image → AllStand Needs before image → RowCommits before session c connected location change took r image

  module _ (old new : Told) (told : new ≡ told_after old h) (fits : IfContents old Fits) (moment : ℕ) (now : IfTrail new (λ trail. moment ≡ end_of_trail trail)) (mode : Mode) (history : List Entry) where
    abbrev entry : Entry
    entry = short_entry session c r moment

    abbrev seen : Seen
    seen = seen_of history before connected

    abbrev after : Seen
    after = answered_with seen entry before connected

    here : (t : Told) → old ≡ t → IfContents t Fits
    here t is = subst (λ t. IfContents t Fits) is fits

    told_is : (t : Told) → old ≡ t → new ≡ told_after t h
    told_is t is = told ∙ ap (λ t. told_after t h) is

    keeps : (t0 : ℕ) (start : Image) (trail : Trail) → old ≡ TellsTrail trail → CoreOn mode t0 start trail seen [] → CoreGoesOn mode t0 start trail new after (text_of mode entry)
    keeps t0 start trail is on = record {
      trail = extended trail h;
      told = told_is (TellsTrail trail) is;
      goes_on = goes_on_more trail trail h (goes_on_same trail);
      core = core_committed seen entry left rests (none_asked c by_it) r refl refl (runs_none r word) (λ going. promises_none r word going entry) (pending_none r word) connected mode t0 start trail on h
          (record { silent = refl; tries = no_log; may = may_happen start on.past location change no_log fit.here took; sound = fit.sound }) (λ other l apart at. fit.stand other l at)
          (answers_short session c by_it r moment t0 start (Happened h ∷ on.past) connected connected follows at_end);
    }
      where
        fit : RowCommits before session c connected location change took r (image_of start on.past)
        fit = subst Fits (sym (image_is t0 start trail on.past on.since)) (here (TellsTrail trail) is) on.core.sessions.sound on.core.sessions.stand

        exact : meaning (image_of start on.past) ≡ facts_of start on.past
        exact = on.core.owing.run.exact

        follows : FollowsShort session c (with_connections (facts_of start on.past) connected) (standing_with (after_one (image_of start on.past) h) connected) r
        follows = subst (λ (s : PlainState). FollowsShort session c (with_connections s connected) (standing_with (after_one (image_of start on.past) h) connected) r) exact fit.follows

        ended : moment ≡ end_of_trail (extended trail h)
        ended = subst (λ t. IfTrail t (λ tr. moment ≡ end_of_trail tr)) (told_is (TellsTrail trail) is) now

        at_end : moment ≡ t0 + length (happened_of (Happened h ∷ on.past))
        at_end = omega (arith, ended, length_push trail.happened h, length_push (happened_of on.past) h, moment_is t0 start trail on.past on.since)

    keeps_to : (first image : Image) → old ≡ TellsContents image → CoreTo first image seen → CoreGoesTo first new after
    keeps_to first image is to = record {
      image = after_one image h;
      told = told_is (TellsContents image) is;
      core = core_entered_to seen entry left rests (none_asked c by_it) r refl refl (runs_none r word) (λ going. promises_none r word going entry) (pending_none r word) connected first image (after_one image h) to
          fit.sound (λ other l apart at. fit.stand other l at) (fit.follows.follows to.past moment);
    }
      where
        fit : RowCommits before session c connected location change took r image
        fit = here (TellsContents image) is to.core.run.sound to.core.stand

    pub commit_leads : Leads mode old new seen after (text_of mode entry)
    commit_leads = record { keeps = keeps; keeps_to = keeps_to }

-- ---- what is asked of it

module _ (before : AllDoing) (session : ℕ) (c : Command) (by_it : is_by_connection c ≡ true) (connected : Connections) (location : Text) (change : List Edit) (image : Image) (sound : Sound image) (stand : AllStand Needs before image) (here : IsAttachedIn image location)
    (changed_sound : Sound (changed_at image location change)) (short : ShortChange image reach.Nothing (changed_at image location change)) (r : Reply) where
  pub done_commits : is_row_answer r ≡ true → plain_step holds_nothing (standing_with image connected) session c ≡ (standing_with (changed_at image location change) connected, r) → RowCommits before session c connected location change true r image
  done_commits is step = record {
    here = here;
    sound = changed_sound;
    stand = stand_nothing before image (changed_at image location change) sound stand short;
    follows = done_follows session c by_it (standing_with image connected) (standing_with (changed_at image location change) connected) r is step;
  }

  pub fault_commits : plain_step holds_nothing (standing_with image connected) session c ≡ (standing_with (changed_at image location change) connected, r) → (took : Bool) → RowCommits before session c connected location change took reply.Fault image
  fault_commits step true = record {
    here = here;
    sound = changed_sound;
    stand = stand_nothing before image (changed_at image location change) sound stand short;
    follows = made_follows session c by_it (standing_with image connected) (standing_with (changed_at image location change) connected) r step;
  }
  fault_commits step false = record { here = here; sound = sound; stand = stand; follows = unmade_follows session c by_it (standing_with image connected) }
