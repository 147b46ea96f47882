-- A command by a connection is answered, and nothing happened.
use Rattle.std.proofs.Common.{◌≡◌, ℕ, true, refl, sym, ◌∙◌, subst, Option, List, []}
use Rattle.cell_world.specs.Images.{Image, Trail, end_of_trail}
use Rattle.cell_world.specs.Meaning.{meaning}
use Rattle.cell_world.specs.Outside.{Told, TellsContents, TellsTrail, IfContents, IfTrail}
use Rattle.cell_world.specs.Plain.{PlainState, Connections, with_connections}
use Rattle.cell_world.specs.Sound.{Sound}
use Rattle.cell_world.specs.declared.operations.Op.{Op}
use Rattle.plain_model.specs.declared.commands.Command.{Command}
use Rattle.plain_model.specs.declared.history.Entry.{Entry}
use Rattle.plain_model.specs.declared.replies.Reply.{Reply}
use Rattle.plain_model.specs.Running.{text_of}
use Rattle.plain_model.specs.ShortCommands.{short_entry, standing_with, FollowsShort}
use Rattle.plain_model.specs.Timelines.{image_of, facts_of}
use Rattle.plain_model.specs.Written.{Mode}
use Rattle.plain_model.proofs.RunSoFar.{goes_on_same, image_is, moment_is}
use Rattle.session_laws.specs.Contract.{Seen, CoreOn, CoreGoesOn, CoreTo, CoreGoesTo}
use Rattle.session_laws.specs.Core.{AllStand}
use Rattle.session_laws.specs.Doing.{AllDoing, Resting}
use Rattle.session_laws.specs.Needs.{Needs}
use Rattle.session_laws.proofs.ContractLaws.{core_answered, core_entered_to}
use Rattle.operation_laws.specs.Leading.{Leads}
use Rattle.connection_laws.specs.Keeping.{is_by_connection}
use Rattle.row_laws.specs.Replies.{is_row_reply}
use Rattle.row_laws.specs.Seeing.{seen_of, answered_with}
use Rattle.row_laws.proofs.EntryLaws.{none_asked, promises_none, pending_none, runs_none, answers_short}

module _ (session : ℕ) (c : Command) (by_it : is_by_connection c ≡ true) (r : Reply) (word : is_row_reply r ≡ true) (before : AllDoing) (left : Option Op) (rests : before session ≡ Resting left) (connected still : Connections) where
  -- On an image as the core has it the entry follows.
  abbrev Fits : Image → Type 0
  Fits image = Sound image → AllStand Needs before image → FollowsShort session c (standing_with image connected) (standing_with image still) r

  module _ (old new : Told) (same : new ≡ old) (fits : IfContents old Fits) (moment : ℕ) (now : IfTrail new (λ trail. moment ≡ end_of_trail trail)) (mode : Mode) (history : List Entry) where
    abbrev entry : Entry
    entry = short_entry session c r moment

    abbrev seen : Seen
    seen = seen_of history before connected

    abbrev after : Seen
    after = answered_with seen entry before still

    here : (told : Told) → old ≡ told → IfContents told Fits
    here told is = subst (λ t. IfContents t Fits) is fits

    keeps : (t0 : ℕ) (start : Image) (trail : Trail) → old ≡ TellsTrail trail → CoreOn mode t0 start trail seen [] → CoreGoesOn mode t0 start trail new after (text_of mode entry)
    keeps t0 start trail is on = record {
      trail = trail;
      told = same ∙ is;
      goes_on = goes_on_same trail;
      core = core_answered seen entry left rests (none_asked c by_it) r refl refl (runs_none r word) (λ going. promises_none r word going entry) (pending_none r word) still mode t0 start trail on
          (answers_short session c by_it r moment t0 start on.past connected still follows
          (subst (λ t. IfTrail t (λ tr. moment ≡ end_of_trail tr)) (same ∙ is) now ∙ sym (moment_is t0 start trail on.past on.since)));
    }
      where
        fit : Fits (image_of start on.past)
        fit = subst Fits (sym (image_is t0 start trail on.past on.since)) (here (TellsTrail trail) is)

        exact : meaning (image_of start on.past) ≡ facts_of start on.past
        exact = on.core.owing.run.exact

        follows : FollowsShort session c (with_connections (facts_of start on.past) connected) (standing_with (image_of start on.past) still) r
        follows = subst (λ (s : PlainState). FollowsShort session c (with_connections s connected) (standing_with (image_of start on.past) still) r) exact (fit on.core.sessions.sound on.core.sessions.stand)

    keeps_to : (first image : Image) → old ≡ TellsContents image → CoreTo first image seen → CoreGoesTo first new after
    keeps_to first image is to = record {
      image = image;
      told = same ∙ is;
      core = core_entered_to seen entry left rests (none_asked c by_it) r refl refl (runs_none r word) (λ going. promises_none r word going entry) (pending_none r word) still first image image to
          to.core.run.sound (λ other l apart at. to.core.stand other l at) ((here (TellsContents image) is to.core.run.sound to.core.stand).follows to.past moment);
    }

    pub quiet_leads : Leads mode old new seen after (text_of mode entry)
    quiet_leads = record { keeps = keeps; keeps_to = keeps_to }
