-- What a call made of the stores is told: where a core goes on by it, it goes on over what is told.
use Rattle.std.proofs.Common.{◌≡◌, refl, sym, ap, ◌∙◌, subst, ℕ, ◌+◌, List, [], ◌∷◌, ◌++◌, length}
use Rattle.cell_world.specs.Texts.{Text}
use Rattle.cell_world.specs.Images.{Image, Happening, Trail, after_one, after_all, extended, image_at, end_of_trail}
use Rattle.cell_world.specs.Outside.{Outside, Told, TellsContents, TellsTrail, IfContents, IfTrail}
use Rattle.plain_model.specs.declared.history.Entry.{Entry}
use Rattle.plain_model.specs.Timelines.{Timeline, Past, Happened, Entered, image_of, happened_of, history_of}
use Rattle.plain_model.specs.Headline.{GoesOnFrom}
use Rattle.plain_model.specs.RunSoFar.{IsSince}
use Rattle.plain_model.specs.RunningAlone.{entries_of}
use Rattle.plain_model.specs.Running.{text_of}
use Rattle.plain_model.specs.Written.{Mode}
use Rattle.plain_model.proofs.RunSoFar.{goes_on_same, goes_on_more, image_is, moment_is, since_happened, since_entered}
use Rattle.op_steps.specs.Passing.{Passes, told_after_all}
use Rattle.session_laws.specs.Core.{Core, CoreAlone}
use Rattle.session_laws.specs.Contract.{Seen, CoreOn, CoreGoesOn, KeepsCore, CoreTo, CoreGoesTo, KeepsCoreTo}
use Rattle.session_laws.specs.Needs.{Needs}
use Rattle.operation_laws.specs.Courses.{happened_on}

-- ---- trails

-- the trail with these things at its end
abbrev pub extended_all : Trail → List Happening → Trail
extended_all trail [] = trail
extended_all trail (h ∷ hs) = extended_all (extended trail h) hs

pub told_all : (trail : Trail) (hs : List Happening) → told_after_all (TellsTrail trail) hs ≡ TellsTrail (extended_all trail hs)
told_all trail [] = refl
told_all trail (h ∷ hs) = told_all (extended trail h) hs

pub told_contents : (image : Image) (hs : List Happening) → told_after_all (TellsContents image) hs ≡ TellsContents (after_all image hs)
told_contents image [] = refl
told_contents image (h ∷ hs) = told_contents (after_one image h) hs

goes_on_all : (first trail : Trail) (hs : List Happening) → GoesOnFrom first trail → GoesOnFrom first (extended_all trail hs)
goes_on_all first trail [] on = on
goes_on_all first trail (h ∷ hs) on = goes_on_all first (extended trail h) hs (goes_on_more first trail h on)

since_all : (t0 : ℕ) (start : Image) (trail : Trail) (past : Timeline) (hs : List Happening) → IsSince t0 start trail past → IsSince t0 start (extended_all trail hs) (happened_on past hs)
since_all t0 start trail past [] since = since
since_all t0 start trail past (h ∷ hs) since = since_all t0 start (extended trail h) (Happened h ∷ past) hs (since_happened t0 start trail past since h)

same_entries : (past : Timeline) (hs : List Happening) → history_of (happened_on past hs) ≡ history_of past
same_entries past [] = refl
same_entries past (h ∷ hs) = same_entries (Happened h ∷ past) hs

-- ---- one call

module _ (mode : Mode) (P : Image → List Happening → Type 0) (old new : Outside) (passes : Passes P old new) (before after : Seen) where
  abbrev hs : List Happening
  hs = passes.happened

  each_at : (told : Told) → old.told ≡ told → IfContents told (λ image. P image hs)
  each_at told is = subst (λ t. IfContents t (λ image. P image hs)) is passes.each

  module _ (t0 : ℕ) (start : Image) (trail : Trail) (is : old.told ≡ TellsTrail trail) (on : CoreOn mode t0 start trail before []) where
    abbrev later : Timeline
    later = happened_on on.past hs

    p_now : P (image_of start on.past) hs
    p_now = subst (λ i. P i hs) (sym (image_is t0 start trail on.past on.since)) (each_at (TellsTrail trail) is)

    told_later : new.told ≡ TellsTrail (extended_all trail hs)
    told_later = passes.told ∙ ap (λ t. told_after_all t hs) is ∙ told_all trail hs

    since_later : IsSince t0 start (extended_all trail hs) later
    since_later = since_all t0 start trail on.past hs on.since

    moment_later : (moment : ℕ) → IfTrail new.told (λ trail. moment ≡ end_of_trail trail) → moment ≡ t0 + length (happened_of later)
    moment_later moment now = subst (λ t. IfTrail t (λ trail. moment ≡ end_of_trail trail)) told_later now ∙ sym (moment_is t0 start (extended_all trail hs) later since_later)

  -- nothing is entered
  pub lifts : after.history ≡ before.history
      → ((t0 : ℕ) (start : Image) (past : Timeline) → P (image_of start past) hs → Core Needs t0 start mode past before.connections [] before.doing → Core Needs t0 start mode (happened_on past hs) after.connections [] after.doing)
      → KeepsCore mode old.told before new.told after []
  lifts same goes t0 start trail is on = record {
    trail = extended_all trail hs;
    told = told_later t0 start trail is on;
    goes_on = goes_on_all trail trail hs (goes_on_same trail);
    core = record {
      past = happened_on on.past hs;
      since = since_later t0 start trail is on;
      entries = same_entries on.past hs ∙ on.entries ∙ sym same;
      core = goes t0 start on.past (p_now t0 start trail is on) on.core;
    };
  }

  pub lifts_to : after.history ≡ before.history
      → ((first : Image) (past : Past) (image : Image) → P image hs → CoreAlone Needs first past before.connections image before.doing → CoreAlone Needs first past after.connections (after_all image hs) after.doing)
      → KeepsCoreTo old.told before new.told after
  lifts_to same goes first image is to = record {
    image = after_all image hs;
    told = passes.told ∙ ap (λ t. told_after_all t hs) is ∙ told_contents image hs;
    core = record { past = to.past; entries = to.entries ∙ sym same; core = goes first to.past image (each_at (TellsContents image) is) to.core };
  }

  -- an entry comes after it, whose lines are to be written
  module _ (e : Entry) (added : after.history ≡ before.history ++ e ∷ []) where
    pub lifts_entry : IfTrail new.told (λ trail. e.moment ≡ end_of_trail trail)
        → ((t0 : ℕ) (start : Image) (past : Timeline) → P (image_of start past) hs → e.moment ≡ t0 + length (happened_of (happened_on past hs)) → Core Needs t0 start mode past before.connections [] before.doing
        → Core Needs t0 start mode (Entered e ∷ happened_on past hs) after.connections (text_of mode e) after.doing)
        → KeepsCore mode old.told before new.told after (text_of mode e)
    lifts_entry now goes t0 start trail is on = record {
      trail = extended_all trail hs;
      told = told_later t0 start trail is on;
      goes_on = goes_on_all trail trail hs (goes_on_same trail);
      core = record {
        past = Entered e ∷ happened_on on.past hs;
        since = since_entered t0 start (extended_all trail hs) (happened_on on.past hs) (since_later t0 start trail is on) e;
        entries = ap (λ es. es ++ e ∷ []) (same_entries on.past hs ∙ on.entries) ∙ sym added;
        core = goes t0 start on.past (p_now t0 start trail is on) (moment_later t0 start trail is on e.moment now) on.core;
      };
    }

    pub lifts_entry_to : ((first : Image) (past : Past) (image : Image) → P image hs → CoreAlone Needs first past before.connections image before.doing → (B : Past) × (entries_of B ≡ entries_of past ++ e ∷ []) × CoreAlone Needs first B after.connections (after_all image hs) after.doing)
        → KeepsCoreTo old.told before new.told after
    lifts_entry_to goes first image is to =
        let gone = goes first to.past image (each_at (TellsContents image) is) to.core in
        record {
          image = after_all image hs;
          told = passes.told ∙ ap (λ t. told_after_all t hs) is ∙ told_contents image hs;
          core = record { past = gone.0; entries = gone.1 ∙ ap (λ es. es ++ e ∷ []) to.entries ∙ sym added; core = gone.2 };
        }
