-- A core with lines still to be written goes on.
use Rattle.std.proofs.Common.{◌≡◌, ℕ, refl, sym, ap, ◌∙◌, subst, List, [], ◌∷◌}
use Rattle.cell_world.specs.Texts.{Text}
use Rattle.cell_world.specs.Images.{Image, Happening, Trail, extended}
use Rattle.cell_world.specs.Outside.{Outside, IfContents}
use Rattle.cell_world.specs.Plain.{nobody}
use Rattle.plain_model.specs.Headline.{GoesOnFrom}
use Rattle.plain_model.specs.RunSoFar.{IsSince}
use Rattle.plain_model.specs.Timelines.{Timeline, Happened, history_of, image_of}
use Rattle.plain_model.specs.Written.{Mode}
use Rattle.plain_model.proofs.RunSoFar.{goes_on_more, goes_on_same, goes_on_then, image_is, since_happened}
use Rattle.op_steps.specs.Passing.{Passes, told_after_all}
use Rattle.session_laws.specs.Contract.{Seen}
use Rattle.session_laws.specs.Core.{Core}
use Rattle.session_laws.specs.Doing.{AllDoing}
use Rattle.session_laws.specs.Needs.{Needs}
use Rattle.operation_laws.specs.Courses.{happened_on}
use Rattle.operation_laws.proofs.Lifts.{extended_all, told_all}
use Rattle.manager_core.specs.Cores.{KeepsWaiting, Waits}
use Rattle.manager_core.specs.Steady.{Becomes, IsSteady, seen_with}
use Rattle.manager_core.proofs.Steadiness.{passes_with}

-- ---- trails with several things more

goes_on_all : (first trail : Trail) (hs : List Happening) → GoesOnFrom first trail → GoesOnFrom first (extended_all trail hs)
goes_on_all first trail [] on = on
goes_on_all first trail (h ∷ hs) on = goes_on_all first (extended trail h) hs (goes_on_more first trail h on)

since_all : (t0 : ℕ) (start : Image) (trail : Trail) (past : Timeline) (hs : List Happening) → IsSince t0 start trail past → IsSince t0 start (extended_all trail hs) (happened_on past hs)
since_all t0 start trail past [] since = since
since_all t0 start trail past (h ∷ hs) since = since_all t0 start (extended trail h) (Happened h ∷ past) hs (since_happened t0 start trail past since h)

same_entries : (past : Timeline) (hs : List Happening) → history_of (happened_on past hs) ≡ history_of past
same_entries past [] = refl
same_entries past (h ∷ hs) = same_entries (Happened h ∷ past) hs

-- ---- one call

-- where a core goes on by what a call made of the stores, whatever lines are still to be written, it goes on over what is told
pub lifts_waiting : (mode : Mode) (P : Image → List Happening → Type 0) (old new : Outside) (passes : Passes P old new) (before after : Seen) → after.history ≡ before.history
    → ((rest : Text) (t0 : ℕ) (start : Image) (past : Timeline) → P (image_of start past) passes.happened → Core Needs t0 start mode past before.connections rest before.doing → Core Needs t0 start mode (happened_on past passes.happened) after.connections rest after.doing)
    → KeepsWaiting mode old.told before new.told after
lifts_waiting mode P old new passes before after same goes rest t0 start trail is on = record {
  trail = extended_all trail passes.happened;
  told = passes.told ∙ ap (λ t. told_after_all t passes.happened) is ∙ told_all trail passes.happened;
  goes_on = goes_on_all trail trail passes.happened (goes_on_same trail);
  core = record {
    past = happened_on on.past passes.happened;
    since = since_all t0 start trail on.past passes.happened on.since;
    entries = same_entries on.past passes.happened ∙ on.entries ∙ sym same;
    core = goes rest t0 start on.past (subst (λ i. P i passes.happened) (sym (image_is t0 start trail on.past on.since)) (subst (λ t. IfContents t (λ image. P image passes.happened)) is passes.each)) on.core;
  };
}

pub waits_by : (P : Image → List Happening → Type 0) (old new : Outside) (passes : Passes P old new) (before after : AllDoing)
    → ((rest : Text) (t0 : ℕ) (start : Image) (mode : Mode) (past : Timeline) → IsSteady before (image_of start past) → P (image_of start past) passes.happened → Core Needs t0 start mode past nobody rest before → Core Needs t0 start mode (happened_on past passes.happened) nobody rest after)
    → Waits old new before after
waits_by P old new passes before after goes steady mode history = lifts_waiting mode (λ image hs. IsSteady before image × P image hs) old new (passes_with P old new passes (IsSteady before) steady) (seen_with history before) (seen_with history after) refl
    (λ rest t0 start past p core. goes rest t0 start mode past p.0 p.1 core)

-- ---- one part after another

pub waits_then : (a b c : Outside) (one two three : AllDoing) → Becomes a b one two → Waits a b one two → Waits b c two three → Waits a c one three
waits_then a b c one two three part first second steady mode history rest t0 start trail is on =
    let mids = first steady mode history rest t0 start trail is on in
    let all = second (part.steady steady) mode history rest t0 start mids.trail mids.told mids.core in
    record { trail = all.trail; told = all.told; goes_on = goes_on_then trail mids.trail all.trail mids.goes_on all.goes_on; core = all.core }

pub waits_same : (a b : Outside) (doing : AllDoing) → b.told ≡ a.told → Waits a b doing doing
waits_same a b doing same steady mode history rest t0 start trail is on = record { trail = trail; told = same ∙ is; goes_on = goes_on_same trail; core = on }
