-- Commands that need a mapping without rows: what is checked of rows is checked last.
use Rattle.std.proofs.Common.{◌≡◌, Bool, true, false, cond, List, [], ◌∷◌, ◌++◌, Option, Some, None, is_some, sym, ap, ◌∙◌, subst}
use Rattle.std.specs.Prelude.{Result, Ok, Err, IsTrue}
use Rattle.cell_world.specs.Texts.{Text}
use Rattle.cell_world.specs.Images.{Image, global}
use Rattle.cell_world.specs.Meaning.{meaning}
use Rattle.cell_world.specs.Outside.{Told, IfContents, TellsCells}
use Rattle.cell_world.specs.Plain.{PlainState, is_location_of}
use Rattle.cell_world.specs.Sound.{Sound}
use Rattle.cell_world.specs.Stores.{IsStore}
use Rattle.cell_world.specs.declared.cells.MapKind.{MapKind}
use Rattle.cell_world.specs.declared.operations.Op.{Op}
use Rattle.cell_world.specs.declared.operations.Piece.{Piece}
use Rattle.cell_world.proofs.ContentsLaws.{contents_weaker, contents_both, contents_store}
use Rattle.global_tables.specs.Known.{Known, known_of}
use Rattle.op_log.specs.ShortChanges.{IsFreeToken}
use Rattle.plain_model.specs.declared.commands.Command.{Command}
use Rattle.plain_model.specs.declared.plans.Plan.{Plan}
use Rattle.plain_model.specs.declared.plans.PlanStop.{PlanStop}
use Rattle.plain_model.specs.declared.plans.PlanStop.TheVariants as stop
use Rattle.plain_model.specs.declared.replies.Refusal.{Refusal}
use Rattle.plain_model.specs.declared.replies.Refusal.TheVariants.{RowsPresent}
use Rattle.plain_model.specs.Refusing.{Check, first_refusal, rows_present}
use Rattle.map_ops.specs.Planning.{Refuses, Plans, PlansLong, PlansWith}
use Rattle.map_ops.proofs.Checks.{first_then, first_else}
use Rattle.mapping_plans.specs.Finding.{IsNamed, FindsWith, ChecksAfter}
use Rattle.mapping_plans.specs.SiteRows.{HasRowsUnder, PlansIfEmpty}
use Rattle.mapping_plans.specs.declared.finding.Owned.{Owned}
use Rattle.mapping_plans.proofs.AfterChecks.{OfNamed, decided_after, refused_after}
use Rattle.mapping_plans.proofs.NamedPieces.{named_stands, named_here}

-- the checks of a command, that of rows last
abbrev pub with_rows_last : (PlainState → Option Piece → List Check) → PlainState → Option Text → Option Piece → List Check
with_rows_last early s key piece = early s piece ++ rows_present s piece ∷ []

module _ (told : Told) (known : Known) (c : Command) (wanted : Option MapKind) (name text : Text) (early : PlainState → Option Piece → List Check) (asks : ChecksAfter c wanted name text (with_rows_last early))
    (found : Result Owned PlanStop) (owned : Owned) (is : found ≡ Ok owned) (finds : IfContents told (FindsWith known wanted name text found))
    (refusal : Option Refusal) (first : IfContents told (λ image. known ≡ known_of (global image) → refusal ≡ first_refusal (early (meaning image) (Some owned.piece)))) where
  abbrev First : Image → Type 0
  First image = known ≡ known_of (global image) → refusal ≡ first_refusal (early (meaning image) (Some owned.piece))

  abbrev rows_of : Image → List Check
  rows_of image = rows_present (meaning image) (Some owned.piece) ∷ []

  -- the image admits the operation where no check holds
  abbrev Admits : Op → Type 0
  Admits op = (image : Image) → Sound image → IsStore (global image) → IsNamed wanted name text owned.key owned.piece (meaning image) → IsTrue (is_location_of (meaning image) owned.piece.location) → IsFreeToken owned.piece.token
      → Refuses c None image → first_refusal (early (meaning image) (Some owned.piece)) ≡ None → (rows_present (meaning image) (Some owned.piece)).0 ≡ false → PlansLong c op image

  -- an earlier check refuses
  pub early_refused : (r : Refusal) → refusal ≡ Some r → IfContents told (PlansWith known c (Err (stop.Refused r)))
  early_refused r some = refused_after told known c wanted name text (with_rows_last early) asks found owned is finds refusal r some
      (contents_weaker told First (OfNamed known wanted name text owned (λ image. refusal ≡ first_refusal (with_rows_last early (meaning image) (Some owned.key) (Some owned.piece))))
      (λ image decides sound copy n. decides copy ∙ sym (first_then (early (meaning image) (Some owned.piece)) (rows_of image) (sym (ap is_some (decides copy)) ∙ ap is_some some))) first)

  -- on an image on which none does
  module _ (op : Op) (law : Admits op) (image : Image) (sound : Sound image) (n : IsNamed wanted name text owned.key owned.piece (meaning image)) (passes : first_refusal (early (meaning image) (Some owned.piece)) ≡ None) (store : IsStore (global image)) where
    decides : (has : Bool) → HasRowsUnder owned.piece has image → Refuses c (cond has (Some RowsPresent) None) image
    decides has rows = decided_after c wanted name text (with_rows_last early) asks image owned.key owned.piece n (cond has (Some RowsPresent) None)
        (ap (λ (b : Bool). cond b (Some RowsPresent) None) (rows.present sound (named_stands image sound wanted name text owned.key owned.piece n).0 (named_here image sound wanted name text owned.key owned.piece n rows.known))
        ∙ sym (first_else (early (meaning image) (Some owned.piece)) (rows_of image) (ap is_some passes)))

    by : (r : Result Plan PlanStop) → PlansIfEmpty owned.piece op r image → Plans c r image
    by (Ok p) planned =
        let rows = planned.0 in
        let empty = sym (rows.present sound (named_stands image sound wanted name text owned.key owned.piece n).0 (named_here image sound wanted name text owned.key owned.piece n rows.known)) in
        subst (λ (p : Plan). Plans c (Ok p) image) (sym planned.1.0) (law image sound store n planned.1.1 planned.1.2 (decides false rows) passes empty)
    by (Err (stop.Refused r)) refuses = λ session connections. decides true refuses.1 session connections ∙ ap Some (sym refuses.0)
    by (Err stop.Store) none = tt
    by (Err stop.Memory) none = tt

  -- None does, and rows decide.
  pub empty_after : refusal ≡ None → (now : Told) → now ≡ told → TellsCells told → (op : Op) (result : Result Plan PlanStop) → IfContents now (PlansIfEmpty owned.piece op result)
      → Admits op
      → IfContents told (PlansWith known c result)
  empty_after none now same cells op result plans law =
      contents_weaker told (λ image. FindsWith known wanted name text (Ok owned) image × (First image × (IsStore (global image) × PlansIfEmpty owned.piece op result image))) (PlansWith known c result)
      (λ image all sound copy. by op law image sound (all.0 sound copy) (sym (all.1.0 copy) ∙ none) all.1.1.0 result all.1.1.1)
      (contents_both told (FindsWith known wanted name text (Ok owned)) (λ image. First image × (IsStore (global image) × PlansIfEmpty owned.piece op result image))
      (subst (λ (r : Result Owned PlanStop). IfContents told (FindsWith known wanted name text r)) is finds)
      (contents_both told First (λ image. IsStore (global image) × PlansIfEmpty owned.piece op result image) first
      (contents_both told (λ image. IsStore (global image)) (PlansIfEmpty owned.piece op result) (contents_store told cells) (subst (λ (t : Told). IfContents t (PlansIfEmpty owned.piece op result)) same plans))))
