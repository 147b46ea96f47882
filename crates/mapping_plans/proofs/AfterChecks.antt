-- The checks that come after the first ones: they decide, where none of the first ones holds.
use Rattle.std.proofs.Common.{◌≡◌, Bool, true, false, cond, List, [], ◌∷◌, ◌++◌, Option, Some, None, is_some, refl, sym, ap, ◌∙◌, subst}
use Rattle.std.specs.Prelude.{Result, Ok, Err, IfErr, IfOk, IsTrue}
use Rattle.std.proofs.lemmas.Option.{same_Some}
use Rattle.cell_world.specs.Texts.{Text}
use Rattle.cell_world.specs.Images.{Image, global}
use Rattle.cell_world.specs.Meaning.{meaning}
use Rattle.cell_world.specs.Outside.{Told, IfContents}
use Rattle.cell_world.specs.Plain.{PlainState, is_location_of}
use Rattle.cell_world.specs.Sound.{Sound}
use Rattle.cell_world.specs.Spelled.{is_spelled}
use Rattle.cell_world.specs.Stores.{IsStore}
use Rattle.cell_world.specs.declared.cells.Cell.TheVariants as cell
use Rattle.cell_world.specs.declared.cells.MapKind.{MapKind}
use Rattle.cell_world.specs.declared.operations.Op.{Op}
use Rattle.cell_world.specs.declared.operations.Piece.{Piece}
use Rattle.cell_world.proofs.ContentsLaws.{contents_weaker, contents_both}
use Rattle.op_log.specs.ShortChanges.{IsFreeToken}
use Rattle.global_tables.specs.Known.{Known, known_of}
use Rattle.plain_model.specs.declared.commands.Command.{Command}
use Rattle.plain_model.specs.declared.plans.Plan.{Plan}
use Rattle.plain_model.specs.declared.plans.Plan.TheVariants as plan
use Rattle.plain_model.specs.declared.plans.PlanStop.{PlanStop}
use Rattle.plain_model.specs.declared.plans.PlanStop.TheVariants as stop
use Rattle.plain_model.specs.declared.replies.Refusal.{Refusal}
use Rattle.plain_model.specs.Refusing.{Check, first_refusal, key_in, mapping_of}
use Rattle.map_ops.specs.Planning.{Refuses, Plans, PlansLong, PlansWith, IsLongPlan}
use Rattle.map_ops.proofs.Checks.{first_then, first_else}
use Rattle.mapping_plans.specs.Exchanges.{PlansOp, PlansSome}
use Rattle.mapping_plans.specs.Finding.{first_checks, IsNamed, FindsWith, ChecksAfter}
use Rattle.mapping_plans.specs.declared.finding.Owned.{Owned}

-- where no check of two lists holds none of either does
pub none_of_both : (checks more : List Check) → first_refusal (checks ++ more) ≡ None → (first_refusal checks ≡ None) × (first_refusal more ≡ None)
none_of_both [] more e = (refl, e)
none_of_both (check ∷ checks) more e = by check.0 e (none_of_both checks more)
  where
    by : (b : Bool) → cond b (Some check.1) (first_refusal (checks ++ more)) ≡ None → (first_refusal (checks ++ more) ≡ None → (first_refusal checks ≡ None) × (first_refusal more ≡ None))
        → (cond b (Some check.1) (first_refusal checks) ≡ None) × (first_refusal more ≡ None)
    by true e later = cc
    by false e later = later e

-- ---- a command, on one state

module _ (c : Command) (wanted : Option MapKind) (name text : Text) (more : PlainState → Option Text → Option Piece → List Check) (asks : ChecksAfter c wanted name text more) (image : Image) where
  abbrev s : PlainState
  s = meaning image

  -- one of the first checks refuses it
  pub refused_at_first : (r : Refusal) → first_refusal (first_checks s wanted name text) ≡ Some r → Refuses c (Some r) image
  refused_at_first r e session connections = asks image session connections
      ∙ first_then (first_checks s wanted name text) (more s (key_in s name text) (mapping_of s name text)) (ap is_some e) ∙ e

  -- or those after them decide, of the mapping that is named
  pub decided_after : (key : Text) (piece : Piece) → IsNamed wanted name text key piece s → (found : Option Refusal) → found ≡ first_refusal (more s (Some key) (Some piece)) → Refuses c found image
  decided_after key piece named found e session connections = asks image session connections
      ∙ first_else (first_checks s wanted name text) (more s (key_in s name text) (mapping_of s name text)) (ap is_some named.passes)
      ∙ (λ i. first_refusal (more s (named.read i) (named.owned i)))
      ∙ sym e

-- ---- over what is told

-- What is so of the mapping that was named, where the image is sound and the copy of the tables is what the global cells say.
abbrev pub OfNamed : Known → Option MapKind → Text → Text → Owned → (Image → Type 0) → Image → Type 0
OfNamed known wanted name text owned P image = Sound image → known ≡ known_of (global image) → IsNamed wanted name text owned.key owned.piece (meaning image) → P image

module _ (told : Told) (known : Known) (c : Command) (wanted : Option MapKind) (name text : Text) (more : PlainState → Option Text → Option Piece → List Check) (asks : ChecksAfter c wanted name text more) where
  -- what stopped the search for the mapping stops the command
  pub stopped_at_first : (found : Result Owned PlanStop) (e : PlanStop) → found ≡ Err e → IfContents told (FindsWith known wanted name text found) → IfContents told (PlansWith known c (Err e))
  stopped_at_first found e is finds = by e (subst (λ (r : Result Owned PlanStop). IfContents told (FindsWith known wanted name text r)) is finds)
    where
      by : (e : PlanStop) → IfContents told (FindsWith known wanted name text (Err e)) → IfContents told (PlansWith known c (Err e))
      by (stop.Refused r) = contents_weaker told (FindsWith known wanted name text (Err (stop.Refused r))) (PlansWith known c (Err (stop.Refused r)))
          (λ image finds sound copy session connections. refused_at_first c wanted name text more asks image r (finds sound copy) session connections)
      by stop.Store = contents_weaker told (FindsWith known wanted name text (Err stop.Store)) (PlansWith known c (Err stop.Store)) (λ image finds sound copy. tt)
      by stop.Memory = contents_weaker told (FindsWith known wanted name text (Err stop.Memory)) (PlansWith known c (Err stop.Memory)) (λ image finds sound copy. tt)

  module _ (found : Result Owned PlanStop) (owned : Owned) (is : found ≡ Ok owned) (finds : IfContents told (FindsWith known wanted name text found)) where
    abbrev Late : Option Refusal → Image → Type 0
    Late late = OfNamed known wanted name text owned (λ image. late ≡ first_refusal (more (meaning image) (Some owned.key) (Some owned.piece)))

    named : IfContents told (FindsWith known wanted name text (Ok owned))
    named = subst (λ (r : Result Owned PlanStop). IfContents told (FindsWith known wanted name text r)) is finds

    -- a later check refuses the command
    pub refused_after : (late : Option Refusal) (r : Refusal) → late ≡ Some r → IfContents told (Late late) → IfContents told (PlansWith known c (Err (stop.Refused r)))
    refused_after late r is_late decides = contents_weaker told (λ image. FindsWith known wanted name text (Ok owned) image × Late late image) (PlansWith known c (Err (stop.Refused r)))
        (λ image both sound copy session connections. decided_after c wanted name text more asks image owned.key owned.piece (both.0 sound copy) late (both.1 sound copy (both.0 sound copy)) session connections ∙ is_late)
        (contents_both told (FindsWith known wanted name text (Ok owned)) (Late late) named decides)

    -- or none does, and what is planned is planned
    pub planned_after : (result : Result Plan PlanStop) (late : Option Refusal) → late ≡ None → IfContents told (Late late) → (P : Image → Type 0) → IfContents told P
        → ((image : Image) → Sound image → known ≡ known_of (global image) → IsNamed wanted name text owned.key owned.piece (meaning image) → Refuses c None image
        → first_refusal (more (meaning image) (Some owned.key) (Some owned.piece)) ≡ None → P image → PlansWith known c result image)
        → IfContents told (PlansWith known c result)
    planned_after result late none decides P holds law = contents_weaker told (λ image. FindsWith known wanted name text (Ok owned) image × (Late late image × P image)) (PlansWith known c result)
        (λ image all sound copy.
        let n = all.0 sound copy in
        let decided = all.1.0 sound copy n in
        law image sound copy n (subst (λ (r : Option Refusal). Refuses c r image) none (decided_after c wanted name text more asks image owned.key owned.piece n late decided)) (sym decided ∙ none) all.1.1 sound copy)
        (contents_both told (FindsWith known wanted name text (Ok owned)) (λ image. Late late image × P image) named (contents_both told (Late late) P decides holds))

    -- so where an operation is planned that the image admits
    pub op_after : (now : Told) → now ≡ told → IfContents told (λ image. IsStore (global image)) → (op : Op) (result : Result Plan PlanStop) → IfContents now (PlansOp owned.piece op result)
        → (late : Option Refusal) → late ≡ None → IfContents told (Late late)
        → ((image : Image) → Sound image → IsStore (global image) → IsNamed wanted name text owned.key owned.piece (meaning image) → IsTrue (is_location_of (meaning image) owned.piece.location) → IsFreeToken owned.piece.token
        → Refuses c None image → first_refusal (more (meaning image) (Some owned.key) (Some owned.piece)) ≡ None → PlansLong c op image)
        → IfContents told (PlansWith known c result)
    op_after now same store op result plans late none decides law =
        planned_after result late none decides (λ image. IsStore (global image) × PlansOp owned.piece op result image)
        (contents_both told (λ image. IsStore (global image)) (PlansOp owned.piece op result) store (subst (λ (t : Told). IfContents t (PlansOp owned.piece op result)) same plans))
        (λ image sound copy n accepts passes both. by image (λ known free. law image sound both.0 n known free accepts passes) result both.1)
      where
        by : (image : Image) → (IsTrue (is_location_of (meaning image) owned.piece.location) → IsFreeToken owned.piece.token → PlansLong c op image) → (r : Result Plan PlanStop) → PlansOp owned.piece op r image → PlansWith known c r image
        by image law (Ok p) plans sound copy = subst (λ (p : Plan). Plans c (Ok p) image) (sym plans.0) (law plans.1 plans.2)
        by image law (Err e) is sound copy = subst (λ (e : PlanStop). Plans c (Err e) image) (sym is.0) tt

    -- and where it may be that there is none
    pub some_after : (now : Told) → now ≡ told → IfContents told (λ image. IsStore (global image)) → (op : Option Op) (result : Result Plan PlanStop) → IfContents now (PlansSome owned.piece op result)
        → (late : Option Refusal) → late ≡ None → IfContents told (Late late)
        → ((image : Image) → Sound image → IsStore (global image) → IsNamed wanted name text owned.key owned.piece (meaning image) → IsTrue (is_location_of (meaning image) owned.piece.location) → IsFreeToken owned.piece.token
        → Refuses c None image → first_refusal (more (meaning image) (Some owned.key) (Some owned.piece)) ≡ None → (made : Op) × (op ≡ Some made) × PlansLong c made image)
        → IfContents told (PlansWith known c result)
    some_after now same store op result plans late none decides law =
        planned_after result late none decides (λ image. IsStore (global image) × PlansSome owned.piece op result image)
        (contents_both told (λ image. IsStore (global image)) (PlansSome owned.piece op result) store (subst (λ (t : Told). IfContents t (PlansSome owned.piece op result)) same plans))
        (λ image sound copy n accepts passes both. by image op (λ known free. law image sound both.0 n known free accepts passes) result both.1)
      where
        by : (image : Image) (o : Option Op) → (IsTrue (is_location_of (meaning image) owned.piece.location) → IsFreeToken owned.piece.token → (made : Op) × (o ≡ Some made) × PlansLong c made image)
            → (r : Result Plan PlanStop) → PlansSome owned.piece o r image → PlansWith known c r image
        by image None law (Ok p) plans sound copy = absurd plans
        by image None law (Err e) is sound copy = subst (λ (e : PlanStop). Plans c (Err e) image) (sym is) tt
        by image (Some o) law (Ok p) plans sound copy =
            let made = law plans.1 plans.2 in
            subst (λ (p : Plan). Plans c (Ok p) image) (sym (plans.0 ∙ ap plan.Long (same_Some o made.0 made.1))) made.2
        by image (Some o) law (Err e) is sound copy = subst (λ (e : PlanStop). Plans c (Err e) image) (sym is.0) tt

-- ---- whatever the image

-- an operation whose log cell has a spelling is the plan of a long command, and so is none
pub op_is_long : (op : Op) → IsTrue (is_spelled (cell.Log op)) → (result : Result Plan PlanStop) → IfOk result (λ p. p ≡ plan.Long op) → IfErr result (λ e. e ≡ stop.Memory) → IsLongPlan result
op_is_long op spelled (Ok p) is none = subst (λ (p : Plan). IsLongPlan (Ok p)) (sym is) spelled
op_is_long op spelled (Err e) is none = subst (λ (e : PlanStop). IsLongPlan (Err e)) (sym none) tt
