-- The numbers of a legal history by moments are those of its timeline.
use Rattle.std.proofs.Common.{◌≡◌, ◌⊎◌, inl, inr, ⊎_elim, ℕ, zero, suc, ◌+◌, ◌-◌, ◌≤◌, arith, sym, ap, ◌∙◌, subst, Some, Bool, List, [], ◌∷◌, drop, slice_get}
use Rattle.cell_world.specs.Lists.{IsOneOf}
use Rattle.cell_world.specs.Images.{Trail, Place, Committed, image_at, end_of_trail}
use Rattle.cell_world.specs.Sound.{Sound}
use Rattle.cell_world.specs.declared.changes.Edit.{Edit}
use Rattle.cell_world.specs.declared.operations.Op.{Op}
use Rattle.cell_world.proofs.ListLaws.{one_of_two}
use Rattle.plain_model.specs.declared.history.Entry.{Entry}
use Rattle.plain_model.specs.Timelines.{Timeline, Happened, Entered, happened_of, image_of}
use Rattle.plain_model.specs.OnTrail.{logs_put}
use Rattle.plain_model.specs.Legal.{AllGoing, Legal}
use Rattle.plain_model.specs.ByMoments.{LegalByMoments, from_moment}
use Rattle.plain_model.proofs.LegalBack.{legal_from_moments}
use Rattle.plain_model.proofs.Moments.{get_drop}
use Rattle.plain_model.proofs.OneTimeline.{image_now}
use Rattle.history_laws.specs.Given.{WasEverTried, IsOfRun}
use Rattle.history_laws.proofs.NumberLaws.{ever_more, of_run, number_of_run, named_was_tried}

one_got : {X : Type 0} (xs : List X) (i : ℕ) (x : X) → slice_get xs i ≡ Some x → IsOneOf xs x
one_got [] i x at = absurd cc
one_got (y ∷ ys) zero x at = inl cc
one_got (y ∷ ys) (suc i) x at = inr (one_got ys i x at)

-- what a commit of the timeline was to put was tried
committed_tried : (past : Timeline) (place : Place) (change : List Edit) (took : Bool) (op : Op) → IsOneOf (happened_of past) (Committed place change took) → IsOneOf (logs_put change) op → WasEverTried past op
committed_tried [] place change took op one puts = absurd one
committed_tried (Entered e ∷ past) place change took op one puts = committed_tried past place change took op one puts
committed_tried (Happened h ∷ past) place change took op one puts = ⊎_elim
    (λ before. ever_more past h op (committed_tried past place change took op before puts))
    (λ now. ⊎_elim (λ same. subst (λ h. WasEverTried (Happened h ∷ past) op) (sym same) (inl puts)) (λ none. absurd none) now)
    (one_of_two (happened_of past) (h ∷ []) (Committed place change took) one)

module _ (trail : Trail) (t0 : ℕ) (going : AllGoing) (history : List Entry) (le : t0 ≤ end_of_trail trail) (by_moments : LegalByMoments trail t0 going history) (sound : Sound (image_at trail t0)) where
  in_order : Legal t0 (from_moment trail t0) going history
  in_order = legal_from_moments trail t0 going history le by_moments

  -- of the run that led to the end of the trail
  at_end : (number : ℕ) → IsOfRun (image_at trail t0) (image_of (image_at trail t0) in_order.timeline) number → IsOfRun (image_at trail t0) (image_at trail (end_of_trail trail)) number
  at_end number of = subst (λ now. IsOfRun (image_at trail t0) now number) (image_now trail t0 in_order.timeline le in_order.happened) of

  pub tried_at_moment : (t : ℕ) (place : Place) (change : List Edit) (took : Bool) (op : Op) → t0 ≤ t → slice_get trail.happened t ≡ Some (Committed place change took) → IsOneOf (logs_put change) op
      → IsOfRun (image_at trail t0) (image_at trail (end_of_trail trail)) op.number
  tried_at_moment t place change took op from at puts =
      let here : t0 + (t - t0) ≡ t = omega (arith, from) in
      let got : slice_get (drop t0 trail.happened) (t - t0) ≡ Some (Committed place change took) = get_drop t0 trail.happened (t - t0) ∙ ap (slice_get trail.happened) here ∙ at in
      let one : IsOneOf (happened_of in_order.timeline) (Committed place change took) = subst (λ hs. IsOneOf hs (Committed place change took)) (sym in_order.happened) (one_got (drop t0 trail.happened) (t - t0) (Committed place change took) got) in
      at_end op.number (of_run t0 (image_at trail t0) in_order.timeline in_order.connections in_order.unfolds sound op (committed_tried in_order.timeline place change took op one puts))

  pub named_by_entry : (e : Entry) → IsOneOf history e → (e.operation ≡ 0) ⊎ IsOfRun (image_at trail t0) (image_at trail (end_of_trail trail)) e.operation
  named_by_entry e one = ⊎_elim (λ none. inl none)
      (λ t. inr (at_end e.operation (number_of_run t0 (image_at trail t0) in_order.timeline in_order.connections in_order.unfolds sound e.operation t)))
      (named_was_tried t0 (image_at trail t0) in_order.timeline in_order.connections in_order.unfolds e (subst (λ es. IsOneOf es e) (sym in_order.entries) one))
