-- What a legal history says of its trail alone.
use Rattle.std.proofs.Common.{◌≡◌, ℕ, ◌≤◌, ◌<◌, Bool, true, false, ◌||◌, refl, sym, ap, ◌∙◌, subst, Some, List, [], ◌∷◌, length, arith, ⊎_elim, slice_get}
use Rattle.std.specs.FinMap as map
use Rattle.std.proofs.lemmas.List.{append-nil, length-drop}
use Rattle.std.proofs.lemmas.Bool.{cases_lt}
use Rattle.cell_world.specs.Texts.{Text}
use Rattle.cell_world.specs.Keys.{same}
use Rattle.cell_world.specs.Images.{Image, Happening, Committed, Wrote, Reopened, Global, Shard, Trail, image_at, end_of_trail, after_one, global}
use Rattle.cell_world.specs.Plain.{Connections}
use Rattle.cell_world.specs.Meaning.{meaning, next_operation}
use Rattle.cell_world.specs.declared.changes.Edit.{Edit}
use Rattle.cell_world.specs.declared.operations.Op.{Op}
use Rattle.plain_model.specs.declared.history.Entry.{Entry}
use Rattle.plain_model.specs.Differing.{clean}
use Rattle.plain_model.specs.Timelines.{Timeline, Happened, Entered, image_of, happened_of, history_of}
use Rattle.plain_model.specs.OnTrail.{logs_put, was_reopened}
use Rattle.plain_model.specs.Legal.{MayHappen, Unfolds, AllGoing, Legal, KeepsCounter, TriesNumber, IsDetachedIn}
use Rattle.plain_model.specs.Written.{last_moment, by_moment}
use Rattle.plain_model.specs.ByMoments.{TrailByMoments, WasReopenedBy, from_moment, LegalByMoments}
use Rattle.plain_model.proofs.Moments.{get_within, by_moment-later, image_more, Fits, fits_of, now_of, now_next, image_fits, last_le, all_by_now}
use Rattle.plain_model.proofs.LegalBack.{legal_from_moments}

-- the timeline before something happened at a moment
record PastAt (trail : Trail) (t0 : ℕ) (history : List Entry) (t : ℕ) (h : Happening) : Type 0 where
  past : Timeline
  connections : Connections
  unfolds : Unfolds t0 (image_at trail t0) past connections
  fits : Fits trail t0 past
  now : now_of t0 past ≡ t
  entries : history_of past ≡ by_moment t history
  happens : MayHappen (image_at trail t0) past h

some_is : (x y : Happening) → Some x ≡ Some y → x ≡ y
some_is x y is = cc

past_at : (trail : Trail) (t0 : ℕ) (past : Timeline) (cs : Connections) → Unfolds t0 (image_at trail t0) past cs → Fits trail t0 past → (t : ℕ) (h : Happening) → t0 ≤ t → t < now_of t0 past → slice_get trail.happened t ≡ Some h
    → PastAt trail t0 (history_of past) t h
past_at trail t0 [] cs u fits t h lo hi at = absurd (omega (arith, lo, hi))
past_at trail t0 (Entered e ∷ past) cs u fits t h lo hi at =
    let p : PastAt trail t0 (history_of past) t h = past_at trail t0 past u.0 u.1 fits t h lo hi at in
    record { past = p.past; connections = p.connections; unfolds = p.unfolds; fits = p.fits; now = p.now; entries = p.entries ∙ sym (by_moment-later t (history_of past) e (omega (arith, hi, u.2.moment))); happens = p.happens }
past_at trail t0 (Happened g ∷ past) cs u fits t h lo hi at = ⊎_elim
    (λ small. past_at trail t0 past cs u.0 fits.0 t h lo small at)
    (λ big. let is : t ≡ now_of t0 past = omega (arith, big, hi, now_next t0 past g) in
    record {
      past = past;
      connections = cs;
      unfolds = u.0;
      fits = fits.0;
      now = sym is;
      entries = sym (all_by_now trail t0 past cs u.0 t (omega (arith, is)));
      happens = subst (MayHappen (image_at trail t0) past) (some_is g h (sym fits.1 ∙ ap (slice_get trail.happened) (sym is) ∙ at)) u.2;
    })
    (cases_lt t (now_of t0 past))

-- a commit that keeps to the counter puts one log cell at most
few_logs : (old new : ℕ) (ops : List Op) → KeepsCounter old new ops → length ops ≤ 1
few_logs old new [] h = omega arith
few_logs old new (op ∷ []) h = omega arith
few_logs old new (op ∷ other ∷ ops) h = absurd h

few_tried : (next : ℕ) (ops : List Op) → TriesNumber next ops → length ops ≤ 1
few_tried next [] h = omega arith
few_tried next (op ∷ []) h = omega arith
few_tried next (op ∷ other ∷ ops) h = absurd h

module _ (trail : Trail) (t0 : ℕ) where
  further : (location : Text) (h : Happening) (past : Timeline) → WasReopenedBy trail (last_moment t0 (history_of past)) (now_of t0 past) location → WasReopenedBy trail (last_moment t0 (history_of past)) (now_of t0 (Happened h ∷ past)) location
  further location h past w = record { moment = w.moment; at = w.at; cells = w.cells; after = w.after; before = omega (arith, w.before, now_next t0 past h); reopened = w.reopened; here = w.here }

  -- the reopening has a moment, and no entry came since
  reopened_at : (location : Text) (past : Timeline) (cs : Connections) → Unfolds t0 (image_at trail t0) past cs → Fits trail t0 past → was_reopened location past ≡ true → WasReopenedBy trail (last_moment t0 (history_of past)) (now_of t0 past) location
  reopened_at location [] cs u fits was = absurd cc
  reopened_at location (Entered e ∷ past) cs u fits was = absurd cc
  reopened_at location (Happened (Wrote bytes) ∷ past) cs u fits was = further location (Wrote bytes) past (reopened_at location past cs u.0 fits.0 was)
  reopened_at location (Happened (Committed place change took) ∷ past) cs u fits was = further location (Committed place change took) past (reopened_at location past cs u.0 fits.0 was)
  reopened_at location (Happened (Reopened Global cells) ∷ past) cs u fits was = further location (Reopened Global cells) past (reopened_at location past cs u.0 fits.0 was)
  reopened_at location (Happened (Reopened (Shard at) cells) ∷ past) cs u fits was =
      by (same location at) refl was (λ w. further location (Reopened (Shard at) cells) past (reopened_at location past cs u.0 fits.0 w))
    where
      by : (b : Bool) → same location at ≡ b → (b || was_reopened location past) ≡ true
          → (was_reopened location past ≡ true → WasReopenedBy trail (last_moment t0 (history_of past)) (now_of t0 (Happened (Reopened (Shard at) cells) ∷ past)) location)
          → WasReopenedBy trail (last_moment t0 (history_of past)) (now_of t0 (Happened (Reopened (Shard at) cells) ∷ past)) location
      by true is was before = record { moment = now_of t0 past; at = at; cells = cells; after = last_le trail t0 past cs u.0; before = omega (arith, now_next t0 past (Reopened (Shard at) cells)); reopened = fits.1; here = is }
      by false is was before = before was

  module _ (history : List Entry) (t : ℕ) where
    image_then : (h : Happening) (p : PastAt trail t0 history t h) → image_of (image_at trail t0) p.past ≡ image_at trail t
    image_then h p = sym (image_fits trail t0 p.past p.fits) ∙ ap (image_at trail) p.now

    reopened_then : (h : Happening) (location : Text) (p : PastAt trail t0 history t h) → was_reopened location p.past ≡ true → WasReopenedBy trail (last_moment t0 (by_moment t history)) t location
    reopened_then h location p was =
        subst (λ (es : List Entry). WasReopenedBy trail (last_moment t0 es) t location) p.entries (subst (λ m. WasReopenedBy trail (last_moment t0 (history_of p.past)) m location) p.now (reopened_at location p.past p.connections p.unfolds p.fits was))

  clauses : (history : List Entry) → ((t : ℕ) (h : Happening) → t0 ≤ t → slice_get trail.happened t ≡ Some h → PastAt trail t0 history t h) → TrailByMoments trail t0 history
  clauses history pasts = record {
    counter = λ t change lo at. let h : Happening = Committed Global change true in let p : PastAt trail t0 history t h = pasts t h lo at in
        subst (λ (y : Image). KeepsCounter (next_operation (image_at trail t)) (next_operation y) (logs_put change)) (sym (image_more trail t h at))
        (subst (λ (x : Image). KeepsCounter (next_operation x) (next_operation (after_one x h)) (logs_put change)) (image_then history t h p) p.happens);
    tried = λ t change lo at. let h : Happening = Committed Global change false in let p : PastAt trail t0 history t h = pasts t h lo at in
        subst (λ (x : Image). TriesNumber (next_operation x) (logs_put change)) (image_then history t h p) p.happens;
    no_reopening = λ t cells lo at. (pasts t (Reopened Global cells) lo at).happens;
    one = λ t change took lo at. one_at t change took (pasts t (Committed Global change took) lo at);
    shard = λ t location change took lo at. shard_at t location change took (pasts t (Committed (Shard location) change took) lo at);
    detached = λ t location change took lo at gone. detached_at t location change took lo at gone (pasts t (Committed (Shard location) change took) lo at);
    kept = λ t location change lo at gone. let h : Happening = Committed (Shard location) change true in let p : PastAt trail t0 history t h = pasts t h lo at in
        let old : IsDetachedIn (image_of (image_at trail t0) p.past) location = ap (λ i. map.get (global i).away location) (image_then history t h p) ∙ gone in
        subst (λ (y : Image). clean (meaning (image_at trail t)) location (y.at (Shard location)) ≡ clean (meaning (image_at trail t)) location ((image_at trail t).at (Shard location))) (sym (image_more trail t h at))
        (subst (λ (x : Image). clean (meaning x) location ((after_one x h).at (Shard location)) ≡ clean (meaning x) location (x.at (Shard location))) (image_then history t h p) (p.happens.1 old).kept);
  }
    where
      one_at : (t : ℕ) (change : List Edit) (took : Bool) → PastAt trail t0 history t (Committed Global change took) → length (logs_put change) ≤ 1
      one_at t change true p = few_logs _ _ (logs_put change) p.happens
      one_at t change false p = few_tried _ (logs_put change) p.happens

      shard_at : (t : ℕ) (location : Text) (change : List Edit) (took : Bool) → PastAt trail t0 history t (Committed (Shard location) change took) → logs_put change ≡ []
      shard_at t location change true p = p.happens.0
      shard_at t location change false p = p.happens.0

      detached_at : (t : ℕ) (location : Text) (change : List Edit) (took : Bool) → t0 ≤ t → slice_get trail.happened t ≡ Some (Committed (Shard location) change took)
          → IsDetachedIn (image_at trail t) location → PastAt trail t0 history t (Committed (Shard location) change took) → WasReopenedBy trail (last_moment t0 (by_moment t history)) t location
      detached_at t location change true lo at gone p =
          let h : Happening = Committed (Shard location) change true in
          reopened_then history t h location p (p.happens.1 (ap (λ i. map.get (global i).away location) (image_then history t h p) ∙ gone)).reopened
      detached_at t location change false lo at gone p =
          let h : Happening = Committed (Shard location) change false in
          reopened_then history t h location p (p.happens.1 (ap (λ i. map.get (global i).away location) (image_then history t h p) ∙ gone))

-- a legal history's trail
pub trail_by_moments : (trail : Trail) (t0 : ℕ) (going : AllGoing) (history : List Entry) → t0 ≤ end_of_trail trail → Legal t0 (from_moment trail t0) going history → TrailByMoments trail t0 history
trail_by_moments trail t0 going history le legal =
    let past : Timeline = legal.timeline in
    let fits : Fits trail t0 past = fits_of trail t0 past [] (append-nil (happened_of past) ∙ legal.happened) in
    let now : now_of t0 past ≡ end_of_trail trail = omega (arith, le, ap length legal.happened, length-drop t0 trail.happened) in
    subst (TrailByMoments trail t0) legal.entries (clauses trail t0 (history_of past) (λ t h lo at. past_at trail t0 past legal.connections legal.unfolds fits t h lo (omega (arith, now, get_within trail.happened t h at)) at))

pub trail_from_moments : (trail : Trail) (t0 : ℕ) (going : AllGoing) (history : List Entry) → t0 ≤ end_of_trail trail → LegalByMoments trail t0 going history → TrailByMoments trail t0 history
trail_from_moments trail t0 going history le legal = trail_by_moments trail t0 going history le (legal_from_moments trail t0 going history le legal)
