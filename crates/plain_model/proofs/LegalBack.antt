-- What is legal at each moment is legal on the timeline that the moments tell.
use Rattle.std.proofs.Common.{◌≡◌, ℕ, zero, suc, ◌+◌, ◌-◌, ◌≤◌, ◌<◌, refl, sym, ap, ◌∙◌, subst, Some, List, [], ◌∷◌, ◌++◌, length, arith, take, drop, ⊎_elim, slice_get, cond, Bool, true, false, nat_le}
use Rattle.std.specs.Prelude.{filter}
use Rattle.std.proofs.lemmas.List.{take_all, length_push, length-drop}
use Rattle.std.proofs.lemmas.Option.{slice_get_cases}
use Rattle.std.proofs.lemmas.Bool.{le-leb, lt-leb}
use Rattle.cell_world.specs.Images.{Image, Happening, Trail, image_at, end_of_trail}
use Rattle.cell_world.specs.Plain.{PlainState, Connections, nobody, with_connections}
use Rattle.cell_world.specs.Meaning.{meaning}
use Rattle.plain_model.specs.declared.history.Entry.{Entry}
use Rattle.plain_model.specs.Timelines.{Timeline, Happened, Entered, image_of, facts_of, happened_of, history_of, past_of}
use Rattle.plain_model.specs.Near.{Near}
use Rattle.plain_model.specs.JobSteps.{asked_job}
use Rattle.plain_model.specs.Follows.{Follows}
use Rattle.plain_model.specs.OnTrail.{OnTrail, NoneOwed}
use Rattle.plain_model.specs.Legal.{IsPlanned, NamesItsOwn, AreNamed, MayHappen, IsAtRest, Unfolds, AllGoing, Legal}
use Rattle.plain_model.specs.Written.{last_moment, by_moment}
use Rattle.plain_model.specs.ByMoments.{moment_of, with_happened, timeline_at, FollowsAt, LegalByMoments, from_moment}
use Rattle.plain_model.proofs.Moments.{get_within, get_drop, take_next, last_moment_push, stretch_none, woven_next, woven_entry, Fits, now_of, now_next, image_fits, facts_fit}

near_without : (a b : PlainState) (cs : Connections) → a.connections ≡ nobody → b.connections ≡ nobody → Near (with_connections a cs) (with_connections b cs) → Near a b
near_without a b cs an bn near = record {
  same = ap (λ c. record a { held = b.held; connections = c }) an ∙ ap (λ s. with_connections s nobody) near.same ∙ ap (with_connections b) (sym bn);
  here = near.here;
  rows = near.rows;
  status = near.status;
}

-- a filter that takes a front
filter_front : {X : Type 0} (p : X → Bool) (xs : List X) (i : ℕ) → ((j : ℕ) (x : X) → slice_get xs j ≡ Some x → j < i → p x ≡ true) → ((j : ℕ) (x : X) → slice_get xs j ≡ Some x → i ≤ j → p x ≡ false) → filter p xs ≡ take i xs
filter_front {X} p [] i holds fails = sym (take_all {A = X} i [] (omega arith))
filter_front p (x ∷ xs) zero holds fails = ap (λ b. cond b (x ∷ filter p xs) (filter p xs)) (fails 0 x refl (omega arith)) ∙ filter_front p xs zero (λ j y at lt. absurd (omega (arith, lt))) (λ j y at le. fails (suc j) y at (omega arith))
filter_front p (x ∷ xs) (suc i) holds fails = ap (λ b. cond b (x ∷ filter p xs) (filter p xs)) (holds 0 x refl (omega arith)) ∙ ap (λ ys. x ∷ ys) (filter_front p xs i (λ j y at lt. holds (suc j) y at (omega (arith, lt))) (λ j y at le. fails (suc j) y at (omega (arith, le))))

pub moment_at : (t0 : ℕ) (history : List Entry) (i : ℕ) (e : Entry) → slice_get history i ≡ Some e → moment_of t0 history (i + 1) ≡ e.moment
moment_at t0 history i e at = ap (last_moment t0) (take_next history i e at) ∙ last_moment_push t0 (take i history) e

module _ (trail : Trail) (t0 : ℕ) (going : AllGoing) (history : List Entry) (within : t0 ≤ end_of_trail trail) (legal : LegalByMoments trail t0 going history) where
  abbrev pub M : ℕ → ℕ
  M i = moment_of t0 history i

  climbs : (i k : ℕ) → i + k ≤ length history → M i ≤ M (i + k)
  climbs i zero le = let e : i + zero ≡ i = omega arith in omega (arith, ap M e)
  climbs i (suc k) le = let e : i + suc k ≡ i + k + 1 = omega arith in omega (arith, climbs i k (omega (arith, le)), legal.moments (i + k) (omega (arith, le)), ap M e)

  rises : (i j : ℕ) → i ≤ j → j ≤ length history → M i ≤ M j
  rises i j le hi = let e : i + (j - i) ≡ j = omega (arith, le) in omega (arith, climbs i (j - i) (omega (arith, le, hi)), ap M e)

  -- the entries by a moment
  entries_by : (i m : ℕ) → i ≤ length history → M i ≤ m → (i < length history → m < M (i + 1)) → by_moment m history ≡ take i history
  entries_by i m le from to = filter_front (λ (e : Entry). nat_le e.moment m) history i
      (λ j e at lt. le-leb e.moment m (omega (arith, from, moment_at t0 history j e at, rises (j + 1) i (omega (arith, lt)) le)))
      (λ j e at lt. let short : j < length history = get_within history j e at in
      lt-leb e.moment m (omega (arith, moment_at t0 history j e at, rises (i + 1) (j + 1) (omega (arith, lt)) (omega (arith, short)), to (omega (arith, lt, short)))))

  -- the first i entries and what happened up to moment m
  abbrev pub P : ℕ → ℕ → Timeline
  P i m = timeline_at trail t0 (take i history) m

  pub record Back (i m : ℕ) (past : Timeline) : Type 0 where
    pub unfolds : Unfolds t0 (image_at trail t0) past (legal.connections i)
    pub fits : Fits trail t0 past
    pub now : now_of t0 past ≡ m
    pub entries : history_of past ≡ take i history

  image_back : (i m : ℕ) (past : Timeline) → Back i m past → image_of (image_at trail t0) past ≡ image_at trail m
  image_back i m past b = sym (image_fits trail t0 past b.fits) ∙ ap (image_at trail) b.now

  facts_back : (i m : ℕ) (past : Timeline) → Back i m past → facts_of (image_at trail t0) past ≡ meaning (image_at trail (M i))
  facts_back i m past b = sym (facts_fit trail t0 past (legal.connections i) b.unfolds b.fits) ∙ ap (λ es. meaning (image_at trail (last_moment t0 es))) b.entries

  rest_back : (i m : ℕ) (past : Timeline) → Back i m past → i ≤ length history → M i ≤ m → (i < length history → m < M (i + 1)) → m ≤ end_of_trail trail → IsAtRest (image_at trail t0) past
  rest_back i m past b le from to end =
      subst (λ (x : Image). Near (meaning x) (facts_of (image_at trail t0) past)) (sym (image_back i m past b))
      (subst (λ (s : PlainState). Near (meaning (image_at trail m)) s) (sym (facts_back i m past b))
      (near_without (meaning (image_at trail m)) (meaning (image_at trail (M i))) (legal.connections i) refl refl (legal.rests i m le from to end)))

  -- after the first i entries none is owed
  owed_at : (i m : ℕ) → i ≤ length history → M i ≤ m → (i < length history → m < M (i + 1)) → m ≤ end_of_trail trail → NoneOwed (image_at trail t0) (P i m)
  owed_at i m le from to end =
      subst (λ (es : List Entry). NoneOwed (image_at trail t0) (timeline_at trail t0 es m)) (entries_by i m le from to) (legal.none_owed m (omega (arith, from, rises 0 i (omega arith) le)) end)

  back_start : Back 0 t0 (P 0 t0)
  back_start =
      subst (Back 0 t0) (sym (ap (with_happened []) (stretch_none trail t0))) (record { unfolds = legal.at_first; fits = tt; now = omega arith; entries = refl })

  back_next : (i m : ℕ) → Back i m (P i m) → i ≤ length history → M i ≤ m → (i < length history → m < M (i + 1)) → m < end_of_trail trail → Back i (m + 1) (P i (m + 1))
  back_next i m b le from to end = ⊎_elim
      (λ some. let h : Happening = some.0 in
      let happens : MayHappen (image_at trail t0) (P i m) h = subst (λ (es : List Entry). MayHappen (image_at trail t0) (timeline_at trail t0 es m) h) (entries_by i m le from to) (legal.happens m h (omega (arith, from, rises 0 i (omega arith) le)) some.2) in
      subst (Back i (m + 1)) (sym (woven_next trail [] t0 (take i history) m h from some.2)) (record {
        unfolds = (b.unfolds, rest_back i m (P i m) b le from to (omega (arith, end)), happens, owed_at i m le from to (omega (arith, end)));
        fits = (b.fits, ap (slice_get trail.happened) b.now ∙ some.2);
        now = omega (arith, now_next t0 (P i m) h, b.now);
        entries = b.entries;
      }))
      (λ none. absurd (omega (arith, none.0, end)))
      ((slice_get_cases trail.happened m).1)

  back_many : (i k : ℕ) → Back i (M i) (P i (M i)) → i ≤ length history → (i < length history → M i + k ≤ M (i + 1)) → M i + k ≤ end_of_trail trail → Back i (M i + k) (P i (M i + k))
  back_many i zero b le to end = let e : M i ≡ M i + zero = omega arith in subst (λ m. Back i m (P i m)) e b
  back_many i (suc k) b le to end = let e : M i + k + 1 ≡ M i + suc k = omega arith in
      subst (λ m. Back i m (P i m)) e (back_next i (M i + k) (back_many i k b le (λ lt. omega (arith, to lt)) (omega (arith, end))) le (omega arith) (λ lt. omega (arith, to lt)) (omega (arith, end)))

  back_entry : (i : ℕ) (e : Entry) → slice_get history i ≡ Some e → Back i e.moment (P i e.moment) → Back (i + 1) e.moment (P (i + 1) e.moment)
  back_entry i e at b =
      let past : Timeline = P i e.moment in
      let is : P (i + 1) e.moment ≡ Entered e ∷ past = ap (λ es. timeline_at trail t0 es e.moment) (take_next history i e at) ∙ woven_entry trail [] t0 (take i history) e e.moment
      ∙ ap (with_happened (Entered e ∷ past)) (stretch_none trail e.moment) in
      let F : FollowsAt trail t0 (take i history) e (legal.connections i) (legal.connections (i + 1)) = legal.follows i e at in
      let Q : PlainState → PlainState → Type 0 = λ a x.
      Follows (past_of (image_at trail t0) past) (with_connections a (legal.connections i)) e (with_connections x (legal.connections (i + 1))) e.reply
      × OnTrail (image_at trail t0) past (with_connections a (legal.connections i)) e (with_connections x (legal.connections (i + 1))) e.reply
      × IsPlanned (image_at trail t0) past (with_connections a (legal.connections i)) e (with_connections x (legal.connections (i + 1))) (asked_job a e.command)
      × NamesItsOwn (image_at trail t0) past (with_connections a (legal.connections i)) e in
      let both : Q (facts_of (image_at trail t0) past) (meaning (image_of (image_at trail t0) past)) =
      subst (λ (a : PlainState). Q a (meaning (image_of (image_at trail t0) past))) (sym (facts_back i e.moment past b))
      (subst (λ (x : Image). Q (meaning (image_at trail (M i))) (meaning x)) (sym (image_back i e.moment past b)) (F.follows, F.on_trail, F.planned, F.own)) in
      subst (Back (i + 1) e.moment) (sym is) (record {
        unfolds = (legal.connections i, b.unfolds, record { moment = sym b.now; follows = both.0; on_trail = both.1; planned = both.2; own = both.3; none_owed = F.none_owed });
        fits = b.fits;
        now = b.now;
        entries = ap (λ es. es ++ e ∷ []) b.entries ∙ sym (take_next history i e at);
      })

  back_all : (i : ℕ) → i ≤ length history → Back i (M i) (P i (M i))
  back_all zero le = back_start
  back_all (suc i) le = ⊎_elim
      (λ some. let e : Entry = some.0 in
      let m : M (i + 1) ≡ e.moment = moment_at t0 history i e some.2 in
      let up : M i ≤ M (i + 1) = legal.moments i (omega (arith, le)) in
      let to : M i + (e.moment - M i) ≡ e.moment = omega (arith, m, up) in
      let last : e.moment ≤ end_of_trail trail = omega (arith, m, rises (i + 1) (length history) (omega (arith, le)) (omega arith), legal.ends) in
      let b : Back i e.moment (P i e.moment) = subst (λ t. Back i t (P i t)) to (back_many i (e.moment - M i) (back_all i (omega (arith, le))) (omega (arith, le)) (λ lt. omega (arith, to, m)) (omega (arith, to, last))) in
      let n : i + 1 ≡ suc i = omega arith in
      subst (λ j. Back j (M j) (P j (M j))) n (subst (λ t. Back (i + 1) t (P (i + 1) t)) (sym m) (back_entry i e some.2 b)))
      (λ none. absurd (omega (arith, none.0, le)))
      ((slice_get_cases history i).1)

  -- before an entry
  pub back_before : (i : ℕ) (e : Entry) → slice_get history i ≡ Some e → Back i e.moment (P i e.moment)
  back_before i e at =
      let short : i < length history = get_within history i e at in
      let m : M (i + 1) ≡ e.moment = moment_at t0 history i e at in
      let to : M i + (e.moment - M i) ≡ e.moment = omega (arith, m, legal.moments i short) in
      subst (λ t. Back i t (P i t)) to (back_many i (e.moment - M i) (back_all i (omega (arith, short))) (omega (arith, short)) (λ lt. omega (arith, to, m))
      (omega (arith, to, m, rises (i + 1) (length history) (omega (arith, short)) (omega arith), legal.ends)))

  back_end : Back (length history) (end_of_trail trail) (P (length history) (end_of_trail trail))
  back_end = let n : ℕ = length history in
      let to : M n + (end_of_trail trail - M n) ≡ end_of_trail trail = omega (arith, legal.ends) in
      subst (λ t. Back n t (P n t)) to (back_many n (end_of_trail trail - M n) (back_all n (omega arith)) (omega arith) (λ lt. absurd (omega (arith, lt))) (omega (arith, to)))

-- the things that fit are those of the trail
fits_all : (trail : Trail) (t0 : ℕ) (past : Timeline) → Fits trail t0 past → happened_of past ≡ take (length (happened_of past)) (drop t0 trail.happened)
fits_all trail t0 [] fits = sym (take_all {A = Happening} 0 [] (omega arith)) ∙ none (drop t0 trail.happened)
  where
    none : (hs : List Happening) → take 0 [] ≡ take 0 hs
    none hs = refl
fits_all trail t0 (Entered e ∷ past) fits = fits_all trail t0 past fits
fits_all trail t0 (Happened h ∷ past) fits =
    ap (λ hs. hs ++ h ∷ []) (fits_all trail t0 past fits.0) ∙ sym (take_next (drop t0 trail.happened) (length (happened_of past)) h (get_drop t0 trail.happened (length (happened_of past)) ∙ fits.1))
    ∙ ap (λ n. take n (drop t0 trail.happened)) (sym (length_push (happened_of past) h))

-- What is legal moment by moment is legal on the trail's stretch from t0.
pub legal_from_moments : (trail : Trail) (t0 : ℕ) (going : AllGoing) (history : List Entry) → t0 ≤ end_of_trail trail → LegalByMoments trail t0 going history → Legal t0 (from_moment trail t0) going history
legal_from_moments trail t0 going history within legal =
    let n : ℕ = length history in
    let past : Timeline = timeline_at trail t0 (take n history) (end_of_trail trail) in
    let b : Back trail t0 going history within legal n (end_of_trail trail) past = back_end trail t0 going history within legal in
    record {
      timeline = past;
      happened = fits_all trail t0 past b.fits ∙ take_all (length (happened_of past)) (drop t0 trail.happened) (omega (arith, within, b.now, length-drop t0 trail.happened));
      entries = b.entries ∙ take_all n history (omega arith);
      connections = legal.connections n;
      unfolds = b.unfolds;
      stands = ap meaning (image_back trail t0 going history within legal n (end_of_trail trail) past b) ∙ ap (λ s. with_connections s nobody) legal.stands ∙ sym (facts_back trail t0 going history within legal n (end_of_trail trail) past b);
      none_owed = owed_at trail t0 going history within legal n (end_of_trail trail) (omega arith) legal.ends (λ lt. absurd (omega (arith, lt))) (omega arith);
      promises = legal.promises;
      named = subst (λ (es : List Entry). AreNamed going (timeline_at trail t0 es (end_of_trail trail)) []) (sym (take_all n history (omega arith))) legal.named;
    }
