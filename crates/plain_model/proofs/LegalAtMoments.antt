-- A legal timeline is legal at each of its moments.
use Rattle.std.proofs.Common.{◌≡◌, ℕ, ◌+◌, ◌≤◌, ◌<◌, refl, sym, ap, ◌∙◌, subst, Some, List, [], ◌∷◌, ◌++◌, length, arith, take, drop, ⊎_elim, slice_get, cond, nat_le}
use Rattle.std.proofs.lemmas.List.{take-append-le, take_all, length_push, append-nil, length-drop}
use Rattle.std.proofs.lemmas.Bool.{cases_lt, le-leb, lt-leb}
use Rattle.cell_world.specs.Images.{Image, Happening, Trail, image_at, end_of_trail}
use Rattle.cell_world.specs.Plain.{PlainState, Connections, nobody, with_connections}
use Rattle.cell_world.specs.Meaning.{meaning}
use Rattle.plain_model.specs.declared.history.Entry.{Entry}
use Rattle.plain_model.specs.Timelines.{Timeline, Happened, Entered, image_of, facts_of, happened_of, history_of, past_of}
use Rattle.plain_model.specs.Near.{Near}
use Rattle.plain_model.specs.JobSteps.{asked_job}
use Rattle.plain_model.specs.Follows.{Follows}
use Rattle.plain_model.specs.OnTrail.{OnTrail, NoneOwed}
use Rattle.plain_model.specs.Legal.{IsPlanned, NamesItsOwn, MayHappen, MayEnter, IsAtRest, Unfolds, AllGoing, KeepsPromises, AreNamed, Legal}
use Rattle.plain_model.specs.Written.{last_moment, by_moment}
use Rattle.plain_model.specs.ByMoments.{moment_of, timeline_at, FollowsAt, LegalByMoments, from_moment}
use Rattle.plain_model.proofs.NearLaws.{near_of}
use Rattle.plain_model.proofs.Moments.{get_left, get_mid, get_within, moment_early, moment_last, moment_end, by_moment-later, Fits, fits_of, now_of, now_next, image_fits, last_le, facts_fit, weaves, all_by_now}

near_with : (a b : PlainState) (cs : Connections) → Near a b → Near (with_connections a cs) (with_connections b cs)
near_with a b cs near = record { same = ap (λ s. with_connections s cs) near.same; here = near.here; rows = near.rows; status = near.status }

module _ (trail : Trail) (t0 : ℕ) where
  -- ---- moments

  moment_none : (i : ℕ) → moment_of t0 [] i ≡ t0
  moment_none i = ap (last_moment t0) (take_all {A = Entry} i [] (omega arith))

  moments_of : (past : Timeline) (cs : Connections) → Unfolds t0 (image_at trail t0) past cs → (i : ℕ) → i < length (history_of past) → moment_of t0 (history_of past) i ≤ moment_of t0 (history_of past) (i + 1)
  moments_of [] cs u i lt = absurd (omega (arith, lt))
  moments_of (Happened h ∷ past) cs u i lt = moments_of past cs u.0 i lt
  moments_of (Entered e ∷ past) cs u i lt = ⊎_elim
      (λ small. omega (arith, moments_of past u.0 u.1 i small, moment_early t0 (history_of past) e i (omega (arith, small)), moment_early t0 (history_of past) e (i + 1) (omega (arith, small))))
      (λ big. let at : i ≡ length (history_of past) = omega (arith, big, lt, length_push (history_of past) e) in
      omega (
        arith,
        last_le trail t0 past u.0 u.1,
        moment_end t0 (history_of past),
        u.2.moment,
        ap (moment_of t0 (history_of past ++ e ∷ [])) at ∙ moment_early t0 (history_of past) e (length (history_of past)) (omega arith),
        ap (λ k. moment_of t0 (history_of past ++ e ∷ []) (k + 1)) at ∙ moment_last t0 (history_of past) e,
      ))
      (cases_lt i (length (history_of past)))

  -- ---- the stores between moments

  abbrev RestsBy : (List Entry) → ℕ → Type 0
  RestsBy history end = (i t : ℕ) → i ≤ length history → moment_of t0 history i ≤ t → (i < length history → t < moment_of t0 history (i + 1)) → t < end
      → Near (meaning (image_at trail t)) (meaning (image_at trail (moment_of t0 history i)))

  pub later_moment : (past : Timeline) (cs : Connections) → Unfolds t0 (image_at trail t0) past cs → (i : ℕ) → i ≤ length (history_of past) → moment_of t0 (history_of past) i ≤ now_of t0 past
  later_moment [] cs u i le = omega (arith, moment_none i)
  later_moment (Happened h ∷ past) cs u i le = omega (arith, later_moment past cs u.0 i le, now_next t0 past h)
  later_moment (Entered e ∷ past) cs u i le = ⊎_elim
      (λ small. omega (arith, later_moment past u.0 u.1 i (omega (arith, small)), moment_early t0 (history_of past) e i (omega (arith, small))))
      (λ big. let at : i ≡ length (history_of past) + 1 = omega (arith, big, le, length_push (history_of past) e) in
      omega (arith, u.2.moment, ap (moment_of t0 (history_of past ++ e ∷ [])) at ∙ moment_last t0 (history_of past) e))
      (cases_lt i (length (history_of past) + 1))

  -- and now too
  rests_now : (past : Timeline) (cs : Connections) → Unfolds t0 (image_at trail t0) past cs → Fits trail t0 past → IsAtRest (image_at trail t0) past → RestsBy (history_of past) (now_of t0 past) → RestsBy (history_of past) (now_of t0 past + 1)
  rests_now past cs u fits rest before i t le from to end = ⊎_elim
      (λ small. before i t le from to small)
      (λ big. let at : t ≡ now_of t0 past = omega (arith, big, end) in ⊎_elim
      (λ early. absurd (omega (arith, to early, at, later_moment past cs u (i + 1) (omega (arith, early)))))
      (λ last. let is : i ≡ length (history_of past) = omega (arith, last, le) in
      subst (λ (k : ℕ). Near (meaning (image_at trail k)) (meaning (image_at trail (moment_of t0 (history_of past) i)))) (sym at)
      (subst (λ (x : Image). Near (meaning x) (meaning (image_at trail (moment_of t0 (history_of past) i)))) (sym (image_fits trail t0 past fits))
      (subst (λ (s : PlainState). Near (meaning (image_of (image_at trail t0) past)) s)
      (sym (facts_fit trail t0 past cs u fits) ∙ ap (λ m. meaning (image_at trail m)) (sym (moment_end t0 (history_of past)) ∙ ap (moment_of t0 (history_of past)) (sym is))) rest)))
      (cases_lt i (length (history_of past))))
      (cases_lt t (now_of t0 past))

  rests_of : (past : Timeline) (cs : Connections) → Unfolds t0 (image_at trail t0) past cs → Fits trail t0 past → RestsBy (history_of past) (now_of t0 past)
  rests_of [] cs u fits i t le from to end = absurd (omega (arith, from, end, moment_none i))
  rests_of (Happened h ∷ past) cs u fits i t le from to end = rests_now past cs u.0 fits.0 u.1 (rests_of past cs u.0 fits.0) i t le from to (omega (arith, end, now_next t0 past h))
  rests_of (Entered e ∷ past) cs u fits i t le from to end = ⊎_elim
      (λ small. let same : moment_of t0 (history_of past ++ e ∷ []) i ≡ moment_of t0 (history_of past) i = moment_early t0 (history_of past) e i (omega (arith, small)) in
      subst (λ m. Near (meaning (image_at trail t)) (meaning (image_at trail m))) (sym same)
      (rests_of past u.0 u.1 fits i t (omega (arith, small)) (omega (arith, from, same))
      (λ early. omega (arith, to (omega (arith, early, length_push (history_of past) e)), moment_early t0 (history_of past) e (i + 1) (omega (arith, early)))) end))
      (λ big. let at : i ≡ length (history_of past) + 1 = omega (arith, big, le, length_push (history_of past) e) in
      absurd (omega (arith, from, end, u.2.moment, ap (moment_of t0 (history_of past ++ e ∷ [])) at ∙ moment_last t0 (history_of past) e)))
      (cases_lt i (length (history_of past) + 1))

  -- ---- entries

  -- the connections after i entries
  abbrev pub conns : (past : Timeline) (cs : Connections) → Unfolds t0 (image_at trail t0) past cs → ℕ → Connections
  conns [] cs u i = cs
  conns (Happened h ∷ past) cs u i = conns past cs u.0 i
  conns (Entered e ∷ past) cs u i = cond (nat_le i (length (history_of past))) (conns past u.0 u.1 i) cs

  conns_first : (past : Timeline) (cs : Connections) (u : Unfolds t0 (image_at trail t0) past cs) → conns past cs u 0 ≡ nobody
  conns_first [] cs u = u
  conns_first (Happened h ∷ past) cs u = conns_first past cs u.0
  conns_first (Entered e ∷ past) cs u = ap (λ b. cond b (conns past u.0 u.1 0) cs) (le-leb 0 (length (history_of past)) (omega arith)) ∙ conns_first past u.0 u.1

  conns_last : (past : Timeline) (cs : Connections) (u : Unfolds t0 (image_at trail t0) past cs) (i : ℕ) → length (history_of past) ≤ i → conns past cs u i ≡ cs
  conns_last [] cs u i le = refl
  conns_last (Happened h ∷ past) cs u i le = conns_last past cs u.0 i le
  conns_last (Entered e ∷ past) cs u i le = ap (λ b. cond b (conns past u.0 u.1 i) cs) (lt-leb i (length (history_of past)) (omega (arith, le, length_push (history_of past) e)))

  follows_now : (past : Timeline) (before after : Connections) (e : Entry) → Unfolds t0 (image_at trail t0) past before → Fits trail t0 past → MayEnter t0 (image_at trail t0) past e before after
      → FollowsAt trail t0 (history_of past) e before after
  follows_now past before after e u fits enters =
      let P : Timeline → PlainState → PlainState → Type 0 = λ p a b.
      Follows (past_of (image_at trail t0) p) (with_connections a before) e (with_connections b after) e.reply × OnTrail (image_at trail t0) p (with_connections a before) e (with_connections b after) e.reply
      × IsPlanned (image_at trail t0) p (with_connections a before) e (with_connections b after) (asked_job a e.command)
      × NamesItsOwn (image_at trail t0) p (with_connections a before) e × NoneOwed (image_at trail t0) (Entered e ∷ p) in
      let at : timeline_at trail t0 (history_of past) e.moment ≡ past = ap (timeline_at trail t0 (history_of past)) enters.moment ∙ weaves trail t0 past before u fits in
      let new : meaning (image_at trail e.moment) ≡ meaning (image_of (image_at trail t0) past) = ap (λ m. meaning (image_at trail m)) enters.moment ∙ ap meaning (image_fits trail t0 past fits) in
      let both : P (timeline_at trail t0 (history_of past) e.moment) (meaning (image_at trail (last_moment t0 (history_of past)))) (meaning (image_at trail e.moment)) =
      subst (λ (p : Timeline). P p (meaning (image_at trail (last_moment t0 (history_of past)))) (meaning (image_at trail e.moment))) (sym at)
      (subst (λ (a : PlainState). P past a (meaning (image_at trail e.moment))) (sym (facts_fit trail t0 past before u fits))
      (subst (λ (b : PlainState). P past (facts_of (image_at trail t0) past) b) (sym new) (enters.follows, enters.on_trail, enters.planned, enters.own, enters.none_owed))) in
      record { follows = both.0; on_trail = both.1; planned = both.2; own = both.3; none_owed = both.4 }

  follows_of : (past : Timeline) (cs : Connections) (u : Unfolds t0 (image_at trail t0) past cs) → Fits trail t0 past → (i : ℕ) (e : Entry) → slice_get (history_of past) i ≡ Some e
      → FollowsAt trail t0 (take i (history_of past)) e (conns past cs u i) (conns past cs u (i + 1))
  follows_of [] cs u fits i e at = absurd cc
  follows_of (Happened h ∷ past) cs u fits i e at = follows_of past cs u.0 fits.0 i e at
  follows_of (Entered x ∷ past) cs u fits i e at = ⊎_elim
      (λ small.
      subst (λ (es : List Entry). FollowsAt trail t0 es e (conns (Entered x ∷ past) cs u i) (conns (Entered x ∷ past) cs u (i + 1))) (sym (take-append-le i (history_of past) (x ∷ []) (omega (arith, small))))
      (subst (λ (c : Connections). FollowsAt trail t0 (take i (history_of past)) e c (conns (Entered x ∷ past) cs u (i + 1))) (ap (λ b. cond b (conns past u.0 u.1 i) cs) (sym (le-leb i (length (history_of past)) (omega (arith, small)))))
      (subst (λ (c : Connections). FollowsAt trail t0 (take i (history_of past)) e (conns past u.0 u.1 i) c) (ap (λ b. cond b (conns past u.0 u.1 (i + 1)) cs) (sym (le-leb (i + 1) (length (history_of past)) (omega (arith, small)))))
      (follows_of past u.0 u.1 fits i e (sym (get_left (history_of past) (x ∷ []) i small) ∙ at)))))
      (λ big. let is : i ≡ length (history_of past) = omega (arith, big, get_within (history_of past ++ x ∷ []) i e at, length_push (history_of past) x) in
      let it : Some x ≡ Some e = sym (get_mid (history_of past) [] x) ∙ ap (slice_get (history_of past ++ x ∷ [])) (sym is) ∙ at in
      let front : take i (history_of past ++ x ∷ []) ≡ history_of past = take-append-le i (history_of past) (x ∷ []) (omega (arith, is)) ∙ take_all i (history_of past) (omega (arith, is)) in
      subst (λ (es : List Entry). FollowsAt trail t0 es e (conns (Entered x ∷ past) cs u i) (conns (Entered x ∷ past) cs u (i + 1))) (sym front)
      (subst (λ (c : Connections). FollowsAt trail t0 (history_of past) e c (conns (Entered x ∷ past) cs u (i + 1)))
      (sym (ap (λ b. cond b (conns past u.0 u.1 i) cs) (le-leb i (length (history_of past)) (omega (arith, is))) ∙ conns_last past u.0 u.1 i (omega (arith, is))))
      (subst (λ (c : Connections). FollowsAt trail t0 (history_of past) e u.0 c) (sym (conns_last (Entered x ∷ past) cs u (i + 1) (omega (arith, is, length_push (history_of past) x))))
      (subst (λ (y : Entry). FollowsAt trail t0 (history_of past) y u.0 cs) (some_is x e it)
      (follows_now past u.0 cs x u.1 fits u.2)))))
      (cases_lt i (length (history_of past)))
    where
      some_is : (x y : Entry) → Some x ≡ Some y → x ≡ y
      some_is x y is = cc

  -- ---- what happens

  happens_of : (past : Timeline) (cs : Connections) → Unfolds t0 (image_at trail t0) past cs → Fits trail t0 past → (t : ℕ) (h : Happening) → t0 ≤ t → t < now_of t0 past → slice_get trail.happened t ≡ Some h
      → MayHappen (image_at trail t0) (timeline_at trail t0 (by_moment t (history_of past)) t) h
  happens_of [] cs u fits t h lo hi at = absurd (omega (arith, lo, hi))
  happens_of (Entered e ∷ past) cs u fits t h lo hi at =
      subst (λ (es : List Entry). MayHappen (image_at trail t0) (timeline_at trail t0 es t) h) (sym (by_moment-later t (history_of past) e (omega (arith, hi, u.2.moment)))) (happens_of past u.0 u.1 fits t h lo hi at)
  happens_of (Happened g ∷ past) cs u fits t h lo hi at = ⊎_elim
      (λ small. happens_of past cs u.0 fits.0 t h lo small at)
      (λ big. let is : t ≡ now_of t0 past = omega (arith, big, hi, now_next t0 past g) in
      let it : g ≡ h = some_is g h (sym fits.1 ∙ ap (slice_get trail.happened) (sym is) ∙ at) in
      let then : timeline_at trail t0 (by_moment t (history_of past)) t ≡ past =
      ap (λ es. timeline_at trail t0 es t) (all_by_now trail t0 past cs u.0 t (omega (arith, is))) ∙ ap (timeline_at trail t0 (history_of past)) is ∙ weaves trail t0 past cs u.0 fits.0 in
      subst (λ (p : Timeline). MayHappen (image_at trail t0) p h) (sym then) (subst (MayHappen (image_at trail t0) past) it u.2))
      (cases_lt t (now_of t0 past))
    where
      some_is : (x y : Happening) → Some x ≡ Some y → x ≡ y
      some_is x y is = cc

  -- ---- entries that are owed

  -- none is owed before anything happens, and none now
  owed_of : (past : Timeline) (cs : Connections) → Unfolds t0 (image_at trail t0) past cs → Fits trail t0 past → NoneOwed (image_at trail t0) past → (t : ℕ) → t0 ≤ t → t ≤ now_of t0 past
      → NoneOwed (image_at trail t0) (timeline_at trail t0 (by_moment t (history_of past)) t)
  owed_of past cs u fits none t lo hi = ⊎_elim
      (λ small. earlier past cs u fits t lo small)
      (λ big. let is : t ≡ now_of t0 past = omega (arith, big, hi) in
      let then : timeline_at trail t0 (by_moment t (history_of past)) t ≡ past =
      ap (λ es. timeline_at trail t0 es t) (all_by_now trail t0 past cs u t (omega (arith, is))) ∙ ap (timeline_at trail t0 (history_of past)) is ∙ weaves trail t0 past cs u fits in
      subst (λ (p : Timeline). NoneOwed (image_at trail t0) p) (sym then) none)
      (cases_lt t (now_of t0 past))
    where
      earlier : (past : Timeline) (cs : Connections) → Unfolds t0 (image_at trail t0) past cs → Fits trail t0 past → (t : ℕ) → t0 ≤ t → t < now_of t0 past
          → NoneOwed (image_at trail t0) (timeline_at trail t0 (by_moment t (history_of past)) t)
      earlier [] cs u fits t lo hi = absurd (omega (arith, lo, hi))
      earlier (Entered e ∷ past) cs u fits t lo hi =
          subst (λ (es : List Entry). NoneOwed (image_at trail t0) (timeline_at trail t0 es t)) (sym (by_moment-later t (history_of past) e (omega (arith, hi, u.2.moment)))) (earlier past u.0 u.1 fits t lo hi)
      earlier (Happened h ∷ past) cs u fits t lo hi = ⊎_elim
          (λ small. earlier past cs u.0 fits.0 t lo small)
          (λ big. let is : t ≡ now_of t0 past = omega (arith, big, hi, now_next t0 past h) in
          let then : timeline_at trail t0 (by_moment t (history_of past)) t ≡ past =
          ap (λ es. timeline_at trail t0 es t) (all_by_now trail t0 past cs u.0 t (omega (arith, is))) ∙ ap (timeline_at trail t0 (history_of past)) is ∙ weaves trail t0 past cs u.0 fits.0 in
          subst (λ (p : Timeline). NoneOwed (image_at trail t0) p) (sym then) u.3)
          (cases_lt t (now_of t0 past))

-- What is legal on the trail's stretch from t0 is legal moment by moment.
pub legal_by_moments : (trail : Trail) (t0 : ℕ) (going : AllGoing) (history : List Entry) → t0 ≤ end_of_trail trail → Legal t0 (from_moment trail t0) going history → LegalByMoments trail t0 going history
legal_by_moments trail t0 going history le legal =
    subst (LegalByMoments trail t0 going) legal.entries (by legal.timeline legal.connections legal.unfolds legal.happened legal.stands legal.none_owed (subst (KeepsPromises going) (sym legal.entries) legal.promises) legal.named)
  where
    by : (past : Timeline) (cs : Connections) → Unfolds t0 (image_at trail t0) past cs → happened_of past ≡ drop t0 trail.happened → meaning (image_of (image_at trail t0) past) ≡ facts_of (image_at trail t0) past → NoneOwed (image_at trail t0) past
        → KeepsPromises going (history_of past) → AreNamed going past [] → LegalByMoments trail t0 going (history_of past)
    by past cs u happened exact none promises named =
        let fits : Fits trail t0 past = fits_of trail t0 past [] (append-nil (happened_of past) ∙ happened) in
        let now : now_of t0 past ≡ end_of_trail trail = omega (arith, le, ap length happened, length-drop t0 trail.happened) in
        let rest : IsAtRest (image_at trail t0) past = near_of (meaning (image_of (image_at trail t0) past)) (facts_of (image_at trail t0) past) exact in
        record {
          connections = conns trail t0 past cs u;
          at_first = conns_first trail t0 past cs u;
          moments = moments_of trail t0 past cs u;
          ends = omega (arith, now, later_moment trail t0 past cs u (length (history_of past)) (omega arith));
          follows = follows_of trail t0 past cs u fits;
          rests = λ i t le from to end. near_with (meaning (image_at trail t)) (meaning (image_at trail (moment_of t0 (history_of past) i))) (conns trail t0 past cs u i)
              (rests_now trail t0 past cs u fits rest (rests_of trail t0 past cs u fits) i t le from to (omega (arith, end, now)));
          happens = λ t h lo at. happens_of trail t0 past cs u fits t h lo (omega (arith, now, get_within trail.happened t h at)) at;
          stands = ap (λ s. with_connections s (conns trail t0 past cs u (length (history_of past))))
              (ap (λ m. meaning (image_at trail m)) (sym now) ∙ ap meaning (image_fits trail t0 past fits) ∙ exact ∙ sym (facts_fit trail t0 past cs u fits) ∙ ap (λ m. meaning (image_at trail m)) (sym (moment_end t0 (history_of past))));
          none_owed = λ t lo hi. owed_of trail t0 past cs u fits none t lo (omega (arith, hi, now));
          promises = promises;
          named = subst (λ (p : Timeline). AreNamed going p []) (sym (ap (timeline_at trail t0 (history_of past)) (sym now) ∙ weaves trail t0 past cs u fits)) named;
        }
