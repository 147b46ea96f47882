-- Live operations, by moments.
use Rattle.std.proofs.Common.{◌≡◌, ℕ, ◌+◌, ◌≤◌, ◌<◌, Bool, true, false, ◌||◌, ◌&&◌, not, eq-eqb, refl, inl, inr, ◌⊎◌, sym, ap, ◌∙◌, subst, Some, List, [], ◌∷◌, ◌++◌, length, arith, take, ⊎_elim, slice_get}
use Rattle.std.specs.Prelude.{◌==◌}
use Rattle.std.proofs.lemmas.List.{length_push}
use Rattle.std.proofs.lemmas.Bool.{cases_lt, eqb-true}
use Rattle.cell_world.specs.Images.{Image, Place, Happening, Committed, Wrote, Reopened, Trail, image_at, end_of_trail, global}
use Rattle.cell_world.specs.Plain.{PlainState, Connections}
use Rattle.cell_world.specs.Sound.{HasLog}
use Rattle.cell_world.specs.declared.operations.Op.{Op}
use Rattle.cell_world.specs.declared.changes.Edit.{Edit}
use Rattle.plain_model.specs.declared.replies.Reply.TheVariants as reply
use Rattle.plain_model.specs.declared.history.Entry.{Entry}
use Rattle.plain_model.specs.Timelines.{Timeline, Happened, Entered, history_of}
use Rattle.plain_model.specs.OnTrail.{OnTrail, logs, is_open, IsLive, IsLeastInWay, reach_of_command}
use Rattle.plain_model.specs.Legal.{Unfolds, AllGoing}
use Rattle.plain_model.specs.Written.{last_moment}
use Rattle.plain_model.specs.ByMoments.{standing, timeline_at, IsOpenAt, LiveAt, IsLeastInWayAt, LegalByMoments}
use Rattle.plain_model.proofs.Moments.{get_left, get_mid, get_within, Fits, now_of, now_next, image_fits}
use Rattle.plain_model.proofs.LegalAtMoments.{later_moment}
use Rattle.plain_model.proofs.LegalBack.{moment_at, Back, back_before}

module _ (trail : Trail) (t0 : ℕ) (number : ℕ) where
  entry_le : (past : Timeline) (cs : Connections) → Unfolds t0 (image_at trail t0) past cs → (i : ℕ) (e : Entry) → slice_get (history_of past) i ≡ Some e → e.moment ≤ now_of t0 past
  entry_le past cs u i e at = omega (arith, moment_at t0 (history_of past) i e at, later_moment trail t0 past cs u (i + 1) (omega (arith, get_within (history_of past) i e at)))

  abbrev Open : Timeline → Type 0
  Open past = IsOpenAt trail t0 (history_of past) (now_of t0 past) number

  -- with one thing more
  later_on : (past : Timeline) (h : Happening) → Open past → Open (Happened h ∷ past)
  later_on past h w = record {
    moment = w.moment;
    place = w.place;
    change = w.change;
    took = w.took;
    after = w.after;
    before = omega (arith, w.before, now_next t0 past h);
    committed = w.committed;
    puts = w.puts;
    unnamed = w.unnamed;
  }

  some_entry : (x y : Entry) → Some x ≡ Some y → x ≡ y
  some_entry x y is = cc

  -- with an entry that doesn't name it
  not_this : (past : Timeline) (x : Entry) → (x.operation == number) ≡ false → Open past → Open (Entered x ∷ past)
  not_this past x differs w = record {
    moment = w.moment;
    place = w.place;
    change = w.change;
    took = w.took;
    after = w.after;
    before = w.before;
    committed = w.committed;
    puts = w.puts;
    unnamed = λ i e at later is. ⊎_elim
        (λ small. w.unnamed i e (sym (get_left (history_of past) (x ∷ []) i small) ∙ at) later is)
        (λ big. let j : i ≡ length (history_of past) = omega (arith, big, get_within (history_of past ++ x ∷ []) i e at, length_push (history_of past) x) in
        let it : x ≡ e = some_entry x e (sym (get_mid (history_of past) [] x) ∙ ap (slice_get (history_of past ++ x ∷ [])) (sym j) ∙ at) in
        let t : (x.operation == number) ≡ true = eq-eqb x.operation number (ap (λ (y : Entry). y.operation) it ∙ is) in absurd cc)
        (cases_lt i (length (history_of past)));
  }

  and_true : (b : Bool) → (b && true) ≡ b
  and_true true = refl
  and_true false = refl

  none_true : (b : Bool) → (b && false) ≡ true → ⊥
  none_true true f = cc
  none_true false f = cc

  open_at : (past : Timeline) (cs : Connections) → Unfolds t0 (image_at trail t0) past cs → Fits trail t0 past → is_open number past ≡ true → Open past
  open_at [] cs u fits f = absurd cc
  open_at (Entered x ∷ past) cs u fits f = by (x.operation == number) refl f (open_at past u.0 u.1 fits)
    where
      by : (b : Bool) → (x.operation == number) ≡ b → (is_open number past && not b) ≡ true → (is_open number past ≡ true → Open past) → Open (Entered x ∷ past)
      by true same f before = absurd (none_true (is_open number past) f)
      by false differs f before = not_this past x differs (before (sym (and_true (is_open number past)) ∙ f))
  open_at (Happened (Wrote bytes) ∷ past) cs u fits f = later_on past (Wrote bytes) (open_at past cs u.0 fits.0 f)
  open_at (Happened (Reopened place cells) ∷ past) cs u fits f = later_on past (Reopened place cells) (open_at past cs u.0 fits.0 f)
  open_at (Happened (Committed place change took) ∷ past) cs u fits f = by (logs number change) refl f (λ g. later_on past (Committed place change took) (open_at past cs u.0 fits.0 g))
    where
      by : (b : Bool) → logs number change ≡ b → (b || is_open number past) ≡ true → (is_open number past ≡ true → Open (Happened (Committed place change took) ∷ past)) → Open (Happened (Committed place change took) ∷ past)
      by true is f before = record {
        moment = now_of t0 past;
        place = place;
        change = change;
        took = took;
        after = omega arith;
        before = omega (arith, now_next t0 past (Committed place change took));
        committed = fits.1;
        puts = is;
        unnamed = λ i e at later named. absurd (omega (arith, later, entry_le past cs u.0 i e at));
      }
      by false is f before = before f

  -- the other way
  or_true : (b : Bool) → (b || true) ≡ true
  or_true true = refl
  or_true false = refl

  earlier_on : (past : Timeline) (h : Happening) → (w : Open (Happened h ∷ past)) → w.moment < now_of t0 past → Open past
  earlier_on past h w small = record {
    moment = w.moment;
    place = w.place;
    change = w.change;
    took = w.took;
    after = w.after;
    before = small;
    committed = w.committed;
    puts = w.puts;
    unnamed = w.unnamed;
  }

  -- what happened last is the commit, or it came before
  last_or_before : (past : Timeline) (h : Happening) → slice_get trail.happened (now_of t0 past) ≡ Some h → Open (Happened h ∷ past)
      → ((place : Place) × (change : List Edit) × (took : Bool) × (h ≡ Committed place change took) × (logs number change ≡ true)) ⊎ Open past
  last_or_before past h here w = ⊎_elim
      (λ small. inr (earlier_on past h w small))
      (λ big. let j : w.moment ≡ now_of t0 past = omega (arith, big, w.before, now_next t0 past h) in
      inl (w.place, w.change, w.took, some_is h (Committed w.place w.change w.took) (sym here ∙ ap (slice_get trail.happened) (sym j) ∙ w.committed), w.puts))
      (cases_lt w.moment (now_of t0 past))
    where
      some_is : (x y : Happening) → Some x ≡ Some y → x ≡ y
      some_is x y is = cc

  change_is : (p q : Place) (a b : List Edit) (t u : Bool) → Committed p a t ≡ Committed q b u → a ≡ b
  change_is p q a b t u is = cc

  open_back : (past : Timeline) (cs : Connections) → Unfolds t0 (image_at trail t0) past cs → Fits trail t0 past → Open past → is_open number past ≡ true
  open_back [] cs u fits w = absurd (omega (arith, w.after, w.before))
  open_back (Entered x ∷ past) cs u fits w = by (x.operation == number) refl (open_back past u.0 u.1 fits)
    where
      by : (b : Bool) → (x.operation == number) ≡ b → (Open past → is_open number past ≡ true) → (is_open number past && not b) ≡ true
      by true same before = absurd (w.unnamed (length (history_of past)) x (get_mid (history_of past) [] x) (omega (arith, w.before, u.2.moment)) (eqb-true x.operation number same))
      by false differs before = and_true (is_open number past) ∙ before (record {
        moment = w.moment;
        place = w.place;
        change = w.change;
        took = w.took;
        after = w.after;
        before = w.before;
        committed = w.committed;
        puts = w.puts;
        unnamed = λ i e at later is. w.unnamed i e (get_left (history_of past) (x ∷ []) i (get_within (history_of past) i e at) ∙ at) later is;
      })
  open_back (Happened (Wrote bytes) ∷ past) cs u fits w = ⊎_elim (λ last. let e : Wrote bytes ≡ Committed last.0 last.1 last.2 = last.3 in absurd cc) (λ before. open_back past cs u.0 fits.0 before) (last_or_before past (Wrote bytes) fits.1 w)
  open_back (Happened (Reopened place cells) ∷ past) cs u fits w =
      ⊎_elim (λ last. let e : Reopened place cells ≡ Committed last.0 last.1 last.2 = last.3 in absurd cc) (λ before. open_back past cs u.0 fits.0 before) (last_or_before past (Reopened place cells) fits.1 w)
  open_back (Happened (Committed place change took) ∷ past) cs u fits w = ⊎_elim
      (λ last. ap (λ b. b || is_open number past) (ap (logs number) (change_is place last.0 change last.1 took last.2 last.3) ∙ last.4))
      (λ before. ap (λ b. logs number change || b) (open_back past cs u.0 fits.0 before) ∙ or_true (logs number change))
      (last_or_before past (Committed place change took) fits.1 w)

-- the two forms of a live operation
pub live_at : (trail : Trail) (t0 : ℕ) (past : Timeline) (cs : Connections) (op : Op) → Unfolds t0 (image_at trail t0) past cs → Fits trail t0 past → IsLive (image_at trail t0) past op → LiveAt trail t0 (history_of past) (now_of t0 past) op
live_at trail t0 past cs op u fits live = record {
  logged = subst (λ (x : Image). HasLog (global x).log op) (sym (image_fits trail t0 past fits)) live.logged;
  unnamed = open_at trail t0 op.number past cs u fits live.unnamed;
}

pub live_back : (trail : Trail) (t0 : ℕ) (past : Timeline) (cs : Connections) (op : Op) → Unfolds t0 (image_at trail t0) past cs → Fits trail t0 past → LiveAt trail t0 (history_of past) (now_of t0 past) op → IsLive (image_at trail t0) past op
live_back trail t0 past cs op u fits live = record {
  logged = subst (λ (x : Image). HasLog (global x).log op) (image_fits trail t0 past fits) live.logged;
  unnamed = open_back trail t0 op.number past cs u fits live.unnamed;
}

-- an entry that was answered `pending` names the least live operation in its way
pub pending_by_moments : (trail : Trail) (t0 : ℕ) (going : AllGoing) (history : List Entry) → t0 ≤ end_of_trail trail → (legal : LegalByMoments trail t0 going history)
    → (i : ℕ) (e : Entry) (number : ℕ) → slice_get history i ≡ Some e → e.reply ≡ Some (reply.Pending number)
    → IsLeastInWayAt trail t0 (take i history) e.moment (reach_of_command (standing trail (last_moment t0 (take i history)) (legal.connections i)) e.command) number
pending_by_moments trail t0 going history within legal i e number at is =
    let past : Timeline = timeline_at trail t0 (take i history) e.moment in
    let b : Back trail t0 going history within legal i e.moment past = back_before trail t0 going history within legal i e at in
    let A : PlainState = standing trail (last_moment t0 (take i history)) (legal.connections i) in
    let B : PlainState = standing trail e.moment (legal.connections (i + 1)) in
    let a : IsLeastInWay (image_at trail t0) past (reach_of_command A e.command) number = subst (OnTrail (image_at trail t0) past A e B) is (legal.follows i e at).on_trail in
    record {
      op = a.op;
      named = a.named;
      live = subst (λ (es : List Entry). LiveAt trail t0 es e.moment a.op) b.entries (subst (λ m. LiveAt trail t0 (history_of past) m a.op) b.now (live_at trail t0 past (legal.connections i) a.op b.unfolds b.fits a.live));
      in_way = a.in_way;
      least = λ other live in_way. a.least other (live_back trail t0 past (legal.connections i) other b.unfolds b.fits
          (subst (λ m. LiveAt trail t0 (history_of past) m other) (sym b.now) (subst (λ (es : List Entry). LiveAt trail t0 es e.moment other) (sym b.entries) live))) in_way;
    }
