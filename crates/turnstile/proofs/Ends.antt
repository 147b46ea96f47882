-- A new pass, a pass that is given up, and the end.
use Rattle.std.proofs.Common.{◌≡◌, ◌≢◌, ℕ, zero, suc, ◌<◌, ◌≤◌, ◌⊎◌, inl, inr, ⊎_elim, true, false, List, [], ◌∷◌, ◌++◌, length, set, refl, sym, ap, subst, ◌∙◌, append-nil, length-append, le_refl, arith, Option as Opt, Some}
use Rattle.std.proofs.Math.ListN.{length-set}
use mathlib.Core.Option.{Option, some, some-injective, some-ne-none}
use lib.ListN.{get_elem?}
use Rattle.atomic_table.specs.Table.{Splits, Joins, opening, Final, Seen}
use Rattle.atomic_table.proofs.Lists.{at_set, at_longer, set_here, set_else}
use Rattle.turnstile.specs.declared.view.View.{View}
use Rattle.turnstile.specs.Entries.{entries_by, StartsWith}
use Rattle.turnstile.specs.Rule.{Fits, Free, Taken, Kept, Woven, opening_view, spent_view}
use Rattle.turnstile.specs.Steps.{after_making, new_view, after_joining}
use Rattle.turnstile.proofs.Moves.{true_false, apart, at_below}

at_end : {A : Type 0} (l : List A) (a b : A) (j : ℕ) → get_elem? (l ++ a ∷ []) j ≡ some b → (get_elem? l j ≡ some b) ⊎ ((j ≡ length l) × (a ≡ b))
at_end [] a b zero e = inr (refl, some-injective a b e)
at_end [] a b (suc j) e = absurd (some-ne-none b (sym e))
at_end (x ∷ xs) a b zero e = inl e
at_end (x ∷ xs) a b (suc j) e = ⊎_elim (λ h. inl h) (λ h. inr (ap suc h.0, h.1)) (at_end xs a b j e)

there : {A : Type 0} (l : List A) (k : ℕ) → k < length l → (a : A) × (get_elem? l k ≡ some a)
there [] k h = absurd (omega arith)
there (x ∷ xs) zero h = (x, refl)
there (x ∷ xs) (suc k) h = there xs k (omega arith)

length_end : {A : Type 0} (l : List A) (a : A) → length (l ++ a ∷ []) ≡ suc (length l)
length_end l a = omega (arith, length-append l (a ∷ []))

module _ {S E : Type 0} (list : S → List E) (first : List E) (seats : ℕ) where
  -- two live views with number 0 are one seat's
  first_id : (now : List E) (log : List (ℕ × E)) (views : List (View E)) (i j : ℕ) (v u : View E) → Fits now log views i v → Fits now log views j u
      → v.live ≡ true → v.number ≡ 0 → u.live ≡ true → u.number ≡ 0 → j ≡ i
  first_id now log views i j v u f h a b c d = sym (h.number c) ∙ (d ∙ (sym b ∙ f.number a))

  opening_fits : (now : List E) → now ≡ first → (id : ℕ) (v : View E) → get_elem? (opening_view first ∷ []) id ≡ some v → Fits now [] (opening_view first ∷ []) id v
  opening_fits now is zero v at = let F : View E → Type 0 = λ u. Fits now [] (opening_view first ∷ []) zero u in subst F (some-injective (opening_view first) v at) (record {
    whole = λ h. sym is;
    begins = ([], is ∙ sym (append-nil first));
    spent = λ d. refl;
    number = λ a. refl;
    mine = λ a. refl;
    next = λ a z. refl;
    known = λ a z k e p. absurd (some-ne-none e (sym p));
  })
  opening_fits now is (suc id) v at = absurd (some-ne-none v (sym at))

  opening_idle : (id : ℕ) (v : View E) → get_elem? (opening_view first ∷ []) id ≡ some v → v.holds ≡ false
  opening_idle zero v at = sym (ap (λ (z : View E). z.holds) (some-injective (opening_view first) v at))
  opening_idle (suc id) v at = absurd (some-ne-none v (sym at))

  pub opens : (x : S) (words : List ℕ) → words ≡ 0 ∷ length (list x) ∷ [] → list x ≡ first → 1 ≤ seats → Kept list first seats (opening words (Some x ∷ []) (opening_view first))
  opens x words ws is room = record {
    log = [];
    now = list x;
    turn = 0;
    is = is ∙ sym (append-nil first);
    words = ws;
    room = room;
    fits = opening_fits (list x) is;
    later = λ by le. refl;
    phase = inl record { word = refl; value = x; home = refl; meant = refl; idle = opening_idle };
  }

  -- A view, where the views become `after`: the view's own number is not the first's, or `next` and `known` are given anew
  refit : (now : List E) (log : List (ℕ × E)) (views after : List (View E)) (j : ℕ) (u : View E) → Fits now log views j u → ¬ (j ≡ 0) → Fits now log after j u
  refit now log views after j u f ne = record {
    whole = f.whole;
    begins = f.begins;
    spent = f.spent;
    number = f.number;
    mine = f.mine;
    next = λ a z. absurd (ne (sym (f.number a) ∙ z));
    known = λ a z k e p. absurd (ne (sym (f.number a) ∙ z));
  }

  split_idle : (views : List (View E)) (id : ℕ) (v : View E) (j : ℕ) (u : View E) → get_elem? (set views id (after_making v) ++ new_view v ∷ []) j ≡ some u → v.holds ≡ false
      → ((i : ℕ) (w : View E) → get_elem? views i ≡ some w → w.holds ≡ false) → u.holds ≡ false
  split_idle views id v j u a h idle = ⊎_elim
      (λ (q : get_elem? (set views id (after_making v)) j ≡ some u). ⊎_elim
      (λ (r : (j ≡ id) × (after_making v ≡ u)). sym (ap (λ (y : View E). y.holds) r.1) ∙ h)
      (λ (r : (j ≢ id) × (get_elem? views j ≡ some u)). idle j u r.1)
      (at_set views id j (after_making v) u q))
      (λ (q : (j ≡ length (set views id (after_making v))) × (new_view v ≡ u)). sym (ap (λ (y : View E). y.holds) q.1))
      (at_end (set views id (after_making v)) (new_view v) u j a)

  pub splits : (id : ℕ) (v : View E) → v.live ≡ true → v.holds ≡ false → v.number ≡ 0 → v.next < seats → Splits (Kept list first seats) id v (after_making v) (new_view v)
  splits id v l h z less s kept at =
      let after : List (View E) = set s.views id (after_making v) ++ new_view v ∷ [] in
      let f : Fits kept.now kept.log s.views id v = kept.fits id v at in
      let zero_id : id ≡ 0 = sym (f.number l) ∙ z in
      let next : v.next ≡ length s.views = f.next l z in
      let len : length after ≡ suc (length s.views) = length_end (set s.views id (after_making v)) (new_view v) ∙ ap suc (length-set s.views id (after_making v)) in
      let below : id < length s.views = at_below s.views id v at in
      let known : (k : ℕ) (e : List E × List E) → get_elem? v.known k ≡ some e → (entries_by (suc k) kept.log ≡ e.0) × ((w : View E) × (get_elem? after (suc k) ≡ some w) × (w.live ≡ false)) × StartsWith kept.now e.1
      = λ k e p. let q = f.known l z k e p in (q.0, (q.1.0, at_longer (set s.views id (after_making v)) (new_view v ∷ []) (suc k) q.1.0 (set_else s.views id (suc k) (after_making v) (λ b. absurd (omega arith)) ∙ q.1.1), q.1.2), q.2) in
      let own : Fits kept.now kept.log after id (after_making v) = record {
        whole = λ t. true_false v.holds t h;
        begins = f.begins;
        spent = λ d. h;
        number = f.number;
        mine = f.mine;
        next = λ a b. ap suc next ∙ sym len;
        known = λ a b. known;
      } in
      let new : Fits kept.now kept.log after (length s.views) (new_view v) = record {
        whole = λ t. true_false false t refl;
        begins = f.begins;
        spent = λ d. refl;
        number = λ a. next;
        mine = λ a. sym (kept.later (length s.views) (le_refl (length s.views)));
        next = λ a b. absurd (omega arith);
        known = λ a b k e p. absurd (some-ne-none e (sym p));
      } in record {
        log = kept.log;
        now = kept.now;
        turn = kept.turn;
        is = kept.is;
        words = kept.words;
        room = let n : v.next ≡ length s.views = next in let m : length after ≡ suc (length s.views) = len in omega arith;
        fits = λ j u p. ⊎_elim
            (λ (q : get_elem? (set s.views id (after_making v)) j ≡ some u). ⊎_elim
            (λ (r : (j ≡ id) × (after_making v ≡ u)). let F : View E → Type 0 = λ y. Fits kept.now kept.log after j y in subst F r.1 (let G : ℕ → Type 0 = λ i. Fits kept.now kept.log after i (after_making v) in subst G (sym r.0) own))
            (λ (r : (j ≢ id) × (get_elem? s.views j ≡ some u)). refit kept.now kept.log s.views after j u (kept.fits j u r.1) (λ b. r.0 (b ∙ sym zero_id)))
            (at_set s.views id j (after_making v) u q))
            (λ (q : (j ≡ length (set s.views id (after_making v))) × (new_view v ≡ u)). let F : View E → Type 0 = λ y. Fits kept.now kept.log after j y in
            subst F q.1 (let G : ℕ → Type 0 = λ i. Fits kept.now kept.log after i (new_view v) in subst G (sym (q.0 ∙ length-set s.views id (after_making v))) new))
            (at_end (set s.views id (after_making v)) (new_view v) u j p);
        later = λ by le. kept.later by (omega arith);
        phase = ⊎_elim
            (λ (p : Free list kept.now s kept.turn). inl record {
              word = p.word;
              value = p.value;
              home = p.home;
              meant = p.meant;
              idle = λ j u a. split_idle s.views id v j u a h p.idle;
            })
            (λ (p : Taken s kept.turn). let ne : ¬ (p.holder ≡ id) = λ e. true_false v.holds (ap (λ (y : View E). y.holds) (some-injective v p.it (sym at ∙ subst (λ (i : ℕ). get_elem? s.views i ≡ some p.it) e p.at)) ∙ p.holds) h in
            inr record {
              word = p.word;
              home = p.home;
              holder = p.holder;
              it = p.it;
              holds = p.holds;
              at = at_longer (set s.views id (after_making v)) (new_view v ∷ []) p.holder p.it (set_else s.views id p.holder (after_making v) ne ∙ p.at);
              only = λ j u a t. ⊎_elim
                  (λ (q : get_elem? (set s.views id (after_making v)) j ≡ some u). ⊎_elim
                  (λ (r : (j ≡ id) × (after_making v ≡ u)). true_false u.holds t (sym (ap (λ (y : View E). y.holds) r.1) ∙ h))
                  (λ (r : (j ≢ id) × (get_elem? s.views j ≡ some u)). p.only j u r.1 t)
                  (at_set s.views id j (after_making v) u q))
                  (λ (q : (j ≡ length (set s.views id (after_making v))) × (new_view v ≡ u)). true_false u.holds t (sym (ap (λ (y : View E). y.holds) q.1)))
                  (at_end (set s.views id (after_making v)) (new_view v) u j a);
            })
            kept.phase;
      }

  -- after a seat was given up, each view is the first's, the given up one's or another
  joined : (views : List (View E)) (id other : ℕ) (b n : View E) (j : ℕ) (u : View E) → get_elem? (set (set views id b) other n) j ≡ some u
      → ((j ≡ other) × (n ≡ u)) ⊎ (((j ≡ id) × (b ≡ u)) ⊎ ((j ≢ other) × (j ≢ id) × (get_elem? views j ≡ some u)))
  joined views id other b n j u p = ⊎_elim
      (λ (q : (j ≡ other) × (n ≡ u)). inl q)
      (λ (q : (j ≢ other) × (get_elem? (set views id b) j ≡ some u)). inr (⊎_elim
      (λ (r : (j ≡ id) × (b ≡ u)). inl r)
      (λ (r : (j ≢ id) × (get_elem? views j ≡ some u)). inr (q.0, r.0, r.1))
      (at_set views id j b u q.1)))
      (at_set (set views id b) other j n u p)

  joined_idle : (views : List (View E)) (id other : ℕ) (v w : View E) (j : ℕ) (u : View E) → v.holds ≡ false → get_elem? (set (set views id (after_joining v w)) other spent_view) j ≡ some u
      → ((i : ℕ) (y : View E) → get_elem? views i ≡ some y → y.holds ≡ false) → u.holds ≡ false
  joined_idle views id other v w j u h p idle = ⊎_elim
      (λ (q : (j ≡ other) × (spent_view ≡ u)). sym (ap (λ (y : View E). y.holds) q.1))
      (λ q. ⊎_elim
      (λ (r : (j ≡ id) × (after_joining v w ≡ u)). sym (ap (λ (y : View E). y.holds) r.1) ∙ h)
      (λ (r : (j ≢ other) × (j ≢ id) × (get_elem? views j ≡ some u)). idle j u r.2)
      q)
      (joined views id other (after_joining v w) spent_view j u p)

  pub joins : (id : ℕ) (v : View E) (other : ℕ) (w : View E) → v.live ≡ true → v.holds ≡ false → v.number ≡ 0 → w.live ≡ true → w.holds ≡ false → w.number ≡ suc (length v.known)
      → Joins (Kept list first seats) id v other w (after_joining v w) spent_view
  joins id v other w l h z m g num s kept at ne atw' =
      let after : List (View E) = set (set s.views id (after_joining v w)) other spent_view in
      let atw : get_elem? s.views other ≡ some w = sym (set_else s.views id other (after_joining v w) ne) ∙ atw' in
      let f : Fits kept.now kept.log s.views id v = kept.fits id v at in
      let fw : Fits kept.now kept.log s.views other w = kept.fits other w atw in
      let zero_id : id ≡ 0 = sym (f.number l) ∙ z in
      let len : length after ≡ length s.views = length-set (set s.views id (after_joining v w)) other spent_view ∙ length-set s.views id (after_joining v w) in
      let below : other < length (set s.views id (after_joining v w)) = subst (λ (n : ℕ). other < n) (sym (length-set s.views id (after_joining v w))) (at_below s.views other w atw) in
      let dead : get_elem? after other ≡ some spent_view = set_here (set s.views id (after_joining v w)) other spent_view below in
      let known : (k : ℕ) (e : List E × List E) → get_elem? (v.known ++ (w.mine, w.list) ∷ []) k ≡ some e → (entries_by (suc k) kept.log ≡ e.0) × ((y : View E) × (get_elem? after (suc k) ≡ some y) × (y.live ≡ false)) × StartsWith kept.now e.1
      = λ k e p. ⊎_elim
      (λ (q : get_elem? v.known k ≡ some e). let r = f.known l z k e q in
      let no : suc k ≢ other = λ c. apart s.views other (suc k) w r.1.0 atw r.1.1 m r.1.2 (sym c) in
      (r.0, (r.1.0, set_else (set s.views id (after_joining v w)) other (suc k) spent_view no ∙ (set_else s.views id (suc k) (after_joining v w) (λ b. absurd (omega arith)) ∙ r.1.1), r.1.2), r.2))
      (λ (q : (k ≡ length v.known) × ((w.mine, w.list) ≡ e)).
      let here : other ≡ suc k = sym (fw.number m) ∙ (num ∙ ap suc (sym q.0)) in (
        subst (λ (i : ℕ). entries_by i kept.log ≡ e.0) here (sym (fw.mine m) ∙ ap (λ (x : List E × List E). x.0) q.1),
        (spent_view, subst (λ (i : ℕ). get_elem? after i ≡ some spent_view) here dead, refl),
        subst (λ (x : List E). StartsWith kept.now x) (ap (λ (x : List E × List E). x.1) q.1) fw.begins,
      ))
      (at_end v.known (w.mine, w.list) e k p) in
      let own : Fits kept.now kept.log after id (after_joining v w) = record {
        whole = λ t. true_false v.holds t h;
        begins = f.begins;
        spent = λ d. h;
        number = f.number;
        mine = f.mine;
        next = λ a b. f.next a b ∙ sym len;
        known = λ a b. known;
      } in
      let none_left : Fits kept.now kept.log after other spent_view = record {
        whole = λ t. true_false false t refl;
        begins = (kept.now, refl);
        spent = λ d. refl;
        number = λ a. true_false false a refl;
        mine = λ a. true_false false a refl;
        next = λ a b. true_false false a refl;
        known = λ a b k e p. true_false false a refl;
      } in record {
        log = kept.log;
        now = kept.now;
        turn = kept.turn;
        is = kept.is;
        words = kept.words;
        room = subst (λ (n : ℕ). n ≤ seats) (sym len) kept.room;
        fits = λ j u p. let F : ℕ → View E → Type 0 = λ i y. Fits kept.now kept.log after i y in ⊎_elim
            (λ (q : (j ≡ other) × (spent_view ≡ u)). subst (λ (y : View E). F j y) q.1 (subst (λ (i : ℕ). F i spent_view) (sym q.0) none_left))
            (λ q. ⊎_elim
            (λ (r : (j ≡ id) × (after_joining v w ≡ u)). subst (λ (y : View E). F j y) r.1 (subst (λ (i : ℕ). F i (after_joining v w)) (sym r.0) own))
            (λ (r : (j ≢ other) × (j ≢ id) × (get_elem? s.views j ≡ some u)). refit kept.now kept.log s.views after j u (kept.fits j u r.2) (λ b. r.1 (b ∙ sym zero_id)))
            q)
            (joined s.views id other (after_joining v w) spent_view j u p);
        later = λ by le. kept.later by (subst (λ (n : ℕ). n ≤ by) len le);
        phase = ⊎_elim
            (λ (p : Free list kept.now s kept.turn). inl record {
              word = p.word;
              value = p.value;
              home = p.home;
              meant = p.meant;
              idle = λ j u a. joined_idle s.views id other v w j u h a p.idle;
            })
            (λ (p : Taken s kept.turn).
            let no : ¬ (p.holder ≡ id) = λ e. true_false v.holds (ap (λ (y : View E). y.holds) (some-injective v p.it (sym at ∙ subst (λ (i : ℕ). get_elem? s.views i ≡ some p.it) e p.at)) ∙ p.holds) h in
            let nor : ¬ (p.holder ≡ other) = λ e. true_false w.holds (ap (λ (y : View E). y.holds) (some-injective w p.it (sym atw ∙ subst (λ (i : ℕ). get_elem? s.views i ≡ some p.it) e p.at)) ∙ p.holds) g in
            inr record {
              word = p.word;
              home = p.home;
              holder = p.holder;
              it = p.it;
              holds = p.holds;
              at = set_else (set s.views id (after_joining v w)) other p.holder spent_view nor ∙ (set_else s.views id p.holder (after_joining v w) no ∙ p.at);
              only = λ j u a t. ⊎_elim
                  (λ (q : (j ≡ other) × (spent_view ≡ u)). true_false u.holds t (sym (ap (λ (y : View E). y.holds) q.1)))
                  (λ q. ⊎_elim
                  (λ (r : (j ≡ id) × (after_joining v w ≡ u)). true_false u.holds t (sym (ap (λ (y : View E). y.holds) r.1) ∙ h))
                  (λ (r : (j ≢ other) × (j ≢ id) × (get_elem? s.views j ≡ some u)). p.only j u r.2 t)
                  q)
                  (joined s.views id other (after_joining v w) spent_view j u a);
            })
            kept.phase;
      }

  unheld : (now : List E) (log : List (ℕ × E)) (views : List (View E)) (id : ℕ) (v : View E) (i : ℕ) (u : View E)
      → ((j : ℕ) (y : View E) → get_elem? views j ≡ some y → Fits now log views j y)
      → get_elem? views id ≡ some v → v.live ≡ true → v.holds ≡ false → v.number ≡ 0 → length views ≤ suc (length v.known) → get_elem? views i ≡ some u → u.holds ≡ true → ⊥
  unheld now log views id v zero u fits at l h z room ati t =
      let zero_id : id ≡ 0 = sym ((fits id v at).number l) ∙ z in
      let same : v ≡ u = some-injective v u (sym at ∙ subst (λ (k : ℕ). get_elem? views k ≡ some u) (sym zero_id) ati) in
      true_false v.holds (ap (λ (y : View E). y.holds) same ∙ t) h
  unheld now log views id v (suc k) u fits at l h z room ati t =
      let below : suc k < length views = at_below views (suc k) u ati in
      let e = there v.known k (omega arith) in
      let d = (fits id v at).known l z k e.0 e.1 in
      let same : d.1.0 ≡ u = some-injective d.1.0 u (sym d.1.1 ∙ ati) in
      true_false u.holds t ((fits (suc k) u ati).spent (sym (ap (λ (y : View E). y.live) same) ∙ d.1.2))

  parts_are : (now : List E) (log : List (ℕ × E)) (mine seen : List E) (known : List (List E × List E)) → mine ≡ entries_by 0 log → StartsWith now seen
      → ((k : ℕ) (e : List E × List E) → get_elem? known k ≡ some e → (entries_by (suc k) log ≡ e.0) × StartsWith now e.1)
      → (by : ℕ) (part : List E × List E) → get_elem? ((mine, seen) ∷ known) by ≡ some part → (entries_by by log ≡ part.0) × StartsWith now part.1
  parts_are now log mine seen known own begins others zero part p = let e : (mine, seen) ≡ part = some-injective (mine, seen) part p in
      (sym own ∙ ap (λ (x : List E × List E). x.0) e, subst (λ (x : List E). StartsWith now x) (ap (λ (x : List E × List E). x.1) e) begins)
  parts_are now log mine seen known own begins others (suc k) part p = others k part p

  -- once the first pass has all others, none of which can hold, the value is at home
  pub ends : (id : ℕ) (v : View E) (ws : List ℕ) (xs : List (Opt S)) → v.live ≡ true → v.holds ≡ false → v.number ≡ 0 → seats ≡ suc (length v.known)
      → Final (Seen (Kept list first seats) id v) ws xs → (x : S) × (get_elem? xs 0 ≡ some (Some x)) × Woven first ((v.mine, v.list) ∷ v.known) (list x)
  ends id v ws xs l h z all end =
      let s = end.0 in
      let kept : Kept list first seats s = end.1.0 in
      let at : get_elem? s.views id ≡ some v = end.1.1 in
      let f : Fits kept.now kept.log s.views id v = kept.fits id v at in
      let zero_id : id ≡ 0 = sym (f.number l) ∙ z in
      let some_room = kept.room in
      let free : Free list kept.now s kept.turn = ⊎_elim (λ (p : Free list kept.now s kept.turn). p)
      (λ (p : Taken s kept.turn). absurd (unheld kept.now kept.log s.views id v p.holder p.it kept.fits at l h z (omega arith) p.at p.holds)) kept.phase in (
        free.value,
        end.4 0 (Some free.value) (ap (λ (hs : List (Option (Opt S))). get_elem? hs 0) free.home),
        record {
          log = kept.log;
          all_of = free.meant ∙ kept.is;
          each = λ by part p. subst (λ (a : List E). (entries_by by kept.log ≡ part.0) × StartsWith a part.1) (sym free.meant)
              (parts_are kept.now kept.log v.mine v.list v.known (subst (λ (i : ℕ). v.mine ≡ entries_by i kept.log) zero_id (f.mine l)) f.begins (λ k e q. let d = f.known l z k e q in (d.0, d.2)) by part p);
          others = λ by le. kept.later by (omega arith);
        },
      )
