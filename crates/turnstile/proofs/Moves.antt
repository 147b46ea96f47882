-- Each step keeps the rule.
use Rattle.std.proofs.Common.{◌≡◌, ◌≢◌, ℕ, zero, suc, ◌+◌, ◌%◌, ◌^◌, ◌<◌, ◌≤◌, ◌⊎◌, inl, inr, ⊎_elim, eqb, Bool, true, false, List, [], ◌∷◌, ◌++◌, length, drop, set, slice_index, slice_set, refl, sym, ap, subst, ◌∙◌, append-nil, arith, Option as Opt, Some, None}
use Rattle.std.proofs.Math.ListN.{length-set}
use Rattle.std.proofs.Math.Nat.{mod-eq_of_lt}
use mathlib.Core.Option.{Option, some, none, some-injective, some-ne-none}
use lib.ListN.{get_elem?}
use prog.Atomic.{either}
use Rattle.atomic_table.specs.Table.{State, Me, Step, step, Act, keeps, takes, gives, Valid, rest, carried_after, stepped, Allows}
use Rattle.atomic_table.proofs.Lists.{at_set, set_here, set_else, set_again}
use Rattle.turnstile.specs.declared.view.View.{View}
use Rattle.turnstile.specs.Entries.{entries_by, tagged, StartsWith}
use Rattle.turnstile.specs.Rule.{Fits, Free, Taken, Kept}
use Rattle.turnstile.specs.Steps.{taken, counted, Takes, Counts, Gives}
use Rattle.turnstile.proofs.Logs.{more_own, more_else, more_all, starts_more, starts_split}

pub true_false : {A : Type 0} (b : Bool) → b ≡ true → b ≡ false → A
true_false b t f = let e : true ≡ false = sym t ∙ f in absurd cc

module _ {E : Type 0} where
  pub at_below : (views : List (View E)) (id : ℕ) (v : View E) → get_elem? views id ≡ some v → id < length views
  at_below [] id v e = absurd (some-ne-none v (sym e))
  at_below (x ∷ xs) zero v e = omega arith
  at_below (x ∷ xs) (suc id) v e = let h = at_below xs id v e in omega arith

  pub apart : (views : List (View E)) (i j : ℕ) (v w : View E) → get_elem? views i ≡ some v → get_elem? views j ≡ some w → v.live ≡ true → w.live ≡ false → i ≢ j
  apart views i j v w ati atj l d = λ e.
      let h : get_elem? views i ≡ some w = subst (λ (k : ℕ). get_elem? views k ≡ some w) (sym e) atj in
      let same : v ≡ w = some-injective v w (sym ati ∙ h) in
      true_false w.live (sym (ap (λ (u : View E). u.live) same) ∙ l) d

  -- what the seat that steps may become, where it adds the entries xs to the list `now`
  record Becomes (now xs : List E) (v w : View E) : Type 0 where
    was_live : v.live ≡ true
    live : w.live ≡ true
    number : w.number ≡ v.number
    next : w.next ≡ v.next
    known : w.known ≡ v.known
    mine : w.mine ≡ v.mine ++ xs
    whole : w.holds ≡ true → w.list ≡ now ++ xs
    begins : StartsWith (now ++ xs) w.list

  known_after : (now : List E) (log : List (ℕ × E)) (views : List (View E)) (id : ℕ) (v w : View E) (xs : List E) (k : ℕ) (e : List E × List E)
      → get_elem? views id ≡ some v → v.live ≡ true
      → (entries_by (suc k) log ≡ e.0) × ((u : View E) × (get_elem? views (suc k) ≡ some u) × (u.live ≡ false)) × StartsWith now e.1
      → (entries_by (suc k) (log ++ tagged id xs) ≡ e.0) × ((u : View E) × (get_elem? (set views id w) (suc k) ≡ some u) × (u.live ≡ false)) × StartsWith (now ++ xs) e.1
  known_after now log views id v w xs k e at l p =
      let ne : id ≢ suc k = apart views id (suc k) v p.1.0 at p.1.1 l p.1.2 in
      (more_else id (suc k) log xs ne ∙ p.0, (p.1.0, set_else views id (suc k) w (λ q. ne (sym q)) ∙ p.1.1, p.1.2), starts_more now e.1 xs p.2)

  other_fits : (now : List E) (log : List (ℕ × E)) (views : List (View E)) (id : ℕ) (v w : View E) (xs : List E) (j : ℕ) (u : View E)
      → get_elem? views id ≡ some v → v.live ≡ true → j ≢ id → u.holds ≡ false
      → Fits now log views j u → Fits (now ++ xs) (log ++ tagged id xs) (set views id w) j u
  other_fits now log views id v w xs j u at l ne idle f = record {
    whole = λ h. true_false u.holds h idle;
    begins = starts_more now u.list xs f.begins;
    spent = f.spent;
    number = f.number;
    mine = λ a. f.mine a ∙ sym (more_else id j log xs (λ q. ne (sym q)));
    next = λ a z. f.next a z ∙ sym (length-set views id w);
    known = λ a z k e p. known_after now log views id v w xs k e at l (f.known a z k e p);
  }

  own_fits : (now : List E) (log : List (ℕ × E)) (views : List (View E)) (id : ℕ) (v w : View E) (xs : List E)
      → get_elem? views id ≡ some v → Becomes now xs v w
      → Fits now log views id v → Fits (now ++ xs) (log ++ tagged id xs) (set views id w) id w
  own_fits now log views id v w xs at b f = record {
    whole = b.whole;
    begins = b.begins;
    spent = λ d. true_false w.live b.live d;
    number = λ a. b.number ∙ f.number b.was_live;
    mine = λ a. b.mine ∙ (ap (λ (l : List E). l ++ xs) (f.mine b.was_live) ∙ sym (more_own id log xs));
    next = λ a z. b.next ∙ (f.next b.was_live (sym b.number ∙ z) ∙ sym (length-set views id w));
    known = λ a z k e p. known_after now log views id v w xs k e at b.was_live (f.known b.was_live (sym b.number ∙ z) k e (subst (λ (l : List (List E × List E)). get_elem? l k ≡ some e) b.known p));
  }

  all_fit : (now : List E) (log : List (ℕ × E)) (views : List (View E)) (id : ℕ) (v w : View E) (xs : List E)
      → get_elem? views id ≡ some v → Becomes now xs v w
      → ((j : ℕ) (u : View E) → get_elem? views j ≡ some u → j ≢ id → u.holds ≡ false)
      → ((j : ℕ) (u : View E) → get_elem? views j ≡ some u → Fits now log views j u)
      → (j : ℕ) (u : View E) → get_elem? (set views id w) j ≡ some u → Fits (now ++ xs) (log ++ tagged id xs) (set views id w) j u
  all_fit now log views id v w xs at b idle f j u p = ⊎_elim
      (λ (t : (j ≡ id) × (w ≡ u)).
      let F : ℕ → View E → Type 0 = λ i x. Fits (now ++ xs) (log ++ tagged id xs) (set views id w) i x in
      subst (λ (x : View E). F j x) t.1 (subst (λ (i : ℕ). F i w) (sym t.0) (own_fits now log views id v w xs at b (f id v at))))
      (λ (t : (j ≢ id) × (get_elem? views j ≡ some u)). other_fits now log views id v w xs j u at b.was_live t.0 (idle j u t.1 t.0) (f j u t.1))
      (at_set views id j w u p)

  -- numbers that no pass has yet have no entries
  still_later : (log : List (ℕ × E)) (views : List (View E)) (id : ℕ) (v w : View E) (xs : List E) → get_elem? views id ≡ some v
      → ((by : ℕ) → length views ≤ by → entries_by by log ≡ [])
      → (by : ℕ) → length (set views id w) ≤ by → entries_by by (log ++ tagged id xs) ≡ []
  still_later log views id v w xs at h by le =
      let le' : length views ≤ by = subst (λ (n : ℕ). n ≤ by) (length-set views id w) le in
      let lt : id < length views = at_below views id v at in
      more_else id by log xs (λ e. absurd (omega arith)) ∙ h by le'

abbrev slot_value : {S : Type 0} → S → List (ℕ × Opt S) → S
slot_value d [] = d
slot_value d (p ∷ ps) = elim p.1 [ Some x ↦ x | None ↦ d ]

not_true : (b : Bool) → ¬ (b ≡ true) → b ≡ false
not_true true h = absurd (h refl)
not_true false h = refl

module _ {S E : Type 0} (list : S → List E) (first : List E) (seats : ℕ) where
  -- the state after a step of the seat id, which adds the entries xs
  go_on : (s : State (Opt S) (View E)) (id : ℕ) (v w : View E) (xs : List E) (turn : ℕ) (ws : List ℕ) (hs : List (Option (Opt S))) (kept : Kept list first seats s)
      → get_elem? s.views id ≡ some v → Becomes kept.now xs v w
      → ((j : ℕ) (u : View E) → get_elem? s.views j ≡ some u → j ≢ id → u.holds ≡ false)
      → ws ≡ turn ∷ length (kept.now ++ xs) ∷ []
      → Free list (kept.now ++ xs) record { words = ws; homes = hs; views = set s.views id w } turn ⊎ Taken {S = S} record { words = ws; homes = hs; views = set s.views id w } turn
      → Kept list first seats record { words = ws; homes = hs; views = set s.views id w }
  go_on s id v w xs turn ws hs kept at b idle words phase = record {
    log = kept.log ++ tagged id xs;
    now = kept.now ++ xs;
    turn = turn;
    is = ap (λ (l : List E). l ++ xs) kept.is ∙ more_all id first kept.log xs;
    words = words;
    fits = all_fit kept.now kept.log s.views id v w xs at b idle kept.fits;
    room = subst (λ (n : ℕ). n ≤ seats) (sym (length-set s.views id w)) kept.room;
    later = still_later kept.log s.views id v w xs at kept.later;
    phase = phase;
  }

  same_state : (s : State (Opt S) (View E)) (ws : List ℕ) (vs : List (View E)) → ws ≡ s.words → vs ≡ s.views → Kept list first seats s → Kept list first seats record { words = ws; homes = s.homes; views = vs }
  same_state s ws vs p q k = subst (λ (x : List ℕ). Kept list first seats record { words = x; homes = s.homes; views = vs }) (sym p)
      (subst (λ (y : List (View E)). Kept list first seats record { words = s.words; homes = s.homes; views = y }) (sym q) k)

  takes_free : (slots : ℕ) (st : Step (Opt S)) (id : ℕ) (v : View E) → v.live ≡ true → (s : State (Opt S) (View E)) (kept : Kept list first seats s)
      → get_elem? s.views id ≡ some v → Free list kept.now s kept.turn
      → (w : View E) × (a : Act (Opt S)) × Valid s.homes [] a × Kept list first seats (stepped s 0 (either (eqb (slice_index s.words 0) 0) 1 (slice_index s.words 0)) id [] w a)
      × Takes list st (v, []) (slice_index s.words 0) (w, carried_after [] a)
  takes_free slots st id v l s kept at p =
      let x = p.value in
      let w : View E = taken list v x in
      let n : slice_index s.words 0 ≡ 0 = ap (λ (ws : List ℕ). slice_index ws 0) kept.words ∙ p.word in
      let one : either (eqb (slice_index s.words 0) 0) 1 (slice_index s.words 0) ≡ 1 = ap (λ (k : ℕ). either (eqb k 0) 1 k) n in
      let ws : slice_set s.words 0 (either (eqb (slice_index s.words 0) 0) 1 (slice_index s.words 0)) ≡ 1 ∷ length (kept.now ++ []) ∷ []
      = ap (λ (l : List ℕ). slice_set l 0 (either (eqb (slice_index s.words 0) 0) 1 (slice_index s.words 0))) kept.words
      ∙ (ap (λ (k : ℕ). k ∷ length kept.now ∷ []) one ∙ ap (λ (l : List E). 1 ∷ length l ∷ []) (sym (append-nil kept.now))) in
      let home : slice_set s.homes 0 none ≡ none ∷ [] = ap (λ (l : List (Option (Opt S))). slice_set l 0 none) p.home in
      let b : Becomes kept.now [] v w = record {
        was_live = l;
        live = l;
        number = refl;
        next = refl;
        known = refl;
        mine = sym (append-nil v.mine);
        whole = λ h. p.meant ∙ sym (append-nil kept.now);
        begins = ([], ap (λ (a : List E). a ++ []) (sym p.meant));
      } in (
        w,
        takes 0 (Some x),
        ap (λ (l : List (Option (Opt S))). get_elem? l 0) p.home,
        go_on s id v w [] 1 _ _ kept at b (λ j u a ne. p.idle j u a) ws (inr record {
          word = refl;
          home = home;
          holder = id;
          it = w;
          at = set_here s.views id w (at_below s.views id v at);
          holds = refl;
          only = λ j u a h. ⊎_elim (λ (t : (j ≡ id) × (w ≡ u)). t.0) (λ (t : (j ≢ id) × (get_elem? s.views j ≡ some u)). true_false u.holds h (p.idle j u t.1)) (at_set s.views id j w u a);
        }),
        ((λ z. (x, refl, subst (λ (a : List E). StartsWith a v.list) (sym p.meant) (kept.fits id v at).begins)), (λ nz. absurd (nz n))),
      )

  takes_taken : (slots : ℕ) (st : Step (Opt S)) (id : ℕ) (v : View E) (s : State (Opt S) (View E)) (kept : Kept list first seats s)
      → get_elem? s.views id ≡ some v → Taken s kept.turn
      → (w : View E) × (a : Act (Opt S)) × Valid s.homes [] a × Kept list first seats (stepped s 0 (either (eqb (slice_index s.words 0) 0) 1 (slice_index s.words 0)) id [] w a)
      × Takes list st (v, []) (slice_index s.words 0) (w, carried_after [] a)
  takes_taken slots st id v s kept at p =
      let n : slice_index s.words 0 ≡ 1 = ap (λ (ws : List ℕ). slice_index ws 0) kept.words ∙ p.word in
      let one : either (eqb (slice_index s.words 0) 0) 1 (slice_index s.words 0) ≡ 1 = ap (λ (k : ℕ). either (eqb k 0) 1 k) n in
      let ws : slice_set s.words 0 (either (eqb (slice_index s.words 0) 0) 1 (slice_index s.words 0)) ≡ s.words
      = ap (λ (l : List ℕ). slice_set l 0 (either (eqb (slice_index s.words 0) 0) 1 (slice_index s.words 0))) kept.words
      ∙ (ap (λ (k : ℕ). k ∷ length kept.now ∷ []) (one ∙ sym p.word) ∙ sym kept.words) in (
        v,
        keeps,
        tt,
        same_state s _ _ ws (set_again s.views id v at) kept,
        ((λ z. absurd (omega arith)), (λ nz. refl)),
      )

  pub takes_allowed : (slots : ℕ) (st : Step (Opt S)) (id : ℕ) (v : View E) → v.live ≡ true
      → Allows (Kept list first seats) slots id (v, []) 0 (λ n. either (eqb n 0) 1 n) (Takes list st (v, []))
  takes_allowed slots st id v l s kept len at small = ⊎_elim (takes_free slots st id v l s kept at) (takes_taken slots st id v s kept at) kept.phase

  -- no other seat holds where this one does
  alone : (s : State (Opt S) (View E)) (id : ℕ) (v : View E) (turn : ℕ) → get_elem? s.views id ≡ some v → v.holds ≡ true → Taken s turn
      → (j : ℕ) (u : View E) → get_elem? s.views j ≡ some u → j ≢ id → u.holds ≡ false
  alone s id v turn at h p j u a ne = not_true u.holds (λ t. ne (p.only j u a t ∙ sym (p.only id v at h)))

  held : (s : State (Opt S) (View E)) (kept : Kept list first seats s) (id : ℕ) (v : View E) → get_elem? s.views id ≡ some v → v.holds ≡ true → Taken s kept.turn
  held s kept id v at h = ⊎_elim (λ (p : Free list kept.now s kept.turn). true_false v.holds h (p.idle id v at)) (λ (p : Taken s kept.turn). p) kept.phase

  pub counts_allowed : (slots : ℕ) (st : Step (Opt S)) (id : ℕ) (v : View E) (x : S) (k : ℕ) → v.live ≡ true → v.holds ≡ true
      → StartsWith (list x) v.list → length v.list + k ≡ length (list x) → length (list x) < 2 ^ 64
      → Allows (Kept list first seats) slots id (v, (0, Some x) ∷ []) 1 (λ n. (n + k) % 2 ^ 64) (Counts list st (v, (0, Some x) ∷ []))
  counts_allowed slots st id v x k l h starts adds small s kept len at low =
      let w : View E = counted list v x in
      let xs : List E = drop (length v.list) (list x) in
      let p : Taken s kept.turn = held s kept id v at h in
      let whole : v.list ≡ kept.now = (kept.fits id v at).whole h in
      let all : list x ≡ kept.now ++ xs = starts_split (list x) v.list starts ∙ ap (λ (a : List E). a ++ xs) whole in
      let n : slice_index s.words 1 ≡ length kept.now = ap (λ (ws : List ℕ). slice_index ws 1) kept.words in
      let sum : slice_index s.words 1 + k ≡ length (list x) = ap (λ (m : ℕ). m + k) (n ∙ ap length (sym whole)) ∙ adds in
      let now : (slice_index s.words 1 + k) % 2 ^ 64 ≡ length (kept.now ++ xs) = ap (λ (m : ℕ). m % 2 ^ 64) sum ∙ (mod-eq_of_lt small ∙ ap length all) in
      let ws : slice_set s.words 1 ((slice_index s.words 1 + k) % 2 ^ 64) ≡ 1 ∷ length (kept.now ++ xs) ∷ []
      = ap (λ (a : List ℕ). slice_set a 1 ((slice_index s.words 1 + k) % 2 ^ 64)) kept.words
      ∙ (ap (λ (t : ℕ). t ∷ ((slice_index s.words 1 + k) % 2 ^ 64) ∷ []) p.word ∙ ap (λ (m : ℕ). 1 ∷ m ∷ []) now) in
      let b : Becomes kept.now xs v w = record {
        was_live = l;
        live = l;
        number = refl;
        next = refl;
        known = refl;
        mine = refl;
        whole = λ t. all;
        begins = ([], sym all ∙ sym (append-nil (list x)));
      } in (
        w,
        keeps,
        tt,
        go_on s id v w xs 1 _ _ kept at b (alone s id v kept.turn at h p) ws (inr record {
          word = refl;
          home = p.home;
          holder = id;
          it = w;
          at = set_here s.views id w (at_below s.views id v at);
          holds = h;
          only = λ j u a t. ⊎_elim (λ (q : (j ≡ id) × (w ≡ u)). q.0) (λ (q : (j ≢ id) × (get_elem? s.views j ≡ some u)). true_false u.holds t (alone s id v kept.turn at h p j u q.1 q.0)) (at_set s.views id j w u a);
        }),
        (λ y e. let same : x ≡ y = ap (slot_value x) e in (n ∙ ap length (sym whole), ap (λ (z : S). (counted list v z, (0, Some x) ∷ [])) same)),
      )

  pub gives_allowed : (slots : ℕ) (st : Step (Opt S)) (id : ℕ) (v : View E) (x : S) → v.live ≡ true → v.holds ≡ true → v.list ≡ list x
      → Allows (Kept list first seats) slots id (v, (0, Some x) ∷ []) 0 (λ _. 0) (Gives list st (v, (0, Some x) ∷ []))
  gives_allowed slots st id v x l h meant s kept len at low =
      let w : View E = record v { holds = false } in
      let p : Taken s kept.turn = held s kept id v at h in
      let whole : v.list ≡ kept.now = (kept.fits id v at).whole h in
      let ws : slice_set s.words 0 0 ≡ 0 ∷ length (kept.now ++ []) ∷ []
      = ap (λ (a : List ℕ). slice_set a 0 0) kept.words ∙ ap (λ (a : List E). 0 ∷ length a ∷ []) (sym (append-nil kept.now)) in
      let home : slice_set s.homes 0 (some (Some x)) ≡ some (Some x) ∷ [] = ap (λ (a : List (Option (Opt S))). slice_set a 0 (some (Some x))) p.home in
      let b : Becomes kept.now [] v w = record {
        was_live = l;
        live = l;
        number = refl;
        next = refl;
        known = refl;
        mine = sym (append-nil v.mine);
        whole = λ t. true_false false t refl;
        begins = ([], ap (λ (a : List E). a ++ []) (sym whole));
      } in (
        w,
        gives,
        tt,
        go_on s id v w [] 0 _ _ kept at b (alone s id v kept.turn at h p) ws (inl record {
          word = refl;
          value = x;
          home = home;
          meant = sym meant ∙ (whole ∙ sym (append-nil kept.now));
          idle = λ j u a. ⊎_elim (λ (q : (j ≡ id) × (w ≡ u)). sym (ap (λ (z : View E). z.holds) q.1)) (λ (q : (j ≢ id) × (get_elem? s.views j ≡ some u)). alone s id v kept.turn at h p j u q.1 q.0) (at_set s.views id j w u a);
        }),
        refl,
      )

  pub takes_at : (slots : ℕ) (id : ℕ) (me : Me (Opt S) (View E)) → me.0.live ≡ true → me.1 ≡ []
      → Allows (Kept list first seats) slots id me 0 (λ n. either (eqb n 0) 1 n) (Takes list (step 0 0 0 0 none) me)
  takes_at slots id me l e = subst (λ (a : List (ℕ × Opt S)). Allows (Kept list first seats) slots id (me.0, a) 0 (λ n. either (eqb n 0) 1 n) (Takes list (step 0 0 0 0 none) (me.0, a))) (sym e) (takes_allowed slots (step 0 0 0 0 none) id me.0 l)

  pub counts_at : (slots : ℕ) (id : ℕ) (me : Me (Opt S) (View E)) (x : S) (k : ℕ) → me.0.live ≡ true → me.0.holds ≡ true → me.1 ≡ (0, Some x) ∷ []
      → StartsWith (list x) me.0.list → length me.0.list + k ≡ length (list x) → length (list x) < 2 ^ 64
      → Allows (Kept list first seats) slots id me 1 (λ n. (n + k) % 2 ^ 64) (Counts list (step 0 0 0 0 none) me)
  counts_at slots id me x k l h e starts adds small = subst (λ (a : List (ℕ × Opt S)). Allows (Kept list first seats) slots id (me.0, a) 1 (λ n. (n + k) % 2 ^ 64) (Counts list (step 0 0 0 0 none) (me.0, a))) (sym e)
      (counts_allowed slots (step 0 0 0 0 none) id me.0 x k l h starts adds small)

  pub gives_at : (slots : ℕ) (id : ℕ) (me : Me (Opt S) (View E)) (x : S) → me.0.live ≡ true → me.0.holds ≡ true → me.1 ≡ (0, Some x) ∷ [] → me.0.list ≡ list x
      → Allows (Kept list first seats) slots id me 0 (λ _. 0) (Gives list (step 0 0 0 0 none) me)
  gives_at slots id me x l h e meant = subst (λ (a : List (ℕ × Opt S)). Allows (Kept list first seats) slots id (me.0, a) 0 (λ _. 0) (Gives list (step 0 0 0 0 none) (me.0, a))) (sym e) (gives_allowed slots (step 0 0 0 0 none) id me.0 x l h meant)

pub one_slot : {A : Type 0} (l : List (ℕ × A)) (x : A) → l ≡ (0, x) ∷ [] → l ≡ (0, x) ∷ rest l
one_slot {A = A} l x e = e ∙ ap (λ (r : List (ℕ × A)). (0, x) ∷ rest r) (sym e)
