-- What sessions do, as lists say it.
use Rattle.std.proofs.Common.{◌≡◌, ◌⊎◌, inl, inr, ⊎_elim, ◌≤◌, ◌<◌, ◌+◌, ℕ, zero, suc, Bool, true, false, ◌||◌, cond, refl, sym, ap, ◌∙◌, subst, Some, None, List, [], ◌∷◌, ◌++◌, length, replicate, arith}
use Rattle.std.specs.Prelude.{◌==◌}
use Rattle.std.specs.List.{AllByRecursion}
use Rattle.std.proofs.Math.ListN.{get_or, get_or-eq_default}
use Rattle.std.proofs.lemmas.Bool.{cases_lt, eqb-true}
use Rattle.op_steps.specs.Live.{is_live}
use Rattle.op_steps.specs.Stages.{name_of}
use Rattle.session_laws.specs.Doing.{Live, live_of}
use Rattle.operation_laws.specs.LiveNumbers.{HasLive, AreTheLive}
use Rattle.manager_core.specs.declared.doings.Doing.{Doing}
use Rattle.manager_core.specs.declared.doings.Doing.TheVariants as seat
use Rattle.manager_core.specs.Doings.{AreAtRest, IsProper, all_doing, doing_of, with_live}

-- ---- sessions that rest

pub resting_at : (n i : ℕ) → get_or (replicate n seat.Resting) i seat.Resting ≡ seat.Resting
resting_at zero i = refl
resting_at (suc n) zero = refl
resting_at (suc n) (suc i) = resting_at n i

pub all_at_rest : (n : ℕ) → AreAtRest (replicate n seat.Resting)
all_at_rest n zero = refl
all_at_rest n (suc i) = ap doing_of (resting_at n i)

pub all_proper : (n : ℕ) → AllByRecursion IsProper (replicate n seat.Resting)
all_proper zero = tt
all_proper (suc n) = (tt, all_proper n)

-- what stands at a place doesn't turn on what is given past the end
pub at_place : (ds : List Doing) (i : ℕ) (a b : Doing) → i < length ds → get_or ds i a ≡ get_or ds i b
at_place [] i a b less = absurd (omega (arith, less))
at_place (d ∷ ds) zero a b less = refl
at_place (d ∷ ds) (suc i) a b less = at_place ds i a b (omega (arith, less))

-- ---- the live operations

some_is : (a b : Live) → Some a ≡ Some b → a ≡ b
some_is a b e = cc

still : (live : List ℕ) (n m : ℕ) → is_live live m ≡ true → is_live (live ++ n ∷ []) m ≡ true
still [] n m h = absurd cc
still (x ∷ live) n m h = by (x == m) h (still live n m)
  where
    by : (b : Bool) → (b || is_live live m) ≡ true → (is_live live m ≡ true → is_live (live ++ n ∷ []) m ≡ true) → (b || is_live (live ++ n ∷ []) m) ≡ true
    by true h more = refl
    by false h more = more h

same_number : (n : ℕ) → (n == n) ≡ true
same_number n = Rattle.std.proofs.Common.eq-eqb n n refl

own : (live : List ℕ) (n : ℕ) → is_live (live ++ n ∷ []) n ≡ true
own [] n = ap (λ b. b || false) (same_number n)
own (x ∷ live) n = by (x == n) (own live n)
  where
    by : (b : Bool) → is_live (live ++ n ∷ []) n ≡ true → (b || is_live (live ++ n ∷ []) n) ≡ true
    by true h = refl
    by false h = h

back : (live : List ℕ) (n m : ℕ) → is_live (live ++ n ∷ []) m ≡ true → (is_live live m ≡ true) ⊎ (n ≡ m)
back [] n m h = by (n == m) refl h
  where
    by : (b : Bool) → (n == m) ≡ b → (b || false) ≡ true → (is_live [] m ≡ true) ⊎ (n ≡ m)
    by true e h = inr (eqb-true n m e)
    by false e h = absurd cc
back (x ∷ live) n m h = by (x == m) h (back live n m)
  where
    by : (b : Bool) → (b || is_live (live ++ n ∷ []) m) ≡ true → (is_live (live ++ n ∷ []) m ≡ true → (is_live live m ≡ true) ⊎ (n ≡ m)) → ((b || is_live live m) ≡ true) ⊎ (n ≡ m)
    by true h more = inl refl
    by false h more = more h

-- the live operations of the first so many sessions are listed
pub record Counted (live : List ℕ) (ds : List Doing) (i : ℕ) : Type 0 where
  pub few : length live ≤ i
  pub listed : (n : ℕ) (l : Live) → n < i → live_of (doing_of (get_or ds n seat.Resting)) ≡ Some l → is_live live l.op.number ≡ true
  pub had : (number : ℕ) → is_live live number ≡ true → HasLive (all_doing ds) number

pub counted_none : (ds : List Doing) → Counted [] ds 0
counted_none ds = record { few = omega arith; listed = λ n l less is. absurd (omega (arith, less)); had = λ number is. absurd cc }

module _ (live : List ℕ) (ds : List Doing) (i : ℕ) (c : Counted live ds i) where
  -- a session that has none live
  passes : live_of (doing_of (get_or ds i seat.Resting)) ≡ None → Counted live ds (i + 1)
  passes none = record {
    few = let few = c.few in omega (arith, few);
    listed = λ n l less is. ⊎_elim (λ below. c.listed n l below is) (λ at. let both : None ≡ Some l = sym none ∙ ap (λ k. live_of (doing_of (get_or ds k seat.Resting))) (sym at) ∙ is in absurd cc) (by n less);
    had = c.had;
  }
    where
      by : (n : ℕ) → n < i + 1 → (n < i) ⊎ (n ≡ i)
      by n less = ⊎_elim (λ below. inl below) (λ at. inr (omega (arith, less, at))) (cases_lt n i)

  -- one that has
  module _ (now : Live) (here : live_of (doing_of (get_or ds i seat.Resting)) ≡ Some now) where
    with_it : (next : List ℕ) → ((number : ℕ) → is_live live number ≡ true → is_live next number ≡ true) → is_live next now.op.number ≡ true → ((number : ℕ) → is_live next number ≡ true → (is_live live number ≡ true) ⊎ (now.op.number ≡ number)) → length next ≤ i + 1 → Counted next ds (i + 1)
    with_it next keeps mine from few = record {
      few = few;
      listed = λ n l less is. ⊎_elim (λ below. keeps l.op.number (c.listed n l below is))
          (λ at. subst (λ (x : Live). is_live next x.op.number ≡ true) (some_is now l (sym here ∙ ap (λ k. live_of (doing_of (get_or ds k seat.Resting))) (sym at) ∙ is)) mine) (by n less);
      had = λ number is. ⊎_elim (c.had number) (λ same. record { session = suc i; live = now; here = here; named = same }) (from number is);
    }
      where
        by : (n : ℕ) → n < i + 1 → (n < i) ⊎ (n ≡ i)
        by n less = ⊎_elim (λ below. inl below) (λ at. inr (omega (arith, less, at))) (cases_lt n i)

pub counted_next : (live : List ℕ) (ds : List Doing) (i : ℕ) (d : Doing) → Counted live ds i → get_or ds i seat.Resting ≡ d → Counted (with_live live d) ds (i + 1)
counted_next live ds i seat.Resting c at = passes live ds i c (ap (λ d. live_of (doing_of d)) at)
counted_next live ds i (seat.Leaving op stage) c at = passes live ds i c (ap (λ d. live_of (doing_of d)) at)
counted_next live ds i (seat.Operating command op stage) c at = by (is_live live op.number) refl
  where
    now : Live
    now = record { command = command; op = op; stage = name_of stage }

    by : (b : Bool) → is_live live op.number ≡ b → Counted (cond b live (live ++ op.number ∷ [])) ds (i + 1)
    by true e = with_it live ds i c now (ap (λ d. live_of (doing_of d)) at) live (λ number h. h) e (λ number h. inl h) (let few = c.few in omega (arith, few))
    by false e = with_it live ds i c now (ap (λ d. live_of (doing_of d)) at) (live ++ op.number ∷ []) (still live op.number) (own live op.number) (back live op.number)
        (let few = c.few in let longer : length (live ++ op.number ∷ []) ≡ length live + 1 = Rattle.std.proofs.lemmas.List.length_push live op.number in omega (arith, few, longer))

pub counted_all : (live : List ℕ) (ds : List Doing) → Counted live ds (length ds) → AreTheLive live (all_doing ds)
counted_all live ds c = record { listed = listed; had = c.had }
  where
    out : (n : ℕ) (l : Live) → length ds ≤ n → live_of (doing_of (get_or ds n seat.Resting)) ≡ Some l → is_live live l.op.number ≡ true
    out n l past is = let none : None ≡ Some l = sym (ap (λ d. live_of (doing_of d)) (get_or-eq_default ds seat.Resting past)) ∙ is in absurd cc

    listed : (session : ℕ) (l : Live) → live_of (all_doing ds session) ≡ Some l → is_live live l.op.number ≡ true
    listed zero l is = absurd cc
    listed (suc n) l is = ⊎_elim (λ below. c.listed n l below is) (λ past. out n l past is) (cases_lt n (length ds))
