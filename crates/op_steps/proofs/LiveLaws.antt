-- Lists of live operations stay distinct.
use Rattle.std.proofs.Common.{◌≡◌, ◌<◌, ◌≤◌, ◌+◌, ℕ, zero, suc, Bool, true, false, ◌||◌, not, cond, refl, sym, ap, ◌∙◌, subst, List, [], ◌∷◌, ◌++◌, length, take, arith}
use Rattle.std.specs.Prelude.{◌==◌, filter}
use Rattle.std.proofs.Math.ListN.{get_or, set}
use Rattle.std.proofs.lemmas.List.{length-set, length-take-le, take_more_set}
use Rattle.std.proofs.lemmas.Bool.{eqb-false, ne_eqb}
use Rattle.op_steps.specs.declared.live.TheConstants.{MOST_LIVE}
use Rattle.op_steps.specs.Live.{is_live, all_but, AreDistinct, IsListing}

or_false : (a b : Bool) → (a || b) ≡ false → (a ≡ false) × (b ≡ false)
or_false false b e = (refl, e)
or_false true b e = cc

flip : (x n : ℕ) → (x == n) ≡ false → (n == x) ≡ false
flip x n e = ne_eqb n x (λ same. eqb-false x n e (sym same))

-- ---- one more

more_false : (xs : List ℕ) (x n : ℕ) → is_live xs x ≡ false → (n == x) ≡ false → is_live (xs ++ n ∷ []) x ≡ false
more_false [] x n e f = ap (λ b. b || false) f
more_false (y ∷ ys) x n e f = let p = or_false (y == x) (is_live ys x) e in ap (λ b. b || is_live (ys ++ n ∷ []) x) p.0 ∙ more_false ys x n p.1 f

pub distinct_more : (xs : List ℕ) (n : ℕ) → AreDistinct xs → is_live xs n ≡ false → AreDistinct (xs ++ n ∷ [])
distinct_more [] n d e = (refl, tt)
distinct_more (x ∷ xs) n d e = let p = or_false (x == n) (is_live xs n) e in (more_false xs x n d.0 (flip x n p.0), distinct_more xs n d.1 p.1)

-- the listing with one more
pub pushed : (now : List ℕ) (count : ℕ) (numbers : List ℕ) (n : ℕ) → now ≡ take count numbers → IsListing count numbers → length now < MOST_LIVE → is_live now n ≡ false → IsListing (count + 1) (set numbers count n)
pushed now count numbers n is l room fresh =
    let many : length now ≡ count = ap length is ∙ length-take-le count numbers (omega (arith, l.0, l.1)) in
    let more : count + 1 ≤ MOST_LIVE = omega (arith, many, room) in
    (more, length-set numbers count n ∙ l.1, subst AreDistinct (sym (take_more_set numbers count n (omega (arith, more, l.1)))) (distinct_more (take count numbers) n l.2 (ap (λ xs. is_live xs n) (sym is) ∙ fresh)))

-- ---- those before one of them

at_false : (xs : List ℕ) (x i : ℕ) → is_live xs x ≡ false → i < length xs → (get_or xs i 0 == x) ≡ false
at_false [] x i e lt = absurd (omega (arith, lt))
at_false (y ∷ ys) x zero e lt = (or_false (y == x) (is_live ys x) e).0
at_false (y ∷ ys) x (suc i) e lt = at_false ys x i (or_false (y == x) (is_live ys x) e).1 (omega (arith, lt))

before_false : (xs : List ℕ) (i : ℕ) → AreDistinct xs → i < length xs → is_live (take i xs) (get_or xs i 0) ≡ false
before_false [] i d lt = absurd (omega (arith, lt))
before_false (x ∷ xs) zero d lt = refl
before_false (x ∷ xs) (suc i) d lt = let within : i < length xs = omega (arith, lt) in ap (λ b. b || is_live (take i xs) (get_or xs i 0)) (flip (get_or xs i 0) x (at_false xs x i d.0 within)) ∙ before_false xs i d.1 within

kept_false : (p : ℕ → Bool) (x : ℕ) (kept : Bool) (xs : List ℕ) (n : ℕ) → (x == n) ≡ false → is_live xs n ≡ false → is_live (cond kept (x ∷ xs) xs) n ≡ false
kept_false p x true xs n e f = ap (λ b. b || is_live xs n) e ∙ f
kept_false p x false xs n e f = f

filter_false : (p : ℕ → Bool) (xs : List ℕ) (n : ℕ) → is_live xs n ≡ false → is_live (filter p xs) n ≡ false
filter_false p [] n e = e
filter_false p (x ∷ xs) n e = let q = or_false (x == n) (is_live xs n) e in kept_false p x (p x) (filter p xs) n q.0 (filter_false p xs n q.1)

pub next_fresh : (number : ℕ) (xs rest : List ℕ) (i n : ℕ) → AreDistinct xs → i < length xs → n ≡ get_or xs i 0 → rest ≡ all_but number (take i xs) → is_live rest n ≡ false
next_fresh number xs rest i n d lt is e =
    ap (λ r. is_live r n) e ∙ ap (λ m. is_live (all_but number (take i xs)) m) is ∙ filter_false (λ m. not (m == number)) (take i xs) (get_or xs i 0) (before_false xs i d lt)
