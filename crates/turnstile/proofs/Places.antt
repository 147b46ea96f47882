-- A fact of each element and its place.
use Rattle.std.proofs.Common.{◌≡◌, ℕ, zero, suc, ◌+◌, ◌<◌, List, [], ◌∷◌, ◌++◌, length, take, get_or, refl, ap, subst, arith}
use Rattle.atomic_table.specs.Seated.{TableId}
use Rattle.turnstile.specs.States.{EachAt, IsIdle, IsNew, PassState}

module _ {P : Type 0} (F : ℕ → P → Type 0) where
  pub each_end : (n : ℕ) (ps : List P) (p : P) (k : ℕ) → k ≡ n + length ps → EachAt F n ps → F k p → EachAt F n (ps ++ p ∷ [])
  each_end n [] p k e r f = (let same : k ≡ n = omega arith in subst (λ (i : ℕ). F i p) same f, tt)
  each_end n (q ∷ qs) p k e r f = (r.0, each_end (suc n) qs p k (omega arith) r.1 f)

  pub each_front : (n : ℕ) (ps : List P) (p : P) → EachAt F n (ps ++ p ∷ []) → EachAt F n ps
  each_front n [] p r = tt
  each_front n (q ∷ qs) p r = (r.0, each_front (suc n) qs p r.1)

  pub each_last : (n : ℕ) (ps : List P) (p : P) (k : ℕ) → k ≡ n + length ps → EachAt F n (ps ++ p ∷ []) → F k p
  each_last n [] p k e r = let same : n ≡ k = omega arith in subst (λ (i : ℕ). F i p) same r.0
  each_last n (q ∷ qs) p k e r = each_last (suc n) qs p k (omega arith) r.1

  pub each_at : (n : ℕ) (ps : List P) (i k : ℕ) (d : P) → i < length ps → k ≡ n + i → EachAt F n ps → F k (get_or ps i d)
  each_at n [] i k d h e r = absurd (omega arith)
  each_at n (q ∷ qs) zero k d h e r = let same : n ≡ k = omega arith in subst (λ (j : ℕ). F j q) same r.0
  each_at n (q ∷ qs) (suc i) k d h e r = each_at (suc n) qs i k d (omega arith) (omega arith) r.1

  pub each_of : (n : ℕ) (ps : List P) → ((i k : ℕ) (d : P) → i < length ps → k ≡ n + i → F k (get_or ps i d)) → EachAt F n ps
  each_of n [] h = tt
  each_of n (q ∷ qs) h = (h zero n q (omega arith) (omega arith), each_of (suc n) qs (λ i k d b e. h (suc i) k d (omega arith) (omega arith)))

  -- a fact that follows from another, at each place
  pub each_weaken : (G : ℕ → P → Type 0) (n : ℕ) (ps : List P) → ((k : ℕ) (p : P) → F k p → G k p) → EachAt F n ps → EachAt G n ps
  each_weaken G n [] h r = tt
  each_weaken G n (p ∷ ps) h r = (h n p r.0, each_weaken G (suc n) ps h r.1)

-- new passes are idle
pub new_are_idle : {E : Type 0} (t : TableId) (first : List E) (n : ℕ) (ps : List (PassState E)) → EachAt (IsNew t first) n ps → EachAt (IsIdle t) n ps
new_are_idle t first n ps r = each_weaken (IsNew t first) (IsIdle t) n ps (λ k p h. (h.0, h.1, h.2)) r

-- a whole list that was lent as a slice and came back
pub lent_back : {A : Type 0} (n : ℕ) (xs rest : List A) → n ≡ length xs → take n (xs ++ rest) ≡ xs
lent_back zero [] rest e = refl
lent_back (suc n) [] rest e = absurd (omega arith)
lent_back zero (x ∷ xs) rest e = absurd (omega arith)
lent_back {A = A} (suc n) (x ∷ xs) rest e = ap (λ (l : List A). x ∷ l) (lent_back n xs rest (omega arith))
