-- What follows from the definition of a place.
use Rattle.std.proofs.Common.{◌≡◌, ℕ, ◌+◌, ◌≤◌, Bool, List, ◌++◌, length, take, drop, sym, ap, subst, ◌∙◌, arith, append_assoc, inl, inr}
use Rattle.std.specs.Prelude.{IsTrue}
use Rattle.std.proofs.lemmas.List.{take-take, take-append-drop}
use Rattle.std.proofs.lemmas.Bool.{cases_order, cases_lt}
use Rattle.text_scan.specs.Places.{BeginsOne, Leaves, IsPlace}

-- what goes on from n bytes goes on from fewer
shorter : (G : List ℕ → Type 0) (text : List ℕ) (k n : ℕ) → k ≤ n → BeginsOne G (take n text) → BeginsOne G (take k text)
shorter G text k n le more =
    let front : take k text ++ drop k (take n text) ≡ take n text = ap (λ (l : List ℕ). l ++ drop k (take n text)) (sym (take-take k n text le)) ∙ take-append-drop k (take n text) in
    let same = sym (append_assoc (take k text) (drop k (take n text)) more.0) ∙ ap (λ (l : List ℕ). l ++ more.0) front in
    (drop k (take n text) ++ more.0, subst G (sym same) more.1)

-- the text itself is how its front goes on
whole : (G : List ℕ → Type 0) (text : List ℕ) (n : ℕ) → G text → BeginsOne G (take n text)
whole G text n is = (drop n text, subst G (sym (take-append-drop n text)) is)

pub one_leaving : (G : List ℕ → Type 0) (text : List ℕ) (m n : ℕ) → Leaves G text m → Leaves G text n → m ≡ n
one_leaving G text m n p q =
    elim (cases_order m n) [
      | inl same ↦ same
      | inr apart ↦ elim apart [
        | inl lt ↦ absurd (p.after (omega (arith, q.within)) (shorter G text (m + 1) n (omega arith) q.before))
        | inr gt ↦ absurd (q.after (omega (arith, p.within)) (shorter G text (n + 1) m (omega arith) p.before))
      ]
    ]

pub no_leaving : (G : List ℕ → Type 0) (text : List ℕ) (n : ℕ) → Leaves G text n → G text → ⊥
no_leaving G text n p is =
    elim (cases_lt n (length text)) [
      | inl lt ↦ p.after lt (whole G text (n + 1) is)
      | inr end ↦ p.ended (omega (arith, p.within)) is
    ]

-- where the grammar is a test

pub one_place : (g : List ℕ → Bool) (text : List ℕ) (m n : ℕ) → IsPlace g text m → IsPlace g text n → m ≡ n
one_place g = one_leaving (λ t. IsTrue (g t))

pub no_text : (g : List ℕ → Bool) (text : List ℕ) (n : ℕ) → IsPlace g text n → IsTrue (g text) → ⊥
no_text g = no_leaving (λ t. IsTrue (g t))

pub place_in : (g h : List ℕ → Bool) → ((text : List ℕ) → g text ≡ h text) → (text : List ℕ) (n : ℕ) → IsPlace g text n → IsPlace h text n
place_in g h same text n p = subst (λ grammar. IsPlace grammar text n) (λ i t. same t i) p
