-- The state machine of guids accepts just their texts.
use Rattle.std.proofs.Common.{◌≡◌, ℕ, zero, suc, ◌+◌, ◌*◌, ◌<◌, Bool, true, false, ◌==◌, List, [], ◌∷◌, ◌++◌, Option, Some, None, refl, sym, ap, subst, ◌∙◌, inl, inr, arith}
use Rattle.std.specs.Prelude.{is_some, option_map}
use Rattle.std.proofs.lemmas.Bool.{cases_Bool, ne_eqb, agree_below_at}
use Rattle.text_scan.specs.Walks.{accepts}
use Rattle.text_scan.proofs.Walks.{accepts-None}
use Rattle.cell_world.specs.Texts.{Text}
use Rattle.cell_world.specs.KeyForms.{hex_digit, bytes_taken, after_dash, grouped_bytes, guid_bytes}
use Rattle.key_space.specs.HexTexts.{is_dash_left, guid_next, guid_end}
use Rattle.key_space.proofs.HexDigits.{cases_option, cases_list, some_mapped}

-- the bytes are the rest of a guid's text, of which so many are left
abbrev from : ℕ → Text → Bool
from left text = accepts guid_next guid_end (Some (record { bytes = left })) text

nowhere : (text : Text) → accepts guid_next guid_end None text ≡ false
nowhere = accepts-None guid_next guid_end

-- n bytes are written, and the rest goes on where so many are left
abbrev goes_on : ℕ → Option (Text × Text) → Bool
goes_on left None = false
goes_on left (Some p) = from left p.1

on_mapped : (left byte : ℕ) (o : Option (Text × Text)) → goes_on left (option_map (λ p. (byte ∷ p.0, p.1)) o) ≡ goes_on left o
on_mapped left byte None = refl
on_mapped left byte (Some p) = refl

-- among the so many bytes behind the first `left` there is no dash
abbrev Digits : ℕ → ℕ → Type 0
Digits left n = (j : ℕ) → j < n → is_dash_left (left + suc j) ≡ false

not_zero : (n : ℕ) → (suc n == 0) ≡ false
not_zero n = ne_eqb (suc n) 0 (λ e. omega (arith, e))

-- two digits more
two_digits : (n left : ℕ) → is_dash_left (suc (suc (left + 2 * n))) ≡ false → is_dash_left (suc (left + 2 * n)) ≡ false → ((text : Text) → from (left + 2 * n) text ≡ goes_on left (bytes_taken n text))
    → (text : Text) → from (suc (suc (left + 2 * n))) text ≡ goes_on left (bytes_taken (suc n) text)
two_digits n left first second rest [] = not_zero (suc (left + 2 * n))
two_digits n left first second rest (a ∷ []) =
    elim (cases_option (hex_digit a)) [ inl none ↦ rw (first, none) refl | inr x ↦ rw (first, x.1) (not_zero (left + 2 * n)) ]
two_digits n left first second rest (a ∷ b ∷ bs) =
    elim (cases_option (hex_digit a)) [
      | inl none ↦ rw (first, none) (nowhere bs)
      | inr x ↦ elim (cases_option (hex_digit b)) [
        | inl none ↦ rw (first, x.1, second, none) (nowhere bs)
        | inr y ↦ rw (first, x.1, second, y.1) (rest bs ∙ sym (on_mapped left (16 * x.0 + y.0) (bytes_taken n bs)))
      ]
    ]

taken : (n left : ℕ) → Digits left (2 * n) → (text : Text) → from (left + 2 * n) text ≡ goes_on left (bytes_taken n text)
taken zero left digits text = let none : left + 2 * 0 ≡ left = omega arith in ap (λ k. from k text) none
taken (suc n) left digits text =
    let count : left + 2 * suc n ≡ suc (suc (left + 2 * n)) = omega arith in
    let high : left + suc (2 * n + 1) ≡ suc (suc (left + 2 * n)) = omega arith in
    let low : left + suc (2 * n) ≡ suc (left + 2 * n) = omega arith in
    let first = subst (λ k. is_dash_left k ≡ false) high (digits (2 * n + 1) (omega arith)) in
    let second = subst (λ k. is_dash_left k ≡ false) low (digits (2 * n) (omega arith)) in
    ap (λ k. from k text) count ∙ two_digits n left first second (taken n left (λ j lt. digits j (omega arith))) text

-- a dash, and what is behind it
abbrev behind_dash : ℕ → Option Text → Bool
behind_dash left None = false
behind_dash left (Some text) = from left text

dash : (left : ℕ) → is_dash_left (suc left) ≡ true → (text : Text) → from (suc left) text ≡ behind_dash left (after_dash text)
dash left is [] = not_zero left
dash left is (b ∷ bs) = elim (cases_Bool (b == 45)) [ inl one ↦ rw (is, one) refl | inr other ↦ rw (is, other) (nowhere bs) ]

last_group : (n : ℕ) → Digits 0 (2 * n) → (text : Text) → from (0 + 2 * n) text ≡ is_some (grouped_bytes (n ∷ []) text)
last_group n digits text =
    taken n 0 digits text ∙ elim (cases_option (bytes_taken n text)) [
      | inl none ↦ rw none refl
      | inr x ↦ rw x.1 (elim (cases_list x.0.1) [ inl e ↦ rw e refl | inr some ↦ rw some.2 (nowhere some.1) ])
    ]

first_group : (n m : ℕ) (more : List ℕ) (left : ℕ) → Digits (suc left) (2 * n) → is_dash_left (suc left) ≡ true → ((text : Text) → from left text ≡ is_some (grouped_bytes (m ∷ more) text))
    → (text : Text) → from (suc left + 2 * n) text ≡ is_some (grouped_bytes (n ∷ m ∷ more) text)
first_group n m more left digits is rest text =
    taken n (suc left) digits text ∙ elim (cases_option (bytes_taken n text)) [
      | inl none ↦ rw none refl
      | inr x ↦ rw x.1 (dash left is x.0.1 ∙ elim (cases_option (after_dash x.0.1)) [
        | inl none ↦ rw none refl
        | inr y ↦ rw y.1 (rest y.0 ∙ sym (some_mapped (λ r. x.0.0 ++ r) (grouped_bytes (m ∷ more) y.0)))
      ])
    ]

pub guid_texts : (text : Text) → from 36 text ≡ is_some (guid_bytes text)
guid_texts =
    let e = last_group 6 (λ j lt. agree_below_at (λ j. is_dash_left (0 + suc j)) (λ _. false) 12 j refl lt) in
    let d = first_group 2 6 [] 12 (λ j lt. agree_below_at (λ j. is_dash_left (13 + suc j)) (λ _. false) 4 j refl lt) refl e in
    let c = first_group 2 2 (6 ∷ []) 17 (λ j lt. agree_below_at (λ j. is_dash_left (18 + suc j)) (λ _. false) 4 j refl lt) refl d in
    let b = first_group 2 2 (2 ∷ 6 ∷ []) 22 (λ j lt. agree_below_at (λ j. is_dash_left (23 + suc j)) (λ _. false) 4 j refl lt) refl c in
    first_group 4 2 (2 ∷ 2 ∷ 6 ∷ []) 27 (λ j lt. agree_below_at (λ j. is_dash_left (28 + suc j)) (λ _. false) 8 j refl lt) refl b
