-- Zeros at the end of a list of bytes.
use Rattle.std.proofs.Common.{◌≡◌, ◌⊎◌, ℕ, ◌+◌, ◌-◌, ◌<◌, ◌≤◌, false, ◌==◌, [], ◌∷◌, ◌++◌, length, get_or, take, refl, sym, ap, subst, ◌∙◌, inl, inr, arith, length-take}
use Rattle.std.proofs.lemmas.Bool.{cases_Bool, ne_eqb, and_parts}
use Rattle.std.proofs.lemmas.List.{take_more, get_or-take}
use Rattle.std.specs.Prelude.{IsTrue, nat_le}
use Rattle.cell_world.specs.Texts.{Text, are_bytes, is_key_form}
use Rattle.cell_world.specs.KeyForms.{last_is_zero, without_zeros, is_normal}
use Rattle.cell_world.specs.declared.cells.KeyType.TheVariants as types
use Rattle.key_space.proofs.HexDigits.{cases_list}
use Rattle.key_space.proofs.KeyForms.{last_byte}

-- where the last byte is not zero, all bytes stay
pub kept : (text : Text) → last_is_zero text ≡ false → without_zeros text ≡ text
kept [] h = refl
kept (b ∷ []) h = rw h refl
kept (b ∷ c ∷ bs) h = rw (kept (c ∷ bs) h) refl

-- a zero at the end goes
one_less : (text : Text) → without_zeros (text ++ 0 ∷ []) ≡ without_zeros text
one_less [] = refl
one_less (b ∷ bs) = rw (one_less bs) refl

-- then no zero is at the end
pub no_zero_last : (text : Text) → last_is_zero (without_zeros text) ≡ false
no_zero_last [] = refl
no_zero_last (b ∷ bs) =
    elim (cases_list (without_zeros bs)) [
      | inl none ↦ elim (cases_Bool (b == 0)) [ inl nil ↦ rw (none, nil) refl | inr more ↦ rw (none, more) more ]
      | inr some ↦ rw some.2 (subst (λ t. last_is_zero t ≡ false) some.2 (no_zero_last bs))
    ]

pub zero_off : (n : ℕ) (bytes : Text) → 0 < n → n ≤ length bytes → get_or bytes (n - 1) 0 ≡ 0 → without_zeros (take n bytes) ≡ without_zeros bytes → without_zeros (take (n - 1) bytes) ≡ without_zeros bytes
zero_off n bytes some le byte so_far =
    let back : n - 1 + 1 ≡ n = omega arith in
    let front : take n bytes ≡ take (n - 1) bytes ++ 0 ∷ [] = ap (λ k. take k bytes) (sym back) ∙ take_more bytes (n - 1) 0 (omega arith) ∙ ap (λ b. take (n - 1) bytes ++ b ∷ []) byte in
    sym (one_less (take (n - 1) bytes)) ∙ ap without_zeros (sym front) ∙ so_far

pub all_off : (n : ℕ) (bytes : Text) → n ≤ length bytes → (n ≡ 0) ⊎ ((0 < n) × (get_or bytes (n - 1) 0 ≡ 0 → ⊥)) → without_zeros (take n bytes) ≡ without_zeros bytes → take n bytes ≡ without_zeros bytes
all_off n bytes le (inl none) so_far = rw none (rw none at so_far)
all_off n bytes le (inr some) so_far =
    let long : length (take n bytes) ≡ n = omega (arith, length-take n bytes) in
    let byte : get_or (take n bytes) (n - 1) 0 ≡ get_or bytes (n - 1) 0 = get_or-take n bytes (n - 1) 0 (let lt = some.0 in omega arith) in
    let last : (get_or (take n bytes) (length (take n bytes) - 1) 0 == 0) ≡ false = rw (long, byte) (ne_eqb (get_or bytes (n - 1) 0) 0 some.1) in
    sym (kept (take n bytes) (sym (last_byte (take n bytes) (let lt = some.0 in omega (arith, long))) ∙ last)) ∙ so_far

-- so what is left is the normal form of a bytes key
pub is_trimmed : (bytes form : Text) → IsTrue (is_key_form form) → form ≡ without_zeros bytes → IsTrue (is_normal types.Bytes form)
is_trimmed bytes form is same =
    let p = and_parts (are_bytes form) (nat_le (length form) 128) is in
    let last : last_is_zero form ≡ false = ap last_is_zero same ∙ no_zero_last bytes in
    rw (p.0, p.1, last) refl
