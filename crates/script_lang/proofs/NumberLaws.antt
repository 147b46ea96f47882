-- Which words are numbers.
use Rattle.std.proofs.Common.{◌≡◌, ◌≢◌, ℕ, ◌+◌, ◌-◌, ◌*◌, ◌≤◌, [], ◌∷◌, length, get_or, refl, inl, inr, arith}
use Rattle.std.specs.Prelude.{is_some}
use Rattle.std.specs.List.{list_all}
use Rattle.std.proofs.lemmas.Bool.{cases_Bool, ne_eqb}
use Rattle.cell_world.specs.Texts.{Text, is_digit}
use Rattle.cell_world.specs.KeyForms.{digits_from, number_of}

pub all_digits : (n : ℕ) (ds : Text) → list_all is_digit ds ≡ is_some (digits_from n ds)
all_digits n [] = refl
all_digits n (b ∷ bs) =
    elim (cases_Bool (is_digit b)) [
      | inl one ↦ rw one (all_digits (10 * n + (b - 48)) bs)
      | inr other ↦ rw other refl
    ]

-- two digits or more, the first of them not `0`
pub longer_number : (word : Text) → 2 ≤ length word → get_or word 0 0 ≢ 48 → list_all is_digit word ≡ is_some (number_of word)
longer_number [] long first = absurd (omega arith)
longer_number (b ∷ []) long first = absurd (omega arith)
longer_number (b ∷ c ∷ bs) long first = rw (ne_eqb b 48 first) (all_digits 0 (b ∷ c ∷ bs))
