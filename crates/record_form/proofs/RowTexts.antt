-- Local rows, names of rows and values of rows are read exactly.
use Rattle.std.proofs.Common.{◌≡◌, ℕ, ◌+◌, ◌*◌, ◌/◌, ◌%◌, ◌^◌, ◌<◌, ◌≤◌, true, List, [], ◌∷◌, ◌++◌, length, refl, ap, ◌∙◌, inl, inr, arith}
use Rattle.std.specs.Prelude.{IsTrue, ◌==◌, if◌then◌else◌}
use Rattle.std.specs.Int.{w16, to_be_bytes}
use Rattle.std.proofs.lemmas.Bool.{cases_eq, and_parts, leb-true, le-leb, eq-eqb, ne_eqb}
use Rattle.cell_world.specs.Texts.{are_bytes, is_row_value}
use Rattle.cell_world.specs.Spelled.{IsLocalRow, IsRowName}
use Rattle.record_form.specs.Reading.{is_from, byte_at, raw_at}
use Rattle.record_form.specs.Layout.{local_bytes, row_name_bytes, row_value_bytes}
use Rattle.record_form.specs.Fields.{value_length_at, row_value_at}
use Rattle.record_form.specs.Kinds.{local_at, row_name_at}
use Rattle.record_form.proofs.Readers.{IsReader, byte_reader, both_reader, pair_reader, made_reader}
use Rattle.record_form.proofs.Widths.{HasLength, raw_reader, number_8_reader}
use Rattle.record_form.proofs.NameTexts.{bounds, in_bounds, name_reader}
use Rattle.record_form.proofs.SpanTexts.{key_reader, span_reader}
use Rattle.record_form.proofs.ChoiceTexts.{status_reader, mark_reader}

pub local_reader : IsReader local_at local_bytes IsLocalRow
unfolding local_at
local_reader = made_reader (pair_reader name_reader (pair_reader span_reader (pair_reader number_8_reader (pair_reader status_reader mark_reader)))) (record {
  same = λ p h. refl;
  fits = λ p h. record { map = h.0; span = h.1.0; number = h.1.1.0; mark = h.1.1.1.1 };
  from = λ row h. ((row.map, (row.span, (row.number, (row.status, row.mark)))), (h.map, (h.span, (h.number, (tt, h.mark)))), refl);
})

pub row_name_reader : IsReader row_name_at row_name_bytes IsRowName
unfolding row_name_at
row_name_reader = made_reader (pair_reader name_reader (pair_reader key_reader (pair_reader name_reader number_8_reader))) (record {
  same = λ p h. refl;
  fits = λ p h. record { map = h.0; key = h.1.0; table = h.1.1.0; number = h.1.1.1 };
  from = λ row h. ((row.map, (row.key, (row.table, row.number))), (h.map, (h.key, (h.table, h.number))), refl);
})

-- ---- values

-- the most that the low byte of a length may be
abbrev most : ℕ → ℕ
most high = if high == 4 then 0 else 255

most_cases : (high low : ℕ) → is_from 0 4 high ≡ true → is_from 0 (most high) low ≡ true → (high * 256 + low ≤ 1024) × (low < 256)
most_cases high low h l =
    let up = (bounds 0 4 high h).1 in
    elim (cases_eq high 4) [
      | inl four ↦ let most_is : most high ≡ 0 = rw (eq-eqb high 4 four) refl in let down = (bounds 0 (most high) low l).1 in (omega arith, omega arith)
      | inr less ↦ let most_is : most high ≡ 255 = rw (ne_eqb high 4 less) refl in let down = (bounds 0 (most high) low l).1 in
          let under : high ≤ 3 = four_less high up less in (omega arith, omega arith)
    ]
  where
    four_less : (high : ℕ) → high ≤ 4 → (high ≡ 4 → ⊥) → high ≤ 3
    four_less high up less = omega arith

length_back : (high low : ℕ) → high ≤ 4 → low < 256 → to_be_bytes w16 (high * 256 + low) ≡ high ∷ low ∷ []
length_back high low h l =
    let a : (high * 256 + low) / 256 ^ 1 % 256 ≡ high = omega arith in
    let b : (high * 256 + low) % 256 ≡ low = omega arith in
    λ i. a i ∷ b i ∷ []

low_fits : (n : ℕ) → n ≤ 1024 → is_from 0 (most (n / 256)) (n % 256) ≡ true
low_fits n le =
    elim (cases_eq (n / 256) 4) [
      | inl four ↦ let most_is : most (n / 256) ≡ 0 = rw (eq-eqb (n / 256) 4 four) refl in in_bounds 0 (most (n / 256)) (n % 256) (omega arith) (omega arith)
      | inr less ↦ let most_is : most (n / 256) ≡ 255 = rw (ne_eqb (n / 256) 4 less) refl in in_bounds 0 (most (n / 256)) (n % 256) (omega arith) (omega arith)
    ]

length_reader : IsReader value_length_at (to_be_bytes w16) (λ n. n ≤ 1024)
unfolding value_length_at
length_reader =
    made_reader (both_reader (byte_at (is_from 0 4)) (λ b. b ∷ []) (λ b. is_from 0 4 b ≡ true) (λ high. byte_at (is_from 0 (most high))) (λ high low. low ∷ []) (λ high low. is_from 0 (most high) low ≡ true)
    (byte_reader (is_from 0 4) 0 refl) (λ high h. byte_reader (is_from 0 (most high)) 0 (in_bounds 0 (most high) 0 (omega arith) (omega arith)))) (record {
      same = λ p h. length_back p.0 p.1 (bounds 0 4 p.0 h.0).1 (most_cases p.0 p.1 h.0 h.1).1;
      fits = λ p h. (most_cases p.0 p.1 h.0 h.1).0;
      from = λ n h. ((n / 256, n % 256), (in_bounds 0 4 (n / 256) (omega arith) (omega arith), low_fits n h), omega arith);
    })

value_form : (n : ℕ) (value : List ℕ) → n ≤ 1024 → HasLength n value → IsTrue (is_row_value value)
value_form n value le h = let long = h.0 in rw (h.1, le-leb (length value) 1024 (omega arith)) refl

value_length : (value : List ℕ) → IsTrue (is_row_value value) → (length value ≤ 1024) × HasLength (length value) value
value_length value h = let p = and_parts (are_bytes value) _ h in (leb-true (length value) 1024 p.1, (refl, p.0))

pub row_value_reader : IsReader row_value_at row_value_bytes (λ value. IsTrue (is_row_value value))
unfolding row_value_at
row_value_reader = made_reader (both_reader value_length_at (to_be_bytes w16) (λ n. n ≤ 1024) raw_at (λ n t. t) (λ n t. HasLength n t) length_reader (λ n h. raw_reader n)) (record {
  same = λ p h. ap (λ (n : ℕ). to_be_bytes w16 n ++ p.1) h.1.0;
  fits = λ p h. value_form p.0 p.1 h.0 h.1;
  from = λ value h. ((length value, value), value_length value h, refl);
})
