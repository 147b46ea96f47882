-- Keys, ends and spans are read exactly.
use Rattle.std.proofs.Common.{◌≡◌, ℕ, zero, suc, ◌+◌, ◌<◌, ◌≤◌, true, List, [], ◌∷◌, ◌++◌, length, refl, ap, arith}
use Rattle.std.specs.Prelude.{IsTrue}
use Rattle.std.proofs.lemmas.Bool.{and_parts, leb-true, le-leb}
use Rattle.cell_world.specs.Texts.{Text, are_bytes, is_key_form}
use Rattle.cell_world.specs.Spelled.{IsEnd, IsSpan}
use Rattle.cell_world.specs.declared.spans.High.{High}
use Rattle.cell_world.specs.declared.spans.High.TheVariants.{At, Max}
use Rattle.cell_world.specs.declared.spans.Span.{Span}
use Rattle.cell_world.specs.declared.spans.Span.TheVariants.{Range, Point}
use Rattle.record_form.specs.Reading.{is_from, byte_at, raw_at}
use Rattle.record_form.specs.Layout.{text_bytes, end_bytes, span_bytes}
use Rattle.record_form.specs.Fields.{key_at, end_body_at, end_at, range_of, span_body_at, span_at}
use Rattle.record_form.proofs.Readers.{IsReader, Tagged, tag, body, byte_reader, both_reader, pair_reader, made_reader, nothing_reader, tagged_reader}
use Rattle.record_form.proofs.Widths.{HasLength, raw_reader}
use Rattle.record_form.proofs.NameTexts.{bounds, in_bounds}

-- a bound that the tag of a value exceeds
pub past : {P : Type 0} (last t : ℕ) → is_from 0 last t ≡ true → last < t → P
past last t h lt = let high = (bounds 0 last t h).1 in absurd (omega arith)

key_form : (n : ℕ) (key : List ℕ) → is_from 0 128 n ≡ true → HasLength n key → IsTrue (is_key_form key)
key_form n key in_it h =
    let high = (bounds 0 128 n in_it).1 in
    let long = h.0 in
    rw (h.1, le-leb (length key) 128 (omega arith)) refl

pub key_length : (key : List ℕ) → IsTrue (is_key_form key) → (is_from 0 128 (length key) ≡ true) × HasLength (length key) key
key_length key h = let p = and_parts (are_bytes key) _ h in (in_bounds 0 128 (length key) (omega arith) (leb-true (length key) 128 p.1), (refl, p.0))

pub key_reader : IsReader key_at text_bytes (λ key. IsTrue (is_key_form key))
unfolding key_at
key_reader =
    made_reader {f = λ p. p.1} (both_reader (byte_at (is_from 0 128)) (λ b. b ∷ []) (λ b. is_from 0 128 b ≡ true) raw_at (λ n t. t) (λ n t. HasLength n t) (byte_reader (is_from 0 128) 0 refl) (λ n h. raw_reader n))
    (record {
      same = λ p h. ap (λ (n : ℕ). n ∷ p.1) h.1.0;
      fits = λ p h. key_form p.0 p.1 h.0 h.1;
      from = λ key h. ((length key, key), key_length key h, refl);
    })

-- ---- ends

at_key : (end : High) → Tagged end_bytes IsEnd 0 end → (key : Text) × IsTrue (is_key_form key) × (At key ≡ end)
at_key (At key) h = (key, h.0, refl)
at_key Max h = let e = h.1 in absurd (omega arith)

at_max : (end : High) → Tagged end_bytes IsEnd 1 end → (u : Unit {0}) × Unit {0} × (Max ≡ end)
at_max (At key) h = let e = h.1 in absurd (omega arith)
at_max Max h = (tt, tt, refl)

end_begun : (end : High) → IsEnd end → (is_from 0 1 (tag end_bytes end) ≡ true) × (end_bytes end ≡ tag end_bytes end ∷ body end_bytes end)
end_begun (At key) h = (refl, refl)
end_begun Max h = (refl, refl)

end_cases : (t : ℕ) → is_from 0 1 t ≡ true → IsReader (end_body_at t) (body end_bytes) (Tagged end_bytes IsEnd t)
end_cases zero h = made_reader key_reader (record { same = λ key f. refl; fits = λ key f. (f, refl); from = at_key })
end_cases (suc zero) h = made_reader nothing_reader (record { same = λ u f. refl; fits = λ u f. (f, refl); from = at_max })
end_cases (suc (suc t)) h = past 1 (suc (suc t)) h (omega arith)

pub end_reader : IsReader end_at end_bytes IsEnd
unfolding end_at
end_reader = tagged_reader (is_from 0 1) end_body_at end_bytes IsEnd 0 refl end_begun end_cases

-- ---- spans

at_range : (span : Span) → Tagged span_bytes IsSpan 0 span → (p : Text × High) × (IsTrue (is_key_form p.0) × IsEnd p.1) × (range_of p ≡ span)
at_range (Range low high) h = ((low, high), h.0, refl)
at_range (Point at) h = let e = h.1 in absurd (omega arith)

at_point : (span : Span) → Tagged span_bytes IsSpan 1 span → (key : Text) × IsTrue (is_key_form key) × (Point key ≡ span)
at_point (Range low high) h = let e = h.1 in absurd (omega arith)
at_point (Point at) h = (at, h.0, refl)

span_begun : (span : Span) → IsSpan span → (is_from 0 1 (tag span_bytes span) ≡ true) × (span_bytes span ≡ tag span_bytes span ∷ body span_bytes span)
span_begun (Range low high) h = (refl, refl)
span_begun (Point at) h = (refl, refl)

span_cases : (t : ℕ) → is_from 0 1 t ≡ true → IsReader (span_body_at t) (body span_bytes) (Tagged span_bytes IsSpan t)
span_cases zero h = made_reader (pair_reader key_reader end_reader) (record { same = λ p f. refl; fits = λ p f. (f, refl); from = at_range })
span_cases (suc zero) h = made_reader key_reader (record { same = λ key f. refl; fits = λ key f. (f, refl); from = at_point })
span_cases (suc (suc t)) h = past 1 (suc (suc t)) h (omega arith)

pub span_reader : IsReader span_at span_bytes IsSpan
unfolding span_at
span_reader = tagged_reader (is_from 0 1) span_body_at span_bytes IsSpan 0 refl span_begun span_cases
