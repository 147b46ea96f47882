-- Fields of one value out of a few, tokens and marks are read exactly.
use Rattle.std.proofs.Common.{◌≡◌, ℕ, zero, suc, ◌+◌, ◌^◌, ◌<◌, ◌≤◌, true, List, [], ◌∷◌, ◌++◌, Option, Some, None, refl, arith}
use Rattle.std.specs.Prelude.{IfSome}
use Rattle.cell_world.specs.Spelled.{IsToken, IsMarkValue}
use Rattle.cell_world.specs.declared.cells.KeyType.{KeyType}
use Rattle.cell_world.specs.declared.cells.KeyType.TheVariants as type
use Rattle.cell_world.specs.declared.cells.MapKind.{MapKind}
use Rattle.cell_world.specs.declared.cells.MapKind.TheVariants as kind
use Rattle.cell_world.specs.declared.cells.Status.{Status}
use Rattle.cell_world.specs.declared.cells.Status.TheVariants.{Offline, Online}
use Rattle.cell_world.specs.declared.cells.Token.{Token}
use Rattle.cell_world.specs.declared.cells.Away.{Away}
use Rattle.cell_world.specs.declared.cells.Away.TheVariants as away
use Rattle.cell_world.specs.declared.cells.Mark.{Mark}
use Rattle.cell_world.specs.declared.cells.Mark.TheVariants as mark
use Rattle.record_form.specs.Reading.{is_from}
use Rattle.record_form.specs.Layout.{status_byte, map_kind_byte, key_type_byte, away_byte, token_bytes, mark_bytes}
use Rattle.record_form.specs.Fields.{status_of, status_at, map_kind_of, map_kind_at, key_type_of, key_type_at, away_of, away_at, token_of, token_body_at, token_at, mark_body_at, mark_at}
use Rattle.record_form.proofs.Readers.{IsReader, Tagged, tag, body, byte_reader, made_reader, nothing_reader, tagged_reader}
use Rattle.record_form.proofs.Widths.{number_8_reader, number_16_reader}
use Rattle.record_form.proofs.NameTexts.{bounds}
use Rattle.record_form.proofs.SpanTexts.{past}

-- a bound that a byte is below
pub before : {P : Type 0} (first last b : ℕ) → is_from first last b ≡ true → b < first → P
before first last b h lt = let low = (bounds first last b h).0 in absurd (omega arith)

pub beyond : {P : Type 0} (first last b : ℕ) → is_from first last b ≡ true → last < b → P
beyond first last b h lt = let high = (bounds first last b h).1 in absurd (omega arith)

-- ---- statuses

status_back : (b : ℕ) → is_from 0 1 b ≡ true → status_byte (status_of b) ∷ [] ≡ b ∷ []
status_back zero h = refl
status_back (suc zero) h = refl
status_back (suc (suc b)) h = beyond 0 1 (suc (suc b)) h (omega arith)

status_from : (s : Status) → Unit {0} → (b : ℕ) × (is_from 0 1 b ≡ true) × (status_of b ≡ s)
status_from Offline h = (0, refl, refl)
status_from Online h = (1, refl, refl)

pub status_reader : IsReader status_at (λ s. status_byte s ∷ []) (λ s. Unit {0})
unfolding status_at
status_reader = made_reader (byte_reader (is_from 0 1) 0 refl) (record { same = status_back; fits = λ b h. tt; from = status_from })

-- ---- kinds of maps

map_kind_back : (b : ℕ) → is_from 1 2 b ≡ true → map_kind_byte (map_kind_of b) ∷ [] ≡ b ∷ []
map_kind_back zero h = before 1 2 0 h (omega arith)
map_kind_back (suc zero) h = refl
map_kind_back (suc (suc zero)) h = refl
map_kind_back (suc (suc (suc b))) h = beyond 1 2 (suc (suc (suc b))) h (omega arith)

map_kind_from : (k : MapKind) → Unit {0} → (b : ℕ) × (is_from 1 2 b ≡ true) × (map_kind_of b ≡ k)
map_kind_from kind.Range h = (1, refl, refl)
map_kind_from kind.List h = (2, refl, refl)

pub map_kind_reader : IsReader map_kind_at (λ k. map_kind_byte k ∷ []) (λ k. Unit {0})
unfolding map_kind_at
map_kind_reader = made_reader (byte_reader (is_from 1 2) 1 refl) (record { same = map_kind_back; fits = λ b h. tt; from = map_kind_from })

-- ---- key types

key_type_back : (b : ℕ) → is_from 1 6 b ≡ true → key_type_byte (key_type_of b) ∷ [] ≡ b ∷ []
key_type_back zero h = before 1 6 0 h (omega arith)
key_type_back (suc zero) h = refl
key_type_back (suc (suc zero)) h = refl
key_type_back (suc (suc (suc zero))) h = refl
key_type_back (suc (suc (suc (suc zero)))) h = refl
key_type_back (suc (suc (suc (suc (suc zero))))) h = refl
key_type_back (suc (suc (suc (suc (suc (suc zero)))))) h = refl
key_type_back (suc (suc (suc (suc (suc (suc (suc b))))))) h = beyond 1 6 (suc (suc (suc (suc (suc (suc (suc b))))))) h (omega arith)

key_type_from : (k : KeyType) → Unit {0} → (b : ℕ) × (is_from 1 6 b ≡ true) × (key_type_of b ≡ k)
key_type_from type.Int h = (1, refl, refl)
key_type_from type.Long h = (2, refl, refl)
key_type_from type.Guid h = (3, refl, refl)
key_type_from type.Bytes h = (4, refl, refl)
key_type_from type.Datetime h = (5, refl, refl)
key_type_from type.Timespan h = (6, refl, refl)

pub key_type_reader : IsReader key_type_at (λ k. key_type_byte k ∷ []) (λ k. Unit {0})
unfolding key_type_at
key_type_reader = made_reader (byte_reader (is_from 1 6) 1 refl) (record { same = key_type_back; fits = λ b h. tt; from = key_type_from })

-- ---- states of sites

away_back : (b : ℕ) → is_from 1 2 b ≡ true → away_byte (away_of b) ∷ [] ≡ b ∷ []
away_back zero h = before 1 2 0 h (omega arith)
away_back (suc zero) h = refl
away_back (suc (suc zero)) h = refl
away_back (suc (suc (suc b))) h = beyond 1 2 (suc (suc (suc b))) h (omega arith)

away_from : (k : Away) → Unit {0} → (b : ℕ) × (is_from 1 2 b ≡ true) × (away_of b ≡ k)
away_from away.Detached h = (1, refl, refl)
away_from away.Suspect h = (2, refl, refl)

pub away_reader : IsReader away_at (λ k. away_byte k ∷ []) (λ k. Unit {0})
unfolding away_at
away_reader = made_reader (byte_reader (is_from 1 2) 1 refl) (record { same = away_back; fits = λ b h. tt; from = away_from })

-- ---- tokens

abbrev pub IsTokenOf : Option Token → Type 0
IsTokenOf token = IfSome token IsToken

at_none : (o : Option Token) → Tagged token_bytes IsTokenOf 0 o → (u : Unit {0}) × Unit {0} × (None ≡ o)
at_none None h = (tt, tt, refl)
at_none (Some token) h = let e = h.1 in absurd (omega arith)

at_some : (o : Option Token) → Tagged token_bytes IsTokenOf 1 o → (n : ℕ) × (n < 2 ^ 128) × (token_of n ≡ o)
at_some None h = let e = h.1 in absurd (omega arith)
at_some (Some token) h = (token.0, h.0, refl)

token_begun : (o : Option Token) → IsTokenOf o → (is_from 0 1 (tag token_bytes o) ≡ true) × (token_bytes o ≡ tag token_bytes o ∷ body token_bytes o)
token_begun None h = (refl, refl)
token_begun (Some token) h = (refl, refl)

token_cases : (t : ℕ) → is_from 0 1 t ≡ true → IsReader (token_body_at t) (body token_bytes) (Tagged token_bytes IsTokenOf t)
token_cases zero h = made_reader nothing_reader (record { same = λ u f. refl; fits = λ u f. (f, refl); from = at_none })
token_cases (suc zero) h = made_reader number_16_reader (record { same = λ n f. refl; fits = λ n f. (f, refl); from = at_some })
token_cases (suc (suc t)) h = past 1 (suc (suc t)) h (omega arith)

pub token_reader : IsReader token_at token_bytes IsTokenOf
unfolding token_at
token_reader = tagged_reader (is_from 0 1) token_body_at token_bytes IsTokenOf 0 refl token_begun token_cases

-- ---- marks

at_plain : (m : Mark) → Tagged mark_bytes IsMarkValue 0 m → (u : Unit {0}) × Unit {0} × (mark.Plain ≡ m)
at_plain mark.Plain h = (tt, tt, refl)
at_plain (mark.Old n) h = let e = h.1 in absurd (omega arith)
at_plain mark.New h = let e = h.1 in absurd (omega arith)

at_old : (m : Mark) → Tagged mark_bytes IsMarkValue 1 m → (n : ℕ) × (n < 2 ^ 64) × (mark.Old n ≡ m)
at_old mark.Plain h = let e = h.1 in absurd (omega arith)
at_old (mark.Old n) h = (n, h.0, refl)
at_old mark.New h = let e = h.1 in absurd (omega arith)

at_new : (m : Mark) → Tagged mark_bytes IsMarkValue 2 m → (u : Unit {0}) × Unit {0} × (mark.New ≡ m)
at_new mark.Plain h = let e = h.1 in absurd (omega arith)
at_new (mark.Old n) h = let e = h.1 in absurd (omega arith)
at_new mark.New h = (tt, tt, refl)

mark_begun : (m : Mark) → IsMarkValue m → (is_from 0 2 (tag mark_bytes m) ≡ true) × (mark_bytes m ≡ tag mark_bytes m ∷ body mark_bytes m)
mark_begun mark.Plain h = (refl, refl)
mark_begun (mark.Old n) h = (refl, refl)
mark_begun mark.New h = (refl, refl)

mark_cases : (t : ℕ) → is_from 0 2 t ≡ true → IsReader (mark_body_at t) (body mark_bytes) (Tagged mark_bytes IsMarkValue t)
mark_cases zero h = made_reader nothing_reader (record { same = λ u f. refl; fits = λ u f. (f, refl); from = at_plain })
mark_cases (suc zero) h = made_reader number_8_reader (record { same = λ n f. refl; fits = λ n f. (f, refl); from = at_old })
mark_cases (suc (suc zero)) h = made_reader nothing_reader (record { same = λ u f. refl; fits = λ u f. (f, refl); from = at_new })
mark_cases (suc (suc (suc t))) h = past 2 (suc (suc (suc t))) h (omega arith)

pub mark_reader : IsReader mark_at mark_bytes IsMarkValue
unfolding mark_at
mark_reader = tagged_reader (is_from 0 2) mark_body_at mark_bytes IsMarkValue 0 refl mark_begun mark_cases
