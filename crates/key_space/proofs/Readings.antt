-- What a text is to its type, by the number or the bytes that it writes; and each fault says that it is no key.
use Rattle.std.proofs.Common.{◌≡◌, ◌↔◌, ℕ, ◌^◌, ◌<◌, ◌≤◌, true, ◌==◌, [], ◌∷◌, length, Some, None, Result, Ok, Err, IsOk, IfOk, true≢false, refl, sym, ap, subst, ◌∙◌, inl, inr}
use Rattle.std.specs.Prelude.{is_some, nat_lt, IfErr, IsSome}
use Rattle.std.specs.Int.{w32, w64, to_be_bytes}
use Rattle.std.proofs.lemmas.Bool.{cases_Bool, cases_lt, le-leb, lt-leb}
use Rattle.text_scan.specs.Places.{IsPlace}
use Rattle.text_scan.proofs.Places.{no_text, one_place}
use Rattle.cell_world.specs.Texts.{Text}
use Rattle.cell_world.specs.KeyForms.{number_of, signed_number, guid_bytes, guid_form, last_tick, normal_of}
use Rattle.cell_world.specs.declared.cells.KeyType.{KeyType}
use Rattle.cell_world.specs.declared.cells.KeyType.TheVariants.{Int, Long, Guid, Bytes, Datetime, Timespan}
use Rattle.key_space.specs.Values.{type_of, form_of}
use Rattle.key_space.specs.Texts.{is_signed_text, written_bytes, in_grammar, IsNumber, IsKeyFault}
use Rattle.key_space.specs.declared.keys.Key.{Key}
use Rattle.key_space.specs.declared.faults.KeyFault.{KeyFault}
use Rattle.key_space.specs.declared.faults.KeyFault.TheVariants.{NotInGrammar, OutOfRange, TooLong, Memory}
use Rattle.key_space.proofs.HexDigits.{cases_option, none_some}

-- ---- by the number, or the bytes

pub int_some : (text : Text) (n : ℕ) → signed_number (2 ^ 31) text ≡ Some n → normal_of Int text ≡ Some (to_be_bytes w32 n)
unfolding normal_of
int_some text n h = rw h refl

pub int_none : (text : Text) → signed_number (2 ^ 31) text ≡ None → normal_of Int text ≡ None
unfolding normal_of
int_none text h = rw h refl

pub long_some : (text : Text) (n : ℕ) → signed_number (2 ^ 63) text ≡ Some n → normal_of Long text ≡ Some (to_be_bytes w64 n)
unfolding normal_of
long_some text n h = rw h refl

pub long_none : (text : Text) → signed_number (2 ^ 63) text ≡ None → normal_of Long text ≡ None
unfolding normal_of
long_none text h = rw h refl

pub timespan_as_long : (text : Text) → normal_of Timespan text ≡ normal_of Long text
unfolding normal_of
timespan_as_long text = refl

pub datetime_some : (text : Text) (n : ℕ) → number_of text ≡ Some n → n ≤ last_tick → normal_of Datetime text ≡ Some (to_be_bytes w64 n)
unfolding normal_of
datetime_some text n h le = rw (h, le-leb n last_tick le) refl

pub datetime_none : (text : Text) (n : ℕ) → number_of text ≡ Some n → last_tick < n → normal_of Datetime text ≡ None
unfolding normal_of
datetime_none text n h lt = rw (h, lt-leb n last_tick lt) refl

pub guid_some : (text bytes : Text) → guid_bytes text ≡ Some bytes → normal_of Guid text ≡ Some (guid_form bytes)
unfolding normal_of
guid_some text bytes h = rw h refl

pub not_above : (n most : ℕ) → (n ≤ most → ⊥) → most < n
not_above n most h = elim (cases_lt most n) [ inl lt ↦ lt | inr le ↦ absurd (h le) ]

-- ---- a key's text is in the grammar

signed_in : (half : ℕ) (text : Text) (n : ℕ) → signed_number half text ≡ Some n → is_signed_text text ≡ true
signed_in half [] n h = none_some n h
signed_in half (b ∷ bs) n h =
    elim (cases_Bool (b == 45)) [
      | inl minus ↦ elim (cases_option (number_of bs)) [
        | inl none ↦ none_some n (rw (minus, none) at h)
        | inr x ↦ elim (cases_Bool (nat_lt 0 x.0)) [
          | inl some ↦ rw (minus, x.1) some
          | inr zero ↦ none_some n (rw (minus, x.1, zero) at h)
        ]
      ]
      | inr plain ↦ elim (cases_option (number_of (b ∷ bs))) [
        | inl none ↦ none_some n (rw (plain, none) at h)
        | inr x ↦ rw (plain, x.1) refl
      ]
    ]

pub keys_are_texts : (type : KeyType) (text form : Text) → normal_of type text ≡ Some form → in_grammar type text ≡ true
unfolding normal_of
keys_are_texts Int text form h = elim (cases_option (signed_number (2 ^ 31) text)) [ inl none ↦ none_some form (rw none at h) | inr x ↦ signed_in (2 ^ 31) text x.0 x.1 ]
keys_are_texts Long text form h = elim (cases_option (signed_number (2 ^ 63) text)) [ inl none ↦ none_some form (rw none at h) | inr x ↦ signed_in (2 ^ 63) text x.0 x.1 ]
keys_are_texts Timespan text form h = elim (cases_option (signed_number (2 ^ 63) text)) [ inl none ↦ none_some form (rw none at h) | inr x ↦ signed_in (2 ^ 63) text x.0 x.1 ]
keys_are_texts Datetime text form h = elim (cases_option (number_of text)) [ inl none ↦ none_some form (rw none at h) | inr x ↦ rw x.1 refl ]
keys_are_texts Guid text form h = elim (cases_option (guid_bytes text)) [ inl none ↦ none_some form (rw none at h) | inr x ↦ rw x.1 refl ]
keys_are_texts Bytes text form h = elim (cases_option (written_bytes text)) [ inl none ↦ none_some form (rw none at h) | inr x ↦ rw x.1 refl ]

-- ---- a text with a fault is no key

too_long : (text bytes : Text) → written_bytes text ≡ Some bytes → 128 < length bytes → normal_of Bytes text ≡ None
unfolding normal_of
too_long text bytes h long = rw (h, lt-leb (length bytes) 128 long) refl

pub no_key : (type : KeyType) (text : Text) (fault : KeyFault) → IsKeyFault type text fault → normal_of type text ≡ None
no_key type text (NotInGrammar place) is =
    elim (cases_option (normal_of type text)) [
      | inl none ↦ none
      | inr x ↦ absurd (no_text (in_grammar type) text place is (keys_are_texts type text x.0 x.1))
    ]
no_key type text TooLong is = ap (λ t. normal_of t text) is.0 ∙ too_long text is.1.0 is.1.1 is.1.2
no_key type text OutOfRange is = is.2
no_key type text Memory is = absurd is

-- a fault past the grammar is of a text in it
in_it : (type : KeyType) (text : Text) (fault : KeyFault) (place : ℕ) → IsPlace (in_grammar type) text place → IsKeyFault type text fault → NotInGrammar place ≡ fault
in_it type text (NotInGrammar other) place at is = ap NotInGrammar (one_place (in_grammar type) text place other at is)
in_it type text TooLong place at is = absurd (no_text (in_grammar type) text place at (ap (λ t. in_grammar t text) is.0 ∙ ap is_some is.1.1))
in_it type text OutOfRange place at is = absurd (no_text (in_grammar type) text place at is.1)
in_it type text Memory place at is = absurd is

not_both : (type : KeyType) → type ≡ Bytes → IsNumber type → ⊥
not_both type e is = subst IsNumber e is

pub one_fault : (type : KeyType) (text : Text) (e f : KeyFault) → IsKeyFault type text e → IsKeyFault type text f → e ≡ f
one_fault type text (NotInGrammar place) f he hf = in_it type text f place he hf
one_fault type text e (NotInGrammar place) he hf = sym (in_it type text e place hf he)
one_fault type text TooLong TooLong he hf = refl
one_fault type text OutOfRange OutOfRange he hf = refl
one_fault type text TooLong OutOfRange he hf = absurd (not_both type he.0 hf.0)
one_fault type text OutOfRange TooLong he hf = absurd (not_both type hf.0 he.0)
one_fault type text Memory f he hf = absurd he
one_fault type text e Memory he hf = absurd hf

pub as_timespan : (text : Text) (fault : KeyFault) → IsKeyFault Long text fault → IsKeyFault Timespan text fault
as_timespan text (NotInGrammar place) is = is
as_timespan text TooLong is = absurd cc
as_timespan text OutOfRange is = (tt, is.1, timespan_as_long text ∙ is.2)
as_timespan text Memory is = is

pub exact_of : (type : KeyType) (text : Text) (r : Result Key KeyFault) → IfOk r (λ key. (type_of key ≡ type) × (normal_of type text ≡ Some (form_of key))) → IfErr r (IsKeyFault type text)
    → IsOk r ↔ IsSome (normal_of type text)
exact_of type text (Ok key) is fault = (λ _. rw is.1 refl, λ _. refl)
exact_of type text (Err e) is fault = (λ ok. absurd (true≢false (sym ok)), λ some. absurd (true≢false (sym some ∙ ap is_some (no_key type text e fault))))
