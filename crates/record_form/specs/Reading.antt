-- Reading fields from left to right. Where no spelling goes on, the error is how many bytes are left.
use Rattle.std.specs.Prelude.{◌≡◌, ℕ, zero, suc, List, [], ◌∷◌, length, take, drop, Bool, ◌&&◌, Option, Some, None, Result, Ok, Err, IsOk, nat_lt, nat_le, ◌==◌, if◌then◌else◌}
use Rattle.std.specs.Int.{Width, byte_len, from_be_bytes}
use Rattle.record_form.specs.declared.stops.Stop.{Stop}
use Rattle.record_form.specs.declared.stops.Stop.TheVariants as stop

infixl 10 ◌>>=◌
abbrev pub ◌>>=◌ : {A B : Type 0} → Result A ℕ → (A → Result B ℕ) → Result B ℕ
(Ok x) >>= f = f x
(Err e) >>= f = Err e

-- a value and the bytes after it
abbrev pub Read : Type 0 → Type 0
Read A = Result (A × List ℕ) ℕ

-- ---- fields

-- a byte is one from the first to the last
abbrev pub is_from : ℕ → ℕ → ℕ → Bool
is_from first last b = nat_le first b && nat_le b last

-- no bytes
abbrev pub nothing_at : List ℕ → Read (Unit {0})
nothing_at bytes = Ok (tt, bytes)

-- one byte that passes
abbrev pub byte_at : (ℕ → Bool) → List ℕ → Read ℕ
byte_at p [] = Err 0
byte_at p (b ∷ bs) = if p b then Ok (b, bs) else Err (suc (length bs))

abbrev pub number_at : Width → List ℕ → Read ℕ
number_at w bytes = if nat_lt (length bytes) (byte_len w) then Err 0 else Ok (from_be_bytes w (take (byte_len w) bytes), drop (byte_len w) bytes)

-- so many bytes, whichever they are
abbrev pub raw_at : ℕ → List ℕ → Read (List ℕ)
raw_at n bytes = if nat_lt (length bytes) n then Err 0 else Ok (take n bytes, drop n bytes)

-- So many bytes, each one with which the text so far goes on to that many. A step is told how many bytes come after it.
abbrev pub then_byte : ℕ → Read (List ℕ) → Read (List ℕ)
then_byte b read = read >>= λ x. Ok (b ∷ x.0, x.1)

unfoldable pub text_at : {S : Type 0} → (ℕ → S → ℕ → Option S) → ℕ → S → List ℕ → Read (List ℕ)
text_at next zero s bs = Ok ([], bs)
text_at next (suc m) s [] = Err 0
text_at next (suc m) s (b ∷ bs) = elim (next m s b) [ None ↦ Err (suc (length bs)) | Some t ↦ then_byte b (text_at next m t bs) ]

-- ---- one field after another

-- a field, and another that may depend on it
abbrev pub both : {A B : Type 0} → (List ℕ → Read A) → (A → List ℕ → Read B) → List ℕ → Read (A × B)
both r s bytes = r bytes >>= λ x. s x.0 x.1 >>= λ y. Ok ((x.0, y.0), y.1)

-- a field, and another
abbrev pub pair : {A B : Type 0} → (List ℕ → Read A) → (List ℕ → Read B) → List ℕ → Read (A × B)
pair r s = both r (λ _. s)

-- the value that a field stands for
abbrev pub made : {A B : Type 0} → (A → B) → (List ℕ → Read A) → List ℕ → Read B
made f r bytes = r bytes >>= λ x. Ok (f x.0, x.1)

-- a byte that tells what comes after it
abbrev pub tagged : {A : Type 0} → (ℕ → Bool) → (ℕ → List ℕ → Read A) → List ℕ → Read A
tagged is_tag body_at = made (λ p. p.1) (both (byte_at is_tag) body_at)

-- all of the bytes
abbrev pub whole : {A : Type 0} → (List ℕ → Read A) → List ℕ → Result A ℕ
whole r bytes = r bytes >>= λ x. if length x.1 == 0 then Ok x.0 else Err (length x.1)

-- ---- what the program's functions do

-- the function gave the field's value, and left the bytes after it
abbrev pub GivesSeen : {X A : Type 0} → (X → A) → (List ℕ → Read A) → List ℕ → List ℕ → Result X Stop → Type 0
GivesSeen seen r before after (Ok x) = r before ≡ Ok (seen x, after)
GivesSeen seen r before after (Err (stop.Left n)) = r before ≡ Err n
GivesSeen seen r before after (Err stop.Memory) = ⊥

abbrev pub Gives : {A : Type 0} → (List ℕ → Read A) → List ℕ → List ℕ → Result A Stop → Type 0
Gives r before after result = GivesSeen (λ x. x) r before after result

-- the function read all of the bytes; memory was short only for a value that they spell
abbrev pub GivesAll : {A : Type 0} → Result A ℕ → Result A Stop → Type 0
GivesAll read (Ok x) = read ≡ Ok x
GivesAll read (Err (stop.Left n)) = read ≡ Err n
GivesAll read (Err stop.Memory) = IsOk read
