-- Sixteen bytes are two numbers of eight.
use Rattle.std.proofs.Common.{◌≡◌, ℕ, zero, suc, ◌+◌, ◌-◌, ◌*◌, ◌/◌, ◌%◌, ◌^◌, ◌<◌, List, [], ◌∷◌, ◌++◌, length, get_or, drop, refl, sym, ap, ◌∙◌, arith}
use Rattle.std.specs.Int.{w64, w128, from_be_bytes, to_be_bytes}
use Rattle.std.proofs.lemmas.List.{drop_more, drop_all}
use Rattle.std.proofs.lemmas.Nat.{be_bytes_8, from_be_bytes-to_be_bytes_8}
use Rattle.record_form.proofs.Readers.{IsBytes}

high : (n : ℕ) → n < 2 ^ 128 → n / 18446744073709551616 < 2 ^ 64
high n lt = omega arith

low : (n : ℕ) → n % 18446744073709551616 < 2 ^ 64
low n = omega arith

-- the bytes of a number are those of its upper and of its lower half
pub halves : (n : ℕ) → to_be_bytes w128 n ≡ to_be_bytes w64 (n / 18446744073709551616) ++ to_be_bytes w64 (n % 18446744073709551616)
halves n = λ i.
    b15 i ∷ b14 i ∷ b13 i ∷ b12 i ∷ b11 i ∷ b10 i ∷ b9 i ∷ b8 i ∷ b7 i ∷ b6 i ∷ b5 i ∷ b4 i ∷ b3 i ∷ b2 i ∷ b1 i ∷ b0 i ∷ []
  where
    b15 : n / 256 ^ 15 % 256 ≡ n / 18446744073709551616 / 256 ^ 7 % 256
    b15 = omega arith

    b14 : n / 256 ^ 14 % 256 ≡ n / 18446744073709551616 / 256 ^ 6 % 256
    b14 = omega arith

    b13 : n / 256 ^ 13 % 256 ≡ n / 18446744073709551616 / 256 ^ 5 % 256
    b13 = omega arith

    b12 : n / 256 ^ 12 % 256 ≡ n / 18446744073709551616 / 256 ^ 4 % 256
    b12 = omega arith

    b11 : n / 256 ^ 11 % 256 ≡ n / 18446744073709551616 / 256 ^ 3 % 256
    b11 = omega arith

    b10 : n / 256 ^ 10 % 256 ≡ n / 18446744073709551616 / 256 ^ 2 % 256
    b10 = omega arith

    b9 : n / 256 ^ 9 % 256 ≡ n / 18446744073709551616 / 256 ^ 1 % 256
    b9 = omega arith

    b8 : n / 256 ^ 8 % 256 ≡ n / 18446744073709551616 % 256
    b8 = omega arith

    b7 : n / 256 ^ 7 % 256 ≡ n % 18446744073709551616 / 256 ^ 7 % 256
    b7 = omega arith

    b6 : n / 256 ^ 6 % 256 ≡ n % 18446744073709551616 / 256 ^ 6 % 256
    b6 = omega arith

    b5 : n / 256 ^ 5 % 256 ≡ n % 18446744073709551616 / 256 ^ 5 % 256
    b5 = omega arith

    b4 : n / 256 ^ 4 % 256 ≡ n % 18446744073709551616 / 256 ^ 4 % 256
    b4 = omega arith

    b3 : n / 256 ^ 3 % 256 ≡ n % 18446744073709551616 / 256 ^ 3 % 256
    b3 = omega arith

    b2 : n / 256 ^ 2 % 256 ≡ n % 18446744073709551616 / 256 ^ 2 % 256
    b2 = omega arith

    b1 : n / 256 ^ 1 % 256 ≡ n % 18446744073709551616 / 256 ^ 1 % 256
    b1 = omega arith

    b0 : n % 256 ≡ n % 18446744073709551616 % 256
    b0 = omega arith

-- eight bytes and eight bytes are read as one number
joined : (a0 a1 a2 a3 a4 a5 a6 a7 b0 b1 b2 b3 b4 b5 b6 b7 : ℕ)
    → from_be_bytes w128 (a0 ∷ a1 ∷ a2 ∷ a3 ∷ a4 ∷ a5 ∷ a6 ∷ a7 ∷ b0 ∷ b1 ∷ b2 ∷ b3 ∷ b4 ∷ b5 ∷ b6 ∷ b7 ∷ [])
    ≡ from_be_bytes w64 (a0 ∷ a1 ∷ a2 ∷ a3 ∷ a4 ∷ a5 ∷ a6 ∷ a7 ∷ []) * 18446744073709551616 + from_be_bytes w64 (b0 ∷ b1 ∷ b2 ∷ b3 ∷ b4 ∷ b5 ∷ b6 ∷ b7 ∷ [])
joined a0 a1 a2 a3 a4 a5 a6 a7 b0 b1 b2 b3 b4 b5 b6 b7 = omega arith

pub again_16 : (n : ℕ) → n < 2 ^ 128 → from_be_bytes w128 (to_be_bytes w128 n) ≡ n
again_16 n lt =
    let h = from_be_bytes-to_be_bytes_8 (n / 18446744073709551616) (high n lt) in
    let l = from_be_bytes-to_be_bytes_8 (n % 18446744073709551616) (low n) in
    ap (from_be_bytes w128) (halves n) ∙ (joined _ _ _ _ _ _ _ _ _ _ _ _ _ _ _ _ ∙ rw (h, l) (omega arith))

split_16 : (h l n : ℕ) → l < 2 ^ 64 → n ≡ h * 18446744073709551616 + l → (n / 18446744073709551616 ≡ h) × (n % 18446744073709551616 ≡ l)
split_16 h l n lt e = (omega arith, omega arith)

-- n bytes from place i on
abbrev listed : ℕ → ℕ → List ℕ → List ℕ
listed zero i bytes = []
listed (suc n) i bytes = get_or bytes i 0 ∷ listed n (i + 1) bytes

drop-listed : (n i : ℕ) (bytes : List ℕ) → length bytes ≡ i + n → drop i bytes ≡ listed n i bytes
drop-listed zero i bytes e = drop_all i bytes (omega arith)
drop-listed (suc n) i bytes e = drop_more bytes i 0 (omega arith) ∙ ap (λ (l : List ℕ). get_or bytes i 0 ∷ l) (drop-listed n (i + 1) bytes (omega arith))

IsBytes-listed : (n i : ℕ) (bytes : List ℕ) → IsBytes bytes → IsBytes (listed n i bytes)
IsBytes-listed zero i bytes h j = omega arith
IsBytes-listed (suc n) i bytes h zero = h i
IsBytes-listed (suc n) i bytes h (suc j) = IsBytes-listed n (i + 1) bytes h j

below_8 : (bytes : List ℕ) → IsBytes bytes → from_be_bytes w64 bytes < 2 ^ 64
below_8 bytes h = omega (arith, h 0, h 1, h 2, h 3, h 4, h 5, h 6, h 7)

pub below_16 : (bytes : List ℕ) → IsBytes bytes → from_be_bytes w128 bytes < 2 ^ 128
below_16 bytes h =
    let front = below_8 (listed 8 0 bytes) (IsBytes-listed 8 0 bytes h) in
    let back = below_8 (listed 8 8 bytes) (IsBytes-listed 8 8 bytes h) in
    let parts : from_be_bytes w128 bytes ≡ from_be_bytes w64 (listed 8 0 bytes) * 18446744073709551616 + from_be_bytes w64 (listed 8 8 bytes) = omega arith in
    rw parts (below front back)
  where
    below : {a b : ℕ} → a < 2 ^ 64 → b < 2 ^ 64 → a * 18446744073709551616 + b < 2 ^ 128
    below {a} {b} ha hb = omega arith

pub back_16 : (bytes : List ℕ) → length bytes ≡ 16 → IsBytes bytes → to_be_bytes w128 (from_be_bytes w128 bytes) ≡ bytes
back_16 bytes len h =
    let front = listed 8 0 bytes in
    let back = listed 8 8 bytes in
    let fits = IsBytes-listed 8 8 bytes h in
    let parts : from_be_bytes w128 bytes ≡ from_be_bytes w64 front * 18446744073709551616 + from_be_bytes w64 back = omega arith in
    let split = split_16 (from_be_bytes w64 front) (from_be_bytes w64 back) (from_be_bytes w128 bytes) (below_8 back fits) parts in
    let first = be_bytes_8 front (from_be_bytes w64 front) refl (IsBytes-listed 8 0 bytes h) refl in
    let second = be_bytes_8 back (from_be_bytes w64 back) refl fits refl in
    let wide = from_be_bytes w128 bytes in
    halves wide
    ∙ (ap (λ (q : ℕ). to_be_bytes w64 q ++ to_be_bytes w64 (wide % 18446744073709551616)) split.0
    ∙ (ap (λ (q : ℕ). to_be_bytes w64 (from_be_bytes w64 front) ++ to_be_bytes w64 q) split.1
    ∙ (ap (λ (l : List ℕ). l ++ to_be_bytes w64 (from_be_bytes w64 back)) first
    ∙ (ap (λ (l : List ℕ). front ++ l) second ∙ sym (drop-listed 16 0 bytes len)))))
