-- Printed bytes and printed guids are read as the same bytes, and they are what hex and uuid print.
use Rattle.std.proofs.Common.{◌≡◌, ℕ, zero, suc, ◌+◌, ◌*◌, ◌/◌, ◌%◌, ◌<◌, ◌≤◌, true, ◌==◌, List, [], ◌∷◌, ◌++◌, length, get_or, take, drop, Some, refl, sym, ap, ◌∙◌, arith, append_assoc, length-take, length-drop}
use Rattle.std.specs.Prelude.{IsTrue, nat_lt, slice_index}
use Rattle.std.proofs.lemmas.Bool.{and_parts, and_from, ltb-true, eqb-true, agree_below_at}
use Rattle.std.proofs.lemmas.List.{append-nil}
use Rattle.std.proofs.lemmas.Bool.Decides.{nat_tests}
use Rattle.hex.specs.Hex.{encode_with, encode_lower, lower_digits}
use Rattle.uuid.specs.Text.{by_index, hyphenated_text, lower}
use Rattle.uuid.specs.Text as u
use Rattle.cell_world.specs.Texts.{Text, are_bytes}
use Rattle.cell_world.specs.KeyForms.{hex_digit, hex_byte, hex_bytes, bytes_taken, grouped_bytes, guid_bytes}
use Rattle.cell_world.specs.KeyPrinting.{hex_glyph, hex_text, guid_text, dash}
use Rattle.key_space.specs.Guids.{IsGuid}
use Rattle.key_space.proofs.KeyForms.{listed, drop-listed}

glyph_read : (d : ℕ) → d < 16 → hex_digit (hex_glyph d) ≡ Some d
glyph_read d lt = grind (arith, nat_tests)

byte_read : (b : ℕ) → b < 256 → hex_byte (hex_glyph (b / 16)) (hex_glyph (b % 16)) ≡ Some b
byte_read b lt =
    let whole : 16 * (b / 16) + b % 16 ≡ b = omega arith in
    rw (glyph_read (b / 16) (omega arith), glyph_read (b % 16) (omega arith)) (ap Some whole)

first_byte : (b : ℕ) (bs : Text) → IsTrue (are_bytes (b ∷ bs)) → (b < 256) × IsTrue (are_bytes bs)
first_byte b bs h = let p = and_parts (nat_lt b 256) (are_bytes bs) h in (ltb-true b 256 p.0, p.1)

pub bytes_again : (bytes : Text) → IsTrue (are_bytes bytes) → hex_bytes (hex_text bytes) ≡ Some bytes
bytes_again [] h = refl
bytes_again (b ∷ bs) h = let p = first_byte b bs h in rw (byte_read b p.0, bytes_again bs p.1) refl

-- ---- what hex prints

glyph_of_hex : (d : ℕ) → d < 16 → slice_index lower_digits d ≡ hex_glyph d
glyph_of_hex d lt = eqb-true (slice_index lower_digits d) (hex_glyph d) (agree_below_at (λ d. slice_index lower_digits d == hex_glyph d) (λ _. true) 16 d refl lt)

pub encoded : (bytes : Text) → IsTrue (are_bytes bytes) → encode_lower bytes ≡ hex_text bytes
unfolding encode_with
encoded [] h = refl
encoded (b ∷ bs) h =
    let p = first_byte b bs h in
    let small = p.0 in
    rw (glyph_of_hex (b / 16) (omega arith), glyph_of_hex (b % 16) (omega arith), encoded bs p.1) refl

-- ---- guids

taken_again : (n : ℕ) (xs rest : Text) → length xs ≡ n → IsTrue (are_bytes xs) → bytes_taken n (hex_text xs ++ rest) ≡ Some (xs, rest)
taken_again zero [] rest e h = refl
taken_again (suc n) [] rest e h = absurd (omega (arith, e))
taken_again zero (b ∷ bs) rest e h = absurd (omega (arith, e))
taken_again (suc n) (b ∷ bs) rest e h = let p = first_byte b bs h in rw (byte_read b p.0, taken_again n bs rest (omega (arith, e)) p.1) refl

group_again : (n m : ℕ) (more : List ℕ) (xs rest ys : Text) → length xs ≡ n → IsTrue (are_bytes xs) → grouped_bytes (m ∷ more) rest ≡ Some ys → grouped_bytes (n ∷ m ∷ more) (hex_text xs ++ 45 ∷ rest) ≡ Some (xs ++ ys)
group_again n m more xs rest ys e h others = rw (taken_again n xs (45 ∷ rest) e h, others) refl

last_again : (n : ℕ) (xs : Text) → length xs ≡ n → IsTrue (are_bytes xs) → grouped_bytes (n ∷ []) (hex_text xs) ≡ Some xs
last_again n xs e h = ap (grouped_bytes (n ∷ [])) (sym (append-nil (hex_text xs))) ∙ rw (taken_again n xs [] e h) refl

bytes_take : (n : ℕ) (xs : Text) → IsTrue (are_bytes xs) → IsTrue (are_bytes (take n xs))
bytes_take zero xs h = refl
bytes_take (suc n) [] h = refl
bytes_take (suc n) (b ∷ bs) h = let p = and_parts (nat_lt b 256) (are_bytes bs) h in and_from (nat_lt b 256) (are_bytes (take n bs)) p.0 (bytes_take n bs p.1)

bytes_drop : (n : ℕ) (xs : Text) → IsTrue (are_bytes xs) → IsTrue (are_bytes (drop n xs))
bytes_drop zero xs h = h
bytes_drop (suc n) [] h = refl
bytes_drop (suc n) (b ∷ bs) h = bytes_drop n bs (and_parts (nat_lt b 256) (are_bytes bs) h).1

pub byte_at : (xs : Text) → IsTrue (are_bytes xs) → (k : ℕ) → get_or xs k 0 < 256
byte_at [] h k = omega arith
byte_at (b ∷ bs) h zero = (first_byte b bs h).0
byte_at (b ∷ bs) h (suc k) = byte_at bs (first_byte b bs h).1 k

abbrev five_parts : Text → Text
five_parts bytes = take 4 bytes ++ (take 2 (drop 4 bytes) ++ (take 2 (drop 6 bytes) ++ (take 2 (drop 8 bytes) ++ drop 10 bytes)))

parts_whole : (bytes : Text) → length bytes ≡ 16 → five_parts bytes ≡ bytes
parts_whole bytes count =
    let p = drop-listed 16 0 bytes count in
    (λ i. five_parts (p i)) ∙ sym p

from_right : (a b c d e : Text) → a ++ dash ++ b ++ dash ++ c ++ dash ++ d ++ dash ++ e ≡ a ++ 45 ∷ (b ++ 45 ∷ (c ++ 45 ∷ (d ++ 45 ∷ e)))
from_right a b c d e = simp append_assoc refl

pub guid_again : (bytes : Text) → IsGuid bytes → guid_bytes (guid_text bytes) ≡ Some bytes
guid_again bytes is =
    let count = is.count in
    let all = is.all_bytes in
    let e = last_again 6 (drop 10 bytes) (omega (arith, length-drop 10 bytes, count)) (bytes_drop 10 bytes all) in
    let part : (n : ℕ) → n + 2 ≤ 16 → (length (take 2 (drop n bytes)) ≡ 2) × IsTrue (are_bytes (take 2 (drop n bytes))) =
    λ n le. (omega (arith, length-take 2 (drop n bytes), length-drop n bytes, count), bytes_take 2 (drop n bytes) (bytes_drop n bytes all)) in
    let d8 = part 8 (omega arith) in
    let d6 = part 6 (omega arith) in
    let d4 = part 4 (omega arith) in
    let last = hex_text (drop 10 bytes) in
    let from_8 = hex_text (take 2 (drop 8 bytes)) ++ 45 ∷ last in
    let from_6 = hex_text (take 2 (drop 6 bytes)) ++ 45 ∷ from_8 in
    let from_4 = hex_text (take 2 (drop 4 bytes)) ++ 45 ∷ from_6 in
    let d = group_again 2 6 [] (take 2 (drop 8 bytes)) last _ d8.0 d8.1 e in
    let c = group_again 2 2 (6 ∷ []) (take 2 (drop 6 bytes)) from_8 _ d6.0 d6.1 d in
    let b = group_again 2 2 (2 ∷ 6 ∷ []) (take 2 (drop 4 bytes)) from_6 _ d4.0 d4.1 c in
    let front : length (take 4 bytes) ≡ 4 = omega (arith, length-take 4 bytes, count) in
    let a : grouped_bytes (4 ∷ 2 ∷ 2 ∷ 2 ∷ 6 ∷ []) (hex_text (take 4 bytes) ++ 45 ∷ from_4) ≡ Some (five_parts bytes) = group_again 4 2 (2 ∷ 2 ∷ 6 ∷ []) (take 4 bytes) from_4 _ front (bytes_take 4 bytes all) b in
    let same = from_right (hex_text (take 4 bytes)) (hex_text (take 2 (drop 4 bytes))) (hex_text (take 2 (drop 6 bytes))) (hex_text (take 2 (drop 8 bytes))) last in
    ap guid_bytes same ∙ (a ∙ ap Some (parts_whole bytes count))

-- ---- what uuid prints

glyph_of_uuid : (d : ℕ) → d < 16 → u.hex_digit lower d ≡ hex_glyph d
glyph_of_uuid d lt = eqb-true (u.hex_digit lower d) (hex_glyph d) (agree_below_at (λ d. u.hex_digit lower d == hex_glyph d) (λ _. true) 16 d refl lt)

high : (b : ℕ) → b < 256 → u.hex_digit lower (b / 16 % 16) ≡ hex_glyph (b / 16)
high b lt =
    let same : b / 16 % 16 ≡ b / 16 = omega arith in
    rw same (glyph_of_uuid (b / 16) (omega arith))

low : (b : ℕ) → b < 256 → u.hex_digit lower (b % 16) ≡ hex_glyph (b % 16)
low b lt = glyph_of_uuid (b % 16) (omega arith)

pub uuid_prints : (bytes : Text) → IsGuid bytes → hyphenated_text lower bytes ≡ guid_text bytes
unfolding by_index
uuid_prints bytes is =
    let p = drop-listed 16 0 bytes is.count in
    let x : ℕ → ℕ = λ k. get_or bytes k 0 in
    let small : (k : ℕ) → get_or bytes k 0 < 256 = byte_at bytes is.all_bytes in
    let each : hyphenated_text lower (listed 16 0 bytes) ≡ guid_text (listed 16 0 bytes) =
    λ i. high (x 0) (small 0) i ∷ low (x 0) (small 0) i ∷ high (x 1) (small 1) i ∷ low (x 1) (small 1) i ∷ high (x 2) (small 2) i ∷ low (x 2) (small 2) i ∷ high (x 3) (small 3) i ∷ low (x 3) (small 3) i ∷ 45 ∷ high (x 4) (small 4) i ∷ low (x 4) (small 4) i ∷ high (x 5) (small 5) i ∷ low (x 5) (small 5) i ∷ 45 ∷ high (x 6) (small 6) i ∷ low (x 6) (small 6) i ∷ high (x 7) (small 7) i ∷ low (x 7) (small 7) i ∷ 45 ∷ high (x 8) (small 8) i ∷ low (x 8) (small 8) i ∷ high (x 9) (small 9) i ∷ low (x 9) (small 9) i ∷ 45 ∷ high (x 10) (small 10) i ∷ low (x 10) (small 10) i ∷ high (x 11) (small 11) i ∷ low (x 11) (small 11) i ∷ high (x 12) (small 12) i ∷ low (x 12) (small 12) i ∷ high (x 13) (small 13) i ∷ low (x 13) (small 13) i ∷ high (x 14) (small 14) i ∷ low (x 14) (small 14) i ∷ high (x 15) (small 15) i ∷ low (x 15) (small 15) i ∷ [] in
    (λ i. hyphenated_text lower (p i)) ∙ (each ∙ (λ i. guid_text (sym p i)))
