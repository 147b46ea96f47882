-- No cell of a group is below the key from which on it is listed.
use Rattle.std.proofs.Common.{◌≡◌, ◌⊎◌, inl, inr, ℕ, zero, suc, ◌+◌, ◌≤◌, ◌<◌, Bool, true, false, cond, ◌&&◌, ◌||◌, not, [], ◌∷◌, length, take, drop, refl, sym, ap, ◌∙◌, subst, arith, true≢false, nat_le, nat_lt}
use Rattle.std.specs.Prelude.{◌==◌}
use Rattle.std.specs.List.{list_all, before_first, after_first, position_or_len}
use Rattle.std.specs.Ordering.{is_lt, nat_cmp, ordering_then, MatchOrdering}
use Rattle.std.specs.declared.cmp.Ordering.{Ordering}
use Rattle.std.specs.declared.cmp.Ordering.TheVariants.{Less, Equal, Greater}
use Rattle.std.proofs.lemmas.Cmp.{ranked}
use Rattle.std.proofs.lemmas.Bool.{and_parts}
use Rattle.std.proofs.lemmas.Bool.Decides.{leb_tells}
use Rattle.cell_world.specs.Texts.{Text, is_name, is_letter, is_digit, is_name_byte, is_part, is_part_byte, is_slash, is_location}
use Rattle.cell_world.specs.ByteOrder.{byte_cmp}
use Rattle.global_tables.specs.Groups.{least_location}
use Rattle.global_tables.proofs.CellOrder.{not_less, never_less}

-- ---- numbers and bytes

pub number_least : (m n : ℕ) → n ≤ m → nat_cmp m n ≡ Less → ⊥
number_least m n le = by (nat_cmp m n) (ranked m n (nat_cmp m n) refl)
  where
    by : (r : Ordering) → MatchOrdering r (m < n) (m ≡ n) (n < m) → r ≡ Less → ⊥
    by Less lt e = absurd (omega (arith, lt, le))
    by Equal is e = cc
    by Greater gt e = cc

pub empty_least : (xs : Text) → is_lt (byte_cmp xs []) ≡ false
empty_least [] = refl
empty_least (x ∷ xs) = refl

-- a test of a range fails below it
off_range : (c low high : ℕ) → c < low → (nat_le low c && nat_le c high) ≡ false
off_range c low high lt = elim (leb_tells low c) [
  | inl t ↦ absurd (let le : low ≤ c = t.1 in omega (arith, lt, le))
  | inr t ↦ ap (λ b. b && nat_le c high) t.0
]

either : (a b : Bool) → (a || b) ≡ true → (a ≡ true) ⊎ (b ≡ true)
either true b h = inl refl
either false b h = inr h

from_range : (c low high : ℕ) → (nat_le low c && nat_le c high) ≡ true → low ≤ c
from_range c low high h = elim (leb_tells low c) [ inl t ↦ t.1 | inr t ↦ absurd (true≢false (sym h ∙ ap (λ b. b && nat_le c high) t.0)) ]

pub letter_least : (c : ℕ) → is_letter c ≡ true → 65 ≤ c
letter_least c h = elim (either (nat_le 65 c && nat_le c 90) (nat_le 97 c && nat_le c 122) h) [
  | inl e ↦ from_range c 65 90 e
  | inr e ↦ (let more : 97 ≤ c = from_range c 97 122 e in omega (arith, more))
]

is_number : (c n : ℕ) → (c == n) ≡ true → c ≡ n
is_number c n h = grind (arith, h)

first_least : (c : ℕ) → (is_letter c || is_digit c) ≡ true → 48 ≤ c
first_least c h = elim (either (is_letter c) (is_digit c) h) [
  | inl e ↦ (let more : 65 ≤ c = letter_least c e in omega (arith, more))
  | inr e ↦ from_range c 48 57 e
]

part_byte_least : (c : ℕ) → is_part_byte c ≡ true → 45 ≤ c
part_byte_least c h = elim (either (is_letter c) (is_digit c || (c == 95 || (c == 45 || c == 46))) h) [
  | inl e ↦ (let more : 65 ≤ c = letter_least c e in omega (arith, more))
  | inr e ↦ elim (either (is_digit c) (c == 95 || (c == 45 || c == 46)) e) [
    | inl f ↦ (let more : 48 ≤ c = from_range c 48 57 f in omega (arith, more))
    | inr f ↦ elim (either (c == 95) (c == 45 || c == 46) f) [
      | inl g ↦ (let is : c ≡ 95 = is_number c 95 g in omega (arith, is))
      | inr g ↦ elim (either (c == 45) (c == 46) g) [
        | inl k ↦ (let is : c ≡ 45 = is_number c 45 k in omega (arith, is))
        | inr k ↦ (let is : c ≡ 46 = is_number c 46 k in omega (arith, is))
      ]
    ]
  ]
]

-- ---- names

-- no name is below `A`
pub name_least : (name : Text) → is_name name ≡ true → byte_cmp name (65 ∷ []) ≡ Less → ⊥
name_least [] named e = true≢false (sym named)
name_least (c ∷ cs) named e =
    never_less (byte_cmp (c ∷ cs) (65 ∷ [])) (not_less (nat_cmp c 65) (byte_cmp cs []) (number_least c 65 (letter_least c (and_parts (is_letter c) (nat_lt (length cs) 32 && list_all is_name_byte cs) named).0)) (empty_least cs)) e

-- ---- locations

-- dashes, a slash and a zero
abbrev dashes : ℕ → Text
dashes zero = 47 ∷ 48 ∷ []
dashes (suc n) = 45 ∷ dashes n

part_least : (xs : Text) → is_part xs ≡ true → is_lt (byte_cmp xs (48 ∷ [])) ≡ false
part_least [] h = cc
part_least (c ∷ cs) h = not_less (nat_cmp c 48) (byte_cmp cs []) (number_least c 48 (first_least c (and_parts (is_letter c || is_digit c) _ h).0)) (empty_least cs)

slash_is : (c : ℕ) → is_slash c ≡ true → c ≡ 47
slash_is c h = is_number c 47 h

before_slash : (c : ℕ) (cs : Text) → is_slash c ≡ true → before_first is_slash (c ∷ cs) ≡ []
before_slash c cs e = ap (λ b. take (cond (not b) (1 + position_or_len is_slash cs) 0) (c ∷ cs)) e

before_other : (c : ℕ) (cs : Text) → is_slash c ≡ false → before_first is_slash (c ∷ cs) ≡ c ∷ before_first is_slash cs
before_other c cs e =
    let one : 1 + position_or_len is_slash cs ≡ suc (position_or_len is_slash cs) = omega arith in
    ap (λ b. take (cond (not b) (1 + position_or_len is_slash cs) 0) (c ∷ cs)) e ∙ ap (λ n. take n (c ∷ cs)) one

after_slash : (c : ℕ) (cs : Text) → is_slash c ≡ true → after_first is_slash (c ∷ cs) ≡ cs
after_slash c cs e = ap (λ b. drop (cond (not b) (1 + position_or_len is_slash cs) 0 + 1) (c ∷ cs)) e

after_other : (c : ℕ) (cs : Text) → is_slash c ≡ false → after_first is_slash (c ∷ cs) ≡ after_first is_slash cs
after_other c cs e =
    let one : 1 + position_or_len is_slash cs + 1 ≡ suc (position_or_len is_slash cs + 1) = omega arith in
    ap (λ b. drop (cond (not b) (1 + position_or_len is_slash cs) 0 + 1) (c ∷ cs)) e ∙ ap (λ n. drop n (c ∷ cs)) one

-- from the second byte of a server on
server_least : (xs : Text) (n : ℕ) → list_all is_part_byte (before_first is_slash xs) ≡ true → length (before_first is_slash xs) ≤ n → is_part (after_first is_slash xs) ≡ true → is_lt (byte_cmp xs (dashes n)) ≡ false
server_least [] n all short part = absurd (true≢false (sym part))
server_least (c ∷ cs) n all short part = by n (is_slash c) refl (λ m. server_least cs m) all short part
  where
    by : (n : ℕ) (b : Bool) → is_slash c ≡ b → ((m : ℕ) → list_all is_part_byte (before_first is_slash cs) ≡ true → length (before_first is_slash cs) ≤ m → is_part (after_first is_slash cs) ≡ true → is_lt (byte_cmp cs (dashes m)) ≡ false)
        → list_all is_part_byte (before_first is_slash (c ∷ cs)) ≡ true → length (before_first is_slash (c ∷ cs)) ≤ n → is_part (after_first is_slash (c ∷ cs)) ≡ true → is_lt (byte_cmp (c ∷ cs) (dashes n)) ≡ false
    by zero true is more all short part =
        let tie : nat_cmp c 47 ≡ Equal = ap (λ n. nat_cmp n 47) (slash_is c is) in
        ap (λ r. is_lt (ordering_then r (byte_cmp cs (48 ∷ [])))) tie ∙ part_least cs (ap is_part (sym (after_slash c cs is)) ∙ part)
    by (suc m) true is more all short part = ap (λ n. is_lt (ordering_then (nat_cmp n 45) (byte_cmp cs (dashes m)))) (slash_is c is)
    by zero false is more all short part =
        let long : length (c ∷ before_first is_slash cs) ≡ length (before_first is_slash cs) + 1 = omega arith in
        let few : length (c ∷ before_first is_slash cs) ≤ 0 = subst (λ xs. length xs ≤ 0) (before_other c cs is) short in absurd (omega (arith, long, few))
    by (suc m) false is more all short part =
        let both = and_parts (is_part_byte c) (list_all is_part_byte (before_first is_slash cs)) (ap (list_all is_part_byte) (sym (before_other c cs is)) ∙ all) in
        let long : length (c ∷ before_first is_slash cs) ≡ length (before_first is_slash cs) + 1 = omega arith in
        let few : length (c ∷ before_first is_slash cs) ≤ suc m = subst (λ xs. length xs ≤ suc m) (before_other c cs is) short in
        not_less (nat_cmp c 45) (byte_cmp cs (dashes m)) (number_least c 45 (part_byte_least c both.0)) (more m both.1 (omega (arith, long, few)) (ap is_part (sym (after_other c cs is)) ∙ part))

under_64 : (n : ℕ) → nat_lt n 64 ≡ true → n ≤ 63
under_64 n h = grind (arith, h)

-- no location is below the least one
pub location_least : (xs : Text) → is_location xs ≡ true → byte_cmp xs least_location ≡ Less → ⊥
location_least [] h e = cc
location_least (c ∷ cs) h e = by (is_slash c) refl
  where
    parts : (is_part (before_first is_slash (c ∷ cs)) ≡ true) × (is_part (after_first is_slash (c ∷ cs)) ≡ true)
    parts = and_parts (is_part (before_first is_slash (c ∷ cs))) (is_part (after_first is_slash (c ∷ cs))) h

    by : (b : Bool) → is_slash c ≡ b → ⊥
    by true is = true≢false (sym parts.0 ∙ ap is_part (before_slash c cs is))
    by false is =
        let server = and_parts (is_letter c || is_digit c) (nat_lt (length (before_first is_slash cs)) 64 && list_all is_part_byte (before_first is_slash cs)) (ap is_part (sym (before_other c cs is)) ∙ parts.0) in
        let rest = and_parts (nat_lt (length (before_first is_slash cs)) 64) (list_all is_part_byte (before_first is_slash cs)) server.1 in
        let few : length (before_first is_slash cs) ≤ 63 = under_64 (length (before_first is_slash cs)) rest.0 in
        never_less (byte_cmp (c ∷ cs) (48 ∷ dashes 63)) (not_less (nat_cmp c 48) (byte_cmp cs (dashes 63)) (number_least c 48 (first_least c server.0)) (server_least cs 63 rest.1 few (ap is_part (sym (after_other c cs is)) ∙ parts.1))) e
