-- The key just below another one: its front where it ends with a zero, else its last byte less one, and the greatest bytes behind.
use Rattle.std.proofs.Common.{◌≡◌, ◌⊎◌, inl, inr, ℕ, zero, suc, ◌+◌, ◌-◌, ◌≤◌, ◌<◌, true, false, not, [], ◌∷◌, ◌++◌, length, take, get_or, set, Option, Some, None, refl, sym, ap, ◌∙◌, subst, arith, nat_lt, nat_le}
use Rattle.std.specs.Prelude.{replicate}
use Rattle.std.specs.Option.{MatchOption, SomeIff}
use Rattle.std.specs.Ordering.{is_lt, is_gt, nat_cmp, ordering_then, MatchOrdering}
use Rattle.std.specs.declared.cmp.Ordering.{Ordering}
use Rattle.std.specs.declared.cmp.Ordering.TheVariants.{Less, Equal, Greater}
use Rattle.std.proofs.lemmas.Cmp.{ranked, tied_itself, nat_cmp_total}
use Rattle.std.proofs.lemmas.Bool.{and_parts}
use Rattle.std.proofs.lemmas.List.{take_more, take_all, length-take-le, length-append, length-replicate}
use Rattle.cell_world.specs.Texts.{Text, are_bytes, is_key_form}
use Rattle.cell_world.specs.ByteOrder.{byte_cmp}
use Rattle.local_tables.specs.Below.{IsJustBelow}

pub is_less : (r : Ordering) → is_lt r ≡ true → r ≡ Less
is_less Less h = refl
is_less Equal h = cc
is_less Greater h = cc

pub tie : (c : ℕ) → nat_cmp c c ≡ Equal
tie c = tied_itself nat_cmp_total c

-- ---- comparisons by the first byte

-- not greater, if not by the first byte, nor by the rest where the first ties
pub not_greater : (r s : Ordering) → (r ≡ Greater → ⊥) → (r ≡ Equal → is_gt s ≡ false) → is_gt (ordering_then r s) ≡ false
not_greater Less s h g = refl
not_greater Equal s h g = g refl
not_greater Greater s h g = absurd (h refl)

-- what is less is less by the first byte, or by the rest where the first ties
pub less_cases : (r s : Ordering) → ordering_then r s ≡ Less → (r ≡ Less) ⊎ ((r ≡ Equal) × (s ≡ Less))
less_cases Less s h = inl refl
less_cases Equal s h = inr (refl, h)
less_cases Greater s h = cc

pub no_less_than_nothing : (xs : Text) → byte_cmp xs [] ≡ Less → ⊥
no_less_than_nothing [] h = cc
no_less_than_nothing (x ∷ xs) h = cc

nothing_least : (ys : Text) → is_gt (byte_cmp [] ys) ≡ false
nothing_least [] = refl
nothing_least (y ∷ ys) = refl

pub number_of : (m n : ℕ) (r : Ordering) → nat_cmp m n ≡ r → MatchOrdering r (m < n) (m ≡ n) (n < m)
number_of m n r e = subst (λ r. MatchOrdering r (m < n) (m ≡ n) (n < m)) e (ranked m n (nat_cmp m n) refl)

less_number : (m n : ℕ) → m < n → nat_cmp m n ≡ Less
less_number m n h = by (nat_cmp m n) (number_of m n (nat_cmp m n) refl)
  where
    by : (r : Ordering) → MatchOrdering r (m < n) (m ≡ n) (n < m) → r ≡ Less
    by Less f = refl
    by Equal f = absurd (omega (arith, h, f))
    by Greater f = absurd (omega (arith, h, f))

pub not_greater_number : (m n : ℕ) → m ≤ n → nat_cmp m n ≡ Greater → ⊥
not_greater_number m n h e = let f : n < m = number_of m n Greater e in absurd (omega (arith, h, f))

-- ---- the greatest bytes

byte_most : (y : ℕ) → nat_lt y 256 ≡ true → y ≤ 255
byte_most y h = grind (arith, h)

top_most : (ys : Text) (m : ℕ) → are_bytes ys ≡ true → length ys ≤ m → is_gt (byte_cmp ys (replicate m 255)) ≡ false
top_most [] m bytes short = nothing_least (replicate m 255)
top_most (y ∷ ys) zero bytes short = let long : length (y ∷ ys) ≡ length ys + 1 = omega arith in absurd (omega (arith, long, short))
top_most (y ∷ ys) (suc m) bytes short =
    let both = and_parts (nat_lt y 256) (are_bytes ys) bytes in
    let long : length (y ∷ ys) ≡ length ys + 1 = omega arith in
    not_greater (nat_cmp y 255) (byte_cmp ys (replicate m 255)) (not_greater_number y 255 (byte_most y both.0)) (λ e. top_most ys m both.1 (omega (arith, long, short)))

-- ---- behind a common front

module _ (last : ℕ) (lower : Text) where
  front_less : (front : Text) → byte_cmp lower (last ∷ []) ≡ Less → byte_cmp (front ++ lower) (front ++ last ∷ []) ≡ Less
  front_less [] h = h
  front_less (c ∷ cs) h = ap (λ r. ordering_then r (byte_cmp (cs ++ lower) (cs ++ last ∷ []))) (tie c) ∙ front_less cs h

  front_greatest : (front : Text) (room : ℕ) → ((x : Text) → are_bytes x ≡ true → length x ≤ room → byte_cmp x (last ∷ []) ≡ Less → is_gt (byte_cmp x lower) ≡ false)
      → (x : Text) → are_bytes x ≡ true → length x ≤ length front + room → byte_cmp x (front ++ last ∷ []) ≡ Less → is_gt (byte_cmp x (front ++ lower)) ≡ false
  front_greatest [] room h x bytes short less = h x bytes (omega (arith, short)) less
  front_greatest (c ∷ cs) room h [] bytes short less = refl
  front_greatest (c ∷ cs) room h (y ∷ ys) bytes short less =
      let both = and_parts (nat_lt y 256) (are_bytes ys) bytes in
      let long : length (y ∷ ys) ≡ length ys + 1 = omega arith in
      let more : length (c ∷ cs) ≡ length cs + 1 = omega arith in
      let fits : length ys ≤ length cs + room = omega (arith, long, more, short) in
      elim (less_cases (nat_cmp y c) (byte_cmp ys (cs ++ last ∷ [])) less) [
        | inl e ↦ ap (λ r. is_gt (ordering_then r (byte_cmp ys (cs ++ lower)))) e
        | inr e ↦ ap (λ r. is_gt (ordering_then r (byte_cmp ys (cs ++ lower)))) e.0 ∙ front_greatest cs room h ys both.1 fits e.1
      ]

-- ---- the last byte

zero_less : byte_cmp [] (0 ∷ []) ≡ Less
zero_less = refl

zero_greatest : (x : Text) → byte_cmp x (0 ∷ []) ≡ Less → is_gt (byte_cmp x []) ≡ false
zero_greatest [] less = refl
zero_greatest (y ∷ ys) less = elim (less_cases (nat_cmp y 0) (byte_cmp ys []) less) [
  | inl e ↦ (let low : y < 0 = number_of y 0 Less e in absurd (omega (arith, low)))
  | inr e ↦ absurd (no_less_than_nothing ys e.1)
]

one_less : (b : ℕ) (tail : Text) → 1 ≤ b → byte_cmp ((b - 1) ∷ tail) (b ∷ []) ≡ Less
one_less b tail h = ap (λ r. ordering_then r (byte_cmp tail [])) (less_number (b - 1) b (omega (arith, h)))

one_greatest : (b m : ℕ) → 1 ≤ b → (x : Text) → are_bytes x ≡ true → length x ≤ m + 1 → byte_cmp x (b ∷ []) ≡ Less → is_gt (byte_cmp x ((b - 1) ∷ replicate m 255)) ≡ false
one_greatest b m one [] bytes short less = refl
one_greatest b m one (y ∷ ys) bytes short less =
    let both = and_parts (nat_lt y 256) (are_bytes ys) bytes in
    let long : length (y ∷ ys) ≡ length ys + 1 = omega arith in
    let fits : length ys ≤ m = omega (arith, long, short) in
    elim (less_cases (nat_cmp y b) (byte_cmp ys []) less) [
      | inl e ↦ (let low : y < b = number_of y b Less e in let le : y ≤ b - 1 = omega (arith, low) in not_greater (nat_cmp y (b - 1)) (byte_cmp ys (replicate m 255)) (not_greater_number y (b - 1) le) (λ t. top_most ys m both.1 fits))
      | inr e ↦ absurd (no_less_than_nothing ys e.1)
    ]

-- ---- keys

form_bytes : (x : Text) → is_key_form x ≡ true → (are_bytes x ≡ true) × (length x ≤ 128)
form_bytes x h = let both = and_parts (are_bytes x) (nat_le (length x) 128) h in (both.0, short (length x) both.1)
  where
    short : (n : ℕ) → nat_le n 128 ≡ true → n ≤ 128
    short n h = grind (arith, h)

below_at_zero : (front : Text) → length front + 1 ≤ 128 → IsJustBelow front (front ++ 0 ∷ [])
below_at_zero front fits = record {
  less = ap is_lt (subst (λ f. byte_cmp f (front ++ 0 ∷ []) ≡ Less) (plain front) (front_less 0 [] front zero_less));
  greatest = λ x form h. let f = form_bytes x form in let n = f.1 in
      ap not (subst (λ g. is_gt (byte_cmp x g) ≡ false) (plain front) (front_greatest 0 [] front 128 (λ x bytes short less. zero_greatest x less) x f.0 (omega (arith, n)) (is_less (byte_cmp x (front ++ 0 ∷ [])) h)));
}
  where
    plain : (xs : Text) → xs ++ [] ≡ xs
    plain [] = refl
    plain (x ∷ xs) = ap (λ ys. x ∷ ys) (plain xs)

below_at_byte : (front : Text) (b : ℕ) → 1 ≤ b → length front + 1 ≤ 128 → IsJustBelow (front ++ (b - 1) ∷ replicate (127 - length front) 255) (front ++ b ∷ [])
below_at_byte front b one fits = record {
  less = ap is_lt (front_less b ((b - 1) ∷ replicate (127 - length front) 255) front (one_less b (replicate (127 - length front) 255) one));
  greatest = λ x form h. let f = form_bytes x form in let n = f.1 in
      ap not (front_greatest b ((b - 1) ∷ replicate (127 - length front) 255) front (127 - length front + 1) (one_greatest b (127 - length front) one) x f.0 (omega (arith, n, fits)) (is_less (byte_cmp x (front ++ b ∷ [])) h));
}

-- ---- as the program makes it

front_last : (key : Text) (n : ℕ) → n ≡ length key → (n ≡ 0 → ⊥) → take (n - 1) key ++ get_or key (n - 1) 0 ∷ [] ≡ key
front_last key n is some =
    let one : n - 1 + 1 ≡ n = omega (arith, some) in
    let low : n - 1 < length key = omega (arith, some, is) in
    let all : length key ≤ n = omega (arith, is) in
    sym (take_more key (n - 1) 0 low) ∙ ap (λ m. take m key) one ∙ take_all n key all

made : (o : Option Text) (bytes key : Text) → SomeIff o (length bytes ≤ 128) bytes → length bytes ≤ 128 → IsJustBelow bytes key → MatchOption o (key ≡ []) (λ below. IsJustBelow below key)
made None bytes key iff short below = absurd (iff short)
made (Some b) bytes key iff short below = subst (λ x. IsJustBelow x key) (sym iff.1) below

-- of the bytes that are seen of a key
module _ (key seen : Text) (saw : seen ≡ key) (form : is_key_form key ≡ true) (some : length seen ≡ 0 → ⊥) where
  fits : length seen ≤ 128
  fits = subst (λ xs. length xs ≤ 128) (sym saw) (form_bytes key form).1

  front : Text
  front = take (length seen - 1) seen

  front_length : length (take (length seen - 1) seen) ≡ length seen - 1
  front_length = length-take-le (length seen - 1) seen (omega arith)

  short : length (take (length seen - 1) seen) + 1 ≤ 128
  short = let n = front_length in let m = fits in omega (arith, n, m, some)

  split : take (length seen - 1) seen ++ get_or seen (length seen - 1) 0 ∷ [] ≡ key
  split = front_last seen (length seen) refl some ∙ saw

  pub made_at_zero : (o : Option Text) → get_or seen (length seen - 1) 0 ≡ 0 → SomeIff o (length (take (length seen - 1) seen) ≤ 128) (take (length seen - 1) seen) → MatchOption o (key ≡ []) (λ below. IsJustBelow below key)
  made_at_zero o last iff = made o (take (length seen - 1) seen) key iff (let n = short in omega (arith, n))
      (subst (IsJustBelow (take (length seen - 1) seen)) (ap (λ b. take (length seen - 1) seen ++ b ∷ []) (sym last) ∙ split) (below_at_zero (take (length seen - 1) seen) short))

  room : (bytes : Text) → bytes ≡ take (length seen - 1) seen ++ (get_or seen (length seen - 1) 0 - 1) ∷ replicate (127 - length (take (length seen - 1) seen)) 255 → length bytes ≤ 128
  room bytes is =
      let n = short in
      let whole = ap length is ∙ length-append (take (length seen - 1) seen) ((get_or seen (length seen - 1) 0 - 1) ∷ replicate (127 - length (take (length seen - 1) seen)) 255) in
      let rest = length-replicate {A = ℕ} (127 - length (take (length seen - 1) seen)) 255 in
      let tail : length {A = ℕ} ((get_or seen (length seen - 1) 0 - 1) ∷ replicate (127 - length (take (length seen - 1) seen)) 255) ≡ length {A = ℕ} (replicate (127 - length (take (length seen - 1) seen)) 255) + 1 = omega arith in
      omega (arith, n, whole, rest, tail)

  pub made_at_byte : (o : Option Text) (bytes : Text) → (get_or seen (length seen - 1) 0 ≡ 0 → ⊥) → bytes ≡ take (length seen - 1) seen ++ (get_or seen (length seen - 1) 0 - 1) ∷ replicate (127 - length (take (length seen - 1) seen)) 255
      → SomeIff o (length bytes ≤ 128) bytes → MatchOption o (key ≡ []) (λ below. IsJustBelow below key)
  made_at_byte o bytes last is iff = made o bytes key iff (room bytes is)
      (subst (λ b. IsJustBelow b key) (sym is) (subst (IsJustBelow (take (length seen - 1) seen ++ (get_or seen (length seen - 1) 0 - 1) ∷ replicate (127 - length (take (length seen - 1) seen)) 255)) split
      (below_at_byte (take (length seen - 1) seen) (get_or seen (length seen - 1) 0) (omega (arith, last)) short)))

pub set_behind : (front : Text) (last : ℕ) → length front < 128 → set (front ++ replicate (128 - length front) 255) (length front) last ≡ front ++ last ∷ replicate (127 - length front) 255
set_behind front last lt =
    let one : 128 - length front ≡ suc (127 - length front) = omega (arith, lt) in
    ap (λ n. set (front ++ replicate n 255) (length front) last) one ∙ at front
  where
    at : (xs : Text) → set (xs ++ 255 ∷ replicate (127 - length front) 255) (length xs) last ≡ xs ++ last ∷ replicate (127 - length front) 255
    at [] = refl
    at (x ∷ xs) = ap (λ ys. x ∷ ys) (at xs)
