-- Lists of bytes of one length are ordered as the numbers that they write, and so normal forms as values.
use Rattle.std.proofs.Common.{◌≡◌, ℕ, zero, suc, ◌+◌, ◌-◌, ◌*◌, ◌^◌, ◌<◌, ◌≤◌, List, [], ◌∷◌, length, get_or, refl, sym, ap, ◌∙◌, inl, inr, arith}
use Rattle.std.specs.Prelude.{ℤ, pos, negsuc, FitsSigned, map, slice_index}
use Rattle.std.specs.Int.{w32, w64, to_be_bytes}
use Rattle.std.specs.Ordering.{nat_cmp, int_cmp, ordering_then}
use Rattle.std.specs.declared.cmp.Ordering.TheVariants.{Less, Equal, Greater}
use Rattle.std.proofs.lemmas.Bool.{cases_order, lt-ltb, le-ltb, eq-eqb, ne_eqb}
use Rattle.std.proofs.lemmas.Bool.Decides.{nat_tests}
use Rattle.std.proofs.Math.Nat.{mul-le-mul_left, pow-suc}
use Rattle.cell_world.specs.Texts.{Text}
use Rattle.cell_world.specs.ByteOrder.{byte_cmp}
use Rattle.cell_world.specs.KeyForms.{last_tick}
use Rattle.key_space.specs.Values.{moved_up, cmp_at}
use Rattle.key_space.proofs.DecimalValues.{Within, within_32, within_64}
use Rattle.key_space.proofs.DecimalPrinting.{moved_below}

abbrev pub IsBytes : List ℕ → Type 0
IsBytes bytes = (i : ℕ) → get_or bytes i 0 < 256

-- the number that bytes write, the high one first
abbrev pub worth : List ℕ → ℕ
worth [] = 0
worth (b ∷ bs) = 256 ^ length bs * b + worth bs

pub less : (a b : ℕ) → a < b → nat_cmp a b ≡ Less
less a b h = rw (lt-ltb a b h) refl

pub more : (a b : ℕ) → b < a → nat_cmp a b ≡ Greater
more a b h = rw (le-ltb a b (omega arith), ne_eqb a b (λ e. omega arith)) refl

pub even : (a b : ℕ) → a ≡ b → nat_cmp a b ≡ Equal
even a b h = rw (le-ltb a b (omega arith), eq-eqb a b h) refl

worth_below : (bs : List ℕ) → IsBytes bs → worth bs < 256 ^ length bs
worth_below [] h = omega arith
worth_below (b ∷ bs) h =
    let rest = worth_below bs (λ i. h (suc i)) in
    let top : b ≤ 255 = omega (arith, h 0) in
    let most = mul-le-mul_left (256 ^ length bs) top in
    let power : 256 ^ suc (length bs) ≡ 256 ^ length bs * 256 = pow-suc 256 (length bs) in
    omega (arith, rest, most, power)

high_first : (p x y v w : ℕ) → v < p → w < p → nat_cmp (p * x + v) (p * y + w) ≡ ordering_then (nat_cmp x y) (nat_cmp v w)
high_first p x y v w hv hw =
    elim (cases_order x y) [
      | inl e ↦
          elim (cases_order v w) [
            | inl f ↦ rw (even x y e, even v w f, e, f) (even (p * y + w) (p * y + w) refl)
            | inr s ↦ elim s [
              | inl lt ↦ rw (even x y e, less v w lt, e) (less (p * y + v) (p * y + w) (omega arith))
              | inr gt ↦ rw (even x y e, more v w gt, e) (more (p * y + v) (p * y + w) (omega arith))
            ]
          ]
      | inr s ↦ elim s [
        | inl lt ↦
            let le : x + 1 ≤ y = omega arith in
            let step = mul-le-mul_left p le in
            rw (less x y lt) (less (p * x + v) (p * y + w) (omega (arith, step)))
        | inr gt ↦
            let le : y + 1 ≤ x = omega arith in
            let step = mul-le-mul_left p le in
            rw (more x y gt) (more (p * x + v) (p * y + w) (omega (arith, step)))
      ]
    ]

pub as_numbers : (xs ys : List ℕ) → length xs ≡ length ys → IsBytes xs → IsBytes ys → byte_cmp xs ys ≡ nat_cmp (worth xs) (worth ys)
as_numbers [] [] e hx hy = refl
as_numbers [] (y ∷ ys) e hx hy = absurd (omega arith)
as_numbers (x ∷ xs) [] e hx hy = absurd (omega arith)
as_numbers (x ∷ xs) (y ∷ ys) e hx hy =
    let len : length xs ≡ length ys = omega arith in
    let rest = as_numbers xs ys len (λ i. hx (suc i)) (λ i. hy (suc i)) in
    let wx = worth_below xs (λ i. hx (suc i)) in
    let wy : worth ys < 256 ^ length xs = rw len (worth_below ys (λ i. hy (suc i))) in
    rw (rest, ← len) (sym (high_first (256 ^ length xs) x y (worth xs) (worth ys) wx wy))

-- ---- numbers of one width

pub bytes_4 : (n : ℕ) → IsBytes (to_be_bytes w32 n)
bytes_4 n zero = omega arith
bytes_4 n (suc zero) = omega arith
bytes_4 n (suc (suc zero)) = omega arith
bytes_4 n (suc (suc (suc zero))) = omega arith
bytes_4 n (suc (suc (suc (suc i)))) = omega arith

worth_4 : (n : ℕ) → n < 2 ^ 32 → worth (to_be_bytes w32 n) ≡ n
worth_4 n h = omega arith

pub bytes_8 : (n : ℕ) → IsBytes (to_be_bytes w64 n)
bytes_8 n zero = omega arith
bytes_8 n (suc zero) = omega arith
bytes_8 n (suc (suc zero)) = omega arith
bytes_8 n (suc (suc (suc zero))) = omega arith
bytes_8 n (suc (suc (suc (suc zero)))) = omega arith
bytes_8 n (suc (suc (suc (suc (suc zero))))) = omega arith
bytes_8 n (suc (suc (suc (suc (suc (suc zero)))))) = omega arith
bytes_8 n (suc (suc (suc (suc (suc (suc (suc zero))))))) = omega arith
bytes_8 n (suc (suc (suc (suc (suc (suc (suc (suc i)))))))) = omega arith

worth_8 : (n : ℕ) → n < 2 ^ 64 → worth (to_be_bytes w64 n) ≡ n
worth_8 n h = omega arith

order_4 : (m n : ℕ) → m < 2 ^ 32 → n < 2 ^ 32 → byte_cmp (to_be_bytes w32 m) (to_be_bytes w32 n) ≡ nat_cmp m n
order_4 m n hm hn = as_numbers (to_be_bytes w32 m) (to_be_bytes w32 n) refl (bytes_4 m) (bytes_4 n) ∙ (λ i. nat_cmp (worth_4 m hm i) (worth_4 n hn i))

order_8 : (m n : ℕ) → m < 2 ^ 64 → n < 2 ^ 64 → byte_cmp (to_be_bytes w64 m) (to_be_bytes w64 n) ≡ nat_cmp m n
order_8 m n hm hn = as_numbers (to_be_bytes w64 m) (to_be_bytes w64 n) refl (bytes_8 m) (bytes_8 n) ∙ (λ i. nat_cmp (worth_8 m hm i) (worth_8 n hn i))

-- ---- with a sign

moved_order : (half : ℕ) (x y : ℤ) → Within half x → Within half y → nat_cmp (moved_up half x) (moved_up half y) ≡ int_cmp x y
moved_order half (pos a) (pos b) hx hy = grind (arith, nat_tests)
moved_order half (pos a) (negsuc b) hx hy = more (half + a) (half - suc b) (omega arith)
moved_order half (negsuc a) (pos b) hx hy = less (half - suc a) (half + b) (omega arith)
moved_order half (negsuc a) (negsuc b) hx hy = grind (arith, nat_tests)

pub int_order : (x y : ℤ) → FitsSigned w32 x → FitsSigned w32 y → byte_cmp (to_be_bytes w32 (moved_up (2 ^ 31) x)) (to_be_bytes w32 (moved_up (2 ^ 31) y)) ≡ int_cmp x y
int_order x y fx fy =
    let hx = within_32 x fx in
    let hy = within_32 y fy in
    let bx = moved_below (2 ^ 31) x hx in
    let by = moved_below (2 ^ 31) y hy in
    order_4 (moved_up (2 ^ 31) x) (moved_up (2 ^ 31) y) (omega (arith, bx)) (omega (arith, by)) ∙ moved_order (2 ^ 31) x y hx hy

pub long_order : (x y : ℤ) → FitsSigned w64 x → FitsSigned w64 y → byte_cmp (to_be_bytes w64 (moved_up (2 ^ 63) x)) (to_be_bytes w64 (moved_up (2 ^ 63) y)) ≡ int_cmp x y
long_order x y fx fy =
    let hx = within_64 x fx in
    let hy = within_64 y fy in
    let bx = moved_below (2 ^ 63) x hx in
    let by = moved_below (2 ^ 63) y hy in
    order_8 (moved_up (2 ^ 63) x) (moved_up (2 ^ 63) y) (omega (arith, bx)) (omega (arith, by)) ∙ moved_order (2 ^ 63) x y hx hy

pub ticks_order : (m n : ℕ) → m ≤ last_tick → n ≤ last_tick → byte_cmp (to_be_bytes w64 m) (to_be_bytes w64 n) ≡ nat_cmp m n
ticks_order m n hm hn = order_8 m n (omega (arith, hm)) (omega (arith, hn))

-- ---- guids

pub places_order : (places : List ℕ) (a b : Text) → byte_cmp (map (slice_index a) places) (map (slice_index b) places) ≡ cmp_at places a b
places_order [] a b = refl
places_order (place ∷ places) a b = ap (ordering_then (nat_cmp (slice_index a place) (slice_index b place))) (places_order places a b)
