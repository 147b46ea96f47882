-- The order of order bytes is cell order.
use Rattle.std.proofs.Common.{◌≡◌, ℕ, zero, suc, ◌+◌, ◌*◌, ◌/◌, ◌%◌, ◌^◌, ◌<◌, ◌≤◌, Bool, true, false, List, [], ◌∷◌, ◌++◌, length, true≢false, refl, sym, ap, subst, ◌∙◌, inl, inr, arith}
use Rattle.std.specs.Prelude.{IsTrue, ◌==◌, ◌&&◌, ◌||◌}
use Rattle.std.specs.Int.{w32, w64, to_be_bytes}
use Rattle.std.specs.List.{list_all}
use Rattle.std.specs.Ordering.{nat_cmp, ordering_then}
use Rattle.std.specs.declared.cmp.Ordering.{Ordering}
use Rattle.std.specs.declared.cmp.Ordering.TheVariants.{Less, Equal, Greater}
use Rattle.std.proofs.lemmas.Bool.{cases_order, lt-ltb, le-ltb, eq-eqb, ne_eqb, and_parts}
use Rattle.std.proofs.lemmas.List.{append-nil}
use Rattle.std.proofs.Math.Nat.{mul-le-mul_left, pow-suc}
use Rattle.cell_world.specs.Texts.{is_letter, is_digit, is_name_byte, is_name, is_part_byte, is_part, is_location}
use Rattle.cell_world.specs.ByteOrder.{byte_cmp}
use Rattle.cell_world.specs.Orders.{cell_cmp, kind_number}
use Rattle.cell_world.specs.Spelled.{IsTypedKey}
use Rattle.cell_world.specs.declared.cells.CellKey.{CellKey}
use Rattle.cell_world.specs.declared.cells.CellKey.TheVariants as at
use Rattle.record_form.specs.OrderBytes.{ended, escaped, ordered}
use Rattle.record_form.proofs.Readers.{IsBytes}
use Rattle.record_form.proofs.LocationTexts.{split}

-- the number that bytes write, the high one first
abbrev pub worth : List ℕ → ℕ
worth [] = 0
worth (b ∷ bs) = 256 ^ length bs * b + worth bs

less : (a b : ℕ) → a < b → nat_cmp a b ≡ Less
less a b h = rw (lt-ltb a b h) refl

more : (a b : ℕ) → b < a → nat_cmp a b ≡ Greater
more a b h = rw (le-ltb a b (omega arith), ne_eqb a b (λ e. omega arith)) refl

even : (a b : ℕ) → a ≡ b → nat_cmp a b ≡ Equal
even a b h = rw (le-ltb a b (omega arith), eq-eqb a b h) refl

worth_below : (bs : List ℕ) → IsBytes bs → worth bs < 256 ^ length bs
worth_below [] h = omega arith
worth_below (b ∷ bs) h =
    let rest = worth_below bs (λ i. h (suc i)) in
    let top : b ≤ 255 = omega (arith, h 0) in
    let most = mul-le-mul_left (256 ^ length bs) top in
    let power : 256 ^ suc (length bs) ≡ 256 ^ length bs * 256 = pow-suc 256 (length bs) in
    omega (arith, rest, most, power)

high_first : (p x y v w : ℕ) → v < p → w < p → nat_cmp (p * x + v) (p * y + w) ≡ ordering_then (nat_cmp x y) (nat_cmp v w)
high_first p x y v w hv hw =
    elim (cases_order x y) [
      | inl e ↦
          elim (cases_order v w) [
            | inl f ↦ rw (even x y e, even v w f, e, f) (even (p * y + w) (p * y + w) refl)
            | inr s ↦ elim s [
              | inl lt ↦ rw (even x y e, less v w lt, e) (less (p * y + v) (p * y + w) (omega arith))
              | inr gt ↦ rw (even x y e, more v w gt, e) (more (p * y + v) (p * y + w) (omega arith))
            ]
          ]
      | inr s ↦ elim s [
        | inl lt ↦
            let le : x + 1 ≤ y = omega arith in
            let step = mul-le-mul_left p le in
            rw (less x y lt) (less (p * x + v) (p * y + w) (omega (arith, step)))
        | inr gt ↦
            let le : y + 1 ≤ x = omega arith in
            let step = mul-le-mul_left p le in
            rw (more x y gt) (more (p * x + v) (p * y + w) (omega (arith, step)))
      ]
    ]

as_numbers : (xs ys : List ℕ) → length xs ≡ length ys → IsBytes xs → IsBytes ys → byte_cmp xs ys ≡ nat_cmp (worth xs) (worth ys)
as_numbers [] [] e hx hy = refl
as_numbers [] (y ∷ ys) e hx hy = absurd (omega arith)
as_numbers (x ∷ xs) [] e hx hy = absurd (omega arith)
as_numbers (x ∷ xs) (y ∷ ys) e hx hy =
    let len : length xs ≡ length ys = omega arith in
    let rest = as_numbers xs ys len (λ i. hx (suc i)) (λ i. hy (suc i)) in
    let wx = worth_below xs (λ i. hx (suc i)) in
    let wy : worth ys < 256 ^ length xs = rw len (worth_below ys (λ i. hy (suc i))) in
    rw (rest, ← len) (sym (high_first (256 ^ length xs) x y (worth xs) (worth ys) wx wy))

-- ---- four and eight bytes

bytes_4 : (n : ℕ) → IsBytes (to_be_bytes w32 n)
bytes_4 n zero = omega arith
bytes_4 n (suc zero) = omega arith
bytes_4 n (suc (suc zero)) = omega arith
bytes_4 n (suc (suc (suc zero))) = omega arith
bytes_4 n (suc (suc (suc (suc i)))) = omega arith

worth_4 : (n : ℕ) → n < 2 ^ 32 → worth (to_be_bytes w32 n) ≡ n
worth_4 n h = omega arith

bytes_8 : (n : ℕ) → IsBytes (to_be_bytes w64 n)
bytes_8 n zero = omega arith
bytes_8 n (suc zero) = omega arith
bytes_8 n (suc (suc zero)) = omega arith
bytes_8 n (suc (suc (suc zero))) = omega arith
bytes_8 n (suc (suc (suc (suc zero)))) = omega arith
bytes_8 n (suc (suc (suc (suc (suc zero))))) = omega arith
bytes_8 n (suc (suc (suc (suc (suc (suc zero)))))) = omega arith
bytes_8 n (suc (suc (suc (suc (suc (suc (suc zero))))))) = omega arith
bytes_8 n (suc (suc (suc (suc (suc (suc (suc (suc i)))))))) = omega arith

worth_8 : (n : ℕ) → n < 2 ^ 64 → worth (to_be_bytes w64 n) ≡ n
worth_8 n h = omega arith

-- ---- names and locations have no zero

abbrev HasNoZero : List ℕ → Type 0
HasNoZero [] = Unit {0}
HasNoZero (b ∷ bs) = (0 < b) × HasNoZero bs

no_zero : (p : ℕ → Bool) → (p 0 ≡ false) → (bs : List ℕ) → list_all p bs ≡ true → HasNoZero bs
no_zero p z [] h = tt
no_zero p z (zero ∷ bs) h = let q = and_parts (p 0) (list_all p bs) h in absurd (true≢false (sym q.0 ∙ z))
no_zero p z (suc b ∷ bs) h = let q = and_parts (p (suc b)) (list_all p bs) h in (omega arith, no_zero p z bs q.1)

first_no_zero : (p : ℕ → Bool) → (p 0 ≡ false) → (b : ℕ) → p b ≡ true → 0 < b
first_no_zero p z zero h = absurd (true≢false (sym h ∙ z))
first_no_zero p z (suc b) h = omega arith

name_no_zero : (name : List ℕ) → IsTrue (is_name name) → HasNoZero name
name_no_zero [] h = tt
name_no_zero (b ∷ bs) h =
    let p = and_parts (is_letter b) _ h in
    let q = and_parts _ (list_all is_name_byte bs) p.1 in
    (first_no_zero is_letter refl b p.0, no_zero is_name_byte refl bs q.1)

part_no_zero : (part : List ℕ) → is_part part ≡ true → HasNoZero part
part_no_zero [] h = tt
part_no_zero (b ∷ bs) h =
    let p = and_parts (is_letter b || is_digit b) _ h in
    let q = and_parts _ (list_all is_part_byte bs) p.1 in
    (first_no_zero (λ c. is_letter c || is_digit c) refl b p.0, no_zero is_part_byte refl bs q.1)

parts_no_zero : (xs ys : List ℕ) → HasNoZero xs → HasNoZero ys → HasNoZero (xs ++ 47 ∷ ys)
parts_no_zero [] ys h g = (omega arith, g)
parts_no_zero (x ∷ xs) ys h g = (h.0, parts_no_zero xs ys h.1 g)

location_no_zero : (location : List ℕ) → IsTrue (is_location location) → HasNoZero location
location_no_zero location h =
    let s = split location h in
    subst HasNoZero (sym s.parts) (parts_no_zero s.server s.database (part_no_zero s.server s.is_server) (part_no_zero s.database s.is_database))

-- ---- fields one after the other

then_assoc : (a b c : Ordering) → ordering_then (ordering_then a b) c ≡ ordering_then a (ordering_then b c)
then_assoc Less b c = refl
then_assoc Equal b c = refl
then_assoc Greater b c = refl

-- a key before other bytes
pub escaped_keeps : (a b x y : List ℕ) → byte_cmp (escaped a ++ x) (escaped b ++ y) ≡ ordering_then (byte_cmp a b) (byte_cmp x y)
escaped_keeps [] [] x y = refl
escaped_keeps [] (zero ∷ bs) x y = refl
escaped_keeps [] (suc b ∷ bs) x y = rw (less 0 (suc b) (omega arith)) refl
escaped_keeps (zero ∷ xs) [] x y = refl
escaped_keeps (suc a ∷ xs) [] x y = rw (more (suc a) 0 (omega arith)) refl
escaped_keeps (zero ∷ xs) (zero ∷ bs) x y = escaped_keeps xs bs x y
escaped_keeps (zero ∷ xs) (suc b ∷ bs) x y = rw (less 0 (suc b) (omega arith)) refl
escaped_keeps (suc a ∷ xs) (zero ∷ bs) x y = rw (more (suc a) 0 (omega arith)) refl
escaped_keeps (suc a ∷ xs) (suc b ∷ bs) x y = rw (escaped_keeps xs bs x y) (sym (then_assoc (nat_cmp (suc a) (suc b)) (byte_cmp xs bs) (byte_cmp x y)))

ended_keeps : (a b x y : List ℕ) → HasNoZero a → HasNoZero b → byte_cmp (ended a ++ x) (ended b ++ y) ≡ ordering_then (byte_cmp a b) (byte_cmp x y)
ended_keeps [] [] x y ha hb = refl
ended_keeps [] (b ∷ bs) x y ha hb = rw (less 0 b hb.0) refl
ended_keeps (a ∷ xs) [] x y ha hb = rw (more a 0 ha.0) refl
ended_keeps (a ∷ xs) (b ∷ bs) x y ha hb = rw (ended_keeps xs bs x y ha.1 hb.1) (sym (then_assoc (nat_cmp a b) (byte_cmp xs bs) (byte_cmp x y)))

-- a name before other bytes
pub names_keep : (a b x y : List ℕ) → IsTrue (is_name a) → IsTrue (is_name b) → byte_cmp (ended a ++ x) (ended b ++ y) ≡ ordering_then (byte_cmp a b) (byte_cmp x y)
names_keep a b x y f g = ended_keeps a b x y (name_no_zero a f) (name_no_zero b g)

-- ---- numbers

number_8 : (m n : ℕ) → m < 2 ^ 64 → n < 2 ^ 64 → byte_cmp (to_be_bytes w64 m) (to_be_bytes w64 n) ≡ nat_cmp m n
number_8 m n hm hn =
    as_numbers (to_be_bytes w64 m) (to_be_bytes w64 n) refl (bytes_8 m) (bytes_8 n)
    ∙ (ap (λ (v : ℕ). nat_cmp v (worth (to_be_bytes w64 n))) (worth_8 m hm) ∙ ap (nat_cmp m) (worth_8 n hn))

number_4 : (m n : ℕ) → m < 2 ^ 32 → n < 2 ^ 32 → byte_cmp (to_be_bytes w32 m) (to_be_bytes w32 n) ≡ nat_cmp m n
number_4 m n hm hn =
    as_numbers (to_be_bytes w32 m) (to_be_bytes w32 n) refl (bytes_4 m) (bytes_4 n)
    ∙ (ap (λ (v : ℕ). nat_cmp v (worth (to_be_bytes w32 n))) (worth_4 m hm) ∙ ap (nat_cmp m) (worth_4 n hn))

-- ---- the last field of a key

last : (o : Ordering) → o ≡ ordering_then o Equal
last Less = refl
last Equal = refl
last Greater = refl

-- a number is a list of one among the fields
number_last : (o : Ordering) (m n : ℕ) → o ≡ nat_cmp m n → o ≡ ordering_then (ordering_then (nat_cmp m n) Equal) Equal
number_last o m n e = e ∙ (last (nat_cmp m n) ∙ last (ordering_then (nat_cmp m n) Equal))

ended_last : (a b : List ℕ) → HasNoZero a → HasNoZero b → byte_cmp (ended a) (ended b) ≡ ordering_then (byte_cmp a b) Equal
ended_last a b ha hb = ap (λ (l : List ℕ). byte_cmp l (ended b)) (sym (append-nil (ended a))) ∙ (ap (byte_cmp (ended a ++ [])) (sym (append-nil (ended b))) ∙ ended_keeps a b [] [] ha hb)

escaped_last : (a b : List ℕ) → byte_cmp (escaped a) (escaped b) ≡ ordering_then (byte_cmp a b) Equal
escaped_last a b = ap (λ (l : List ℕ). byte_cmp l (escaped b)) (sym (append-nil (escaped a))) ∙ (ap (byte_cmp (escaped a ++ [])) (sym (append-nil (escaped b))) ∙ escaped_keeps a b [] [])

-- ---- keys

pub keeps_order : (a b : CellKey) → IsTypedKey a → IsTypedKey b → kind_number a ≡ kind_number b → byte_cmp (ordered a) (ordered b) ≡ cell_cmp a b
keeps_order (at.Map a) (at.Map b) f g e = ended_last a b (name_no_zero a f) (name_no_zero b g)
keeps_order (at.Shard a l) (at.Shard b m) f g e =
    ended_keeps a b (ended l) (ended m) (name_no_zero a f.0) (name_no_zero b g.0)
    ∙ ap (ordering_then (byte_cmp a b)) (ended_last l m (location_no_zero l f.1) (location_no_zero m g.1))
keeps_order (at.Table a t) (at.Table b u) f g e =
    ended_keeps a b (ended t) (ended u) (name_no_zero a f.0) (name_no_zero b g.0)
    ∙ ap (ordering_then (byte_cmp a b)) (ended_last t u (name_no_zero t f.1) (name_no_zero u g.1))
keeps_order (at.Piece a l) (at.Piece b k) f g e =
    ended_keeps a b (escaped l) (escaped k) (name_no_zero a f.0) (name_no_zero b g.0) ∙ ap (ordering_then (byte_cmp a b)) (escaped_last l k)
keeps_order (at.Log m) (at.Log n) f g e = number_last _ m n (number_8 m n f g)
keeps_order (at.Job m) (at.Job n) f g e = number_last _ m n (number_4 m n f g)
keeps_order at.Counter at.Counter f g e = refl
keeps_order (at.SiteState a) (at.SiteState b) f g e = ended_last a b (location_no_zero a f) (location_no_zero b g)
keeps_order (at.Local a l m) (at.Local b k n) f g e =
    ended_keeps a b (escaped l ++ to_be_bytes w64 m) (escaped k ++ to_be_bytes w64 n) (name_no_zero a f.0) (name_no_zero b g.0)
    ∙ ap (ordering_then (byte_cmp a b)) (escaped_keeps l k (to_be_bytes w64 m) (to_be_bytes w64 n)
    ∙ ap (ordering_then (byte_cmp l k)) (number_last _ m n (number_8 m n f.2 g.2)))
keeps_order (at.Row r) (at.Row s) f g e =
    ended_keeps r.map s.map _ _ (name_no_zero r.map f.map) (name_no_zero s.map g.map)
    ∙ ap (ordering_then (byte_cmp r.map s.map)) (escaped_keeps r.key s.key _ _
    ∙ ap (ordering_then (byte_cmp r.key s.key)) (ended_keeps r.table s.table _ _ (name_no_zero r.table f.table) (name_no_zero s.table g.table)
    ∙ ap (ordering_then (byte_cmp r.table s.table)) (number_last _ r.number s.number (number_8 r.number s.number f.number g.number))))
keeps_order (at.Map a) _ f g e = absurd (omega arith)
keeps_order (at.Shard a l) _ f g e = absurd (omega arith)
keeps_order (at.Table a l) _ f g e = absurd (omega arith)
keeps_order (at.Piece a l) _ f g e = absurd (omega arith)
keeps_order (at.Log m) _ f g e = absurd (omega arith)
keeps_order (at.Job m) _ f g e = absurd (omega arith)
keeps_order at.Counter _ f g e = absurd (omega arith)
keeps_order (at.SiteState a) _ f g e = absurd (omega arith)
keeps_order (at.Local a l m) _ f g e = absurd (omega arith)
keeps_order (at.Row r) _ f g e = absurd (omega arith)
