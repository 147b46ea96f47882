-- The next key of a row.
use Rattle.std.proofs.Common.{◌≡◌, ℕ, suc, zero, ◌-◌, ◌^◌, ◌≤◌, ◌<◌, Bool, true, false, not, ◌&&◌, ◌||◌, ◌==◌, nat_lt, if◌then◌else◌, [], ◌∷◌, length, replicate, refl, sym, ap, ◌∙◌, subst, Some, None, Option, option_map, IsSome, IsTrue, arith}
use Rattle.std.specs.List.{list_all}
use Rattle.std.specs.declared.cmp.Ordering.{Ordering}
use Rattle.std.specs.declared.cmp.Ordering.TheVariants.{Less, Equal, Greater}
use Rattle.std.specs.Ordering.{is_lt, is_gt, nat_cmp, ordering_then, MatchOrdering}
use Rattle.std.specs.FinMap as map
use Rattle.std.proofs.lemmas.Cmp.{tied_itself, nat_list_cmp_total, ranked}
use Rattle.cell_world.specs.Texts.{Text, is_name, is_letter, is_digit, is_name_byte}
use Rattle.cell_world.specs.ByteOrder.{byte_cmp}
use Rattle.cell_world.specs.Keys.{below, at_most}
use Rattle.cell_world.specs.Finding.{IsNextKey, IsRowKey}
use Rattle.cell_world.specs.Orders.{cell_cmp, kind_number}
use Rattle.cell_world.specs.Spelled.{IsRowName}
use Rattle.cell_world.specs.Stores.{Store, IsStore, own_key, Stands}
use Rattle.cell_world.specs.declared.cells.RowName.{RowName}
use Rattle.cell_world.specs.declared.cells.Cell.{Cell}
use Rattle.cell_world.specs.declared.cells.Cell.TheVariants as cell
use Rattle.cell_world.specs.declared.cells.CellKey.{CellKey}
use Rattle.cell_world.specs.declared.cells.CellKey.TheVariants as at
use Rattle.world_memory.specs.First.{IsOn, IsFrom, IsFirst, row_within, row_named, beside}
use Rattle.world_memory.proofs.SiteOrder.{flip, cell_total, map_between}
use Rattle.world_memory.proofs.Scanned.{on_not_above}

-- ---- orders

number_not_above : (x y : ℕ) → x ≤ y → is_gt (nat_cmp x y) ≡ false
number_not_above x y le = by (nat_cmp x y) (ranked x y (nat_cmp x y) refl)
  where
    by : (r : Ordering) → MatchOrdering r (x < y) (x ≡ y) (y < x) → is_gt r ≡ false
    by Less m = refl
    by Equal m = refl
    by Greater m = absurd (omega (arith, m, le))

number_not_below : (x y : ℕ) → y ≤ x → is_lt (nat_cmp x y) ≡ false
number_not_below x y le = by (nat_cmp x y) (ranked x y (nat_cmp x y) refl)
  where
    by : (r : Ordering) → MatchOrdering r (x < y) (x ≡ y) (y < x) → is_lt r ≡ false
    by Less m = absurd (omega (arith, m, le))
    by Equal m = refl
    by Greater m = refl

then_not_above : (o p : Ordering) → is_gt o ≡ false → is_gt p ≡ false → is_gt (ordering_then o p) ≡ false
then_not_above Less p h g = refl
then_not_above Equal p h g = g
then_not_above Greater p h g = h

then_not_below : (o p : Ordering) → is_lt o ≡ false → is_lt p ≡ false → is_lt (ordering_then o p) ≡ false
then_not_below Less p h g = h
then_not_below Equal p h g = g
then_not_below Greater p h g = refl

first_not_above : (o p : Ordering) → is_gt (ordering_then o p) ≡ false → is_gt o ≡ false
first_not_above Less p h = refl
first_not_above Equal p h = refl
first_not_above Greater p h = h

first_below : (o p : Ordering) → is_lt p ≡ false → ordering_then o p ≡ Less → is_lt o ≡ true
first_below Less p h e = refl
first_below Equal p h e = let no : is_lt p ≡ true = ap is_lt e in cc
first_below Greater p h e = cc

below_is : (o : Ordering) → is_lt o ≡ true → o ≡ Less
below_is Less h = refl
below_is Equal h = cc
below_is Greater h = cc

-- ---- names

both_left : (a b : Bool) → IsTrue (a && b) → IsTrue a
both_left true b h = refl
both_left false b h = h

both_right : (a b : Bool) → IsTrue (a && b) → IsTrue b
both_right true b h = h
both_right false b h = cc

letter_range : (c : ℕ) → IsTrue (is_letter c) → (65 ≤ c) × (c ≤ 122)
letter_range c is = grind arith

name_byte_range : (c : ℕ) → IsTrue (is_name_byte c) → c ≤ 122
name_byte_range c is = grind arith

letter_byte : (c : ℕ) → IsTrue (is_letter c) → IsTrue (is_name_byte c)
letter_byte c is = ap (λ b. b || (is_digit c || (c == 95))) is

-- `A` is at or below each name
least_below : (t : Text) → IsTrue (is_name t) → is_gt (byte_cmp (65 ∷ []) t) ≡ false
least_below [] is = cc
least_below (c ∷ cs) is = then_not_above (nat_cmp 65 c) (byte_cmp [] cs) (number_not_above 65 c (letter_range c (both_left (is_letter c) _ is)).0) (none_above cs)
  where
    none_above : (xs : Text) → is_gt (byte_cmp [] xs) ≡ false
    none_above [] = refl
    none_above (x ∷ xs) = refl

-- no text of so many bytes up to `z` is above as many `z`
all_below : (n : ℕ) (t : Text) → length t ≤ n → IsTrue (list_all is_name_byte t) → is_gt (byte_cmp t (replicate n 122)) ≡ false
all_below zero [] few are = refl
all_below (suc n) [] few are = refl
all_below zero (c ∷ cs) few are = absurd (omega (arith, few))
all_below (suc n) (c ∷ cs) few are = then_not_above (nat_cmp c 122) (byte_cmp cs (replicate n 122)) (number_not_above c 122 (name_byte_range c (both_left (is_name_byte c) _ are))) (all_below n cs (omega (arith, few)) (both_right (is_name_byte c) _ are))

greatest_above : (t : Text) → IsTrue (is_name t) → is_gt (byte_cmp t (replicate 32 122)) ≡ false
greatest_above [] is = cc
greatest_above (c ∷ cs) is =
    let letter : IsTrue (is_letter c) = both_left (is_letter c) _ is in
    let rest : IsTrue (nat_lt (length cs) 32 && list_all is_name_byte cs) = both_right (is_letter c) _ is in
    let few : length cs < 32 = less (both_left (nat_lt (length cs) 32) _ rest) in
    all_below 32 (c ∷ cs) (omega (arith, few)) (ap (λ b. b && list_all is_name_byte cs) (letter_byte c letter) ∙ both_right (nat_lt (length cs) 32) _ rest)
  where
    less : IsTrue (nat_lt (length cs) 32) → length cs < 32
    less h = grind arith

-- ---- rows beside a key

-- what decides between rows of one map and one key
abbrev by_table : RowName → RowName → Ordering
by_table a b = ordering_then (byte_cmp a.table b.table) (ordering_then (ordering_then (nat_cmp a.number b.number) Equal) Equal)

row_order : (a b : RowName) → a.map ≡ b.map → cell_cmp (at.Row a) (at.Row b) ≡ ordering_then (byte_cmp a.key b.key) (by_table a b)
row_order a b is = ap (λ o. ordering_then o (ordering_then (byte_cmp a.key b.key) (by_table a b))) (ap (byte_cmp a.map) (sym is) ∙ tied_itself nat_list_cmp_total a.map)

last : (o : Ordering) → ordering_then (ordering_then o Equal) Equal ≡ o
last Less = refl
last Equal = refl
last Greater = refl

before_rows : (name from : Text) (row : RowName) → IsRowName row → is_gt (by_table (beside false name from) row) ≡ false
before_rows name from row is = then_not_above (byte_cmp (65 ∷ []) row.table) _ (least_below row.table is.table) (ap is_gt (last (nat_cmp 0 row.number)) ∙ number_not_above 0 row.number (omega arith))

after_rows : (name from : Text) (row : RowName) → IsRowName row → is_lt (by_table (beside true name from) row) ≡ false
after_rows name from row is = then_not_below (byte_cmp (replicate 32 122) row.table) _ (sym (flip nat_list_cmp_total row.table (replicate 32 122)) ∙ greatest_above row.table is.table)
    (ap is_lt (last (nat_cmp (2 ^ 64 - 1) row.number)) ∙ number_not_below (2 ^ 64 - 1) row.number (let n = is.number in omega (arith, n)))

to_row : (past : Bool) (name from : Text) (row : RowName) → row.map ≡ name → IsRowName row → IsTrue (if past then below from row.key else at_most from row.key) → IsOn past (at.Row (beside past name from)) (at.Row row)
to_row true name from row map is h = row_order (beside true name from) row (sym map) ∙ ap (λ o. ordering_then o (by_table (beside true name from) row)) (below_is (byte_cmp from row.key) h)
to_row false name from row map is h = sym (flip cell_total (at.Row (beside false name from)) (at.Row row)) ∙ ap is_gt (row_order (beside false name from) row (sym map)) ∙ then_not_above (byte_cmp from row.key) _ (not_true (is_gt (byte_cmp from row.key)) h) (before_rows name from row is)
  where
    not_true : (b : Bool) → IsTrue (not b) → b ≡ false
    not_true true g = cc
    not_true false g = refl

from_row : (past : Bool) (name from : Text) (row : RowName) → row.map ≡ name → IsRowName row → IsOn past (at.Row (beside past name from)) (at.Row row) → IsTrue (if past then below from row.key else at_most from row.key)
from_row true name from row map is h = first_below (byte_cmp from row.key) _ (after_rows name from row is) (sym (row_order (beside true name from) row (sym map)) ∙ h)
from_row false name from row map is h = ap not (first_not_above (byte_cmp from row.key) _ (sym (ap is_gt (row_order (beside false name from) row (sym map))) ∙ flip cell_total (at.Row (beside false name from)) (at.Row row) ∙ h))

-- ---- what the first row tells

some_value : {A : Type 0} (x : Option A) → IsSome x → (a : A) × (x ≡ Some a)
some_value None h = cc
some_value (Some a) h = (a, refl)

mapped_some : {A B : Type 0} (f : A → B) (x : Option A) (b : B) → option_map f x ≡ Some b → IsSome x
mapped_some f None b e = cc
mapped_some f (Some a) b e = refl

beside_map : (past : Bool) (name from : Text) → (beside past name from).map ≡ name
beside_map true name from = refl
beside_map false name from = refl

named_is : (c : Cell) (row : RowName) → row_named c ≡ Some row → (bytes : Text) × (c ≡ cell.Row row bytes)
named_is (cell.Row r bytes) row e = let is : r ≡ row = cc in (bytes, ap (λ x. cell.Row x bytes) is)
named_is (cell.Map name kind type) row e = cc
named_is (cell.Shard name location) row e = cc
named_is (cell.Table name table) row e = cc
named_is (cell.Piece piece) row e = cc
named_is (cell.Log op) row e = cc
named_is (cell.Job job) row e = cc
named_is (cell.Counter counters) row e = cc
named_is (cell.SiteState location state) row e = cc
named_is (cell.Local local) row e = cc

no_row : (c : Cell) → kind_number (own_key c) ≡ 10 → row_named c ≡ None → ⊥
no_row (cell.Row row bytes) kind e = cc
no_row (cell.Map name k type) kind e = omega (arith, kind)
no_row (cell.Shard name location) kind e = omega (arith, kind)
no_row (cell.Table name table) kind e = omega (arith, kind)
no_row (cell.Piece piece) kind e = omega (arith, kind)
no_row (cell.Log op) kind e = omega (arith, kind)
no_row (cell.Job job) kind e = omega (arith, kind)
no_row (cell.Counter counters) kind e = omega (arith, kind)
no_row (cell.SiteState location state) kind e = omega (arith, kind)
no_row (cell.Local local) kind e = omega (arith, kind)

module _ (s : Store) (name from : Text) (past : Bool) (is : IsStore s) where
  abbrev bound : CellKey
  bound = at.Row (beside past name from)

  -- the row cell of a key that is looked for
  abbrev row_at : (key : Text) → IsRowKey s.rows name from past key → RowName
  row_at key k = record { map = name; key = key; table = k.table; number = k.number }

  cell_of : (key : Text) (k : IsRowKey s.rows name from past key) → (bytes : Text) × Stands s (cell.Row (row_at key k) bytes)
  cell_of key k = let v = some_value (map.get s.rows (row_at key k)) k.stands in (v.0, ap (option_map (cell.Row (row_at key k))) v.1)

  looked_for : (key : Text) (k : IsRowKey s.rows name from past key) (bytes : Text) → Stands s (cell.Row (row_at key k) bytes) → IsFrom bound past (cell.Row (row_at key k) bytes)
  looked_for key k bytes stands = record { kind = refl; order = to_row past name from (row_at key k) refl (is.cells (cell.Row (row_at key k) bytes) stands).typed.0 k.above }

  pub none_next : (x : Option Cell) → IsFirst s bound past x → row_within x ≡ None → IsNextKey s.rows name from past None
  none_next None first e key k = let c = cell_of key k in first (cell.Row (row_at key k) c.0) c.1 (looked_for key k c.0 c.1)
  none_next (Some f) first e key k = no_row f first.1.kind e

  -- the first row is at or below each one that is looked for
  least : (row : RowName) (bytes : Text) → IsFirst s bound past (Some (cell.Row row bytes)) → (key : Text) (k : IsRowKey s.rows name from past key) → is_gt (cell_cmp (at.Row row) (at.Row (row_at key k))) ≡ false
  least row bytes first key k = let c = cell_of key k in flip cell_total (at.Row row) (at.Row (row_at key k)) ∙ first.2 (cell.Row (row_at key k) c.0) c.1 (looked_for key k c.0 c.1)

  pub other_next : (x : Option Cell) (row : RowName) → IsFirst s bound past x → row_within x ≡ Some row → (row.map ≡ name → ⊥) → IsNextKey s.rows name from past None
  other_next None row first e other key k = cc
  other_next (Some f) row first e other key k =
      let n = named_is f row e in
      let it : IsFirst s bound past (Some (cell.Row row n.0)) = subst (λ c. IsFirst s bound past (Some c)) n.1 first in
      let maps : Some row.map ≡ Some name = map_between bound (at.Row row) (at.Row (row_at key k)) (on_not_above past bound (at.Row row) it.1.order) (least row n.0 it key k) refl (ap Some (beside_map past name from)) in
      other cc

  pub is_next : (x : Option Cell) (row : RowName) → IsFirst s bound past x → row_within x ≡ Some row → row.map ≡ name → IsNextKey s.rows name from past (Some row.key)
  is_next None row first e same = cc
  is_next (Some f) row first e same =
      let n = named_is f row e in
      let it : IsFirst s bound past (Some (cell.Row row n.0)) = subst (λ c. IsFirst s bound past (Some c)) n.1 first in
      let typed : IsRowName row = (is.cells (cell.Row row n.0) it.0).typed.0 in (
        record { table = row.table; number = row.number; stands = subst (λ m. IsSome (map.get s.rows (record { map = m; key = row.key; table = row.table; number = row.number }))) same (mapped_some (cell.Row row) (map.get s.rows row) (cell.Row row n.0) it.0); above = from_row past name from row same typed it.1.order },
        λ key k. ap not (first_not_above (byte_cmp row.key key) _ (sym (ap is_gt (row_order row (row_at key k) same)) ∙ least row n.0 it key k)),
      )
