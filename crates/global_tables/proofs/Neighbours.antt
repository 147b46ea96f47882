-- The cells of a group stand together in cell order, from the least key of the group on.
use Rattle.std.proofs.Common.{◌≡◌, inl, inr, ℕ, ◌+◌, ◌≤◌, Bool, true, false, cond, List, [], ◌∷◌, length, refl, sym, ap, ◌∙◌, subst, true≢false, arith}
use Rattle.std.proofs.Common.{take}
use Rattle.std.specs.Prelude.{◌==◌}
use Rattle.std.specs.Ordering.{is_lt, nat_cmp, ordering_then}
use Rattle.std.specs.declared.cmp.Ordering.{Ordering}
use Rattle.std.specs.declared.cmp.Ordering.TheVariants.{Less, Equal, Greater}
use Rattle.std.proofs.lemmas.Cmp.{nat_list_cmp_total, tied_itself}
use Rattle.std.proofs.lemmas.Bool.{and_parts, and_from}
use Rattle.cell_world.specs.Texts.{Text}
use Rattle.cell_world.specs.ByteOrder.{byte_cmp}
use Rattle.cell_world.specs.Keys.{same, low_of}
use Rattle.cell_world.specs.Lists.{IsOneOf}
use Rattle.cell_world.specs.Spelled.{IsTyped}
use Rattle.cell_world.specs.Stores.{own_key}
use Rattle.cell_world.specs.Orders.{cell_cmp, kind_number, map_of}
use Rattle.cell_world.specs.declared.cells.Cell.{Cell}
use Rattle.cell_world.specs.declared.cells.Cell.TheVariants as cell
use Rattle.cell_world.specs.declared.cells.CellKey.{CellKey}
use Rattle.cell_world.specs.declared.cells.CellKey.TheVariants as at
use Rattle.cell_world.proofs.OrderLaws.{exact_texts}
use Rattle.cell_world.proofs.SpanLaws.{same_is, same_self}
use Rattle.global_tables.specs.declared.groups.Group.{Group}
use Rattle.global_tables.specs.declared.groups.Group.TheVariants as group
use Rattle.global_tables.specs.Groups.{kind_of, name_of, least_of, is_of, is_in, inside, least_location}
use Rattle.global_tables.proofs.Rising.{Rising}
use Rattle.global_tables.proofs.CellOrder.{Before, not_less, never_less}
use Rattle.global_tables.proofs.Least.{name_least, location_least, number_least, empty_least}

-- ---- kinds

same_number : (m n : ℕ) → (m == n) ≡ true → m ≡ n
same_number m n h = grind (arith, h)

number_same : (m n : ℕ) → m ≡ n → (m == n) ≡ true
number_same m n h = grind (arith, h)

pub kind_in : (g : Group) (key : CellKey) → is_in g key ≡ true → kind_number key ≡ kind_of g
kind_in g key h = same_number (kind_number key) (kind_of g) (and_parts (kind_number key == kind_of g) (is_of (name_of g) (map_of key)) h).0

pub kind_least : (g : Group) → kind_number (least_of g) ≡ kind_of g
kind_least group.Maps = refl
kind_least group.Shards = refl
kind_least (group.ShardsOf name) = refl
kind_least group.Tables = refl
kind_least (group.TablesOf name) = refl
kind_least group.Pieces = refl
kind_least (group.PiecesOf name) = refl
kind_least group.Log = refl
kind_least group.Jobs = refl
kind_least group.Away = refl

-- ---- the least key

tied_not_less : (of name : Text) → same of name ≡ true → byte_cmp name of ≡ Less → ⊥
tied_not_less of name e h = let tie : byte_cmp name of ≡ Equal = subst (λ x. byte_cmp name x ≡ Equal) (sym (same_is of name e)) (tied_itself nat_list_cmp_total name) in let no : Equal ≡ Less = sym tie ∙ h in absurd (cc)

one_least : (m : ℕ) → ordering_then (nat_cmp m 0) Equal ≡ Less → ⊥
one_least m = never_less (ordering_then (nat_cmp m 0) Equal) (not_less (nat_cmp m 0) Equal (number_least m 0 (omega arith)) refl)

-- no cell of the group is below it
pub from_least : (g : Group) (c : Cell) → IsTyped c → is_in g (own_key c) ≡ true → is_lt (cell_cmp (own_key c) (least_of g)) ≡ false
from_least group.Maps (cell.Map name kind type) t e = not_less (byte_cmp name (65 ∷ [])) Equal (name_least name t) refl
from_least group.Shards (cell.Shard name location) t e =
    not_less (byte_cmp name (65 ∷ [])) (ordering_then (byte_cmp location least_location) Equal) (name_least name t.0) (not_less (byte_cmp location least_location) Equal (location_least location t.1) refl)
from_least (group.ShardsOf of) (cell.Shard name location) t e =
    not_less (byte_cmp name of) (ordering_then (byte_cmp location least_location) Equal) (tied_not_less of name e) (not_less (byte_cmp location least_location) Equal (location_least location t.1) refl)
from_least group.Tables (cell.Table name table) t e =
    not_less (byte_cmp name (65 ∷ [])) (ordering_then (byte_cmp table (65 ∷ [])) Equal) (name_least name t.0) (not_less (byte_cmp table (65 ∷ [])) Equal (name_least table t.1) refl)
from_least (group.TablesOf of) (cell.Table name table) t e =
    not_less (byte_cmp name of) (ordering_then (byte_cmp table (65 ∷ [])) Equal) (tied_not_less of name e) (not_less (byte_cmp table (65 ∷ [])) Equal (name_least table t.1) refl)
from_least group.Pieces (cell.Piece p) t e =
    not_less (byte_cmp p.map (65 ∷ [])) (ordering_then (byte_cmp (low_of p.span) []) Equal) (name_least p.map t.map) (not_less (byte_cmp (low_of p.span) []) Equal (never_less (byte_cmp (low_of p.span) []) (empty_least (low_of p.span))) refl)
from_least (group.PiecesOf of) (cell.Piece p) t e =
    not_less (byte_cmp p.map of) (ordering_then (byte_cmp (low_of p.span) []) Equal) (tied_not_less of p.map e) (not_less (byte_cmp (low_of p.span) []) Equal (never_less (byte_cmp (low_of p.span) []) (empty_least (low_of p.span))) refl)
from_least group.Log (cell.Log op) t e = not_less (ordering_then (nat_cmp op.number 0) Equal) Equal (one_least op.number) refl
from_least group.Jobs (cell.Job job) t e = not_less (ordering_then (nat_cmp job.number 0) Equal) Equal (one_least job.number) refl
from_least group.Away (cell.SiteState location state) t e = not_less (byte_cmp location least_location) Equal (location_least location t) refl
from_least g c t e = cc

-- ---- neighbours

between : (n m name : Text) (r s : Ordering) → same name m ≡ true → ordering_then (byte_cmp n m) r ≡ Less → is_lt (ordering_then (byte_cmp n name) s) ≡ false → same name n ≡ true
between n m name r s e less from = by (byte_cmp n name) refl
  where
    is : name ≡ m
    is = same_is name m e

    first : ordering_then (byte_cmp n name) r ≡ Less
    first = subst (λ x. ordering_then (byte_cmp n x) r ≡ Less) (sym is) less

    by : (o : Ordering) → byte_cmp n name ≡ o → same name n ≡ true
    by Less f = absurd (true≢false (sym (ap (λ o. is_lt (ordering_then o s)) f) ∙ from))
    by Equal f = subst (λ x. same name x ≡ true) (sym (exact_texts n name f)) (same_self name)
    by Greater f = let no : Greater ≡ Less = sym (ap (λ o. ordering_then o r) f) ∙ first in cc

-- What is of the kind, from the least key on and before a key of the group, is of the group.
of_before : (g : Group) (a b : CellKey) → kind_number a ≡ kind_of g → is_lt (cell_cmp a (least_of g)) ≡ false → cell_cmp a b ≡ Less → is_in g b ≡ true → is_of (name_of g) (map_of a) ≡ true
of_before group.Maps a b k f less e = refl
of_before group.Shards a b k f less e = refl
of_before (group.ShardsOf name) (at.Shard n l) (at.Shard m o) k f less e = between n m name (ordering_then (byte_cmp l o) Equal) (ordering_then (byte_cmp l least_location) Equal) e less f
of_before group.Tables a b k f less e = refl
of_before (group.TablesOf name) (at.Table n l) (at.Table m o) k f less e = between n m name (ordering_then (byte_cmp l o) Equal) (ordering_then (byte_cmp l (65 ∷ [])) Equal) e less f
of_before group.Pieces a b k f less e = refl
of_before (group.PiecesOf name) (at.Piece n l) (at.Piece m o) k f less e = between n m name (ordering_then (byte_cmp l o) Equal) (ordering_then (byte_cmp l []) Equal) e less f
of_before group.Log a b k f less e = refl
of_before group.Jobs a b k f less e = refl
of_before group.Away a b k f less e = refl
of_before g a b k f less e = cc

pub in_before : (g : Group) (a b : CellKey) → kind_number a ≡ kind_of g → is_lt (cell_cmp a (least_of g)) ≡ false → cell_cmp a b ≡ Less → is_in g b ≡ true → is_in g a ≡ true
in_before g a b k f less e = and_from (kind_number a == kind_of g) (is_of (name_of g) (map_of a)) (number_same (kind_number a) (kind_of g) k) (of_before g a b k f less e)

-- ---- the front of a list that is of the group

module _ (g : Group) where
  -- of the kind, and from the least key on
  abbrev pub IsNear : Cell → Type 0
  IsNear c = (kind_number (own_key c) ≡ kind_of g) × (is_lt (cell_cmp (own_key c) (least_of g)) ≡ false)

  pub in_inside : (cs : List Cell) (c : Cell) → IsOneOf (inside g cs) c → IsOneOf cs c × (is_in g (own_key c) ≡ true)
  in_inside [] c h = absurd h
  in_inside (d ∷ ds) c h = by (is_in g (own_key d)) refl (in_inside ds c) h
    where
      by : (b : Bool) → is_in g (own_key d) ≡ b → (IsOneOf (inside g ds) c → IsOneOf ds c × (is_in g (own_key c) ≡ true)) → IsOneOf (cond b (d ∷ inside g ds) []) c → IsOneOf (d ∷ ds) c × (is_in g (own_key c) ≡ true)
      by true e more (inl is) = (inl is, subst (λ x. is_in g (own_key x) ≡ true) is e)
      by true e more (inr h) = let m = more h in (inr m.0, m.1)
      by false e more h = absurd h

  pub into_inside : (cs : List Cell) → Rising Before cs → ((d : Cell) → IsOneOf cs d → IsNear d) → (c : Cell) → IsOneOf cs c → is_in g (own_key c) ≡ true → IsOneOf (inside g cs) c
  into_inside [] r near c h e = absurd h
  into_inside (d ∷ ds) r near c (inl is) e = subst (λ b. IsOneOf (cond b (d ∷ inside g ds) []) c) (sym (ap (λ x. is_in g (own_key x)) is ∙ e)) (inl is)
  into_inside (d ∷ ds) r near c (inr h) e =
      let n = near d (inl refl) in
      subst (λ b. IsOneOf (cond b (d ∷ inside g ds) []) c) (sym (in_before g (own_key d) (own_key c) n.0 n.1 (r.0 c h) e)) (inr (into_inside ds r.1 (λ x m. near x (inr m)) c h e))

  pub rising_inside : (cs : List Cell) → Rising Before cs → Rising Before (inside g cs)
  rising_inside [] r = tt
  rising_inside (d ∷ ds) r = by (is_in g (own_key d)) (rising_inside ds r.1)
    where
      by : (b : Bool) → Rising Before (inside g ds) → Rising Before (cond b (d ∷ inside g ds) [])
      by true more = (λ y h. r.0 y (in_inside ds y h).0, more)
      by false more = tt

  pub short_inside : (cs : List Cell) → length (inside g cs) ≤ length cs
  short_inside [] = omega arith
  short_inside (d ∷ ds) = by (is_in g (own_key d)) (short_inside ds)
    where
      long : length (d ∷ ds) ≡ length ds + 1
      long = omega arith

      by : (b : Bool) → length (inside g ds) ≤ length ds → length (cond b (d ∷ inside g ds) []) ≤ length (d ∷ ds)
      by true h = let is : length (d ∷ inside g ds) ≡ length (inside g ds) + 1 = omega arith in omega (arith, is, h, long)
      by false h = omega arith

  -- all of it, where each is of the group
  pub whole_inside : (cs : List Cell) → ((c : Cell) → IsOneOf cs c → is_in g (own_key c) ≡ true) → inside g cs ≡ cs
  whole_inside [] h = refl
  whole_inside (d ∷ ds) h = ap (λ b. cond b (d ∷ inside g ds) []) (h d (inl refl)) ∙ ap (λ cs. d ∷ cs) (whole_inside ds (λ c m. h c (inr m)))

  -- they are a front of the list
  pub front_inside : (cs : List Cell) → take (length (inside g cs)) cs ≡ inside g cs
  front_inside [] = refl
  front_inside (d ∷ ds) = by (is_in g (own_key d)) (front_inside ds)
    where
      by : (b : Bool) → take (length (inside g ds)) ds ≡ inside g ds → take (length (cond b (d ∷ inside g ds) [])) (d ∷ ds) ≡ cond b (d ∷ inside g ds) []
      by true e = ap (λ cs. d ∷ cs) e
      by false e = refl
