-- The table of cells.
use Rattle.std.specs.Prelude.{◌≡◌, ◌&&◌, ◌==◌, ◌++◌, MatchOption, option_map, find, IsPermutation, IsSorted, take, not, map, filter, Bool, true, false, None, Option, [], ◌∷◌, codes, List, ℕ, ℤ, pos, All, Contains}
use Rattle.std.specs.Ordering.{is_le, is_ge, is_eq, nat_cmp, int_cmp}
use Rattle.std.specs.declared.cmp.Ordering.TheVariants.{Less}
use Rattle.sqlite_trees.specs.Tree.{IsAscending}
use Rattle.sqlite.specs.Effect.{Database}
use Rattle.cell_table.specs.declared.Op.{Op}
use Rattle.std.specs.Cmp.Lexicographic.{slice_cmp}
use Rattle.sqlite.specs.Collation.TheVariants.{Binary}
use Rattle.sqlite.specs.declared.types.Value.TheVariants.{Null, Int, Blob}
use Rattle.sqlite.specs.Order.{Row}
use Rattle.sqlite.specs.Table.{Table}
use Rattle.sqlite.specs.Schema.{Schema}
use Rattle.sqlite_schema.specs.declared.schema.Index.{Index}
use Rattle.sqlite.specs.Kind.TheVariants as kind

abbrev pub cells : Table
cells = record {
  name = codes "cells";
  tree = 0;
  columns = (record { name = codes "t"; kind = kind.Integer; is_strict = true; not_null = true; default = Null; collation = Binary })
      ∷ (record { name = codes "k"; kind = kind.Blob; is_strict = true; not_null = true; default = Null; collation = Binary })
      ∷ (record { name = codes "v"; kind = kind.Blob; is_strict = true; not_null = true; default = Null; collation = Binary }) ∷ [];
  key = None;
  primary = 1 ∷ 2 ∷ [];
  uniques = (1 ∷ 2 ∷ []) ∷ [];
  orders = (record { digits = 0 }) ∷ [];
  checks = [];
  references = [];
  computed = [];
  stamps = record { places = []; terms = []; formats = [] };
  is_counted = false;
}

abbrev pub by_key : Index
by_key = record { name = codes "sqlite_autoindex_cells_1"; tree = 1; table = 0; columns = 1 ∷ 2 ∷ []; order = record { digits = 0 }; is_unique = true }

abbrev pub cells_schema : Schema
cells_schema = record { tables = cells ∷ []; indexes = by_key ∷ []; views = [] }

abbrev pub no_schema : Schema
no_schema = record { tables = []; indexes = []; views = [] }

-- what is stored of a cell, and the row's number
pub record Entry : Type 0 where
  pub id : ℤ
  pub kind : ℕ
  pub key : List ℕ
  pub value : List ℕ

abbrev pub row_of : Entry → Row
row_of c = Int c.id ∷ Int (pos c.kind) ∷ Blob c.key ∷ Blob c.value ∷ []

abbrev pub shown : Entry → Row
shown c = Blob c.key ∷ Blob c.value ∷ []

abbrev pub is_up_to : List ℕ → List ℕ → Bool
is_up_to a b = is_le (slice_cmp nat_cmp a b)

-- the cell is of the kind, and its key is at or below
abbrev pub is_below : ℕ → List ℕ → Entry → Bool
is_below kind key c = (c.kind == kind) && is_up_to c.key key

-- no row where no cell of the kind is at or below the key, and else the greatest such cell
abbrev pub IsFloor : List Entry → ℕ → List ℕ → List Row → Type 0
IsFloor all kind key [] = All (λ c. is_below kind key c ≡ false) all
IsFloor all kind key (row ∷ []) = (c : Entry) × Contains all c × (is_below kind key c ≡ true) × (row ≡ shown c) × All (λ d. is_below kind key d ≡ true → is_up_to d.key c.key ≡ true) all
IsFloor all kind key (row ∷ more ∷ rest) = ⊥

-- the cell is the one of the kind and the key
abbrev pub is_at : ℕ → List ℕ → Entry → Bool
is_at kind key c = (c.kind == kind) && is_eq (slice_cmp nat_cmp c.key key)

abbrev pub others : ℕ → List ℕ → List Entry → List Entry
others kind key = filter (λ c. not (is_at kind key c))

-- the rows' numbers rise
abbrev pub Rises : List Entry → Type 0
Rises = IsAscending (λ a b. int_cmp a.id b.id ≡ Less)

-- no two cells are of one kind and key
abbrev pub AreApart : List Entry → Type 0
AreApart = IsAscending (λ a b. is_at a.kind a.key b ≡ false)

-- the value of the cell of this kind and key
abbrev pub look : List Entry → ℕ → List ℕ → Option (List ℕ)
look all kind key = option_map (λ c. c.value) (find (is_at kind key) all)

-- the database is a table of these cells
pub record Holds (db : Database) (all : List Entry) : Type 0 where
  pub schema : db.schema ≡ cells_schema
  pub rows : db.trees 0 ≡ map row_of all
  pub rises : Rises all
  pub apart : AreApart all

-- what the cells are after the change of one of them, where a new cell has some number
abbrev pub IsMade : Op → List Entry → List Entry → Type 0
IsMade op all next =
    MatchOption op.value (next ≡ others op.kind op.key.items all) (λ v. (id : ℤ) × (next ≡ others op.kind op.key.items all ++ record { id = id; kind = op.kind; key = op.key.items; value = v.items } ∷ []))

-- the same for each change in turn
abbrev pub AreMade : List Op → List Entry → List Entry → Type 0
AreMade [] all next = next ≡ all
AreMade (op ∷ ops) all next = (mid : List Entry) × IsMade op all mid × AreMade ops mid next

-- the cell is of the kind, and its key is at or above
abbrev pub is_from : ℕ → List ℕ → Entry → Bool
is_from kind key c = (c.kind == kind) && is_ge (slice_cmp nat_cmp c.key key)

-- the first cells of the kind from the key on, in the order of their keys
abbrev pub IsScan : List Entry → ℕ → List ℕ → ℕ → List Row → Type 0
IsScan all kind key limit rows = (ordered : List Entry) × IsPermutation (filter (is_from kind key) all) ordered × IsSorted (λ a b. slice_cmp nat_cmp a.key b.key) ordered × (rows ≡ map shown (take limit ordered))
