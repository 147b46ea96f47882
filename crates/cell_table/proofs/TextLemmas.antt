-- What the texts mean under the schema.
use Rattle.std.proofs.Common.{◌≡◌, ◌⊎◌, ℕ, pos, negsuc, List, [], ◌∷◌, codes, true, false, Some, None, Ok, refl, ◌∙◌, arith}
use Rattle.sqlite.specs.declared.types.Value.TheVariants.{Null, Int}
use Rattle.sqlite.specs.Term.{lit, col, op2}
use Rattle.sqlite_sql.specs.declared.ops.BinaryOp.TheVariants.{Compare}
use Rattle.sqlite_sql.specs.declared.ops.CompareOp.TheVariants.{Eq, Le, Ge}
use Rattle.sqlite.specs.Collation.TheVariants.{Binary}
use Rattle.sqlite.specs.Query.{Query, inner, end}
use Rattle.sqlite.specs.Source.TheVariants.{Values}
use Rattle.sqlite.specs.Command.TheVariants.{Insert, InsertOr, Delete, Select, CreateTable}
use Rattle.sqlite.specs.Compile.{table_defined_by}
use Rattle.sqlite.specs.Change.{created}
use Rattle.sqlite_schema.specs.declared.command.Conflict.TheVariants.{Replace, Abort}
use Rattle.sqlite_tied.specs.Compute.{everything}
use Rattle.sqlite.specs.Listing.{understood, reads_listing}
use Rattle.std.proofs.lemmas.Fmt.{decimal_digit}
use Rattle.sqlite.proofs.Callers.{IsPlain, command_of, statement_of}
use Rattle.cell_table.specs.Cells.{cells, cells_schema, no_schema}

abbrev pub create_text : List ℕ
create_text = codes "CREATE TABLE cells (t INTEGER NOT NULL, k BLOB NOT NULL, v BLOB NOT NULL, PRIMARY KEY (t, k)) STRICT"

abbrev pub floor_text : List ℕ
floor_text = codes "SELECT k, v FROM cells WHERE t = ?1 AND k <= ?2 ORDER BY k DESC LIMIT 1"

abbrev pub scan_text : List ℕ
scan_text = codes "SELECT k, v FROM cells WHERE t = ?1 AND k >= ?2 ORDER BY k LIMIT ?3"

abbrev pub put_text : List ℕ
put_text = codes "INSERT OR REPLACE INTO cells (t, k, v) VALUES (?1, ?2, ?3)"

abbrev pub insert_text : List ℕ
insert_text = codes "INSERT INTO cells (t, k, v) VALUES (?1, ?2, ?3)"

abbrev pub delete_text : List ℕ
delete_text = codes "DELETE FROM cells WHERE t = ?1 AND k = ?2"

abbrev pub floor_query : Query
floor_query = record {
  from = inner 0 end;
  filter = op2 (Compare Eq Binary) (col 1 1) (col 0 0) ∷ op2 (Compare Le Binary) (col 1 2) (col 0 1) ∷ [];
  group = None;
  project = col 1 2 ∷ col 1 3 ∷ [];
  distinct = false;
  collations = [];
  order = (col 1 2, record { collation = Binary; descending = true }) ∷ [];
  limit = lit (Int (pos 1));
  offset = lit (Int (pos 0));
}

pub create_is : (command_of (understood no_schema create_text) ≡ CreateTable) × (statement_of create_text (understood no_schema create_text) ≡ create_text) × (table_defined_by create_text ≡ Ok cells)
unfolding understood everything
create_is = (refl, refl, refl)

pub created_is : created no_schema cells ≡ cells_schema
created_is = rw (decimal_digit 1 (omega arith)) refl

pub floor_is : (command_of (understood cells_schema floor_text) ≡ Select (record { lets = []; body = floor_query }) (codes "k" ∷ codes "v" ∷ [])) × (reads_listing cells_schema floor_text ≡ false)
unfolding understood everything
floor_is = (refl, refl)

pub insert_is : command_of (understood cells_schema insert_text) ≡ Insert 0 (Values (lit Null ∷ col 0 0 ∷ col 0 1 ∷ col 0 2 ∷ []) 4)
unfolding understood everything
insert_is = refl

pub put_is : command_of (understood cells_schema put_text) ≡ InsertOr 0 Replace (Values (lit Null ∷ col 0 0 ∷ col 0 1 ∷ col 0 2 ∷ []) 4) []
unfolding understood everything
put_is = refl

abbrev pub delete_query : Query
delete_query = record {
  from = inner 0 end;
  filter = op2 (Compare Eq Binary) (col 1 1) (col 0 0) ∷ op2 (Compare Eq Binary) (col 1 2) (col 0 1) ∷ [];
  group = None;
  project = col 1 0 ∷ [];
  distinct = false;
  collations = [];
  order = [];
  limit = lit (Int (negsuc 0));
  offset = lit (Int (pos 0));
}

pub delete_is : command_of (understood cells_schema delete_text) ≡ Delete 0 (record { lets = []; body = delete_query })
unfolding understood everything
delete_is = refl

pub floor_plain : IsPlain (understood cells_schema floor_text)
unfolding understood everything
floor_plain = (refl, refl)

pub put_plain : IsPlain (understood cells_schema put_text)
unfolding understood everything
put_plain = (refl, refl)

pub delete_plain : IsPlain (understood cells_schema delete_text)
unfolding understood everything
delete_plain = (refl, refl)

pub insert_plain : IsPlain (understood cells_schema insert_text)
unfolding understood everything
insert_plain = (refl, refl)

pub create_plain : IsPlain (understood no_schema create_text)
unfolding understood everything
create_plain = (refl, refl)

abbrev pub upsert_text : List ℕ
upsert_text = codes "INSERT INTO cells (t, k, v) VALUES (?1, ?2, ?3) ON CONFLICT (t, k) DO UPDATE SET v = excluded.v"

-- the row that is there, by its number, and that row with the new value
abbrev pub update_query : Query
update_query = record {
  from = inner 0 end;
  filter = op2 (Compare Eq Binary) (col 1 0) (col 0 3) ∷ [];
  group = None;
  project = col 1 0 ∷ col 1 0 ∷ col 1 1 ∷ col 1 2 ∷ col 0 7 ∷ [];
  distinct = false;
  collations = [];
  order = [];
  limit = lit (Int (negsuc 0));
  offset = lit (Int (pos 0));
}

pub upsert_is : command_of (understood cells_schema upsert_text) ≡ InsertOr 0 Abort (Values (lit Null ∷ col 0 0 ∷ col 0 1 ∷ col 0 2 ∷ []) 4) (record { target = Some (1 ∷ 2 ∷ []); update = Some (record { lets = []; body = update_query }) } ∷ [])
unfolding understood everything
upsert_is = refl

pub upsert_plain : IsPlain (understood cells_schema upsert_text)
unfolding understood everything
upsert_plain = (refl, refl)

abbrev pub scan_query : Query
scan_query = record {
  from = inner 0 end;
  filter = op2 (Compare Eq Binary) (col 1 1) (col 0 0) ∷ op2 (Compare Ge Binary) (col 1 2) (col 0 1) ∷ [];
  group = None;
  project = col 1 2 ∷ col 1 3 ∷ [];
  distinct = false;
  collations = [];
  order = (col 1 2, record { collation = Binary; descending = false }) ∷ [];
  limit = col 0 2;
  offset = lit (Int (pos 0));
}

pub scan_is : (command_of (understood cells_schema scan_text) ≡ Select (record { lets = []; body = scan_query }) (codes "k" ∷ codes "v" ∷ [])) × (reads_listing cells_schema scan_text ≡ false)
unfolding understood everything
scan_is = (refl, refl)

pub scan_plain : IsPlain (understood cells_schema scan_text)
unfolding understood everything
scan_plain = (refl, refl)
