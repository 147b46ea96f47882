-- What look-ups in a copy of the tables answer, told from the rows that they find.
use Rattle.std.proofs.Common.{◌≡◌, ℕ, suc, Bool, true, false, cond, List, [], ◌∷◌, ◌||◌, map, length, Option, Some, None, is_some, option_map, refl, sym, ap, ◌∙◌}
use Rattle.std.specs.Prelude.{filter}
use Rattle.std.specs.List.{list_any}
use Rattle.std.specs.FinMap as fin
use Rattle.std.specs.FinSet as set
use Rattle.std.proofs.lemmas.List.{length-map}
use Rattle.cell_world.specs.Texts.{Text}
use Rattle.cell_world.specs.Keys.{same}
use Rattle.cell_world.specs.Members.{members}
use Rattle.cell_world.specs.Stores.{Store, IsKeyed, empty_store, cell_at}
use Rattle.cell_world.specs.declared.cells.Cell.{Cell}
use Rattle.cell_world.specs.declared.cells.Cell.TheVariants as cell
use Rattle.cell_world.specs.declared.cells.CellKey.{CellKey}
use Rattle.cell_world.specs.declared.cells.CellKey.TheVariants as at
use Rattle.cell_world.specs.declared.cells.MapKind.{MapKind}
use Rattle.cell_world.specs.declared.cells.KeyType.{KeyType}
use Rattle.cell_world.specs.declared.cells.Away.{Away}
use Rattle.cell_world.specs.declared.operations.JobRow.{JobRow}
use Rattle.cell_world.proofs.KeyedLaws.{keyed_empty}
use Rattle.global_tables.specs.declared.groups.Group.{Group}
use Rattle.global_tables.specs.declared.groups.Group.TheVariants as group
use Rattle.global_tables.specs.declared.rows.MapRow.{MapRow}
use Rattle.global_tables.specs.declared.rows.ShardRow.{ShardRow}
use Rattle.global_tables.specs.declared.rows.TableRow.{TableRow}
use Rattle.global_tables.specs.declared.rows.AwayRow.{AwayRow}
use Rattle.global_tables.specs.Groups.{is_in, cells_of, tables_in}
use Rattle.global_tables.specs.Known.{Known, known_of, map_row, shard_row, table_row, away_row}
use Rattle.global_tables.proofs.KnownLaws.{map_cell, shard_cell, table_cell, away_cell, again}

-- ---- values out of cells

module _ {A : Type 0} (of : A → Cell) (rows : List A) (key : CellKey) (found : Option A) where
  -- what the search over the rows answers
  abbrev pub Answers : Type 0
  Answers = (s : Store) → IsKeyed s → (g : Group) → is_in g key ≡ true → map of rows ≡ cells_of s g → option_map of found ≡ cell_at s key

map_in : (name : Text) (found : Option MapRow) (o : Option (MapKind × KeyType)) → option_map map_cell found ≡ option_map (λ v. cell.Map name v.0 v.1) o → option_map (λ (row : MapRow). (row.kind, row.key_type)) found ≡ o
map_in name None None e = refl
map_in name None (Some v) e = cc
map_in name (Some row) None e = cc
map_in name (Some row) (Some v) e = let k : row.kind ≡ v.0 = cc in let t : row.key_type ≡ v.1 = cc in λ i. Some (k i, t i)

away_in : (location : Text) (found : Option AwayRow) (o : Option Away) → option_map away_cell found ≡ option_map (cell.SiteState location) o → option_map (λ (row : AwayRow). row.state) found ≡ o
away_in location None None e = refl
away_in location None (Some v) e = cc
away_in location (Some row) None e = cc
away_in location (Some row) (Some v) e = let s : row.state ≡ v = cc in ap Some s

job_in : (found o : Option JobRow) → option_map cell.Job found ≡ option_map cell.Job o → found ≡ o
job_in None None e = refl
job_in None (Some v) e = cc
job_in (Some row) None e = cc
job_in (Some row) (Some v) e = let is : row ≡ v = cc in ap Some is

there_in : {A : Type 0} (of : A → Cell) (found : Option A) (b : Bool) (c : Cell) → option_map of found ≡ cond b (Some c) None → is_some found ≡ b
there_in of None true c e = cc
there_in of None false c e = refl
there_in of (Some row) true c e = refl
there_in of (Some row) false c e = cc

-- ---- look-ups

module _ (known : Known) (s : Store) (is : known ≡ known_of s) where
  -- the maps are searched as those of a store that has nothing else, and so are the others: of them no law of the store is needed
  pub map_found : (rows : List MapRow) (name : Text) (found : Option MapRow) → rows ≡ known.maps → Answers map_cell rows (at.Map name) found → option_map (λ (row : MapRow). (row.kind, row.key_type)) found ≡ fin.get s.maps name
  map_found rows name found e answers = map_in name found (fin.get s.maps name)
      (answers (record empty_store { maps = s.maps }) (record { mappings = keyed_empty.mappings; log = keyed_empty.log; jobs = keyed_empty.jobs; locals = keyed_empty.locals }) group.Maps refl
      (ap (map map_cell) (e ∙ ap (λ (k : Known). k.maps) is) ∙ again map_row map_cell (fin.entries s.maps)))

  pub shard_found : (rows : List ShardRow) (name location : Text) (found : Option ShardRow) → rows ≡ known.shards → Answers shard_cell rows (at.Shard name location) found → is_some found ≡ set.contains s.shards (name, location)
  shard_found rows name location found e answers = there_in shard_cell found (set.contains s.shards (name, location)) (cell.Shard name location)
      (answers (record empty_store { shards = s.shards }) (record { mappings = keyed_empty.mappings; log = keyed_empty.log; jobs = keyed_empty.jobs; locals = keyed_empty.locals }) group.Shards refl
      (ap (map shard_cell) (e ∙ ap (λ (k : Known). k.shards) is) ∙ again shard_row shard_cell (members s.shards)))

  pub table_found : (rows : List TableRow) (name table : Text) (found : Option TableRow) → rows ≡ known.tables → Answers table_cell rows (at.Table name table) found → is_some found ≡ set.contains s.tables (name, table)
  table_found rows name table found e answers = there_in table_cell found (set.contains s.tables (name, table)) (cell.Table name table)
      (answers (record empty_store { tables = s.tables }) (record { mappings = keyed_empty.mappings; log = keyed_empty.log; jobs = keyed_empty.jobs; locals = keyed_empty.locals }) group.Tables refl
      (ap (map table_cell) (e ∙ ap (λ (k : Known). k.tables) is) ∙ again table_row table_cell (members s.tables)))

  pub away_found : (rows : List AwayRow) (location : Text) (found : Option AwayRow) → rows ≡ known.away → Answers away_cell rows (at.SiteState location) found → option_map (λ (row : AwayRow). row.state) found ≡ fin.get s.away location
  away_found rows location found e answers = away_in location found (fin.get s.away location)
      (answers (record empty_store { away = s.away }) (record { mappings = keyed_empty.mappings; log = keyed_empty.log; jobs = keyed_empty.jobs; locals = keyed_empty.locals }) group.Away refl
      (ap (map away_cell) (e ∙ ap (λ (k : Known). k.away) is) ∙ again away_row away_cell (fin.entries s.away)))

  pub job_found : IsKeyed s → (rows : List JobRow) (number : ℕ) (found : Option JobRow) → rows ≡ known.jobs → Answers cell.Job rows (at.Job number) found → found ≡ fin.get s.jobs number
  job_found keyed rows number found e answers = job_in found (fin.get s.jobs number) (answers s keyed group.Jobs refl (ap (map cell.Job) (e ∙ ap (λ (k : Known). k.jobs) is)))

  -- ---- counts

  pub maps_counted : length known.maps ≡ fin.len s.maps
  maps_counted = ap (λ (k : Known). length k.maps) is ∙ length-map (fin.entries s.maps) map_row ∙ sym (fin.len-entries s.maps)

  pub jobs_counted : length known.jobs ≡ fin.len s.jobs
  jobs_counted = ap (λ (k : Known). length k.jobs) is ∙ length-map (fin.entries s.jobs) (λ (e : ℕ × JobRow). e.1) ∙ sym (fin.len-entries s.jobs)

-- ---- rows of one map

any_shard : (name : Text) (qs : List (Text × Text)) → list_any (λ (row : ShardRow). same name row.map) (map shard_row qs) ≡ list_any (λ (q : Text × Text). same name q.0) qs
any_shard name [] = refl
any_shard name (q ∷ qs) = ap (λ b. same name q.0 || b) (any_shard name qs)

pub any_found : (known : Known) (s : Store) → known ≡ known_of s → (rows : List ShardRow) (name : Text) → rows ≡ known.shards → list_any (λ (row : ShardRow). same name row.map) rows ≡ list_any (λ (q : Text × Text). same name q.0) (members s.shards)
any_found known s is rows name e = ap (list_any (λ (row : ShardRow). same name row.map)) (e ∙ ap (λ (k : Known). k.shards) is) ∙ any_shard name (members s.shards)

tables_kept : (name : Text) (qs : List (Text × Text)) → length (filter (λ (row : TableRow). same name row.map) (map table_row qs)) ≡ length (filter (λ (q : Text × Text). same name q.0) qs)
tables_kept name [] = refl
tables_kept name (q ∷ qs) = by (same name q.0) (tables_kept name qs)
  where
    by : (b : Bool) → length (filter (λ (row : TableRow). same name row.map) (map table_row qs)) ≡ length (filter (λ (q : Text × Text). same name q.0) qs)
        → length (cond b (table_row q ∷ filter (λ (row : TableRow). same name row.map) (map table_row qs)) (filter (λ (row : TableRow). same name row.map) (map table_row qs))) ≡ length (cond b (q ∷ filter (λ (q : Text × Text). same name q.0) qs) (filter (λ (q : Text × Text). same name q.0) qs))
    by true e = ap suc e
    by false e = e

pub tables_counted : (known : Known) (s : Store) → known ≡ known_of s → (rows : List TableRow) (name : Text) → rows ≡ known.tables → length (filter (λ (row : TableRow). same name row.map) rows) ≡ length (tables_in s.tables name)
tables_counted known s is rows name e = ap (λ (rs : List TableRow). length (filter (λ (row : TableRow). same name row.map) rs)) (e ∙ ap (λ (k : Known). k.tables) is) ∙ tables_kept name (members s.tables)
