-- The copied lists are what the cells say.
use Rattle.std.proofs.Common.{◌≡◌, List, [], ◌∷◌, map, refl, sym, ap, ◌∙◌, subst}
use Rattle.std.specs.FinMap as fin
use Rattle.cell_world.specs.Images.{global, image_at, end_of_trail}
use Rattle.cell_world.specs.Stores.{Store}
use Rattle.cell_world.specs.Outside.{Told, TellsNothing, TellsContents, TellsTrail, IfContents}
use Rattle.cell_world.specs.declared.cells.Cell.{Cell}
use Rattle.cell_world.specs.declared.cells.Cell.TheVariants as cell
use Rattle.cell_world.specs.declared.operations.JobRow.{JobRow}
use Rattle.global_tables.specs.declared.groups.Group.{Group}
use Rattle.global_tables.specs.declared.groups.Group.TheVariants as group
use Rattle.global_tables.specs.declared.rows.MapRow.{MapRow}
use Rattle.global_tables.specs.declared.rows.ShardRow.{ShardRow}
use Rattle.global_tables.specs.declared.rows.TableRow.{TableRow}
use Rattle.global_tables.specs.declared.rows.AwayRow.{AwayRow}
use Rattle.cell_world.specs.Members.{members}
use Rattle.global_tables.specs.Groups.{cells_of}
use Rattle.global_tables.specs.Known.{known_of, map_row, shard_row, table_row, away_row}
use Rattle.global_tables.proofs.Rising.{map_back}

abbrev pub map_cell : MapRow → Cell
map_cell row = cell.Map row.name row.kind row.key_type

abbrev pub shard_cell : ShardRow → Cell
shard_cell row = cell.Shard row.map row.location

abbrev pub table_cell : TableRow → Cell
table_cell row = cell.Table row.map row.table

abbrev pub away_cell : AwayRow → Cell
away_cell row = cell.SiteState row.location row.state

module _ {A B : Type 0} (row : A → B) (of : B → Cell) where
  pub again : (xs : List A) → map of (map row xs) ≡ map (λ x. of (row x)) xs
  again [] = refl
  again (x ∷ xs) = ap (λ cs. of (row x) ∷ cs) (again xs)

map_one : (x y : MapRow) → map_cell x ≡ map_cell y → x ≡ y
map_one x y e = let n : x.name ≡ y.name = cc in let k : x.kind ≡ y.kind = cc in let t : x.key_type ≡ y.key_type = cc in λ i. record { name = n i; kind = k i; key_type = t i }

shard_one : (x y : ShardRow) → shard_cell x ≡ shard_cell y → x ≡ y
shard_one x y e = let m : x.map ≡ y.map = cc in let l : x.location ≡ y.location = cc in λ i. record { map = m i; location = l i }

table_one : (x y : TableRow) → table_cell x ≡ table_cell y → x ≡ y
table_one x y e = let m : x.map ≡ y.map = cc in let t : x.table ≡ y.table = cc in λ i. record { map = m i; table = t i }

away_one : (x y : AwayRow) → away_cell x ≡ away_cell y → x ≡ y
away_one x y e = let l : x.location ≡ y.location = cc in let s : x.state ≡ y.state = cc in λ i. record { location = l i; state = s i }

module _ (s : Store) where
  pub maps_from : (rows : List MapRow) → map map_cell rows ≡ cells_of s group.Maps → rows ≡ map map_row (fin.entries s.maps)
  maps_from rows e = map_back map_cell map_one rows (map map_row (fin.entries s.maps)) (e ∙ sym (again map_row map_cell (fin.entries s.maps)))

  pub shards_from : (rows : List ShardRow) → map shard_cell rows ≡ cells_of s group.Shards → rows ≡ map shard_row (members s.shards)
  shards_from rows e = map_back shard_cell shard_one rows (map shard_row (members s.shards)) (e ∙ sym (again shard_row shard_cell (members s.shards)))

  pub tables_from : (rows : List TableRow) → map table_cell rows ≡ cells_of s group.Tables → rows ≡ map table_row (members s.tables)
  tables_from rows e = map_back table_cell table_one rows (map table_row (members s.tables)) (e ∙ sym (again table_row table_cell (members s.tables)))

  pub away_from : (rows : List AwayRow) → map away_cell rows ≡ cells_of s group.Away → rows ≡ map away_row (fin.entries s.away)
  away_from rows e = map_back away_cell away_one rows (map away_row (fin.entries s.away)) (e ∙ sym (again away_row away_cell (fin.entries s.away)))

  pub jobs_from : (rows : List JobRow) → map cell.Job rows ≡ cells_of s group.Jobs → rows ≡ fin.values s.jobs
  jobs_from rows e = map_back cell.Job (λ x y e. cc) rows (fin.values s.jobs) e

  known_from : (maps : List MapRow) (shards : List ShardRow) (tables : List TableRow) (away : List AwayRow) (jobs : List JobRow)
      → map map_cell maps ≡ cells_of s group.Maps → map shard_cell shards ≡ cells_of s group.Shards → map table_cell tables ≡ cells_of s group.Tables → map away_cell away ≡ cells_of s group.Away → map cell.Job jobs ≡ cells_of s group.Jobs
      → record { maps = maps; shards = shards; tables = tables; away = away; jobs = jobs } ≡ known_of s
  known_from maps shards tables away jobs m h t a j = λ i. record { maps = maps_from maps m i; shards = shards_from shards h i; tables = tables_from tables t i; away = away_from away a i; jobs = jobs_from jobs j i }

-- ---- over what is told, which stays the same from read to read

abbrev Says : Told → Group → List Cell → Type 0
Says told g cells = IfContents told (λ image. cells ≡ cells_of (global image) g)

pub known_tells : (told one two three four : Told) → one ≡ told → two ≡ one → three ≡ two → four ≡ three
    → (maps : List MapRow) (shards : List ShardRow) (tables : List TableRow) (away : List AwayRow) (jobs : List JobRow)
    → Says told group.Maps (map map_cell maps) → Says one group.Shards (map shard_cell shards) → Says two group.Tables (map table_cell tables) → Says three group.Away (map away_cell away) → Says four group.Jobs (map cell.Job jobs)
    → IfContents told (λ image. record { maps = maps; shards = shards; tables = tables; away = away; jobs = jobs } ≡ known_of (global image))
known_tells told one two three four e1 e2 e3 e4 maps shards tables away jobs m h t a j =
    by told m (subst (λ x. Says x group.Shards (map shard_cell shards)) e1 h) (subst (λ x. Says x group.Tables (map table_cell tables)) (e2 ∙ e1) t)
    (subst (λ x. Says x group.Away (map away_cell away)) (e3 ∙ e2 ∙ e1) a) (subst (λ x. Says x group.Jobs (map cell.Job jobs)) (e4 ∙ e3 ∙ e2 ∙ e1) j)
  where
    by : (told : Told) → Says told group.Maps (map map_cell maps) → Says told group.Shards (map shard_cell shards) → Says told group.Tables (map table_cell tables) → Says told group.Away (map away_cell away) → Says told group.Jobs (map cell.Job jobs)
        → IfContents told (λ image. record { maps = maps; shards = shards; tables = tables; away = away; jobs = jobs } ≡ known_of (global image))
    by TellsNothing m h t a j = tt
    by (TellsContents image) m h t a j = known_from (global image) maps shards tables away jobs m h t a j
    by (TellsTrail trail) m h t a j = known_from (global (image_at trail (end_of_trail trail))) maps shards tables away jobs m h t a j
