-- What is known of the global store by a copy: five lists.
use Rattle.std.specs.Prelude.{List, map}
use Rattle.std.specs.FinMap as fin
use Rattle.cell_world.specs.Texts.{Text}
use Rattle.cell_world.specs.Stores.{Store}
use Rattle.cell_world.specs.declared.cells.MapKind.{MapKind}
use Rattle.cell_world.specs.declared.cells.KeyType.{KeyType}
use Rattle.cell_world.specs.declared.cells.Away.{Away}
use Rattle.cell_world.specs.declared.operations.JobRow.{JobRow}
use Rattle.global_tables.specs.declared.rows.MapRow.{MapRow}
use Rattle.global_tables.specs.declared.rows.ShardRow.{ShardRow}
use Rattle.global_tables.specs.declared.rows.TableRow.{TableRow}
use Rattle.global_tables.specs.declared.rows.AwayRow.{AwayRow}
use Rattle.cell_world.specs.Members.{members}

pub record Known : Type 0 where
  pub maps : List MapRow  -- by name
  pub shards : List ShardRow  -- by map and location
  pub tables : List TableRow  -- by map and table
  pub away : List AwayRow  -- the sites that are not attached, by location
  pub jobs : List JobRow  -- by number

abbrev pub map_row : Text × (MapKind × KeyType) → MapRow
map_row m = record { name = m.0; kind = m.1.0; key_type = m.1.1 }

abbrev pub shard_row : Text × Text → ShardRow
shard_row shard = record { map = shard.0; location = shard.1 }

abbrev pub table_row : Text × Text → TableRow
table_row table = record { map = table.0; table = table.1 }

abbrev pub away_row : Text × Away → AwayRow
away_row site = record { location = site.0; state = site.1 }

-- what the global cells say
abbrev pub known_of : Store → Known
known_of s = record {
  maps = map map_row (fin.entries s.maps);
  shards = map shard_row (members s.shards);
  tables = map table_row (members s.tables);
  away = map away_row (fin.entries s.away);
  jobs = fin.values s.jobs;
}
