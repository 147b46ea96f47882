-- The plain state that the program's tables are.
use Rattle.std.specs.Prelude.{ℕ, false, ◌&&◌, List, Option, option_map, if◌then◌else◌}
use Rattle.std.specs.FinMap as map
use Rattle.std.specs.FinSet as set
use Rattle.cell_world.specs.Texts.{Text}
use Rattle.std.specs.Ordering.{nat_cmp, ordering_then}
use Rattle.std.specs.BTreeMap.{BTreeMap, get}
use Rattle.std.specs.declared.cmp.Ordering.{Ordering}
use Rattle.cell_world.specs.ByteOrder.{byte_cmp}
use Rattle.cell_world.specs.Keys.{same, contains}
use Rattle.cell_world.specs.declared.operations.Piece.{Piece}
use Rattle.cell_world.specs.Orders.{pair_cmp, row_cmp}
use Rattle.cell_world.specs.Plain.{PlainState, Connection, Connections, holds_nothing, nobody}
use Rattle.plain_tables.specs.Tables.{table, keys_in}
use Rattle.plain_tables.specs.declared.state.PlainTables.{PlainTables}
use Rattle.plain_tables.specs.declared.state.Link.{Link}

-- by session, and then by number
abbrev pub link_cmp : ℕ × ℕ → ℕ × ℕ → Ordering
link_cmp a b = ordering_then (nat_cmp a.0 b.0) (nat_cmp a.1 b.1)

abbrev pub connection : Link → Connection
connection link = record { map = link.map; key = link.key; location = link.location; live = link.live }

-- the connection after the mapping went offline: ended, if its key is one of the mapping
abbrev pub ended_link : Piece → Link → Link
ended_link piece link = if same piece.map link.map && contains piece.span link.key then record link { live = false } else link

-- a session's connection, if it has one
abbrev pub link_shown : Option Link → Option Connection
link_shown link = option_map connection link

-- by session and number
abbrev pub connections_of : BTreeMap (ℕ × ℕ) Link → Connections
connections_of links session number = link_shown (get link_cmp links (session, number))

-- No command that is built changes what a site holds that isn't attached.
abbrev pub state_of : PlainTables → PlainState
state_of p = record {
  locations = p.locations.items;
  maps = table byte_cmp p.maps;
  shards = keys_in pair_cmp p.shards;
  tables = keys_in pair_cmp p.tables;
  mappings = table pair_cmp p.mappings;
  jobs = table nat_cmp p.jobs;
  next_job = p.next_job;
  away = table byte_cmp p.away;
  rows = table row_cmp p.rows;
  held = λ location. holds_nothing;
  connections = connections_of p.links;
}

-- Nothing stands.
abbrev pub nothing_yet : List Text → PlainState
nothing_yet locations = record {
  locations = locations;
  maps = map.empty;
  shards = set.empty;
  tables = set.empty;
  mappings = map.empty;
  jobs = map.empty;
  next_job = 1;
  away = map.empty;
  rows = map.empty;
  held = λ location. holds_nothing;
  connections = nobody;
}
