-- The connections of sessions, as a core keeps them, and what holds of them between two events.
use Rattle.std.proofs.Common.{suc, zero}
use Rattle.std.specs.Prelude.{◌≡◌, ℕ, ◌==◌, Bool, true, false, ◌&&◌, if◌then◌else◌, List, Option, Some, None, option_map, option_and_then, slice_get}
use Rattle.cell_world.specs.Texts.{Text}
use Rattle.cell_world.specs.Keys.{same, contains}
use Rattle.cell_world.specs.Plain.{PlainState, Connection, Connections, owner, site_state}
use Rattle.cell_world.specs.declared.cells.Status.TheVariants.{Online}
use Rattle.cell_world.specs.declared.cells.SiteState.TheVariants as site
use Rattle.cell_world.specs.declared.operations.Piece.{Piece}
use Rattle.cell_world.specs.declared.spans.Span.{Span}
use Rattle.connections.specs.declared.links.Link.{Link}

abbrev pub connection : Link → Connection
connection link = record { map = link.map; key = link.key; location = link.location; live = link.live }

-- ---- the table of one session: its places, by number from 1

-- the connection of a number, if there is one; of 0 and past the last place there is none
abbrev pub connection_at : List (Option Link) → ℕ → Option Connection
connection_at places zero = None
connection_at places (suc number) = option_and_then (option_map connection) (slice_get places number)

-- one session's connections, by number
abbrev pub Numbered : Type 0
Numbered = ℕ → Option Connection

-- the connection of this number is this one, or none
abbrev pub with_number : Numbered → ℕ → Option Connection → Numbered
with_number table number c n = if n == number then c else table n

-- the connection, ended if the test finds it
abbrev pub ended_if : (Connection → Bool) → Option Connection → Option Connection
ended_if test connection = option_map (λ c. if test c then record c { live = false } else c) connection

-- it is to a key of the span in the map
abbrev pub is_under : Text → Span → Connection → Bool
is_under name span c = same name c.map && contains span c.key

-- it is to the location
abbrev pub is_to : Text → Connection → Bool
is_to location c = same c.location location

-- ---- the tables of all sessions, by session from 1

abbrev pub of_sessions : List (List (Option Link)) → Connections
of_sessions tables zero number = None
of_sessions tables (suc session) number = option_and_then (λ places. connection_at places number) (slice_get tables session)

-- this session's connections are those of the table
abbrev pub with_table : Connections → ℕ → List (Option Link) → Connections
with_table connections session places i n = if i == session then connection_at places n else connections i n

-- ---- what a live connection has

-- the owner of its key is at its location, online, and the site is attached
pub record IsOwned (s : PlainState) (c : Connection) : Type 0 where
  pub piece : Piece
  pub owned : owner s c.map c.key ≡ Some piece
  pub here : piece.location ≡ c.location
  pub online : piece.status ≡ Online
  pub attached : site_state s c.location ≡ site.Attached

-- of each session's connections each that is live
abbrev pub AreOwned : PlainState → Connections → Type 0
AreOwned s connections = (session number : ℕ) (c : Connection) → connections session number ≡ Some c → c.live ≡ true → IsOwned s c
