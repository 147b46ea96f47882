-- The plain state, which the stores stand for, and the owner of a key.
use Rattle.std.specs.Prelude.{ℕ, Bool, true, false, ◌&&◌, List, Option, Some, None, option_and_then, if◌then◌else◌, find}
use Rattle.std.specs.FinMap as map
use Rattle.cell_world.specs.Texts.{Text}
use Rattle.cell_world.specs.Keys.{same, contains, is_among}
use Rattle.cell_world.specs.KeyForms.{is_normal}
use Rattle.cell_world.specs.Stores.{Maps, Shards, Tables, Mappings, Jobs, AwaySites, Locals, Rows}
use Rattle.cell_world.specs.declared.cells.Away.{Away}
use Rattle.cell_world.specs.declared.cells.Away.TheVariants as away
use Rattle.cell_world.specs.declared.cells.SiteState.{SiteState}
use Rattle.cell_world.specs.declared.cells.SiteState.TheVariants as site
use Rattle.cell_world.specs.declared.operations.Piece.{Piece}

-- what a site that is not attached holds
pub record Held : Type 0 where
  pub locals : Locals  -- with their marks
  pub rows : Rows  -- its row cells

abbrev pub holds_nothing : Held
holds_nothing = record { locals = map.empty; rows = map.empty }

-- a session's way to the rows under one key
pub record Connection : Type 0 where
  pub map : Text  -- the map that was named
  pub key : Text  -- the key, a normal form
  pub location : Text  -- the owner's, when it was opened
  pub live : Bool  -- false once it was ended

-- by session and number
abbrev pub Connections : Type 0
Connections = ℕ → ℕ → Option Connection

-- a new run has none
abbrev pub nobody : Connections
nobody session number = None

pub record PlainState : Type 0 where
  pub locations : List Text  -- those of the world
  pub maps : Maps  -- by name: the kind and the key type
  pub shards : Shards  -- a map and a location
  pub tables : Tables  -- a map and a table
  pub mappings : Mappings  -- by map and low key, disjoint
  pub jobs : Jobs  -- by number
  pub next_job : ℕ  -- the number that the next job gets
  pub away : AwaySites  -- the sites that are not attached
  pub rows : Rows  -- those whose owner's site is attached
  pub held : Text → Held  -- by location: what a site that is not attached holds
  pub connections : Connections  -- by session and number

abbrev pub with_connections : PlainState → Connections → PlainState
with_connections s connections = record s { connections = connections }

-- ---- sites

abbrev pub state_of : Option Away → SiteState
state_of None = site.Attached
state_of (Some away.Detached) = site.Detached
state_of (Some away.Suspect) = site.Suspect

abbrev pub is_attached : Option Away → Bool
is_attached None = true
is_attached (Some state) = false

abbrev pub site_state : PlainState → Text → SiteState
site_state s location = state_of (map.get s.away location)

-- the world knows the location
abbrev pub is_location_of : PlainState → Text → Bool
is_location_of s location = is_among s.locations location

-- ---- owners

-- the mapping is of the map, and contains the key
abbrev pub covers : Text → Text → Piece → Bool
covers name key piece = same name piece.map && contains piece.span key

-- the one mapping of the map that contains the key; none where the map doesn't stand or the key is no normal form of its key type
abbrev pub owner_in : Maps → Mappings → Text → Text → Option Piece
owner_in maps mappings name key = option_and_then (λ m. if is_normal m.1 key then find (covers name key) (map.values mappings) else None) (map.get maps name)

-- who owns the keys of each map
abbrev pub Owner : Type 0
Owner = Text → Text → Option Piece

abbrev pub owner : PlainState → Owner
owner s = owner_in s.maps s.mappings
