-- What a world in memory keeps: the list of what happened, and what the stores hold after it.
use Rattle.std.specs.Prelude.{◌≡◌, ℕ, ◌≤◌, ◌==◌, List, [], ◌∷◌, length, take, Option, Some, None, if◌then◌else◌}
use Rattle.std.specs.List.{slice_get}
use Rattle.std.specs.BTreeMap.{BTreeMap, get}
use Rattle.cell_world.specs.Stores.{Store, changed, cell_at, empty_store}
use Rattle.cell_world.specs.Spelled.{AreEdits}
use Rattle.cell_world.specs.declared.cells.Cell.{Cell}
use Rattle.cell_world.specs.declared.changes.Edit.{Edit}
use Rattle.world_memory.specs.declared.contents.SiteKey.{SiteKey}
use Rattle.world_memory.specs.declared.contents.Made.{Made}
use Rattle.world_memory.specs.declared.contents.Made.TheVariants.{Committed, Tried, Wrote, Reopened}
use Rattle.world_memory.specs.contracts.contents.SiteKeyOrd.TheImpl.{ghosts}

-- the edits that an entry makes
abbrev pub all_edits : Made → List Edit
all_edits (Committed at change) = change
all_edits (Tried at change) = []
all_edits (Wrote bytes) = []
all_edits (Reopened at) = []

-- the edits that are made at a site
abbrev pub edits_at : ℕ → Made → List Edit
edits_at site (Committed at change) = if site == at.0 then change else []
edits_at site (Tried at change) = []
edits_at site (Wrote bytes) = []
edits_at site (Reopened at) = []

-- the store of a site after all this happened
abbrev pub store_after : ℕ → Store → List Made → Store
store_after site s [] = s
store_after site s (h ∷ hs) = store_after site (changed s (edits_at site h)) hs

-- The changes are changes: they put nothing but cells, and clear nothing but keys of cells.
abbrev pub IsKept : Made → Type 0
IsKept h = AreEdits (all_edits h)

-- ---- the table of cells

-- The table holds these stores, by site.
abbrev pub Holds : BTreeMap SiteKey Cell → (ℕ → Store) → Type 0
Holds cells stores = (at : SiteKey) → get ghosts.cmp cells at ≡ cell_at (stores at.site) at.key

abbrev pub edits_of : Option Made → List Edit
edits_of None = []
edits_of (Some h) = all_edits h

abbrev pub next_edits : ℕ → Option Made → List Edit
next_edits site None = []
next_edits site (Some h) = edits_at site h

-- the stores after so many entries, and so many edits of the next one
abbrev pub stores_at : List Made → ℕ → ℕ → ℕ → Store
stores_at happened done part site = changed (store_after site empty_store (take done happened)) (take part (next_edits site (slice_get happened done)))

-- The table has come so far.
pub record IsAt (happened : List Made) (cells : BTreeMap SiteKey Cell) (done part : ℕ) : Type 0 where
  pub done_within : done ≤ length happened
  pub part_within : part ≤ length (edits_of (slice_get happened done))
  pub holds : Holds cells (stores_at happened done part)
