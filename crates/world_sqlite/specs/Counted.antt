-- What a world over `sqlite` tells: its counts, and of some kinds of store the cells.
use Rattle.std.specs.Prelude.{◌≡◌, ℕ, suc, Bool, true, false, List, [], ◌∷◌, All, option_map, unwrap_or, slice_get, if◌then◌else◌}
use Rattle.cell_world.specs.Texts.{Text}
use Rattle.cell_world.specs.Keys.{same}
use Rattle.cell_world.specs.Images.{Image, Place, Global, Shard}
use Rattle.cell_world.specs.Outside.{Outside, Told, TellsNothing, TellsContents}
use Rattle.cell_world.specs.Stores.{Store, empty_store}

-- the count of the n-th site
abbrev pub count_of : {A : Type 0} → (A → ℕ) → List A → ℕ → ℕ
count_of faults sites n = unwrap_or (option_map faults (slice_get sites n)) 0

-- the store of the n-th site
abbrev pub stores_of : {A : Type 0} → (A → Store) → List A → ℕ → Store
stores_of store sites n = unwrap_or (option_map store (slice_get sites n)) empty_store

-- the store of a location, where those of the locations are numbered in their order
abbrev pub shard_in : List Text → (ℕ → Store) → Text → Store
shard_in [] stores location = empty_store
shard_in (l ∷ ls) stores location = if same l location then stores 0 else shard_in ls (λ n. stores (suc n)) location

-- the store of a place: the first is the global one, and then come those of the locations
abbrev pub store_for : List Text → (ℕ → Store) → Place → Store
store_for locations stores Global = stores 0
store_for locations stores (Shard location) = shard_in locations (λ n. stores (suc n)) location

abbrev pub image_of : List Text → (ℕ → Store) → Image
image_of locations stores = record { locations = locations; at = store_for locations stores }

-- the cells, if the kind of store tells them
abbrev pub told_by : Bool → List Text → (ℕ → Store) → Told
told_by true locations stores = TellsContents (image_of locations stores)
told_by false locations stores = TellsNothing

-- a world that tells this, and its counts
abbrev pub tells : List Text → Told → (ℕ → ℕ) → ℕ → ℕ → Outside
tells locations told faults sink reads = record { locations = locations; told = told; faults_at = faults; sink_faults = sink; global_reads = reads }

-- no call at any of the sites has failed
abbrev pub AreFresh : {A : Type 0} → List A → (A → ℕ) → Type 0
AreFresh sites faults = All (λ s. faults s ≡ 0) sites

-- none of the sites has a cell
abbrev pub AreEmpty : {A : Type 0} → List A → (A → Store) → Type 0
AreEmpty sites store = All (λ s. store s ≡ empty_store) sites
