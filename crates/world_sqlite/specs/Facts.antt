-- The facts that a world over `sqlite` keeps are propositions, and with them it keeps the laws of worlds.
use Rattle.std.specs.Prelude.{◌≡◌, ℕ, ◌≤◌, zero, suc, Bool, true, false, List, [], ◌∷◌, length, IsTrue, refl, if◌then◌else◌}
use Rattle.std.specs.List.{AllByRecursion, AllByRecursion-prop, IsDistinct, IsDistinct-prop}
use Rattle.std.proofs.Common.{zero-le}
use Rattle.std.proofs.Math.Bool.{Bool-set}
use Rattle.cell_world.specs.Texts.{Text, is_location}
use Rattle.cell_world.specs.Keys.{same}
use Rattle.cell_world.specs.Counts.{last_count}
use Rattle.cell_world.specs.Images.{Global, Shard, IsImage}
use Rattle.cell_world.specs.Outside.{IsWorld, IsOver, TellsCells}
use Rattle.cell_world.specs.Stores.{Store, IsStore}
use Rattle.cell_world.proofs.KeyedLaws.{store_empty}
use Rattle.cell_world.specs.declared.limits.TheConstants.{MOST_LOCATIONS}
use Rattle.world_sqlite.specs.Counted.{count_of, stores_of, shard_in, image_of, told_by, tells}

pub spelled_fact : (locations : List Text) → IsProp (AllByRecursion (λ location. IsTrue (is_location location)) locations)
spelled_fact = AllByRecursion-prop _ (λ location. Bool-set (is_location location) _)

pub distinct_fact : (locations : List Text) → IsProp (IsDistinct same locations)
distinct_fact = IsDistinct-prop same

-- each count of a site is kept in 64 bits
pub count_within : {A : Type 0} (faults : A → ℕ) → ((a : A) → faults a ≤ last_count) → (sites : List A) (n : ℕ) → count_of faults sites n ≤ last_count
count_within faults within [] n = zero-le
count_within faults within (a ∷ rest) zero = within a
count_within faults within (a ∷ rest) (suc n) = count_within faults within rest n

-- each site's cells are a store
pub stores_within : {A : Type 0} (store : A → Store) → ((a : A) → IsStore (store a)) → (sites : List A) (n : ℕ) → IsStore (stores_of store sites n)
stores_within store within [] n = store_empty
stores_within store within (a ∷ rest) zero = within a
stores_within store within (a ∷ rest) (suc n) = stores_within store within rest n

chosen : (b : Bool) (s t : Store) → IsStore s → IsStore t → IsStore (if b then s else t)
chosen true s t f g = f
chosen false s t f g = g

shard_within : (locations : List Text) (stores : ℕ → Store) → ((n : ℕ) → IsStore (stores n)) → (location : Text) → IsStore (shard_in locations stores location)
shard_within [] stores within location = store_empty
shard_within (l ∷ ls) stores within location = chosen (same l location) (stores 0) (shard_in ls (λ n. stores (suc n)) location) (within 0) (shard_within ls (λ n. stores (suc n)) (λ n. within (suc n)) location)

image_within : (locations : List Text) (stores : ℕ → Store) → ((n : ℕ) → IsStore (stores n)) → IsImage (image_of locations stores)
image_within locations stores within Global = within 0
image_within locations stores within (Shard location) = shard_within locations (λ n. stores (suc n)) (λ n. within (suc n)) location

over_told : (told : Bool) (locations : List Text) (stores : ℕ → Store) → IsOver locations (told_by told locations stores)
over_told true locations stores = refl
over_told false locations stores = tt

cells_told : (told : Bool) (locations : List Text) (stores : ℕ → Store) → (told ≡ true → (n : ℕ) → IsStore (stores n)) → TellsCells (told_by told locations stores)
cells_told true locations stores within = image_within locations stores (within refl)
cells_told false locations stores within = tt

pub is_world : (told : Bool) (locations : List Text) (stores : ℕ → Store) (faults : ℕ → ℕ) (sink reads : ℕ) → AllByRecursion (λ location. IsTrue (is_location location)) locations → IsDistinct same locations → length locations ≤ MOST_LOCATIONS
    → (told ≡ true → (n : ℕ) → IsStore (stores n)) → ((n : ℕ) → faults n ≤ last_count) → sink ≤ last_count → reads ≤ last_count → IsWorld (tells locations (told_by told locations stores) faults sink reads)
is_world told locations stores faults sink reads spelled distinct few within counted sunk read = record {
  spelled = spelled;
  distinct = distinct;
  few = few;
  faults = counted;
  sink = sunk;
  reads = read;
  over = over_told told locations stores;
  cells = cells_told told locations stores within;
}
