-- Counts of faults and of global reads, kept in 64 bits: each stays at its last value.
use Rattle.std.specs.Prelude.{◌⊎◌, ℕ, ◌+◌, ◌-◌, ◌^◌, ◌≤◌, ◌<◌, min}
use Rattle.std.proofs.Common.{suc, zero}

abbrev pub last_count : ℕ
last_count = 2 ^ 64 - 1

-- one more, up to the last value
abbrev pub one_more : ℕ → ℕ
one_more n = min (n + 1) last_count

-- The count rose, or it stands at its last value, which is taken as having risen.
abbrev pub Rose : ℕ → ℕ → Type 0
Rose old new = one_more old ≤ new

-- no site's count falls
abbrev pub NeverFall : (ℕ → ℕ) → (ℕ → ℕ) → Type 0
NeverFall old new = (site : ℕ) → old site ≤ new site

-- the store count: the sum of the counts of the first so many sites, which has no last value
abbrev pub store_count : ℕ → (ℕ → ℕ) → ℕ
store_count zero faults = 0
store_count (suc n) faults = store_count n faults + faults n

-- The store count rose by at least this number, or some site's count stands at its last value, which is taken as having risen by any number.
abbrev pub StoreRose : ℕ → ℕ → (ℕ → ℕ) → (ℕ → ℕ) → Type 0
StoreRose sites by old new = ((site : ℕ) × (site < sites) × (last_count ≤ new site)) ⊎ (store_count sites old + by ≤ store_count sites new)
