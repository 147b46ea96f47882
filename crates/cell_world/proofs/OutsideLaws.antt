-- The same world later, and its counts of faults.
use Rattle.std.proofs.lemmas.Bool.{cases_lt}
use Rattle.std.proofs.Common.{◌≡◌, ⊎_elim, inl, inr, ℕ, zero, suc, length, ◌+◌, ◌≤◌, refl, ◌∙◌, subst, arith}
use Rattle.cell_world.specs.Counts.{Rose, NeverFall, store_count, last_count}
use Rattle.cell_world.specs.Outside.{Outside, IsLater, StoreRoseBy}

-- ---- later

pub later_same : (o : Outside) → IsLater o o
later_same o = record { locations = refl; faults = λ site. omega arith; sink = omega arith; reads = omega arith }

pub later_then : (a b c : Outside) → IsLater a b → IsLater b c → IsLater a c
later_then a b c ab bc = record {
  locations = bc.locations ∙ ab.locations;
  faults = λ site. omega (arith, ab.faults site, bc.faults site);
  sink = omega (arith, ab.sink, bc.sink);
  reads = omega (arith, ab.reads, bc.reads);
}

-- ---- counts

sums_never_fall : (n : ℕ) (old new : ℕ → ℕ) → NeverFall old new → store_count n old ≤ store_count n new
sums_never_fall zero old new up = omega arith
sums_never_fall (suc n) old new up = omega (arith, sums_never_fall n old new up, up n)

-- no fault more needs no rise
pub store_rose_none : (old new : Outside) → NeverFall old.faults_at new.faults_at → StoreRoseBy 0 old new
store_rose_none old new up = let sums : store_count (length old.locations + 1) old.faults_at ≤ store_count (length old.locations + 1) new.faults_at
    = sums_never_fall (length old.locations + 1) old.faults_at new.faults_at up in inr (omega (arith, sums))

-- a rise at the global store is one of the store count
first_rose : (n : ℕ) (old new : ℕ → ℕ) → NeverFall old new → old 0 + 1 ≤ new 0 → store_count (suc n) old + 1 ≤ store_count (suc n) new
first_rose zero old new up rose = omega (arith, rose)
first_rose (suc n) old new up rose = omega (arith, first_rose n old new up rose, up (suc n))

pub store_rose_one : (old new : Outside) → NeverFall old.faults_at new.faults_at → Rose (old.faults_at 0) (new.faults_at 0) → StoreRoseBy 1 old new
store_rose_one old new up rose = ⊎_elim
    (λ below. let e : suc (length old.locations) ≡ length old.locations + 1 = omega arith in
    inr (subst (λ k. store_count k old.faults_at + 1 ≤ store_count k new.faults_at) e (first_rose (length old.locations) old.faults_at new.faults_at up (omega (arith, rose, below)))))
    (λ last. inl (0, omega arith, last))
    (cases_lt (new.faults_at 0) last_count)
