-- Rises of the store count, one after the other.
use Rattle.std.proofs.Common.{inl, inr, ℕ, ◌+◌, ◌≤◌, length, subst, arith}
use Rattle.cell_world.specs.Counts.{StoreRose}
use Rattle.cell_world.specs.Outside.{Outside, IsLater, StoreRoseBy}

-- where it rose more than once it rose
pub rose_once : (by : ℕ) (old new : Outside) → 1 ≤ by → StoreRoseBy by old new → StoreRoseBy 1 old new
rose_once by old new some (inl last) = inl last
rose_once by old new some (inr more) = inr (omega (arith, some, more))

-- rises add up
pub rises_add : (one more : ℕ) (a b c : Outside) → IsLater a b → IsLater b c → StoreRoseBy one a b → StoreRoseBy more b c → StoreRoseBy (one + more) a c
rises_add one more a b c first later before after = by before (subst (λ ls. StoreRose (length ls + 1) more b.faults_at c.faults_at) first.locations after)
  where
    by : StoreRoseBy one a b → StoreRose (length a.locations + 1) more b.faults_at c.faults_at → StoreRoseBy (one + more) a c
    by (inl last) rose = inl (last.0, last.1, omega (arith, last.2, later.faults last.0))
    by (inr rose) (inl last) = inl last
    by (inr rose) (inr rose_more) = inr (omega (arith, rose, rose_more))
