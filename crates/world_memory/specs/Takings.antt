-- Takings that are to fail, by a list of their numbers.
use Rattle.std.specs.Prelude.{◌≡◌, ℕ, ◌==◌, Bool, true, false, List, Option, Some, None, Result, Ok, Err}
use Rattle.std.specs.List.{list_any}
use Rattle.cell_world.specs.Counts.{one_more}
use Rattle.cell_world.specs.declared.outside.SourceError.{SourceError}
use Rattle.cell_world.specs.declared.outside.SourceError.TheVariants.{Failed, Memory}

pub record Takings : Type 0 where
  pub failing : Option (List ℕ)  -- the numbers of those that are to fail, where a list was given
  pub made : ℕ  -- how often taking was tried since then

abbrev pub is_among : List ℕ → ℕ → Bool
is_among numbers number = list_any (λ n. n == number) numbers

abbrev pub is_in : Option (List ℕ) → ℕ → Bool
is_in None number = false
is_in (Some numbers) number = is_among numbers number

-- the next taking is to fail
abbrev pub is_next_listed : Takings → Bool
is_next_listed t = is_in t.failing (one_more t.made)

-- it is made
abbrev pub one_taking : Takings → Takings
one_taking t = record t { made = one_more t.made }

-- A taking fails exactly where it is listed, and then the count of faults rises by one; it never wants memory.
abbrev pub TakesByList : Result ℕ SourceError → Bool → ℕ → ℕ → Type 0
TakesByList (Ok count) listed old new = (listed ≡ false) × (new ≡ old)
TakesByList (Err Failed) listed old new = (listed ≡ true) × (new ≡ one_more old)
TakesByList (Err Memory) listed old new = ⊥
