-- Lists of entries. In a log each entry has the number of the pass that left it.
use Rattle.std.specs.Prelude.{◌≡◌, ℕ, ◌==◌, cond, List, [], ◌∷◌, ◌++◌}

-- The first list begins with the second.
abbrev pub StartsWith : {E : Type 0} → List E → List E → Type 0
StartsWith {E = E} all front = (rest : List E) × (all ≡ front ++ rest)

module _ {E : Type 0} where
  -- all entries of a log
  abbrev pub entries_of : List (ℕ × E) → List E
  entries_of [] = []
  entries_of (x ∷ log) = x.1 ∷ entries_of log

  -- the entries of one pass, in their order
  abbrev pub entries_by : ℕ → List (ℕ × E) → List E
  entries_by by [] = []
  entries_by by (x ∷ log) = cond (x.0 == by) (x.1 ∷ entries_by by log) (entries_by by log)

  -- these entries, all left by one pass
  abbrev pub tagged : ℕ → List E → List (ℕ × E)
  tagged by [] = []
  tagged by (x ∷ xs) = (by, x) ∷ tagged by xs
