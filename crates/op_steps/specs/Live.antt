-- Lists of live operations.
use Rattle.std.specs.Prelude.{◌≡◌, ◌≤◌, ◌==◌, ℕ, Bool, false, List, [], ◌∷◌, length, not, filter, take}
use Rattle.std.specs.List.{list_any}
use Rattle.op_steps.specs.declared.live.TheConstants.{MOST_LIVE}

-- the number is one of them
abbrev pub is_live : List ℕ → ℕ → Bool
is_live numbers number = list_any (λ n. n == number) numbers

-- those but this one
abbrev pub all_but : ℕ → List ℕ → List ℕ
all_but number numbers = filter (λ n. not (n == number)) numbers

-- no number stands twice
abbrev pub AreDistinct : List ℕ → Type 0
AreDistinct [] = Unit {0}
AreDistinct (n ∷ ns) = (is_live ns n ≡ false) × AreDistinct ns

-- The first so many numbers of an array are listed, and none of them twice.
abbrev pub IsListing : ℕ → List ℕ → Type 0
IsListing count numbers = (count ≤ MOST_LIVE) × (length numbers ≡ MOST_LIVE) × AreDistinct (take count numbers)
