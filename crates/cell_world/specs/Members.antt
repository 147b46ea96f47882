-- The members of a finite set as a list.
use Rattle.std.specs.Prelude.{List, [], ◌∷◌}
use Rattle.std.specs.FinMap as map
use Rattle.std.specs.FinSet as set
use Rattle.std.specs.declared.cmp.Ordering.{Ordering}

abbrev pub with_nothing : {K : Type 0} → List K → List (K × Unit {0})
with_nothing [] = []
with_nothing (k ∷ ks) = (k, tt) ∷ with_nothing ks

-- They stand in order, each once: they are the keys of a map with nothing at them. (Of `set.items` alone no law says in which order they stand.)
abbrev pub members : {K : Type 0} {R : K → K → Ordering} → set.FinSet R → List K
members {R = R} s = map.keys (map.from_entries {R = R} (with_nothing (set.items s)))
