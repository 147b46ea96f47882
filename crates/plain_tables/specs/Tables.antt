-- A table of the program as a finite map, and a set of it as a finite set.
use Rattle.std.specs.FinMap as map
use Rattle.std.specs.FinMap.{FinMap}
use Rattle.std.specs.FinSet as set
use Rattle.std.specs.FinSet.{FinSet}
use Rattle.std.specs.BTreeMap.{BTreeMap}
use Rattle.std.specs.BTreeSet.{BTreeSet}
use Rattle.std.specs.declared.cmp.Ordering.{Ordering}

-- the finite map of a table's entries
unfoldable pub table : {K X : Type 0} (R : K → K → Ordering) → BTreeMap K X → FinMap R X
table R m = map.from_entries m.entries

-- the finite set of a set's keys
unfoldable pub keys_in : {K : Type 0} (R : K → K → Ordering) → BTreeSet K → FinSet R
keys_in R s = set.from_list s.keys
