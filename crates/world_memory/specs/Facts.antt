-- The facts that a world in memory keeps are propositions.
use Rattle.std.specs.Prelude.{List, IsTrue}
use Rattle.std.specs.List.{AllByRecursion, AllByRecursion-prop, IsDistinct, IsDistinct-prop}
use Rattle.cell_world.specs.Texts.{Text, is_location}
use Rattle.cell_world.specs.Keys.{same}
use Rattle.world_memory.specs.Kept.{IsKept, all_edits}
use Rattle.world_memory.specs.Propositions.{holds, change}
use Rattle.world_memory.specs.declared.contents.Made.{Made}

pub spelled_fact : (locations : List Text) → IsProp (AllByRecursion (λ location. IsTrue (is_location location)) locations)
spelled_fact = AllByRecursion-prop _ (λ location. holds (is_location location))

pub distinct_fact : (locations : List Text) → IsProp (IsDistinct same locations)
distinct_fact = IsDistinct-prop same

pub kept_fact : (happened : List Made) → IsProp (AllByRecursion IsKept happened)
kept_fact = AllByRecursion-prop IsKept (λ h. change (all_edits h))
