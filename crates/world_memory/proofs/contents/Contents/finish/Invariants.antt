use Rattle.std.proofs.Common.{length, ◌-◌, ◌≡◌, ◌≤◌, ◌==◌, ℕ, [], take, if◌then◌else◌}
use Rattle.cell_world.specs.Stores.{Store, changed}
use Rattle.world_memory.specs.Kept.{Holds}
use Rattle.world_memory.proofs.contents.Contents.finish.Given as goal

abbrev pub invariant-loop-self : goal.invariant-loop-self
invariant-loop-self l =
    ((stores : ℕ → Store) → Holds l.fn.self.cells (λ n. changed (stores n) (take l.fn.self.part (if n == l.site.0 then l.edits else []))) → Holds l.self.cells (λ n. changed (stores n) (take l.self.part (if n == l.site.0 then l.edits else []))))
    × (l.self.part ≤ length l.edits) × (l.self.done ≡ l.fn.self.done)

abbrev pub decreases-loop-self : goal.decreases-loop-self
decreases-loop-self l = length l.edits - l.self.part
