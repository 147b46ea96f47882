use Rattle.std.proofs.Common.{length, ◌-◌}
use Rattle.world_memory.specs.Kept.{IsAt}
use Rattle.world_memory.proofs.contents.Contents.follow.Given as goal

abbrev pub invariant-loop-self : goal.invariant-loop-self
invariant-loop-self l = IsAt l.happened l.self.cells l.self.done l.self.part

abbrev pub decreases-loop-self : goal.decreases-loop-self
decreases-loop-self l = length l.happened - l.self.done
