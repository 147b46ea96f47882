use Rattle.std.proofs.Common.{sym, ap, ◌∙◌}
use Rattle.cell_world.specs.Stores.{Store, cell_at, empty_store}
use Rattle.world_memory.specs.Kept.{store_after}
use Rattle.world_memory.proofs.Worlds.{store_is}
use Rattle.world_memory.proofs.world.MemoryWorldWorld.read.Goals as goal

pub returns-clause-found : goal.returns-clause-found
returns-clause-found c = c.in_ok-found.ensures (λ n. store_after n empty_store c.args.self.now.happened.items) c.in_ok-follow.ensures.holds ∙ ap (λ (s : Store). cell_at s c.args.key.now) (sym (store_is c.args.self.now c.args.site c.requires))
