use Rattle.std.proofs.Common.{sym, subst}
use Rattle.cell_world.specs.Stores.{Store, empty_store}
use Rattle.cell_world.specs.Finding.{IsNextKey}
use Rattle.world_memory.specs.Kept.{store_after}
use Rattle.world_memory.proofs.Worlds.{store_is, is_store}
use Rattle.world_memory.proofs.world.MemoryWorldWorld.next_key.Goals as goal

pub returns-clause-found : goal.returns-clause-found
returns-clause-found c =
    subst (λ (s : Store). IsNextKey s.rows c.args.map.now c.args.from.now c.args.past c.next_key.result) (sym (store_is c.args.self.now c.args.site c.requires)) (c.next_key.ensures (λ n. store_after n empty_store c.args.self.now.happened.items) c.in_ok-follow.ensures.holds (is_store c.args.self.now c.args.site c.requires))
