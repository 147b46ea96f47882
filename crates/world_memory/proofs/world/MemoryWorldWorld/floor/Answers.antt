use Rattle.std.proofs.Common.{sym, subst}
use Rattle.cell_world.specs.Stores.{Store, empty_store}
use Rattle.cell_world.specs.Finding.{IsFloor}
use Rattle.world_memory.specs.Kept.{store_after}
use Rattle.world_memory.proofs.Worlds.{store_is, is_store}
use Rattle.world_memory.proofs.world.MemoryWorldWorld.floor.Goals as goal

pub returns-clause-found : goal.returns-clause-found
returns-clause-found c =
    let keyed = (is_store c.args.self.now c.args.site c.requires).keyed in
    subst (λ (s : Store). IsFloor s c.args.key.now c.in_ok-found.found) (sym (store_is c.args.self.now c.args.site c.requires)) (c.in_ok-found.ensures (λ n. store_after n empty_store c.args.self.now.happened.items) c.in_ok-follow.ensures.holds keyed)
