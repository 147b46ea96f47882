use Rattle.std.proofs.Common.{refl, arith, ◌∙◌}
use Rattle.local_tables.proofs.SearchTells.{search_at, search_none, search_spent, step_at, step_none, step_spent}
use Rattle.local_tables.proofs.resolving.resolved_at.Goals as goal

pub loop-init : goal.loop-init
loop-init g c = record {
  at = search_at (g.W.World.outside c.args.world.now) c.args.site (g.W.World.laws c.args.world.now).cells c.requires.site c.args.map.now c.args.key.now;
  none = search_none (g.W.World.outside c.args.world.now) c.args.site (g.W.World.laws c.args.world.now).cells c.requires.site c.args.map.now c.args.key.now;
  spent = search_spent (g.W.World.outside c.args.world.now) c.args.site (g.W.World.laws c.args.world.now).cells c.requires.site c.args.map.now c.args.key.now;
  told = refl;
  later = record { locations = refl; faults = λ site. omega arith; sink = omega arith; reads = omega arith };
}

pub loop-preserved : goal.loop-preserved
loop-preserved g c =
    let before = c.loop.invariant.later in
    let step = c.in_ok-status.ensures.later in
    record {
      at = step_at (g.W.World.outside c.args.world.now) c.args.site (g.W.World.laws c.args.world.now).cells c.requires.site c.args.map.now c.args.key.now (g.W.World.outside c.loop.world) c.loop.invariant.told before.locations c.loop.from c.loop.invariant.at
          c.in-Goes.next (rw c.in-Goes.is at c.in_ok-status.ensures.stays);
      none = step_none (g.W.World.outside c.args.world.now) c.args.site (g.W.World.laws c.args.world.now).cells c.requires.site c.args.map.now c.args.key.now (g.W.World.outside c.loop.world) c.loop.invariant.told before.locations c.loop.from c.loop.invariant.at
          c.in-Goes.next c.loop.invariant.none (rw c.in-Goes.is at c.in_ok-status.ensures.looked);
      spent = step_spent (g.W.World.outside c.args.world.now) c.args.site (g.W.World.laws c.args.world.now).cells c.requires.site c.args.map.now c.args.key.now (g.W.World.outside c.loop.world) c.loop.invariant.told before.locations c.loop.from c.loop.invariant.at
          (g.W.World.outside c.step_down.new.world).global_reads c.in-Goes.next c.loop.invariant.spent (rw c.in-Goes.is at c.in_ok-status.ensures.reads);
      told = c.in_ok-status.ensures.told ∙ c.loop.invariant.told;
      later = record {
        locations = step.locations ∙ before.locations;
        faults = λ site. let a = before.faults site in let b = step.faults site in omega (arith, a, b);
        sink = let a = before.sink in let b = step.sink in omega (arith, a, b);
        reads = let a = before.reads in let b = step.reads in omega (arith, a, b);
      };
    }
