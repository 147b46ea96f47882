use Rattle.std.proofs.Common.{refl, arith, ◌∙◌, Some, None}
use Rattle.local_tables.proofs.ScanLaws.{begins_told, lists_on}
use Rattle.local_tables.proofs.scanning.altered_rows.Goals as goal

pub loop-init : goal.loop-init
loop-init g c = record {
  listed = begins_told (g.W.World.outside c.args.world.now) c.args.site (g.W.World.laws c.args.world.now).cells c.requires.site c.args.work c.args.op.now c.first_key-from.result c.new-rows.result.items c.first_key-from.ensures c.new-rows.ensures.items;
  reads = refl;
  told = refl;
  later = record { locations = refl; faults = λ site. omega arith; sink = omega arith; reads = omega arith };
}

pub returns-in-None-clause-found : goal.returns-in-None-clause-found
returns-in-None-clause-found g c =
    lists_on (g.W.World.outside c.args.world.now) c.args.site (g.W.World.laws c.args.world.now).cells c.requires.site c.args.work c.args.op.now (g.W.World.outside c.loop.world) c.loop.invariant.told c.loop.invariant.later.locations c.loop.from c.loop.rows.items _ None
    c.loop.invariant.listed (rw c.in-None.is at c.in_ok-list_piece.ensures.listed)

pub loop-preserved : goal.loop-preserved
loop-preserved g c =
    let before = c.loop.invariant.later in
    let step = c.in_ok-list_piece.ensures.later in
    record {
      listed = lists_on (g.W.World.outside c.args.world.now) c.args.site (g.W.World.laws c.args.world.now).cells c.requires.site c.args.work c.args.op.now (g.W.World.outside c.loop.world) c.loop.invariant.told before.locations c.loop.from c.loop.rows.items c.list_piece.new.rows.items (Some c.in-Some.next)
          c.loop.invariant.listed (rw c.in-Some.is at c.in_ok-list_piece.ensures.listed);
      reads = c.in_ok-list_piece.ensures.reads ∙ c.loop.invariant.reads;
      told = c.in_ok-list_piece.ensures.told ∙ c.loop.invariant.told;
      later = record {
        locations = step.locations ∙ before.locations;
        faults = λ site. let a = before.faults site in let b = step.faults site in omega (arith, a, b);
        sink = let a = before.sink in let b = step.sink in omega (arith, a, b);
        reads = let a = before.reads in let b = step.reads in omega (arith, a, b);
      };
    }
