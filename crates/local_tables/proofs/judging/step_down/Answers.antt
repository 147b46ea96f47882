use Rattle.std.proofs.Common.{◌∙◌, ap}
use Rattle.cell_world.specs.Outside.{Outside}
use Rattle.local_tables.proofs.StepTells.{looks_none, looks_some, stays_some, reads_some, reads_stay, told_stays}
use Rattle.local_tables.proofs.judging.step_down.Goals as goal

pub returns-in-None-clause-looked : goal.returns-in-None-clause-looked
returns-in-None-clause-looked g c = looks_none (g.W.World.outside c.args.world.now) c.args.site (g.W.World.laws c.args.world.now).cells c.requires.site c.args.map.now c.args.key.now c.args.from.now c.in_ok-below.below c.in-None.is c.in_ok-below.ensures.found

pub returns-in-Some-clause-stays : goal.returns-in-Some-clause-stays
returns-in-Some-clause-stays g c =
    stays_some (g.W.World.outside c.args.world.now) c.args.site (g.W.World.laws c.args.world.now).cells c.requires.site c.args.map.now c.args.key.now c.args.from.now c.in_ok-below.below c.in-Some.row c.in-Some.is c.in_ok-below.ensures.found
    _ (ap (λ (o : Outside). o.told) c.in_ok-below.ensures.same.same ∙ told_stays (g.W.World.outside c.args.world.now) c.args.site) c.judge.result c.judge.ensures.judged

pub returns-in-Some-clause-looked : goal.returns-in-Some-clause-looked
returns-in-Some-clause-looked g c =
    looks_some (g.W.World.outside c.args.world.now) c.args.site (g.W.World.laws c.args.world.now).cells c.requires.site c.args.map.now c.args.key.now c.args.from.now c.in_ok-below.below c.in-Some.row c.in-Some.is c.in_ok-below.ensures.found
    _ (ap (λ (o : Outside). o.told) c.in_ok-below.ensures.same.same ∙ told_stays (g.W.World.outside c.args.world.now) c.args.site) c.judge.result c.judge.ensures.judged

pub returns-in-Some-clause-reads : goal.returns-in-Some-clause-reads
returns-in-Some-clause-reads g c =
    reads_some (g.W.World.outside c.args.world.now) c.args.site (g.W.World.laws c.args.world.now).cells c.requires.site c.args.map.now c.args.key.now c.args.from.now c.in_ok-below.below c.in-Some.row c.in-Some.is c.in_ok-below.ensures.found
    _ (ap (λ (o : Outside). o.told) c.in_ok-below.ensures.same.same ∙ told_stays (g.W.World.outside c.args.world.now) c.args.site)
    (g.W.World.outside c.args.world.now).global_reads _ _ (ap (λ (o : Outside). o.global_reads) c.in_ok-below.ensures.same.same ∙ reads_stay (g.W.World.outside c.args.world.now) c.args.site c.requires.shard) c.judge.ensures.reads c.judge.result c.judge.ensures.judged
