use Rattle.std.proofs.Common.{◌≡◌, sym, ◌∙◌, refl, None}
use Rattle.world_memory.specs.Faults.{reopen_by}
use Rattle.world_memory.specs.Memory.{outside_of}
use Rattle.world_memory.specs.Told.{trail_from}
use Rattle.world_memory.proofs.Now.{has_reopened}
use Rattle.world_memory.proofs.Planned.{not_named, reopened}
use Rattle.world_memory.proofs.Worlds.{law_of}
use Rattle.world_memory.proofs.world.MemoryWorldWorld.reopen.Goals as goal
use Rattle.world_memory.proofs.world.MemoryWorldWorld.reopen.Goals.{In_ok-keep}

kept : (c : In_ok-keep) → outside_of c.keep.new.self ≡ reopen_by (outside_of c.args.self.now) c.args.site None
kept c =
    let w = c.args.self.now in
    c.in_ok-keep.ensures.ok ∙ has_reopened w.locations.items w.happened.items w.failed.items w.start w.sink w.reads w.within c.args.site c.requires

pub returns-clause-plan : goal.returns-clause-plan
returns-clause-plan c = (sym c.called-named.ensures.says ∙ not_named c.called-named.result c.if-is_some.ensures, kept c)

pub returns-clause-reopened : goal.returns-clause-reopened
returns-clause-reopened c =
    let w = c.args.self.now in
    reopened (outside_of w) (outside_of c.keep.new.self) (trail_from w.locations.items w.happened.items w.start) c.args.site refl c.requires (law_of w) (kept c)
