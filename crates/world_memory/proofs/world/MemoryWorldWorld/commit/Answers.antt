use Rattle.std.proofs.Common.{◌≡◌, sym, subst, ap, ◌∙◌}
use Rattle.cell_world.specs.Spelled.{AreEdits}
use Rattle.cell_world.specs.Images.{Committed, empty_image}
use Rattle.cell_world.specs.Outside.{Outside, IsSite, happens, happens_at}
use Rattle.world_memory.specs.Faults.{GoesByPlan, takes, commit_by}
use Rattle.world_memory.specs.Kept.{IsKept}
use Rattle.world_memory.specs.Told.{told_as, leaves}
use Rattle.world_memory.specs.Memory.{outside_of}
use Rattle.world_memory.proofs.Now.{kept_tried, has_tried}
use Rattle.world_memory.proofs.Planned.{commit_answered, commit_made, commit_cause}
use Rattle.world_memory.proofs.Worlds.{law_of}
use Rattle.world_memory.proofs.world.MemoryWorldWorld.commit.Goals as goal
use Rattle.world_memory.proofs.world.MemoryWorldWorld.commit.Goals.{After-answer}

pub keep-requires : goal.keep-requires
keep-requires c = subst IsKept (sym c.tried.ensures) (kept_tried c.args.site c.in_ok-copy.copy c.takes.result (subst AreEdits (sym c.in_ok-copy.ensures) c.known.ensures))

pub answer-requires : goal.answer-requires
answer-requires c = subst (λ (o : Outside). IsSite o c.args.site) (sym c.in_ok-keep.ensures.ok) c.requires

-- a change was tried, made or not by the plan
kept : (c : After-answer) → outside_of c.keep.new.self ≡ happens_at (outside_of c.args.self.now) c.args.site (λ place. Committed place c.args.change.now (takes c.called-named.result))
kept c =
    let w = c.args.self.now in
    let image = leaves w.locations.items (empty_image w.locations.items) w.happened.items in
    c.in_ok-keep.ensures.ok
    ∙ ap (λ e. happens (outside_of w) (told_as w.locations.items image e)) c.tried.ensures
    ∙ has_tried w.locations.items w.happened.items w.failed.items w.start w.sink w.reads w.within c.args.site c.requires c.in_ok-copy.copy c.args.change.now c.in_ok-copy.ensures c.takes.result
    ∙ ap (λ b. happens_at (outside_of w) c.args.site (λ place. Committed place c.args.change.now b)) c.takes.ensures

by_plan : (c : After-answer) → GoesByPlan c.answer.result c.called-named.result (commit_by (outside_of c.args.self.now) c.args.site c.args.change.now) (outside_of c.args.self.now) (outside_of c.answer.new.self)
by_plan c = commit_answered c.called-named.result (outside_of c.args.self.now) (outside_of c.keep.new.self) (outside_of c.answer.new.self) c.args.site c.args.change.now (kept c) c.answer.result c.answer.ensures.plan c.answer.ensures.never

pub returns-clause-plan : goal.returns-clause-plan
returns-clause-plan c = subst (λ named. GoesByPlan c.answer.result named (commit_by (outside_of c.args.self.now) c.args.site c.args.change.now) (outside_of c.args.self.now) (outside_of c.answer.new.self)) c.called-named.ensures.says (by_plan c)

pub returns-clause-made : goal.returns-clause-made
returns-clause-made c = commit_made c.called-named.result (outside_of c.args.self.now) (outside_of c.answer.new.self) c.args.site c.args.change.now c.answer.result (law_of c.args.self.now).faults (by_plan c)

pub returns-clause-cause : goal.returns-clause-cause
returns-clause-cause c = commit_cause c.called-named.result (outside_of c.args.self.now) (outside_of c.answer.new.self) c.args.site c.args.change.now c.answer.result (by_plan c)
