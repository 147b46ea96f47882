use Rattle.std.proofs.Common.{◌≡◌, subst, ap, ◌∙◌}
use Rattle.cell_world.specs.Images.{Wrote}
use Rattle.cell_world.specs.Outside.{happens}
use Rattle.world_memory.specs.Faults.{GoesByPlan, front, write_by}
use Rattle.world_memory.specs.Memory.{outside_of}
use Rattle.world_memory.proofs.Planned.{write_answered, write_made, write_cause}
use Rattle.world_memory.proofs.Worlds.{law_of}
use Rattle.world_memory.proofs.world.MemoryWorldWorld.write.Goals as goal
use Rattle.world_memory.proofs.world.MemoryWorldWorld.write.Goals.{After-answer_write}

-- as many bytes were written as the plan says
kept : (c : After-answer_write) → outside_of c.keep.new.self ≡ happens (outside_of c.args.self.now) (Wrote (front c.called-named.result c.args.bytes.now))
kept c = c.in_ok-keep.ensures.ok ∙ ap (λ bytes. happens (outside_of c.args.self.now) (Wrote bytes)) (c.in_ok-copy.ensures ∙ c.front.ensures)

by_plan : (c : After-answer_write) → GoesByPlan c.answer_write.result c.called-named.result (write_by (outside_of c.args.self.now) c.args.bytes.now) (outside_of c.args.self.now) (outside_of c.answer_write.new.self)
by_plan c = write_answered c.called-named.result (outside_of c.args.self.now) (outside_of c.keep.new.self) (outside_of c.answer_write.new.self) c.args.bytes.now (kept c) c.answer_write.result c.answer_write.ensures.plan c.answer_write.ensures.never

pub returns-clause-plan : goal.returns-clause-plan
returns-clause-plan c = subst (λ named. GoesByPlan c.answer_write.result named (write_by (outside_of c.args.self.now) c.args.bytes.now) (outside_of c.args.self.now) (outside_of c.answer_write.new.self)) c.called-named.ensures.says (by_plan c)

pub returns-clause-written : goal.returns-clause-written
returns-clause-written c = write_made c.called-named.result (outside_of c.args.self.now) (outside_of c.answer_write.new.self) c.args.bytes.now c.answer_write.result (law_of c.args.self.now).sink (by_plan c)

pub returns-clause-cause : goal.returns-clause-cause
returns-clause-cause c = write_cause c.called-named.result (outside_of c.args.self.now) (outside_of c.answer_write.new.self) c.args.bytes.now c.answer_write.result (by_plan c)
