use Rattle.op_steps.specs.Stages.{name_of}
use Rattle.manager_core.specs.Doings.{all_doing}
use Rattle.manager_core.proofs.GoingLaws.{goes_nowhere, goes_on}
use Rattle.manager_core.proofs.going.go_command.Goals as goal

pub returns-in-Ok-clause-comes : goal.returns-in-Ok-clause-comes
returns-in-Ok-clause-comes g c = goes_on c.args.session c.in-Operating.command c.in-Operating.op (name_of c.in-Operating.stage) c.go_on.result (all_doing c.args.doings.now) (all_doing c.take.new.self) (all_doing c.go_on.new.doings)
    (g.W.World.outside c.args.world.now) (g.W.World.outside c.go_on.new.world) c.in-Operating.ensures.was c.in-Operating.ensures.next c.go_on.ensures.comes

pub returns-in-Err-clause-comes : goal.returns-in-Err-clause-comes
returns-in-Err-clause-comes g c = goes_on c.args.session c.in-Operating.command c.in-Operating.op (name_of c.in-Operating.stage) _ (all_doing c.args.doings.now) (all_doing c.take.new.self) (all_doing c.take.new.self)
    (g.W.World.outside c.args.world.now) (g.W.World.outside c.args.world.now) c.in-Operating.ensures.was c.in-Operating.ensures.next
    (goes_nowhere c.args.session c.in-Operating.command c.in-Operating.op (name_of c.in-Operating.stage) c.in-Operating.ensures.proper.0 c.in-Operating.ensures.proper.1 (g.W.World.outside c.args.world.now) c.no_memory.result c.no_memory.ensures.reply (all_doing c.take.new.self))

pub returns-in-Err-clause-lines : goal.returns-in-Err-clause-lines
returns-in-Err-clause-lines g c = c.no_memory.ensures.lines c.args.tag
