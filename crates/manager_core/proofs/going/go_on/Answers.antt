use Rattle.std.proofs.Common.{refl}
use Rattle.op_steps.specs.Stages.{name_of}
use Rattle.manager_core.specs.Doings.{all_doing}
use Rattle.manager_core.proofs.GoingLaws.{done_committed, goes_done, goes_faulty, goes_short, goes_to}
use Rattle.manager_core.proofs.going.go_on.Goals as goal

pub put-requires-in-Done-clause-proper : goal.put-requires-in-Done-clause-proper
put-requires-in-Done-clause-proper g c = done_committed c.args.command c.args.op (name_of c.args.stage) c.in-Done.next (g.W.World.outside c.args.world.now) (g.W.World.outside c.move_on.new.world) c.requires.long c.in-Done.ensures.moves

pub returns-in-On-clause-comes : goal.returns-in-On-clause-comes
returns-in-On-clause-comes g c = goes_to c.args.session c.args.command c.args.op (name_of c.args.stage) c.requires.long (g.W.World.outside c.args.world.now) (g.W.World.outside c.move_on.new.world) c.in-On.next (all_doing c.args.doings.now) (all_doing c.put.new.self)
    c.in-On.ensures.onward c.in-On.ensures.moves c.in-On.ensures.once c.put.ensures.next

pub returns-in-Done-clause-comes : goal.returns-in-Done-clause-comes
returns-in-Done-clause-comes g c = goes_done c.args.session c.args.command c.args.op (name_of c.args.stage) c.requires.long (g.W.World.outside c.args.world.now) (g.W.World.outside c.move_on.new.world) _ refl c.in-Done.next (all_doing c.args.doings.now) (all_doing c.put-in-Done.new.self)
    c.in-Done.ensures.moves c.in-Done.ensures.once c.put-in-Done.ensures.next

pub returns-in-Store-clause-comes : goal.returns-in-Store-clause-comes
returns-in-Store-clause-comes g c = goes_faulty c.args.session c.args.command c.args.op (name_of c.args.stage) c.requires.long (g.W.World.outside c.args.world.now) (g.W.World.outside c.move_on.new.world) _ refl (all_doing c.args.doings.now)
    c.in-Store.ensures.moves c.in-Store.ensures.once (c.in-Store.ensures.cause refl)

pub returns-in-Memory-clause-comes : goal.returns-in-Memory-clause-comes
returns-in-Memory-clause-comes g c = goes_short c.args.session c.args.command c.args.op (name_of c.args.stage) c.requires.long (g.W.World.outside c.args.world.now) (g.W.World.outside c.move_on.new.world) c.no_memory.result c.no_memory.ensures.reply (all_doing c.args.doings.now)
    c.in-Memory.ensures.moves c.in-Memory.ensures.once

pub returns-in-Memory-clause-lines : goal.returns-in-Memory-clause-lines
returns-in-Memory-clause-lines g c = λ tag done fault. c.no_memory.ensures.lines tag
