use Rattle.manager_core.specs.Doings.{all_doing}
use Rattle.manager_core.proofs.LongAnswers.{going_comes, full_comes, pending_comes, tried_comes, store_comes, memory_comes}
use Rattle.manager_core.proofs.asking.begin_ready.Goals as goal

pub returns-in-Going-clause-comes : goal.returns-in-Going-clause-comes
returns-in-Going-clause-comes g c = λ known plans. going_comes c.args.session c.args.command c.requires.long known (all_doing c.args.doings.now) c.requires.rests c.live.result c.live.ensures c.args.op.now (g.W.World.outside c.args.world.now) (g.W.World.outside c.take_up.new.world) plans c.in-Going.made c.in-Going.stage c.in-Going.ensures.takes (all_doing c.put.new.self) c.put.ensures.next

pub returns-in-Full-clause-comes : goal.returns-in-Full-clause-comes
returns-in-Full-clause-comes g c = λ known plans. full_comes c.args.session c.args.command c.requires.long known (all_doing c.args.doings.now) c.requires.rests c.live.result c.live.ensures c.args.op.now (g.W.World.outside c.args.world.now) (g.W.World.outside c.take_up.new.world) plans c.answer_with.result c.answer_with.ensures.reply c.in-Full.ensures.takes

pub returns-in-Pending-clause-comes : goal.returns-in-Pending-clause-comes
returns-in-Pending-clause-comes g c = λ known plans. pending_comes c.args.session c.args.command c.requires.long known (all_doing c.args.doings.now) c.requires.rests c.live.result c.live.ensures c.args.op.now (g.W.World.outside c.args.world.now) (g.W.World.outside c.take_up.new.world) plans c.answer_with-in-Pending.result c.in-Pending.number c.answer_with-in-Pending.ensures.reply c.in-Pending.ensures.takes

pub returns-in-Tried-clause-comes : goal.returns-in-Tried-clause-comes
returns-in-Tried-clause-comes g c = λ known plans. tried_comes c.args.session c.args.command c.requires.long known (all_doing c.args.doings.now) c.requires.rests c.live.result c.live.ensures c.args.op.now (g.W.World.outside c.args.world.now) (g.W.World.outside c.take_up.new.world) plans c.args.fault c.requires.fault (c.in-Tried.ensures.cause tt) c.in-Tried.number c.in-Tried.ensures.takes

pub returns-in-Store-clause-comes : goal.returns-in-Store-clause-comes
returns-in-Store-clause-comes g c = λ known plans. store_comes c.args.session c.args.command c.requires.long known (all_doing c.args.doings.now) c.requires.rests c.live.result c.live.ensures c.args.op.now (g.W.World.outside c.args.world.now) (g.W.World.outside c.take_up.new.world) plans c.args.fault c.requires.fault (c.in-Store.ensures.cause tt) c.in-Store.ensures.takes

pub returns-in-Memory-clause-comes : goal.returns-in-Memory-clause-comes
returns-in-Memory-clause-comes g c = λ known plans. memory_comes c.args.session c.args.command c.requires.long known (all_doing c.args.doings.now) c.requires.rests c.live.result c.live.ensures c.args.op.now (g.W.World.outside c.args.world.now) (g.W.World.outside c.take_up.new.world) plans c.no_memory.result c.no_memory.ensures.reply c.in-Memory.ensures.takes

pub returns-in-Memory-clause-lines : goal.returns-in-Memory-clause-lines
returns-in-Memory-clause-lines g c = c.no_memory.ensures.lines c.args.tag
