use Rattle.std.proofs.Common.{ap}
use Rattle.std.specs.Result.{is_ok}
use Rattle.op_steps.specs.Stages.{name_of}
use Rattle.manager_core.proofs.OperationCalls.{settle_becomes, settle_settles, settle_tidies, settle_waits}
use Rattle.manager_core.proofs.SettleLaws.{from_stage}
use Rattle.manager_core.proofs.settling.settle.Goals as goal

pub returns-in-Ok-clause-becomes : goal.returns-in-Ok-clause-becomes
returns-in-Ok-clause-becomes g c = λ before next session is then. settle_becomes (g.W.World.outside c.args.world.now) (g.W.World.outside c.advance.new.world) c.args.left.op c.advance.result (from_stage c.args.left.op (name_of c.args.left.stage) c.advance.result (g.W.World.outside c.args.world.now) (g.W.World.outside c.advance.new.world) c.requires c.advance.ensures.passes) before session is next then

pub returns-in-Ok-clause-waits : goal.returns-in-Ok-clause-waits
returns-in-Ok-clause-waits g c = λ before next session is then. settle_waits (g.W.World.outside c.args.world.now) (g.W.World.outside c.advance.new.world) c.args.left.op c.advance.result (from_stage c.args.left.op (name_of c.args.left.stage) c.advance.result (g.W.World.outside c.args.world.now) (g.W.World.outside c.advance.new.world) c.requires c.advance.ensures.passes) before session is next then

pub returns-in-Ok-clause-tidied : goal.returns-in-Ok-clause-tidied
returns-in-Ok-clause-tidied g c = λ before session is steady. settle_tidies (g.W.World.outside c.args.world.now) (g.W.World.outside c.advance.new.world) c.args.left.op c.advance.result (from_stage c.args.left.op (name_of c.args.left.stage) c.advance.result (g.W.World.outside c.args.world.now) (g.W.World.outside c.advance.new.world) c.requires c.advance.ensures.passes) before session is steady

pub returns-in-Ok-clause-settled : goal.returns-in-Ok-clause-settled
returns-in-Ok-clause-settled g c = λ ok before session is steady. settle_settles (g.W.World.outside c.args.world.now) (g.W.World.outside c.advance.new.world) c.args.left.op c.advance.result (from_stage c.args.left.op (name_of c.args.left.stage) c.advance.result (g.W.World.outside c.args.world.now) (g.W.World.outside c.advance.new.world) c.requires c.advance.ensures.passes) before session is (ap is_ok c.in-Ok.is) steady

pub returns-in-Err-clause-becomes : goal.returns-in-Err-clause-becomes
returns-in-Err-clause-becomes g c = λ before next session is then. settle_becomes (g.W.World.outside c.args.world.now) (g.W.World.outside c.advance.new.world) c.args.left.op c.advance.result (from_stage c.args.left.op (name_of c.args.left.stage) c.advance.result (g.W.World.outside c.args.world.now) (g.W.World.outside c.advance.new.world) c.requires c.advance.ensures.passes) before session is next then

pub returns-in-Err-clause-waits : goal.returns-in-Err-clause-waits
returns-in-Err-clause-waits g c = λ before next session is then. settle_waits (g.W.World.outside c.args.world.now) (g.W.World.outside c.advance.new.world) c.args.left.op c.advance.result (from_stage c.args.left.op (name_of c.args.left.stage) c.advance.result (g.W.World.outside c.args.world.now) (g.W.World.outside c.advance.new.world) c.requires c.advance.ensures.passes) before session is next then

pub returns-in-Err-clause-tidied : goal.returns-in-Err-clause-tidied
returns-in-Err-clause-tidied g c = λ before session is steady. settle_tidies (g.W.World.outside c.args.world.now) (g.W.World.outside c.advance.new.world) c.args.left.op c.advance.result (from_stage c.args.left.op (name_of c.args.left.stage) c.advance.result (g.W.World.outside c.args.world.now) (g.W.World.outside c.advance.new.world) c.requires c.advance.ensures.passes) before session is steady
