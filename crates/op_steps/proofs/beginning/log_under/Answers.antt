use Rattle.std.proofs.Common.{sym, subst, ap, refl}
use Rattle.std.specs.Prelude.{Err, IsTrue}
use Rattle.cell_world.specs.Images.{Global}
use Rattle.cell_world.specs.Spelled.{is_spelled}
use Rattle.cell_world.specs.declared.cells.Cell.TheVariants as cell
use Rattle.cell_world.specs.declared.operations.Op.{Op}
use Rattle.op_steps.specs.Beginning.{IsOfStore}
use Rattle.op_steps.proofs.BeginLaws.{logs_none, logs_made, logs_failed, asked_of, store_at}
use Rattle.op_steps.proofs.beginning.log_under.Goals as goal

pub log_change-requires : goal.log_change-requires
log_change-requires g c = subst (λ (o : Op). IsTrue (is_spelled (cell.Log o))) (sym c.numbered-made.ensures) c.requires

pub returns-in-Ok-commit-clause-passes : goal.returns-in-Ok-commit-clause-passes
returns-in-Ok-commit-clause-passes g c =
    logs_made c.args.op.now c.numbered-made.result c.args.next.now c.in-Ok.change (g.W.World.outside c.args.world.now) (g.W.World.outside c.commit.new.world) c.numbered-made.ensures c.in-Ok.ensures (c.in-Ok-commit.ensures.tried Global refl)

pub returns-in-Ok-clause-passes : goal.returns-in-Ok-clause-passes
returns-in-Ok-clause-passes g c =
    rw (c.fault_at.ensures) (logs_failed c.args.op.now c.numbered-made.result c.args.next.now c.in-Ok.change c.in-Err-commit.fault (g.W.World.outside c.args.world.now) (g.W.World.outside c.commit.new.world) c.numbered-made.ensures c.in-Ok.ensures (c.in-Err-commit.ensures.tried Global refl))

pub returns-in-Ok-clause-cause : goal.returns-in-Ok-clause-cause
returns-in-Ok-clause-cause g c h = c.in-Err-commit.ensures.cause (ap Err (store_at c.args.next.now.operation c.in-Err-commit.fault (subst IsOfStore c.fault_at.ensures h)))

pub returns-clause-passes : goal.returns-clause-passes
returns-clause-passes g c = logs_none c.args.op.now c.args.next.now (g.W.World.outside c.args.world.now)

pub returns-in-Ok-commit-clause-asked : goal.returns-in-Ok-commit-clause-asked
returns-in-Ok-commit-clause-asked g c = asked_of c.args.op.now c.numbered-made.result c.args.next.now.operation c.numbered-made.ensures
