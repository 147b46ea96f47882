use Rattle.std.proofs.Common.{sym, subst}
use Rattle.std.specs.Prelude.{IsTrue}
use Rattle.cell_world.specs.Spelled.{is_spelled}
use Rattle.cell_world.specs.declared.cells.Cell.TheVariants as cell
use Rattle.cell_world.specs.declared.operations.Op.{Op}
use Rattle.map_ops.proofs.AddPlans.{add_spelled, planned_new, refused_new}
use Rattle.map_ops.proofs.new_mappings.plan_new.Goals as goal

pub returns-in-Ok-Some-clause-plans : goal.returns-in-Ok-Some-clause-plans
returns-in-Ok-Some-clause-plans g c =
    refused_new _ c.args.known.now c.args.name c.args.span.now c.args.at c.in-Ok-Some.field-0 c.in-Ok-Some.refusal c.in-Ok-Some.field-0-is c.in-Ok-Some.ensures.refuses

pub returns-in-Ok-None-clause-plans : goal.returns-in-Ok-None-clause-plans
returns-in-Ok-None-clause-plans g c =
    planned_new _ c.args.known.now c.args.name c.args.span.now c.args.at c.in-Ok-None.field-0 c.in-Ok-None.field-0-is c.add_op.result c.add_op.ensures c.in-Ok-None.ensures.refuses

pub returns-in-Ok-None-clause-long : goal.returns-in-Ok-None-clause-long
returns-in-Ok-None-clause-long g c = subst (λ (op : Op). IsTrue (is_spelled (cell.Log op))) (sym c.add_op.ensures) (add_spelled c.args.name c.args.span.now c.args.at)
