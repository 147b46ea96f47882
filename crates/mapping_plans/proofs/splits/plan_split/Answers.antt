use Rattle.std.proofs.Common.{sym, subst, Option}
use Rattle.std.specs.Prelude.{IsTrue, IfSome}
use Rattle.cell_world.specs.Spelled.{is_spelled}
use Rattle.cell_world.specs.declared.cells.Cell.TheVariants as cell
use Rattle.cell_world.specs.declared.operations.Op.{Op}
use Rattle.mapping_plans.proofs.SplitPlans.{split_stopped, split_refused, split_told, split_spelled}
use Rattle.mapping_plans.proofs.splits.plan_split.Goals as goal

pub plan_some-requires : goal.plan_some-requires
plan_some-requires g c = subst (λ (o : Option Op). IfSome o (λ op. IsTrue (is_spelled (cell.Log op)))) (sym c.split_op.ensures) (split_spelled c.in-Ok.owned.piece c.in-Ok.owned.key)

pub returns-in-Some-clause-plans : goal.returns-in-Some-clause-plans
returns-in-Some-clause-plans g c =
    split_refused _ c.args.known.now c.args.name.now c.args.text.now c.args.token.now c.named_mapping.result c.named_mapping.ensures.finds
    c.in-Ok.owned c.in-Ok.is c.split_refusal.result c.split_refusal.ensures.first c.in-Some.refusal c.in-Some.is

pub returns-in-None-clause-plans : goal.returns-in-None-clause-plans
returns-in-None-clause-plans g c =
    split_told _ c.args.known.now c.args.name.now c.args.text.now c.args.token.now c.named_mapping.result c.named_mapping.ensures.finds
    c.in-Ok.owned c.in-Ok.is c.split_refusal.result c.split_refusal.ensures.first c.in-None.is _ c.named_mapping.ensures.told (g.W.World.laws c.args.world.now).cells
    c.split_op.result c.split_op.ensures c.plan_some.result c.plan_some.ensures.plans

pub returns-in-Err-clause-plans : goal.returns-in-Err-clause-plans
returns-in-Err-clause-plans g c =
    split_stopped _ c.args.known.now c.args.name.now c.args.text.now c.args.token.now c.named_mapping.result c.named_mapping.ensures.finds c.in-Err.stop c.in-Err.is
