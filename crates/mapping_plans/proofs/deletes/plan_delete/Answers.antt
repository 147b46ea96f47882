use Rattle.std.proofs.Common.{sym, subst}
use Rattle.std.specs.Prelude.{IsTrue}
use Rattle.cell_world.specs.Spelled.{is_spelled}
use Rattle.cell_world.specs.declared.cells.Cell.TheVariants as cell
use Rattle.cell_world.specs.declared.operations.Op.{Op}
use Rattle.cell_world.proofs.OutsideLaws.{store_rose_one}
use Rattle.mapping_plans.proofs.DeletePlans.{delete_stopped, delete_refused, delete_told, delete_spelled}
use Rattle.mapping_plans.proofs.SiteFaults.{rose_later, err_as}
use Rattle.mapping_plans.proofs.deletes.plan_delete.Goals as goal

pub plan_if_empty-requires : goal.plan_if_empty-requires
plan_if_empty-requires g c = subst (λ (op : Op). IsTrue (is_spelled (cell.Log op))) (sym c.delete_op.ensures) (delete_spelled c.in-Ok.owned.piece)

pub returns-in-Some-clause-plans : goal.returns-in-Some-clause-plans
returns-in-Some-clause-plans g c =
    delete_refused _ c.args.known.now c.args.name.now c.args.text.now c.args.token.now c.named_mapping.result c.named_mapping.ensures.finds
    c.in-Ok.owned c.in-Ok.is c.delete_refusal.result c.delete_refusal.ensures.first c.in-Some.refusal c.in-Some.is

pub returns-in-None-clause-plans : goal.returns-in-None-clause-plans
returns-in-None-clause-plans g c =
    delete_told _ c.args.known.now c.args.name.now c.args.text.now c.args.token.now c.named_mapping.result c.named_mapping.ensures.finds
    c.in-Ok.owned c.in-Ok.is c.delete_refusal.result c.delete_refusal.ensures.first c.in-None.is _ c.named_mapping.ensures.told (g.W.World.laws c.args.world.now).cells
    c.delete_op.result c.delete_op.ensures c.plan_if_empty.result c.plan_if_empty.ensures.plans

pub returns-in-None-clause-cause : goal.returns-in-None-clause-cause
returns-in-None-clause-cause g c stops = rose_later (g.W.World.outside c.args.world.now) (g.W.World.outside c.named_mapping.new.world) (g.W.World.outside c.plan_if_empty.new.world) c.named_mapping.ensures.later (c.plan_if_empty.ensures.cause stops)

pub returns-in-Err-clause-plans : goal.returns-in-Err-clause-plans
returns-in-Err-clause-plans g c =
    delete_stopped _ c.args.known.now c.args.name.now c.args.text.now c.args.token.now c.named_mapping.result c.named_mapping.ensures.finds c.in-Err.stop c.in-Err.is

pub returns-in-Err-clause-cause : goal.returns-in-Err-clause-cause
returns-in-Err-clause-cause g c stops = store_rose_one (g.W.World.outside c.args.world.now) (g.W.World.outside c.named_mapping.new.world) c.named_mapping.ensures.later.faults (c.in-Err.ensures.cause (err_as _ _ c.in-Err.stop _ stops))
