use Rattle.std.proofs.Common.{sym, subst}
use Rattle.std.specs.Prelude.{IsTrue}
use Rattle.cell_world.specs.Spelled.{is_spelled}
use Rattle.cell_world.specs.declared.cells.Cell.TheVariants as cell
use Rattle.cell_world.specs.declared.operations.Op.{Op}
use Rattle.cell_world.proofs.OutsideLaws.{store_rose_one}
use Rattle.mapping_plans.proofs.MovePlans.{move_stopped, move_refused, move_told, move_spelled}
use Rattle.mapping_plans.proofs.SiteFaults.{rose_later, err_as}
use Rattle.mapping_plans.proofs.moves.plan_move.Goals as goal

pub plan_if_empty-requires : goal.plan_if_empty-requires
plan_if_empty-requires g c = subst (λ (op : Op). IsTrue (is_spelled (cell.Log op))) (sym c.move_op.ensures) (move_spelled c.args.at c.in-Ok.owned.piece)

pub returns-in-Some-clause-plans : goal.returns-in-Some-clause-plans
returns-in-Some-clause-plans g c =
    move_refused _ c.args.known.now c.args.name.now c.args.text.now c.args.at c.args.token.now c.named_mapping.result c.named_mapping.ensures.finds
    c.in-Ok.owned c.in-Ok.is c.move_refusal.result _ c.named_mapping.ensures.told c.move_refusal.ensures.first c.in-Some.refusal c.in-Some.is

pub returns-in-None-clause-plans : goal.returns-in-None-clause-plans
returns-in-None-clause-plans g c =
    move_told _ c.args.known.now c.args.name.now c.args.text.now c.args.at c.args.token.now c.named_mapping.result c.named_mapping.ensures.finds
    c.in-Ok.owned c.in-Ok.is c.move_refusal.result _ c.named_mapping.ensures.told c.move_refusal.ensures.first c.in-None.is (g.W.World.laws c.args.world.now).cells
    c.move_op.result c.move_op.ensures c.plan_if_empty.result c.plan_if_empty.ensures.plans

pub returns-in-None-clause-cause : goal.returns-in-None-clause-cause
returns-in-None-clause-cause g c stops = rose_later (g.W.World.outside c.args.world.now) (g.W.World.outside c.named_mapping.new.world) (g.W.World.outside c.plan_if_empty.new.world) c.named_mapping.ensures.later (c.plan_if_empty.ensures.cause stops)

pub returns-in-Err-clause-plans : goal.returns-in-Err-clause-plans
returns-in-Err-clause-plans g c =
    move_stopped _ c.args.known.now c.args.name.now c.args.text.now c.args.at c.args.token.now c.named_mapping.result c.named_mapping.ensures.finds c.in-Err.stop c.in-Err.is

pub returns-in-Err-clause-cause : goal.returns-in-Err-clause-cause
returns-in-Err-clause-cause g c stops = store_rose_one (g.W.World.outside c.args.world.now) (g.W.World.outside c.named_mapping.new.world) c.named_mapping.ensures.later.faults (c.in-Err.ensures.cause (err_as _ _ c.in-Err.stop _ stops))
