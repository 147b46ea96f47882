use Rattle.std.proofs.Common.{◌∙◌, sym}
use Rattle.op_steps.specs.Clearing.{is_in_way}
use Rattle.op_steps.proofs.ClearLaws.{none_more, first_found}
use Rattle.op_steps.proofs.clearing.first_in_way.Goals as goal

pub loop-op-preserved : goal.loop-op-preserved
loop-op-preserved c =
    none_more (is_in_way c.args.live.now c.args.reach.now) c.args.ops.now c.loop-op.op-index c.op-item.result c.loop-op-test.true c.op-item.is c.loop-op.invariant (sym c.is_in_way.ensures ∙ c.if-is_in_way.false)

pub returns-then-is_in_way : goal.returns-then-is_in_way
returns-then-is_in_way c =
    first_found (is_in_way c.args.live.now c.args.reach.now) c.args.ops.now c.loop-op.op-index c.op-item.result c.loop-op-test.true c.op-item.is c.loop-op.invariant (sym c.is_in_way.ensures ∙ c.if-is_in_way.true)
