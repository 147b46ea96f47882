use Rattle.std.proofs.Common.{sym, ◌∙◌}
use Rattle.cell_world.proofs.OutsideLaws.{store_rose_one}
use Rattle.mapping_plans.proofs.AllPlans.{of_mapping}
use Rattle.mapping_plans.proofs.plans.plan.Goals as goal

pub returns-then-is_mapping-clause-of_command : goal.returns-then-is_mapping-clause-of_command
returns-then-is_mapping-clause-of_command g c = of_mapping c.args.command.now (sym c.is_mapping.ensures ∙ c.if-is_mapping.true) c.plan_mapping.result c.plan_mapping.ensures.long c.plan_mapping.ensures.short

pub returns-else-is_mapping-clause-cause : goal.returns-else-is_mapping-clause-cause
returns-else-is_mapping-clause-cause g c stops = store_rose_one (g.W.World.outside c.args.world.now) (g.W.World.outside c.plan.new.world) c.plan.ensures.later.faults (c.plan.ensures.cause stops)
