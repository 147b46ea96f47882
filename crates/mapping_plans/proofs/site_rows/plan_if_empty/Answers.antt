use Rattle.mapping_plans.proofs.SiteReads.{fault_plans}
use Rattle.mapping_plans.proofs.site_rows.plan_if_empty.Goals as goal

pub returns-in-Err-clause-plans : goal.returns-in-Err-clause-plans
returns-in-Err-clause-plans g c = fault_plans _ c.args.piece.now c.args.op c.in-Err.stop c.in-Err.ensures.fault
