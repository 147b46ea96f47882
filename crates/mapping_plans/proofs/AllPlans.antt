-- The plan of a command on a mapping that stands is a short one or a long one, as the command is.
use Rattle.std.proofs.Common.{◌≡◌, Bool, true, false, refl}
use Rattle.std.specs.Prelude.{Result}
use Rattle.plain_model.specs.declared.commands.Command.{Command}
use Rattle.plain_model.specs.declared.plans.Plan.{Plan}
use Rattle.plain_model.specs.declared.plans.PlanStop.{PlanStop}
use Rattle.map_ops.specs.Planning.{IsLongPlan, IsPlanOf, IsShortPlan, is_exchange, is_locking, is_mapping}
use Rattle.map_ops.proofs.PlannedLaws.{exchange_is_long, locking_is_short, mapping_is_exchange, of_long, of_short}

pub of_mapping : (c : Command) → is_mapping c ≡ true → (result : Result Plan PlanStop) → (is_exchange c ≡ true → IsLongPlan result) → (is_locking c ≡ true → IsShortPlan result) → IsPlanOf c result
of_mapping c mapping result long short = by (is_locking c) refl
  where
    by : (locking : Bool) → is_locking c ≡ locking → IsPlanOf c result
    by true is = of_short c (locking_is_short c is) result (short is)
    by false is = let exchange = mapping_is_exchange c mapping is in of_long c (exchange_is_long c exchange) result (long exchange)
