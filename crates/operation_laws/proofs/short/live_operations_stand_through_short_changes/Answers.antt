use Rattle.operation_laws.proofs.ShortStands.{all_stand_short}
use Rattle.operation_laws.proofs.short.live_operations_stand_through_short_changes.Goals as goal

pub returns : goal.returns
returns c = all_stand_short
