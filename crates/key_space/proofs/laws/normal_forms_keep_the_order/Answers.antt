use Rattle.cell_world.specs.KeyForms.{guid_order}
use Rattle.key_space.proofs.Order.{int_order, long_order, ticks_order, places_order}
use Rattle.key_space.proofs.laws.normal_forms_keep_the_order.Goals as goal

pub returns-clause-int : goal.returns-clause-int
returns-clause-int c = int_order

pub returns-clause-long : goal.returns-clause-long
returns-clause-long c = long_order

pub returns-clause-guid : goal.returns-clause-guid
returns-clause-guid c = places_order guid_order

pub returns-clause-datetime : goal.returns-clause-datetime
returns-clause-datetime c = ticks_order

pub returns-clause-timespan : goal.returns-clause-timespan
returns-clause-timespan c = long_order
