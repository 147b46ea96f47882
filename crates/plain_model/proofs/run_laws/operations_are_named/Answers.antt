use Rattle.std.proofs.Common.{[]}
use Rattle.plain_model.proofs.PromiseLaws.{named_more, named_stay}
use Rattle.plain_model.proofs.TriedNumbers.{tries_numbered}
use Rattle.plain_model.proofs.run_laws.operations_are_named.Goals as goal

pub returns-clause-entered : goal.returns-clause-entered
returns-clause-entered c = λ before after e past on named. named_more before after e on past [] named

pub returns-clause-taken_up : goal.returns-clause-taken_up
returns-clause-taken_up c = λ before after session g past takes some named. named_stay before after session g takes past [] some named

pub returns-clause-numbered : goal.returns-clause-numbered
returns-clause-numbered c = tries_numbered
