use Rattle.std.proofs.Common.{ap}
use Rattle.cell_world.specs.Stores.{Store}
use Rattle.cell_world.specs.Meaning.{counters_of}
use Rattle.global_tables.specs.Known.{known_of}
use Rattle.row_laws.proofs.AloneLaws.{global_same, no_log_put}
use Rattle.row_laws.proofs.leaving.rows_leave_the_global_store.Goals as goal

pub returns-clause-store : goal.returns-clause-store
returns-clause-store c = global_same

pub returns-clause-known : goal.returns-clause-known
returns-clause-known c image location change took = ap known_of (global_same image location change took)

pub returns-clause-numbers : goal.returns-clause-numbers
returns-clause-numbers c image location change took = ap (λ (s : Store). (counters_of s.counter).operation) (global_same image location change took)

pub returns-clause-logs : goal.returns-clause-logs
returns-clause-logs c = no_log_put
