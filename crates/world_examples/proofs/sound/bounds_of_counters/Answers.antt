use Rattle.std.proofs.Common.{◌≤◌, ◌+◌, ◌^◌, arith}
use Rattle.world_examples.proofs.AtRest.{rest_sound}
use Rattle.world_examples.proofs.sound.bounds_of_counters.Goals as goal

pub returns-clause-no_operation : goal.returns-clause-no_operation
returns-clause-no_operation c = λ h. let low : 1 ≤ 0 = h.operations.0 in omega arith

pub returns-clause-too_many : goal.returns-clause-too_many
returns-clause-too_many c = λ h. let high : 2 ^ 63 + 1 ≤ 2 ^ 63 = h.operations.1 in omega arith

pub returns-clause-no_job : goal.returns-clause-no_job
returns-clause-no_job c = λ h. let low : 1 ≤ 0 = h.jobs in omega arith

pub returns-clause-last_accepted : goal.returns-clause-last_accepted
returns-clause-last_accepted c = record {
  shards = rest_sound.globals.shards;
  tables = rest_sound.globals.tables;
  operations = (omega arith, omega arith);
  jobs = omega arith;
  spans = rest_sound.globals.spans;
  on_shards = rest_sound.globals.on_shards;
  disjoint = rest_sound.globals.disjoint;
}
