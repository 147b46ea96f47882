use Rattle.op_log.proofs.JobBeginnings.{begun_meaning}
use Rattle.op_log.proofs.JobFinishes.{finished_meaning, lawful_left}
use Rattle.op_log.proofs.laws.jobs_begin_and_finish.Goals as goal

pub returns : goal.returns
returns c = record {
  begun = begun_meaning;
  finished = finished_meaning;
  lawful = λ image sound job has at_finish after freed op law. lawful_left image sound job has at_finish after freed op law;
}
