use Rattle.plain_model.proofs.RunSoFar.{run_wrote, run_wrote_front}
use Rattle.plain_model.proofs.headline_laws.runs_write.Goals as goal

pub returns-clause-all : goal.returns-clause-all
returns-clause-all c = run_wrote

pub returns-clause-front : goal.returns-clause-front
returns-clause-front c mode t0 start trail course rest n run = run_wrote_front mode t0 start trail course rest run n
