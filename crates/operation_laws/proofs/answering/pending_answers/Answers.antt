use Rattle.operation_laws.proofs.Pending.{pending_answered, pending_alone, begun_numbered}
use Rattle.operation_laws.proofs.answering.pending_answers.Goals as goal

pub returns-clause-on_trail : goal.returns-clause-on_trail
returns-clause-on_trail c = pending_answered

pub returns-clause-alone : goal.returns-clause-alone
returns-clause-alone c = pending_alone

pub returns-clause-numbered : goal.returns-clause-numbered
returns-clause-numbered c = begun_numbered
