use Rattle.session_laws.specs.Needs.{Needs}
use Rattle.session_laws.proofs.EntryLaws.{pending_is_least, running_is_going}
use Rattle.session_laws.proofs.core_keeps_promises.Goals as goal

pub returns-clause-pending : goal.returns-clause-pending
returns-clause-pending c = λ since start mode past connections rest doing core. pending_is_least Needs start past doing core.sessions

pub returns-clause-running : goal.returns-clause-running
returns-clause-running c = λ since start mode past connections rest doing core. running_is_going Needs start past doing core.sessions
