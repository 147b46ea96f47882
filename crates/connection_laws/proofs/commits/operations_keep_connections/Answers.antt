use Rattle.connection_laws.proofs.OperationCommits.{operation_owned}
use Rattle.connection_laws.proofs.commits.operations_keep_connections.Goals as goal

pub returns : goal.returns
returns c = operation_owned
