use Rattle.operation_laws.proofs.AtCommit.{operation_at_commit}
use Rattle.operation_laws.proofs.answering.operation_follows_at_its_commit.Goals as goal

pub returns : goal.returns
returns c = operation_at_commit
