use Rattle.operation_laws.proofs.AddAtCommit.{adding_at_commit}
use Rattle.operation_laws.proofs.answering.adding_follows_at_its_commit.Goals as goal

pub returns : goal.returns
returns c = adding_at_commit
