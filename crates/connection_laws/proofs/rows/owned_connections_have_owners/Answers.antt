use Rattle.connection_laws.proofs.RowOwner.{has_owner}
use Rattle.connection_laws.proofs.rows.owned_connections_have_owners.Goals as goal

pub returns : goal.returns
returns c = has_owner
