use Rattle.image_laws.proofs.RowsAtOwners.{out_of_batch}
use Rattle.image_laws.proofs.rows.online_keys_are_in_no_batch.Goals as goal

pub returns : goal.returns
returns c = out_of_batch
