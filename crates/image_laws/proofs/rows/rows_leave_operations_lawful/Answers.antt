use Rattle.image_laws.proofs.RowsAtOwners.{put_lawful, delete_lawful}
use Rattle.image_laws.proofs.rows.rows_leave_operations_lawful.Goals as goal

pub returns-clause-put : goal.returns-clause-put
returns-clause-put c image sound row bytes p owned online here = put_lawful image sound row p owned online here bytes

pub returns-clause-deleted : goal.returns-clause-deleted
returns-clause-deleted c = delete_lawful
