use Rattle.image_laws.proofs.RowsAtOwners.{put_sound, delete_sound}
use Rattle.image_laws.proofs.rows.row_keeps_sound.Goals as goal

pub returns-clause-put : goal.returns-clause-put
returns-clause-put c image sound row bytes p owned online here tabled = put_sound image sound row p owned online here bytes tabled

pub returns-clause-deleted : goal.returns-clause-deleted
returns-clause-deleted c = delete_sound
