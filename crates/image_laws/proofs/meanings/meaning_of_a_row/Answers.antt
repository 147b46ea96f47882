use Rattle.image_laws.proofs.RowLaws.{meaning-put_row, meaning-delete_row}
use Rattle.image_laws.proofs.meanings.meaning_of_a_row.Goals as goal

pub returns-clause-put : goal.returns-clause-put
returns-clause-put c image row bytes p owned here = meaning-put_row image row p owned here bytes

pub returns-clause-deleted : goal.returns-clause-deleted
returns-clause-deleted c = meaning-delete_row
