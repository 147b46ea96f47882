use Rattle.cell_world.proofs.SpanLaws.{overlap_is_shared, overlaps_comm}
use Rattle.image_laws.proofs.stores.overlap_is_shared.Goals as goal

pub returns-clause-shared : goal.returns-clause-shared
returns-clause-shared c = overlap_is_shared

pub returns-clause-symmetric : goal.returns-clause-symmetric
returns-clause-symmetric c = overlaps_comm
