use Rattle.map_ops.proofs.OverlapLaws.{first_told}
use Rattle.map_ops.proofs.overlapping.first_from.Goals as goal

pub returns-in-Ok-clause-found : goal.returns-in-Ok-clause-found
returns-in-Ok-clause-found g c = first_told _ c.args.key.now c.in-Ok.found.items c.deref.result.now c.deref.ensures.value c.first_piece.result c.first_piece.ensures.found c.in-Ok.ensures.found
