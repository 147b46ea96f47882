use Rattle.local_tables.proofs.ScanLaws.{piece_answers}
use Rattle.local_tables.proofs.scanning.list_piece.Goals as goal

pub returns-in-Ok-clause-listed : goal.returns-in-Ok-clause-listed
returns-in-Ok-clause-listed g c =
    piece_answers (g.W.World.outside c.args.world.now) c.args.site (g.W.World.laws c.args.world.now).cells c.requires.site c.args.work c.args.op.now c.args.from.now c.deref.result.now c.in-Ok.found.items c.args.rows.now.items _ c.take_piece.result
    c.deref.ensures.value c.take_piece.ensures.taken c.in-Ok.ensures.found
