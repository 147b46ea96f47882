use Rattle.std.proofs.Common.{map}
use Rattle.global_tables.proofs.ListingLaws.{piece_answers}
use Rattle.global_tables.proofs.pieces.list_piece.Goals as goal

pub returns-in-Ok-clause-listed : goal.returns-in-Ok-clause-listed
returns-in-Ok-clause-listed g c =
    piece_answers (g.W.World.outside c.args.world.now).told c.args.group.now c.args.from.now c.deref.result.now c.in-Ok.found.items (map g.T.Row.cell_of c.args.rows.now.items) _ c.take_piece.result
    (g.W.World.laws c.args.world.now).cells c.deref.ensures.value c.take_piece.ensures.taken c.in-Ok.ensures.found
