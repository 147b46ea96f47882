use Rattle.session_rows.proofs.RowAnswers.{finds_bytes, finds_none}
use Rattle.session_rows.proofs.rows.find_row.Goals as goal

pub returns-in-Some-clause-finds : goal.returns-in-Some-clause-finds
returns-in-Some-clause-finds g c =
    finds_bytes (g.W.World.outside c.args.world.now) (g.W.World.laws c.args.world.now) c.args.link.now c.args.table.now c.args.id c.row_under-row.result c.row_under-row.ensures
    c.in_ok-bytes.field-0 c.in_ok-bytes.ensures.unknown c.in-Some.bytes c.in-Some.is c.in_ok-bytes.ensures.found

pub returns-in-None-clause-finds : goal.returns-in-None-clause-finds
returns-in-None-clause-finds g c =
    finds_none (g.W.World.outside c.args.world.now) (g.W.World.laws c.args.world.now) c.args.link.now c.args.table.now c.args.id c.row_under-row.result c.row_under-row.ensures
    c.in_ok-bytes.field-0 c.in_ok-bytes.ensures.unknown c.in-None.is c.in_ok-bytes.ensures.found
