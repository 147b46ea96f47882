use Rattle.session_rows.proofs.RowAnswers.{get_refused, get_linked}
use Rattle.session_rows.proofs.rows.get_row.Goals as goal

pub returns-in_err-link-clause-answers : goal.returns-in_err-link-clause-answers
returns-in_err-link-clause-answers g c =
    get_refused _ c.args.known.now c.args.link.now c.args.table.now c.args.id c.in_err-link.field-0.0 c.in_err-link.ensures.1 c.from_residual.result c.from_residual.ensures

pub returns-clause-answers : goal.returns-clause-answers
returns-clause-answers g c =
    get_linked (g.W.World.outside c.args.world.now) (g.W.World.laws c.args.world.now) c.args.known.now c.args.link.now c.in_ok-link.link c.args.table.now c.args.id c.in_ok-link.ensures
    c.find_row.result c.find_row.ensures.finds
