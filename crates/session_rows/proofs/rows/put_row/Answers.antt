use Rattle.session_rows.proofs.RowAnswers.{put_refused, put_linked}
use Rattle.session_rows.proofs.rows.put_row.Goals as goal

pub returns-in_err-link-clause-answers : goal.returns-in_err-link-clause-answers
returns-in_err-link-clause-answers g c =
    put_refused _ c.args.known.now c.args.link.now c.args.table.now c.args.id c.in_err-link.field-0.0 c.in_err-link.ensures.1 c.args.bytes.now c.from_residual.result c.from_residual.ensures

pub returns-clause-answers : goal.returns-clause-answers
returns-clause-answers g c =
    put_linked (g.W.World.outside c.args.world.now) (g.W.World.laws c.args.world.now) c.args.known.now c.args.link.now c.in_ok-link.link c.args.table.now c.args.id c.in_ok-link.ensures
    c.args.bytes.now c.commit_at.result c.commit_at.ensures.fault c.commit_at.ensures.unknown
