use Rattle.session_rows.proofs.RowAnswers.{delete_refused, absent_linked, delete_linked}
use Rattle.session_rows.proofs.SiteCalls.{rose_later}
use Rattle.session_rows.proofs.rows.del_row.Goals as goal

pub returns-in_err-link-clause-answers : goal.returns-in_err-link-clause-answers
returns-in_err-link-clause-answers g c =
    delete_refused _ c.args.known.now c.args.link.now c.args.table.now c.args.id c.in_err-link.field-0.0 c.in_err-link.ensures.1 c.from_residual.result c.from_residual.ensures

pub returns-in_err-find_row-clause-answers : goal.returns-in_err-find_row-clause-answers
returns-in_err-find_row-clause-answers g c =
    absent_linked (g.W.World.outside c.args.world.now) (g.W.World.laws c.args.world.now) c.args.known.now c.args.link.now c.in_ok-link.link c.args.table.now c.args.id c.in_ok-link.ensures
    c.in_err-find_row.field-0.0 c.in_err-find_row.ensures.finds c.from_residual-in_err-find_row.result c.from_residual-in_err-find_row.ensures

pub returns-clause-answers : goal.returns-clause-answers
returns-clause-answers g c =
    delete_linked (g.W.World.outside c.args.world.now) (g.W.World.laws c.args.world.now) c.args.known.now c.args.link.now c.in_ok-link.link c.args.table.now c.args.id c.in_ok-link.ensures
    c.in_ok-find_row.field-0 c.in_ok-find_row.ensures.unknown c.in_ok-find_row.ensures.finds c.commit_at.result c.commit_at.ensures.fault

pub returns-clause-cause : goal.returns-clause-cause
returns-clause-cause g c is =
    rose_later (g.W.World.outside c.args.world.now) (g.W.World.outside c.find_row.new.world) (g.W.World.outside c.commit_at.new.world) c.find_row.ensures.later (c.commit_at.ensures.cause is)
