use Rattle.std.proofs.Common.{subst}
use Rattle.std.proofs.lemmas.Result.{IfOk-weaker}
use Rattle.sqlite_site.specs.Entries.{AreCellsOf}
use Rattle.sqlite_site.proofs.RowLemmas.{page_is}
use Rattle.sqlite_site.proofs.stored.page.Goals as goal

pub returns-clause-found : goal.returns-clause-found
returns-clause-found g c clean =
    IfOk-weaker c.cells_of.result _ _ (λ cells are all has.
    page_is all c.args.kind c.args.from.now c.args.limit c.in_ok-rows.rows.items cells.items (c.in_ok-rows.ensures.rows clean all has) (subst (λ rows. AreCellsOf c.args.kind rows cells.items) c.as_slice.ensures.value are)) c.cells_of.ensures
