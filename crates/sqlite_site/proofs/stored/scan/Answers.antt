use Rattle.std.proofs.lemmas.Result.{IfOk-weaker}
use Rattle.sqlite_site.proofs.StoreScans.{scans}
use Rattle.sqlite_site.proofs.stored.scan.Goals as goal

pub returns-clause-cells : goal.returns-clause-cells
returns-clause-cells g c clean =
    IfOk-weaker c.page.result _ _ (λ cells is s has.
    scans has.0 s c.args.from.now c.args.limit cells.items has.2 has.1.apart c.known.ensures (rw (c.kind_of.ensures, c.as_slice.ensures.value, c.in_ok-bytes.ensures) at (is has.0 has.1))) (c.page.ensures.found clean)
