use Rattle.sqlite_site.proofs.StoreFinds.{floors}
use Rattle.sqlite_site.proofs.stored.floor.Goals as goal

pub returns-clause-cells : goal.returns-clause-cells
returns-clause-cells g c clean s has =
    floors has.0 s c.args.key.now c.within.result has.2 c.known.ensures (c.in_ok-found.found, c.in_ok-found.ensures.found clean has.0 has.1, c.within.ensures)
