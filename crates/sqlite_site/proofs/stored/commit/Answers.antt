use Rattle.std.proofs.Common.{subst}
use Rattle.cell_table.specs.Cells.{AreMade}
use Rattle.sqlite_site.specs.Held.{AreOpsOf}
use Rattle.sqlite_site.proofs.OpLemmas.{edited_all}
use Rattle.sqlite_site.proofs.StoreRows.{edited_rows}
use Rattle.sqlite_site.proofs.stored.commit.Goals as goal

pub returns-clause-made : goal.returns-clause-made
returns-clause-made g c clean all has =
    let made = c.in_ok-change.ensures.made clean all has in (
      made.0,
      edited_all c.in_ok-ops.ops.items c.args.change.now all made.0 (subst (AreOpsOf c.in_ok-ops.ops.items) c.as_slice.ensures c.in_ok-ops.ensures) (subst (λ ops. AreMade ops all made.0) c.as_slice-2.ensures.value made.1),
      made.2,
    )

pub returns-clause-changed : goal.returns-clause-changed
returns-clause-changed g c clean s has =
    let made = returns-clause-made g c clean has.0 has.1 in (made.0, made.2, edited_rows c.args.change.now has.0 made.0 s c.known.ensures made.1 has.2)
