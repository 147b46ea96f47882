use Rattle.std.proofs.Common.{◌≡◌, subst, sym}
use Rattle.std.proofs.lemmas.Result.{IfOk-weaker}
use Rattle.sqlite.specs.Held.{state}
use Rattle.sqlite.specs.Listing.{understood}
use Rattle.sqlite.specs.State.{Shown}
use Rattle.sqlite.proofs.Callers.{IsPlain}
use Rattle.cell_table.proofs.SameLemmas.{query_same}
use Rattle.cell_table.proofs.TextLemmas.{scan_text, scan_plain}
use Rattle.cell_table.proofs.ScanLemmas.{scans, paged}
use Rattle.cell_table.proofs.scan.Goals as goal

pub returns-clause-rows : goal.returns-clause-rows
returns-clause-rows g c clean =
    let old = state g.S.Store c.args.conn.now in
    let new = state g.S.Store c.query_all.new.self in
    IfOk-weaker c.query_all.result (λ rows. Shown scan_text (paged c.args.kind c.args.key.now c.args.limit) old new rows.items) _
    (λ rows shown all has. scans old new c.args.kind c.args.key.now c.args.limit all rows.items has shown)
    (rw (c.params-to_sql.ensures, c.params-to_sql-2.ensures, c.params-to_sql-3.ensures) at (c.query_all.ensures.ok clean))

pub returns-clause-same : goal.returns-clause-same
returns-clause-same g c clean is_open idle schema =
    let old = state g.S.Store c.args.conn.now in
    let new = state g.S.Store c.query_all.new.self in
    query_same scan_text (paged c.args.kind c.args.key.now c.args.limit) old new (subst (λ s. IsPlain (understood s scan_text)) (sym schema) scan_plain)
    (c.is_autocommit-settled.ensures.settled (rw idle at c.is_autocommit-settled.ensures.value)) (λ rows. rows.items) c.query_all.result
    (rw (c.params-to_sql.ensures, c.params-to_sql-2.ensures, c.params-to_sql-3.ensures) at (c.query_all.ensures.ok clean)) (rw (c.params-to_sql.ensures, c.params-to_sql-2.ensures, c.params-to_sql-3.ensures) at (c.query_all.ensures.err clean)) is_open
