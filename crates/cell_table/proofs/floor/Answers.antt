use Rattle.std.proofs.Common.{◌≡◌, subst, sym}
use Rattle.std.proofs.lemmas.Result.{IfOk-weaker}
use Rattle.sqlite.specs.Held.{state}
use Rattle.sqlite.specs.State.{Shown}
use Rattle.sqlite.specs.Listing.{understood}
use Rattle.sqlite.proofs.Callers.{IsPlain}
use Rattle.cell_table.proofs.SameLemmas.{query_same}
use Rattle.cell_table.proofs.TextLemmas.{floor_text, floor_plain}
use Rattle.cell_table.proofs.FloorLemmas.{floors, params_of}
use Rattle.cell_table.proofs.floor.Goals as goal

pub returns-clause-rows : goal.returns-clause-rows
returns-clause-rows g c clean =
    let old = state g.S.Store c.args.conn.now in
    let new = state g.S.Store c.query_all.new.self in
    IfOk-weaker c.query_all.result (λ rows. Shown floor_text (params_of c.args.kind c.args.key.now) old new rows.items) _
    (λ rows shown all has. floors old new c.args.kind c.args.key.now all rows.items has.schema has.rows shown)
    (rw (c.params-to_sql.ensures, c.params-to_sql-2.ensures) at (c.query_all.ensures.ok clean))

pub returns-clause-same : goal.returns-clause-same
returns-clause-same g c clean is_open idle schema =
    let old = state g.S.Store c.args.conn.now in
    let new = state g.S.Store c.query_all.new.self in
    query_same floor_text (params_of c.args.kind c.args.key.now) old new (subst (λ s. IsPlain (understood s floor_text)) (sym schema) floor_plain)
    (c.is_autocommit-settled.ensures.settled (rw idle at c.is_autocommit-settled.ensures.value)) (λ rows. rows.items) c.query_all.result
    (rw (c.params-to_sql.ensures, c.params-to_sql-2.ensures) at (c.query_all.ensures.ok clean)) (rw (c.params-to_sql.ensures, c.params-to_sql-2.ensures) at (c.query_all.ensures.err clean)) is_open
