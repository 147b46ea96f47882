use Rattle.std.proofs.Common.{◌≡◌, sym, slice_get, ap, ◌∙◌}
use Rattle.sqlite.specs.Held.{state}
use Rattle.cell_table.proofs.ReadLemmas.{no_row, no_first, reads}
use Rattle.cell_table.proofs.read.Goals as goal

pub returns-clause-value : goal.returns-clause-value
returns-clause-value g c clean all has =
    let none = no_first c.in_ok-rows.rows.items (c.in-None.ensures.value ∙ ap (λ rows. slice_get rows 0) c.as_slice.ensures.value) in
    sym (no_row c.args.kind c.args.key.now all c.in_ok-rows.rows.items none (c.in_ok-rows.ensures.rows clean all has))

pub returns-in-Some-clause-value : goal.returns-in-Some-clause-value
returns-in-Some-clause-value g c clean =
    reads c.args.kind c.args.key.now (state g.S.Store c.args.conn.now).now c.in_ok-rows.rows.items c.in-Some.row.now c.value_at.result
    (c.in-Some.ensures.value ∙ ap (λ rows. slice_get rows 0) c.as_slice.ensures.value) (c.in_ok-rows.ensures.rows clean) c.value_at.ensures.there c.value_at.ensures.other
