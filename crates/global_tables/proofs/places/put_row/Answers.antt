use Rattle.std.proofs.Common.{◌<◌, length, map, ap, ◌∙◌, subst}
use Rattle.global_tables.specs.Places.{StandsAt, GoesAt}
use Rattle.global_tables.proofs.PlacedCells.{row_set, row_inserted}
use Rattle.global_tables.proofs.places.put_row.Goals as goal

pub returns-in-Ok : goal.returns-in-Ok
returns-in-Ok g c = λ s keyed group inside is.
    let of = g.T.Row.cell_of in
    row_set of s keyed group c.args.rows.now.items c.in-Ok.at is c.args.row inside (subst (λ rows. c.in-Ok.at < length rows) c.deref.ensures.value c.in-Ok.ensures.bound)
    (subst (λ k. StandsAt (map of c.args.rows.now.items) k c.in-Ok.at) c.key.ensures (subst (λ rows. StandsAt (map of rows) c.key.result c.in-Ok.at) c.deref.ensures.value c.in-Ok.ensures.found))

pub returns-in_ok-insert-in-Err : goal.returns-in_ok-insert-in-Err
returns-in_ok-insert-in-Err g c = λ s keyed group inside is.
    let of = g.T.Row.cell_of in
    ap (map of) c.in_ok-insert-in-Err.ensures.items
    ∙ row_inserted of s keyed group c.args.rows.now.items c.in-Err.at is c.args.row inside
    (subst (λ k. GoesAt (map of c.args.rows.now.items) k c.in-Err.at) c.key.ensures
    (subst (λ rows. GoesAt (map of rows) c.key.result c.in-Err.at) c.deref.ensures.value (c.in-Err.ensures.absent s keyed group (ap (map of) c.deref.ensures.value ∙ is))))
