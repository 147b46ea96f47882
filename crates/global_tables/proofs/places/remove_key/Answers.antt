use Rattle.std.proofs.Common.{map, ap, ◌∙◌, subst}
use Rattle.global_tables.specs.Places.{StandsAt, GoesAt}
use Rattle.global_tables.proofs.PlacedCells.{row_removed, no_row_removed}
use Rattle.global_tables.proofs.places.remove_key.Goals as goal

pub returns-in-Ok : goal.returns-in-Ok
returns-in-Ok g c = λ s keyed group inside is.
    let of = g.T.Row.cell_of in
    ap (map of) c.remove.ensures.items
    ∙ row_removed of s keyed group c.args.rows.now.items c.in-Ok.at is c.args.key.now (of c.remove.result) (subst (λ rows. StandsAt (map of rows) c.args.key.now c.in-Ok.at) c.deref.ensures.value c.in-Ok.ensures.found)

pub returns-in_default : goal.returns-in_default
returns-in_default g c = λ s keyed group inside is.
    let of = g.T.Row.cell_of in
    no_row_removed of s keyed group c.args.rows.now.items c.in_default.field-0 is c.args.key.now
    (subst (λ rows. GoesAt (map of rows) c.args.key.now c.in_default.field-0) c.deref.ensures.value (c.in_default.ensures.absent s keyed group (ap (map of) c.deref.ensures.value ∙ is)))
