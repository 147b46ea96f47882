use Rattle.std.proofs.Common.{map, sym, ap, ◌∙◌}
use Rattle.std.proofs.lemmas.List.{get_or-map}
use Rattle.global_tables.proofs.PlaceLaws.{stands_there, none_there}
use Rattle.global_tables.proofs.places.find_row.Goals as goal

pub returns-in-Ok : goal.returns-in-Ok
returns-in-Ok g c = λ s keyed group inside is.
    let of = g.T.Row.cell_of in
    let row = c.index-rows-at.result in
    stands_there s keyed group c.args.key.now (map of c.args.rows.now) c.in-Ok.at (of row) is c.in-Ok.ensures.found
    (ap of c.index-rows-at.is ∙ sym (get_or-map of c.args.rows.now c.in-Ok.at row (of row) c.in-Ok.ensures.bound))

pub returns-in-Err : goal.returns-in-Err
returns-in-Err g c = λ s keyed group inside is. none_there s keyed group c.args.key.now inside (map g.T.Row.cell_of c.args.rows.now) c.in-Err.field-0 is (c.in-Err.ensures.absent s keyed group is)
