use Rattle.std.proofs.Common.{rules}
use Rattle.std.proofs.lemmas.List.Sorted.{answers_always}
use Rattle.cell_world.specs.Stores.{own_key}
use Rattle.global_tables.proofs.PlaceLaws.{found_place, absent_place}
use Rattle.global_tables.proofs.places.place_of.Goals as goal

pub returns-clause-found : goal.returns-clause-found
returns-clause-found g c =
    let facts = c.binary_search_by_key.ensures in
    found_place g.T.Row.cell_of c.args.key.now c.args.rows.now c.binary_search_by_key.result facts.bound (facts.position (λ row. own_key (g.T.Row.cell_of row)) (answers_always _ _ _ (λ f a r h called. search rules)))

pub returns-clause-absent : goal.returns-clause-absent
returns-clause-absent g c =
    let facts = c.binary_search_by_key.ensures in
    absent_place g.T.Row.cell_of c.args.key.now c.args.rows.now c.binary_search_by_key.result facts.bound (facts.position (λ row. own_key (g.T.Row.cell_of row)) (answers_always _ _ _ (λ f a r h called. search rules)))
