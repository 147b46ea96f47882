use Rattle.std.proofs.Common.{ap, ◌∙◌, ◌<◌, ◌++◌, map, subst, take}
use Rattle.global_tables.specs.Listing.{piece_size}
use Rattle.global_tables.proofs.ListingLaws.{goes_on}
use Rattle.global_tables.proofs.Neighbours.{front_inside}
use Rattle.global_tables.proofs.pieces.take_piece.Goals as goal

pub returns-then-count-clause-taken : goal.returns-then-count-clause-taken
returns-then-count-clause-taken g c =
    (subst (λ n. n < piece_size) c.count-count.ensures.count c.if-count.true, c.in_ok-push_rows.ensures.pushed ∙ ap (λ cs. map g.T.Row.cell_of c.args.rows.now.items ++ cs) (ap (λ n. take n c.args.found.now) c.count-count.ensures.count ∙ front_inside c.args.group.now c.args.found.now))

pub returns-clause-taken : goal.returns-clause-taken
returns-clause-taken g c =
    goes_on c.args.group.now c.args.found.now (map g.T.Row.cell_of c.args.rows.now.items) (map g.T.Row.cell_of c.push_rows-2.new.rows.items) c.count-count.result c.index-found-count.result c.key_of.result
    c.count-count.ensures.count c.count-count.ensures.within c.if-count.false c.index-found-count.is c.in_ok-push_rows-2.ensures.pushed c.key_of.ensures
