use Rattle.std.proofs.Common.{◌∙◌, rules, tests, ◌&&◌}
use Rattle.std.proofs.lemmas.Iterator.Search.{find_from_yields_List}
use Rattle.std.proofs.lemmas.Iterator.Consumers.{YieldsList-from_rest}
use Rattle.cell_world.specs.Keys.{same, end_of}
use Rattle.cell_world.specs.declared.operations.Piece.{Piece}
use Rattle.plain_model.specs.Refusing.{begins_at, same_status, same_token}
use Rattle.plain_tables.proofs.state.PlainTables.next_mapping.Goals as goal

pub returns : goal.returns
returns c =
    let piece = c.args.piece.now in
    c.copied.ensures ∙ find_from_yields_List (λ (p : Piece). same piece.map p.map && (begins_at (end_of piece.span) p && (same piece.location p.location && (same_status piece.status p.status && same_token piece.token p.token)))) _ _ c.find.result c.find.ensures.ran (YieldsList-from_rest _ c.pieces.ensures.rest) (λ x b q k. search (rules, tests))
