use Rattle.std.proofs.Common.{◌≡◌, ap, sym, ◌∙◌, rules, tests, Option}
use Rattle.std.proofs.lemmas.Map.Made.{map_same_pairs}
use Rattle.cell_world.specs.declared.operations.Piece.{Piece}
use Rattle.plain_model.specs.Steps.{ended_under}
use Rattle.plain_tables.specs.State.{ended_link, connections_of}
use Rattle.plain_tables.proofs.LinkLaws.{link-ended}
use Rattle.plain_tables.proofs.changes.end_under.Goals as goal

pub returns-in-Some : goal.returns-in-Some
returns-in-Some c =
    link-ended c.args.links.now c.retain.new.self c.in-Some.piece (map_same_pairs _ (ended_link c.in-Some.piece) _ (λ k v b w f' t. search (rules, tests)) c.args.links.now.entries c.retain.new.self.entries c.retain.ensures.filtered)
    ∙ ap (λ (o : Option Piece). ended_under o (connections_of c.args.links.now)) (sym c.in-Some.is)
