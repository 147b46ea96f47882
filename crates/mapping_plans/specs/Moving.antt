-- What `move` checks before the rows.
use Rattle.std.specs.Prelude.{List, [], ◌∷◌, Option, Some}
use Rattle.cell_world.specs.Texts.{Text}
use Rattle.cell_world.specs.Plain.{PlainState}
use Rattle.cell_world.specs.declared.cells.Token.{Token}
use Rattle.cell_world.specs.declared.operations.Piece.{Piece}
use Rattle.plain_model.specs.Refusing.{Check, locked, no_location, not_a_shard, detached, unresolved, same_shard, not_offline}

-- of the mapping, and of the location to which it goes
abbrev pub move_checks : Text → Text → Option Token → PlainState → Option Piece → List Check
move_checks name location token s piece =
    locked token piece ∷ no_location s location ∷ not_a_shard s name location ∷ detached s (Some location) ∷ unresolved s (Some location) ∷ same_shard location piece ∷ not_offline piece ∷ []
