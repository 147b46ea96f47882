use Rattle.std.proofs.Common.{◌≡◌, drop}
use Rattle.std.specs.List.{list_any}
use Rattle.cell_world.specs.Keys.{same}
use Rattle.cell_world.specs.declared.operations.Piece.{Piece}
use Rattle.map_ops.proofs.unshard_refusals.is_any_at.Given as goal

abbrev pub invariant-loop-piece : goal.invariant-loop-piece
invariant-loop-piece l = list_any (λ (p : Piece). same p.location l.at) l.pieces ≡ list_any (λ (p : Piece). same p.location l.at) (drop l.piece-index l.pieces)
