use Rattle.std.proofs.Common.{◌≡◌, Some}
use Rattle.cell_world.specs.Meaning.{owner_of}
use Rattle.cell_world.specs.declared.cells.RowName.{RowName}
use Rattle.cell_world.specs.declared.operations.Piece.{Piece}
use Rattle.image_laws.proofs.RowImages.{rows_meaning}
use Rattle.image_laws.proofs.rows.rows_of_others_mean_nothing.Goals as goal

pub returns : goal.returns
returns c image location rows here change =
    rows_meaning image location rows (λ (row : RowName). (p : Piece) → owner_of image row.map row.key ≡ Some p → p.location ≡ location → ⊥) change here (λ row other. other)
