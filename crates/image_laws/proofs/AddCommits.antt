-- What the commit of an operation that adds one mapping changes of the meaning.
use Rattle.std.proofs.Common.{◌≡◌, subst, List, [], ◌∷◌}
use Rattle.std.specs.FinMap as map
use Rattle.cell_world.specs.Spelled.{listed}
use Rattle.cell_world.specs.Stores.{changed, piece_key, exchanged}
use Rattle.cell_world.specs.Images.{Image, Global, global, with_store}
use Rattle.cell_world.specs.Meaning.{meaning}
use Rattle.cell_world.specs.Lawful.{Lawful}
use Rattle.cell_world.specs.Sound.{Sound}
use Rattle.cell_world.specs.declared.operations.Piece.{Piece}
use Rattle.cell_world.specs.declared.operations.Op.{Op}
use Rattle.cell_world.specs.declared.cells.Cell.TheVariants as cell
use Rattle.cell_world.specs.declared.cells.CellKey.TheVariants as at
use Rattle.cell_world.specs.declared.changes.Edit.TheVariants.{Put, Delete}
use Rattle.image_laws.proofs.CommitImages.{commit_meaning}

-- The meaning gets the mapping, and nothing else.
pub add_commits : (image : Image) → Sound image → (op : Op) (p : Piece) → Lawful image op → listed op.olds ≡ [] → listed op.news ≡ p ∷ []
    → meaning (with_store image Global (changed (global image) (Put (cell.Piece p) ∷ Delete (at.Log op.number) ∷ []))) ≡ record (meaning image) { mappings = map.insert (global image).mappings (piece_key p) p }
add_commits image sound op p lawful no_olds new = subst Means (λ i. (no_olds i, new i)) (commit_meaning image sound op lawful (global image).jobs)
  where
    -- what these olds and news mean
    Means : List Piece × List Piece → Type 0
    Means s =
        meaning (with_store image Global (record (global image) { mappings = exchanged (global image).mappings s.0 s.1; jobs = (global image).jobs; log = map.remove (global image).log op.number }))
        ≡ record (meaning image) { mappings = exchanged (global image).mappings s.0 s.1; jobs = (global image).jobs }
