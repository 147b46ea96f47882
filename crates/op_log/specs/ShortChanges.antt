-- The changes of short commands, each with what it reaches and the image that it leaves.
use Rattle.std.specs.Prelude.{◌≡◌, ◌<◌, ◌^◌, Option, Some, None, IfSome}
use Rattle.cell_world.specs.Texts.{Text}
use Rattle.cell_world.specs.Stores.{Maps, Shards, Tables, put, delete}
use Rattle.cell_world.specs.Images.{Image, Global, Shard, global, with_store}
use Rattle.cell_world.specs.Meaning.{owner_of}
use Rattle.cell_world.specs.Lawful.{job_with_token}
use Rattle.cell_world.specs.Sound.{HasPiece, HasJob, HasTable, IsAttachedIn}
use Rattle.cell_world.specs.declared.operations.Piece.{Piece}
use Rattle.cell_world.specs.declared.operations.JobRow.{JobRow}
use Rattle.cell_world.specs.declared.operations.Reach.{Reach}
use Rattle.cell_world.specs.declared.operations.Reach.TheVariants as reach
use Rattle.cell_world.specs.declared.cells.RowName.{RowName}
use Rattle.cell_world.specs.declared.cells.Token.{Token}
use Rattle.cell_world.specs.declared.cells.Status.TheVariants.{Online}
use Rattle.cell_world.specs.declared.cells.Cell.TheVariants as cell
use Rattle.cell_world.specs.declared.cells.CellKey.TheVariants as at
use Rattle.image_laws.specs.Catalogs.{with_catalog, Serves}

-- A token that no standing job has, and no job to come: none, or one of at least 2^64.
abbrev pub IsFreeToken : Option Token → Type 0
IsFreeToken token = IfSome token (λ t. t.0 < 2 ^ 64 → ⊥)

-- What a command does that is no operation, where it may be done.
pub data ShortChange (image : Image) (reached : Reach) (after : Image) : Type 0 where
  -- `map`, `unmap`, `shard` and `table` put another catalog that serves the image. They reach nothing.
  Catalog : reached ≡ reach.Nothing → (maps : Maps) (shards : Shards) (tables : Tables) → Serves image maps shards tables → after ≡ with_catalog image maps shards tables → ShortChange image reached after
  -- `unshard` takes a shard away where no mapping and no job's target is. It reaches the shard.
  Unshard : (name location : Text) → reached ≡ reach.Shard name location → IsAttachedIn image location → ((p : Piece) → HasPiece (global image).mappings p → p.map ≡ name → p.location ≡ location → ⊥) →
      ((job : JobRow) → HasJob (global image).jobs job → job.map ≡ name → job.target ≡ location → ⊥) → after ≡ with_store image Global (delete (global image) (at.Shard name location)) → ShortChange image reached after
  -- `lock` and `unlock` put another token at a mapping whose token is no job's. They reach its span.
  Retoken : (p : Piece) → HasPiece (global image).mappings p → reached ≡ reach.Part p.map p.span → (token : Option Token) → job_with_token (global image).jobs p ≡ None → IsFreeToken token →
      after ≡ with_store image Global (put (global image) (cell.Piece (record p { token = token }))) → ShortChange image reached after
  -- `put` puts a row under a key that an attached site owns online. It reaches nothing.
  PutRow : reached ≡ reach.Nothing → (row : RowName) (bytes : Text) (p : Piece) → owner_of image row.map row.key ≡ Some p → p.status ≡ Online → IsAttachedIn image p.location → HasTable (global image).tables row.map row.table →
      after ≡ with_store image (Shard p.location) (put (image.at (Shard p.location)) (cell.Row row bytes)) → ShortChange image reached after
  -- `del` deletes one there
  DeleteRow : reached ≡ reach.Nothing → (row : RowName) (p : Piece) → owner_of image row.map row.key ≡ Some p → p.status ≡ Online → IsAttachedIn image p.location →
      after ≡ with_store image (Shard p.location) (delete (image.at (Shard p.location)) (at.Row row)) → ShortChange image reached after
