-- The key of each row at an attached site has an owner.
use Rattle.std.proofs.Common.{◌≡◌, refl, ap, ◌∙◌, Some, None, Option, is_some, inl, inr}
use Rattle.std.specs.Prelude.{IsSome}
use Rattle.std.specs.FinMap as map
use Rattle.cell_world.specs.Texts.{Text}
use Rattle.cell_world.specs.Keys.{contains}
use Rattle.cell_world.specs.Images.{Image, Global, Shard, global}
use Rattle.cell_world.specs.Meaning.{owner_of}
use Rattle.cell_world.specs.Sound.{Sound, HasRow, HasJob, IsKeyOf, IsAttachedIn, InBatch, BatchAt, IsBatch, batch_high}
use Rattle.cell_world.specs.declared.operations.JobRow.{JobRow}
use Rattle.cell_world.specs.declared.operations.Phase.{Phase}
use Rattle.cell_world.specs.declared.operations.Phase.TheVariants.{Idle, Copying, Moved}
use Rattle.cell_world.specs.declared.spans.High.{High}
use Rattle.cell_world.specs.declared.spans.Span.TheVariants.{Range}
use Rattle.cell_world.specs.declared.cells.RowName.{RowName}
use Rattle.image_laws.proofs.OwnerLaws.{owner_is}

module _ (image : Image) (sound : Sound image) where
  -- the mapping of a batch in progress owns the keys of the batch
  batch_owned : (job : JobRow) → HasJob (global image).jobs job → (name key : Text) → job.map ≡ name → InBatch job key → IsKeyOf (global image).maps name key → IsSome (owner_of image name key)
  batch_owned job has name key of_map inside of_type = by job.phase (sound.progress job has) inside.3
    where
      owned : (end : High) (location : Text) → BatchAt (global image).mappings job end location → Some end ≡ Some inside.1 → IsSome (owner_of image name key)
      owned end location b same_end =
          let low : b.low ≡ inside.0 = cc (b.at_cursor, inside.2) in
          let ends : end ≡ inside.1 = cc in
          let span : b.piece.span ≡ Range inside.0 inside.1 = b.span ∙ (λ i. Range (low i) (ends i)) in
          ap is_some (owner_is (global image).maps (global image).mappings (sound.keyed Global).mappings name key sound.globals.disjoint of_type b.piece b.stands (b.of_map ∙ of_map) (ap (λ s. contains s key) span ∙ inside.4))

      by : (f : Phase) → IsBatch image.locations (global image).away (global image).mappings job f → batch_high f ≡ Some inside.1 → IsSome (owner_of image name key)
      by Idle b h = cc
      by (Copying end) b h = owned end job.source b.0 h
      by (Moved end) b h = owned end job.target b.0 h

  -- The key of each row at an attached site has an owner.
  pub rows_owned : (location : Text) → IsAttachedIn image location → (row : RowName) → HasRow (image.at (Shard location)).rows row → IsSome (owner_of image row.map row.key)
  rows_owned location here row has = elim ((sound.rows location here).placed row has) [
    | inl owned ↦ ap is_some owned.1
    | inr m ↦ batch_owned m.job m.stands row.map row.key m.of_map m.in_batch m.of_type
  ]

  -- no row stands under a key without owner
  pub no_row : (location : Text) → IsAttachedIn image location → (row : RowName) → owner_of image row.map row.key ≡ None → map.get (image.at (Shard location)).rows row ≡ None
  no_row location here row none = by (map.get (image.at (Shard location)).rows row) refl
    where
      by : (o : Option Text) → map.get (image.at (Shard location)).rows row ≡ o → o ≡ None
      by None e = refl
      by (Some bytes) e = let some = rows_owned location here row (ap is_some e) in cc (ap is_some none)
