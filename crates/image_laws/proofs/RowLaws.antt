-- Rows that are put and deleted at the owner of their key.
use Rattle.std.proofs.Common.{◌≡◌, Bool, true, false, cond, refl, sym, ap, ◌∙◌, Some, None, Option, ◌&&◌}
use Rattle.std.specs.Prelude.{option_and_then}
use Rattle.std.specs.Ordering.{eq_by_cmp}
use Rattle.std.specs.FinMap as map
use Rattle.cell_world.specs.Texts.{Text}
use Rattle.cell_world.specs.Keys.{same}
use Rattle.cell_world.specs.Orders.{row_cmp}
use Rattle.cell_world.specs.Stores.{Store, Rows, put, delete}
use Rattle.cell_world.specs.Images.{Image, Shard, global, with_store}
use Rattle.cell_world.specs.Meaning.{meaning, row_at, owner_of, is_attached_at}
use Rattle.cell_world.specs.Sound.{IsAttachedIn}
use Rattle.cell_world.specs.declared.cells.Cell.TheVariants as cell
use Rattle.cell_world.specs.declared.cells.CellKey.TheVariants as at
use Rattle.cell_world.specs.declared.cells.RowName.{RowName}
use Rattle.cell_world.specs.declared.operations.Piece.{Piece}
use Rattle.cell_world.proofs.OrderLaws.{rows_total, exact_rows, tied_is, tied}
use Rattle.cell_world.proofs.SpanLaws.{same_is, same_self}
use Rattle.image_laws.proofs.HeldLaws.{held_stays}
use Rattle.image_laws.proofs.MeaningLaws.{get-rows}

-- The rows at one site are changed.
module _ (image : Image) (location : Text) (rows : Rows) where
  abbrev pub with_rows : Image
  with_rows = with_store image (Shard location) (record (image.at (Shard location)) { rows = rows })

-- The rows at an attached site that owns a row's key are changed at that row alone.
module _ (image : Image) (row : RowName) (p : Piece) (owned : owner_of image row.map row.key ≡ Some p) (here : IsAttachedIn image p.location)
    (value : Option Text) (rows : Rows) (changed : (q : RowName) → map.get rows q ≡ cond (eq_by_cmp row_cmp q row) value (map.get (image.at (Shard p.location)).rows q)) where
  abbrev after : Image
  after = with_rows image p.location rows

  abbrev found : RowName → Text → Option Text
  found q location = cond (is_attached_at image.locations (global image).away location) (map.get (after.at (Shard location)).rows q) None

  is_there : is_attached_at image.locations (global image).away p.location ≡ true
  is_there = λ i. here.known i && here.attached i

  at_row : map.get (after.at (Shard p.location)).rows row ≡ value
  at_row = ap (λ b. map.get (cond b (record (image.at (Shard p.location)) { rows = rows }) (image.at (Shard p.location))).rows row) (same_self p.location)
      ∙ changed row ∙ ap (λ b. cond b value (map.get (image.at (Shard p.location)).rows row)) (tied rows_total row)

  at_others : (q : RowName) → eq_by_cmp row_cmp q row ≡ false → (location : Text) → map.get (after.at (Shard location)).rows q ≡ map.get (image.at (Shard location)).rows q
  at_others q e location = by (same p.location location) refl
    where
      new : Store
      new = record (image.at (Shard p.location)) { rows = rows }

      by : (b : Bool) → same p.location location ≡ b → map.get (cond b new (image.at (Shard location))).rows q ≡ map.get (image.at (Shard location)).rows q
      by true f = changed q ∙ ap (λ b. cond b value (map.get (image.at (Shard p.location)).rows q)) e ∙ ap (λ l. map.get (image.at (Shard l)).rows q) (same_is p.location location f)
      by false f = refl

  pub changed_row_at : (q : RowName) → row_at after q ≡ cond (eq_by_cmp row_cmp q row) value (row_at image q)
  changed_row_at q = by (eq_by_cmp row_cmp q row) refl
    where
      by : (b : Bool) → eq_by_cmp row_cmp q row ≡ b → row_at after q ≡ cond b value (row_at image q)
      by true e = ap (row_at after) (tied_is exact_rows q row e) ∙ ap (option_and_then (λ o. found row o.location)) owned ∙ (λ i. cond (is_there i) (at_row i) None)
      by false e = ap (λ f. option_and_then f (owner_of image q.map q.key)) (λ i (o : Piece). cond (is_attached_at image.locations (global image).away o.location) (at_others q e o.location i) None)

  -- The meaning gets the rows that are its own with this one changed, and nothing else.
  pub meaning-rows : (wanted : Rows) → ((q : RowName) → map.get wanted q ≡ cond (eq_by_cmp row_cmp q row) value (map.get (meaning image).rows q)) → meaning after ≡ record (meaning image) { rows = wanted }
  meaning-rows wanted is = λ i. record (meaning image) { rows = same i; held = λ l. held_stays image p.location (record (image.at (Shard p.location)) { rows = rows }) here l i }
    where
      same : (meaning after).rows ≡ wanted
      same = map.same_map rows_total exact_rows (meaning after).rows wanted (λ q. get-rows after q ∙ changed_row_at q ∙ ap (cond (eq_by_cmp row_cmp q row) value) (sym (get-rows image q)) ∙ sym (is q))

module _ (image : Image) (row : RowName) (p : Piece) (owned : owner_of image row.map row.key ≡ Some p) (here : IsAttachedIn image p.location) where
  pub meaning-put_row : (bytes : Text) → meaning (with_store image (Shard p.location) (put (image.at (Shard p.location)) (cell.Row row bytes))) ≡ record (meaning image) { rows = map.insert (meaning image).rows row bytes }
  meaning-put_row bytes = meaning-rows image row p owned here (Some bytes) (map.insert (image.at (Shard p.location)).rows row bytes) (map.get-insert rows_total (image.at (Shard p.location)).rows row bytes)
      (map.insert (meaning image).rows row bytes) (map.get-insert rows_total (meaning image).rows row bytes)

  pub meaning-delete_row : meaning (with_store image (Shard p.location) (delete (image.at (Shard p.location)) (at.Row row))) ≡ record (meaning image) { rows = map.remove (meaning image).rows row }
  meaning-delete_row = meaning-rows image row p owned here None (map.remove (image.at (Shard p.location)).rows row) (map.get-remove rows_total (image.at (Shard p.location)).rows row)
      (map.remove (meaning image).rows row) (map.get-remove rows_total (meaning image).rows row)
