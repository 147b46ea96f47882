-- A put and a delete of a row under a key that an attached site owns online.
use Rattle.std.proofs.Common.{◌≡◌, ◌⊎◌, Bool, true, false, cond, refl, sym, ap, ◌∙◌, subst, Some, None, inl, inr, true≢false, is_some}
use Rattle.std.specs.Prelude.{IsTrue}
use Rattle.std.specs.Ordering.{eq_by_cmp}
use Rattle.std.specs.FinMap as map
use Rattle.std.proofs.lemmas.Option.{same_Some}
use Rattle.cell_world.specs.Texts.{Text}
use Rattle.cell_world.specs.Lists.{IsOneOf}
use Rattle.cell_world.specs.Keys.{contains}
use Rattle.cell_world.specs.Orders.{row_cmp}
use Rattle.cell_world.specs.Spelled.{listed}
use Rattle.cell_world.specs.Stores.{Rows, put, delete}
use Rattle.cell_world.specs.Images.{Image, Shard, global, with_store}
use Rattle.cell_world.specs.Meaning.{owner_of}
use Rattle.cell_world.specs.Lawful.{Lawful, rows_at, read_tables}
use Rattle.cell_world.specs.Sound.{Sound, HasJob, HasRow, HasTable, RowCells, InBatch, IsAttachedIn, IsKeyOf}
use Rattle.cell_world.specs.declared.operations.Piece.{Piece}
use Rattle.cell_world.specs.declared.operations.Op.{Op}
use Rattle.cell_world.specs.declared.operations.JobRow.{JobRow}
use Rattle.cell_world.specs.declared.cells.RowName.{RowName}
use Rattle.cell_world.specs.declared.cells.Status.TheVariants.{Online, Offline}
use Rattle.cell_world.specs.declared.cells.Cell.TheVariants as cell
use Rattle.cell_world.specs.declared.cells.CellKey.TheVariants as at
use Rattle.cell_world.proofs.OrderLaws.{rows_total, tied_is, exact_rows}
use Rattle.image_laws.proofs.OwnerLaws.{owner_is, owner_key}
use Rattle.cell_world.proofs.StoreLaws.{get-insert_cases, get-remove_same}
use Rattle.image_laws.proofs.RowLaws.{with_rows}
use Rattle.image_laws.proofs.FitLaws.{fit_of_lawful}
use Rattle.cell_world.proofs.MappingLaws.{sound_mappings}
use Rattle.image_laws.proofs.RowImages.{rows_sound, batch_stays, batch_of_key, batch_owns, lawful_after}

online_offline : {A : Type 0} → Online ≡ Offline → A
online_offline e = absurd (cc)

module _ (image : Image) (sound : Sound image) (row : RowName) (p : Piece) (owned : owner_of image row.map row.key ≡ Some p) (online : p.status ≡ Online) (here : IsAttachedIn image p.location) where
  -- the row isn't in a batch in progress
  pub out_of_batch : (job : JobRow) → HasJob (global image).jobs job → row.map ≡ job.map → InBatch job row.key → ⊥
  out_of_batch job has e i =
      let b = batch_of_key image sound job has row.key i in
      let m = sound_mappings image sound in
      let of_type = owner_key (global image).maps (global image).mappings m.placed row.map row.key p owned in
      let batch = batch_owns image sound job has b.end b.location b.at row.key (subst (λ n. IsKeyOf (global image).maps n row.key) e of_type) b.holds in
      let is : p ≡ b.at.piece = same_Some p b.at.piece (sym owned ∙ ap (λ n. owner_of image n row.key) e ∙ batch) in
      online_offline (sym online ∙ ap (λ (x : Piece). x.status) is ∙ b.at.offline)

  -- it is under no offline old of a lawful operation
  clear : (op : Op) → Lawful image op → (o : Piece) → IsOneOf (listed op.olds) o → o.status ≡ Offline → (q : RowName) → q ≡ row → q.map ≡ o.map → IsTrue (contains o.span q.key) → ⊥
  clear op law o among off q is e inside =
      let m = sound_mappings image sound in
      let fit = fit_of_lawful (read_tables image) m op law in
      let of_type = owner_key (global image).maps (global image).mappings m.placed row.map row.key p owned in
      let owns = owner_is (global image).maps (global image).mappings m.placed row.map row.key m.disjoint of_type o (fit.stand o among) (sym e ∙ ap (λ (x : RowName). x.map) is) (subst (λ (x : RowName). IsTrue (contains o.span x.key)) is inside) in
      online_offline (sym online ∙ ap (λ (x : Piece). x.status) (same_Some p o (sym owned ∙ owns)) ∙ off)

  module _ (rows : Rows) (change : (q : RowName) → (map.get rows q ≡ map.get (rows_at image p.location) q) ⊎ (q ≡ row)) (tabled : HasRow rows row → HasTable (global image).tables row.map row.table) where
    cells : RowCells (global image).maps (global image).tables (owner_of image) (global image).jobs p.location rows
    cells = record {
      in_table = λ q h. elim (change q) [
        | inl f ↦ (sound.rows p.location here).in_table q (sym (ap is_some f) ∙ h)
        | inr is ↦ subst (λ (x : RowName). HasTable (global image).tables x.map x.table) (sym is) (tabled (subst (HasRow rows) is h))
      ];
      placed = λ q h. elim (change q) [
        | inl f ↦ (sound.rows p.location here).placed q (sym (ap is_some f) ∙ h)
        | inr is ↦ inl (p, ap (λ (x : RowName). owner_of image x.map x.key) is ∙ owned, refl)
      ];
    }

    pub row_sound : Sound (with_rows image p.location rows)
    row_sound = rows_sound image p.location rows (λ q. q ≡ row) change sound here cells
        (λ job h. batch_stays image p.location rows (λ q. q ≡ row) change job (λ q is e i. out_of_batch job h (sym (ap (λ (x : RowName). x.map) is) ∙ e) (subst (λ (x : RowName). InBatch job x.key) is i)) (sound.batches job h))
        (λ op h. clear op (sound.logged.lawful op h))

  -- whatever is lawful, logged or not, stays so
  pub row_lawful : (rows : Rows) → ((q : RowName) → (map.get rows q ≡ map.get (rows_at image p.location) q) ⊎ (q ≡ row)) → (op : Op) → Lawful image op → Lawful (with_rows image p.location rows) op
  row_lawful rows change op law = lawful_after image p.location rows (λ q. q ≡ row) change sound op law (clear op law)

  abbrev stored : Rows
  stored = rows_at image p.location

  put_change : (bytes : Text) (q : RowName) → (map.get (map.insert stored row bytes) q ≡ map.get stored q) ⊎ (q ≡ row)
  put_change bytes q = elim (get-insert_cases rows_total exact_rows stored row bytes q) [ inl c ↦ inr c.0 | inr c ↦ inl c ]

  delete_change : (q : RowName) → (map.get (map.remove stored row) q ≡ map.get stored q) ⊎ (q ≡ row)
  delete_change q = by (eq_by_cmp row_cmp q row) refl
    where
      by : (b : Bool) → eq_by_cmp row_cmp q row ≡ b → (map.get (map.remove stored row) q ≡ map.get stored q) ⊎ (q ≡ row)
      by true t = inr (tied_is exact_rows q row t)
      by false t = inl (map.get-remove rows_total stored row q ∙ ap (λ b. cond b None (map.get stored q)) t)

  gone : HasRow (map.remove stored row) row → ⊥
  gone h = true≢false (sym h ∙ ap is_some (get-remove_same rows_total stored row))

  pub put_sound : (bytes : Text) → HasTable (global image).tables row.map row.table → Sound (with_store image (Shard p.location) (put (image.at (Shard p.location)) (cell.Row row bytes)))
  put_sound bytes tabled = row_sound (map.insert stored row bytes) (put_change bytes) (λ h. tabled)

  pub put_lawful : (bytes : Text) (op : Op) → Lawful image op → Lawful (with_store image (Shard p.location) (put (image.at (Shard p.location)) (cell.Row row bytes))) op
  put_lawful bytes = row_lawful (map.insert stored row bytes) (put_change bytes)

  pub delete_sound : Sound (with_store image (Shard p.location) (delete (image.at (Shard p.location)) (at.Row row)))
  delete_sound = row_sound (map.remove stored row) delete_change (λ h. absurd (gone h))

  pub delete_lawful : (op : Op) → Lawful image op → Lawful (with_store image (Shard p.location) (delete (image.at (Shard p.location)) (at.Row row))) op
  delete_lawful = row_lawful (map.remove stored row) delete_change
