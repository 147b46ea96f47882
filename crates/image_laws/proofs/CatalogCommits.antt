-- What `map`, `shard`, `table`, `unmap` and `unshard` commit: the image stays sound, and in the meaning the catalog alone changes.
use Rattle.std.proofs.Common.{◌≡◌, ◌≢◌, Bool, true, false, not, refl, sym, ap, ◌∙◌, subst, None, inl, inr, ⊎_elim, List, [], ◌∷◌, ◌&&◌}
use Rattle.std.specs.Prelude.{IsSome}
use Rattle.std.specs.FinMap as map
use Rattle.std.specs.FinSet as set
use Rattle.cell_world.specs.Texts.{Text}
use Rattle.cell_world.specs.Keys.{same}
use Rattle.cell_world.specs.Lists.{IsOneOf}
use Rattle.cell_world.specs.Stores.{Store, Tables, put, delete, changed}
use Rattle.cell_world.specs.Images.{Image, Global, global, with_store}
use Rattle.cell_world.specs.Meaning.{meaning}
use Rattle.cell_world.specs.Operations.{conflicts}
use Rattle.cell_world.specs.Sound.{Sound, HasShard, HasTable, HasPiece, HasLog, HasJob, IsAttachedIn}
use Rattle.cell_world.specs.declared.operations.Piece.{Piece}
use Rattle.cell_world.specs.declared.operations.Op.{Op}
use Rattle.cell_world.specs.declared.operations.JobRow.{JobRow}
use Rattle.cell_world.specs.declared.operations.Reach.TheVariants as reach
use Rattle.cell_world.specs.declared.cells.Cell.TheVariants as cell
use Rattle.cell_world.specs.declared.cells.CellKey.TheVariants as at
use Rattle.cell_world.specs.declared.cells.MapKind.{MapKind}
use Rattle.cell_world.specs.declared.cells.KeyType.{KeyType}
use Rattle.cell_world.proofs.OrderLaws.{pairs_total, exact_text_pairs}
use Rattle.cell_world.proofs.SpanLaws.{same_is, same_self}
use Rattle.cell_world.proofs.StoreLaws.{contains-remove_same, contains-remove_other, contains-remove_cases}
use Rattle.image_laws.specs.Catalogs.{tables_without, without_map, table_deletes, unmap_edits}
use Rattle.image_laws.proofs.CatalogLaws.{catalog_keeps_sound, meaning-catalog}
use Rattle.image_laws.proofs.CatalogChanges.{grown_serves, map_grows, shard_grows, table_grows, unmap_serves, unshard_serves, contains-without}

-- ---- a map, a shard or a table comes

module _ (image : Image) (sound : Sound image) (name : Text) (kind : MapKind) (type : KeyType) (new : map.get (global image).maps name ≡ None) where
  pub map_keeps_sound : Sound (with_store image Global (put (global image) (cell.Map name kind type)))
  map_keeps_sound = catalog_keeps_sound image sound _ _ _ (grown_serves image sound _ _ _ (map_grows image sound name kind type new))

  pub meaning-put_map : meaning (with_store image Global (put (global image) (cell.Map name kind type))) ≡ record (meaning image) { maps = map.insert (global image).maps name (kind, type) }
  meaning-put_map = meaning-catalog image sound _ _ _ (grown_serves image sound _ _ _ (map_grows image sound name kind type new))

module _ (image : Image) (sound : Sound image) (name location : Text) (stands : IsSome (map.get (global image).maps name)) where
  pub shard_keeps_sound : Sound (with_store image Global (put (global image) (cell.Shard name location)))
  shard_keeps_sound = catalog_keeps_sound image sound _ _ _ (grown_serves image sound _ _ _ (shard_grows image sound name location stands))

  pub meaning-put_shard : meaning (with_store image Global (put (global image) (cell.Shard name location))) ≡ record (meaning image) { shards = set.insert (global image).shards (name, location) }
  meaning-put_shard = meaning-catalog image sound _ _ _ (grown_serves image sound _ _ _ (shard_grows image sound name location stands))

module _ (image : Image) (sound : Sound image) (name table : Text) (stands : IsSome (map.get (global image).maps name)) where
  pub table_keeps_sound : Sound (with_store image Global (put (global image) (cell.Table name table)))
  table_keeps_sound = catalog_keeps_sound image sound _ _ _ (grown_serves image sound _ _ _ (table_grows image sound name table stands))

  pub meaning-put_table : meaning (with_store image Global (put (global image) (cell.Table name table))) ≡ record (meaning image) { tables = set.insert (global image).tables (name, table) }
  meaning-put_table = meaning-catalog image sound _ _ _ (grown_serves image sound _ _ _ (table_grows image sound name table stands))

-- ---- a map goes, with its tables

module _ (image : Image) (sound : Sound image) (name : Text) (unused : (location : Text) → HasShard (global image).shards name location → ⊥) where
  pub unmap_keeps_sound : Sound (with_store image Global (without_map (global image) name))
  unmap_keeps_sound = catalog_keeps_sound image sound _ _ _ (unmap_serves image sound name unused)

  pub meaning-unmap : meaning (with_store image Global (without_map (global image) name)) ≡ record (meaning image) { maps = map.remove (global image).maps name; tables = tables_without (global image).tables name }
  meaning-unmap = meaning-catalog image sound _ _ _ (unmap_serves image sound name unused)

-- the tables that are left when these tables of a map are deleted
abbrev tables_after : Tables → Text → List Text → Tables
tables_after tables name [] = tables
tables_after tables name (t ∷ ts) = tables_after (set.remove tables (name, t)) name ts

changed-tables : (s : Store) (name : Text) (ts : List Text) → changed s (table_deletes name ts) ≡ record s { tables = tables_after s.tables name ts }
changed-tables s name [] = refl
changed-tables s name (t ∷ ts) = changed-tables (delete s (at.Table name t)) name ts

-- those of other maps are left
left_of_others : (tables : Tables) (name : Text) (ts : List Text) (q : Text × Text) → q.0 ≢ name → set.contains (tables_after tables name ts) q ≡ set.contains tables q
left_of_others tables name [] q other = refl
left_of_others tables name (t ∷ ts) q other =
    left_of_others (set.remove tables (name, t)) name ts q other
    ∙ contains-remove_other pairs_total exact_text_pairs tables (name, t) q (λ e. other (ap (λ (p : Text × Text). p.0) e))

-- none is left that wasn't there
none_more : (tables : Tables) (name : Text) (ts : List Text) (q : Text × Text) → set.contains tables q ≡ false → set.contains (tables_after tables name ts) q ≡ false
none_more tables name [] q none = none
none_more tables name (t ∷ ts) q none = none_more (set.remove tables (name, t)) name ts q (⊎_elim (λ e. e) (λ e. e ∙ none) (contains-remove_cases pairs_total tables (name, t) q))

-- and none of those that were deleted
deleted_gone : (tables : Tables) (name : Text) (ts : List Text) (t : Text) → IsOneOf ts t → set.contains (tables_after tables name ts) (name, t) ≡ false
deleted_gone tables name [] t among = absurd among
deleted_gone tables name (x ∷ ts) t (inl e) = none_more (set.remove tables (name, x)) name ts (name, t) (subst (λ y. set.contains (set.remove tables (name, x)) (name, y) ≡ false) e (contains-remove_same pairs_total tables (name, x)))
deleted_gone tables name (x ∷ ts) t (inr among) = deleted_gone (set.remove tables (name, x)) name ts t among

-- Where each table of the map is among the deleted ones, just those of the other maps are left.
left_are_others : (tables : Tables) (name : Text) (ts : List Text) → ((t : Text) → HasTable tables name t → IsOneOf ts t) → tables_after tables name ts ≡ tables_without tables name
left_are_others tables name ts all = set.same_set pairs_total exact_text_pairs _ _ (λ q. by q (same name q.0) refl)
  where
    gone : (t : Text) (b : Bool) → set.contains tables (name, t) ≡ b → set.contains (tables_after tables name ts) (name, t) ≡ false
    gone t true e = deleted_gone tables name ts t (all t e)
    gone t false e = none_more tables name ts (name, t) e

    and_false : (b : Bool) → (b && false) ≡ false
    and_false true = refl
    and_false false = refl

    and_true : (b : Bool) → (b && true) ≡ b
    and_true true = refl
    and_true false = refl

    by : (q : Text × Text) (b : Bool) → same name q.0 ≡ b → set.contains (tables_after tables name ts) q ≡ set.contains (tables_without tables name) q
    by q true e =
        subst (λ n. set.contains (tables_after tables name ts) (n, q.1) ≡ false) (same_is name q.0 e) (gone q.1 (set.contains tables (name, q.1)) refl)
        ∙ sym (contains-without tables name q.0 q.1 ∙ ap (λ b. set.contains tables q && not b) e ∙ and_false (set.contains tables q))
    by q false e =
        left_of_others tables name ts q (λ is. let one : same name q.0 ≡ true = subst (λ n. same name n ≡ true) (sym is) (same_self name) in cc)
        ∙ sym (contains-without tables name q.0 q.1 ∙ ap (λ b. set.contains tables q && not b) e ∙ and_true (set.contains tables q))

-- The edits of `unmap` with each table of the map leave the store without the map and its tables.
pub changed-unmap : (g : Store) (name : Text) (ts : List Text) → ((t : Text) → HasTable g.tables name t → IsOneOf ts t) → changed g (unmap_edits name ts) ≡ without_map g name
changed-unmap g name ts all = changed-tables (delete g (at.Map name)) name ts ∙ (λ i. record g { maps = map.remove g.maps name; tables = left_are_others g.tables name ts all i })

-- ---- a shard goes

module _ (image : Image) (sound : Sound image) (name location : Text) (here : IsAttachedIn image location)
    (unmapped : (p : Piece) → HasPiece (global image).mappings p → p.map ≡ name → p.location ≡ location → ⊥)
    (untargeted : (job : JobRow) → HasJob (global image).jobs job → job.map ≡ name → job.target ≡ location → ⊥)
    (clear : (op : Op) → HasLog (global image).log op → conflicts (reach.Shard name location) op ≡ false) where
  pub unshard_keeps_sound : Sound (with_store image Global (delete (global image) (at.Shard name location)))
  unshard_keeps_sound = catalog_keeps_sound image sound _ _ _ (unshard_serves image sound name location here unmapped untargeted clear)

  pub meaning-unshard : meaning (with_store image Global (delete (global image) (at.Shard name location))) ≡ record (meaning image) { shards = set.remove (global image).shards (name, location) }
  meaning-unshard = meaning-catalog image sound _ _ _ (unshard_serves image sound name location here unmapped untargeted clear)
