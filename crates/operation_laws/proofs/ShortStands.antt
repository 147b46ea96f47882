-- A short change that is in no live operation's way leaves each live operation standing.
use Rattle.std.proofs.Common.{◌≡◌, Bool, true, false, cond, refl, sym, ap, ◌∙◌, subst, Some, None, Option, inl, List, [], ◌∷◌, ℕ, true≢false}
use Rattle.std.specs.Prelude.{IsTrue}
use Rattle.std.specs.FinMap as map
use Rattle.std.specs.Ordering.{eq_by_cmp}
use Rattle.std.proofs.lemmas.Bool.{and_from}
use Rattle.cell_world.specs.Texts.{Text}
use Rattle.cell_world.specs.Keys.{same, overlaps}
use Rattle.cell_world.specs.Lists.{IsOneOf}
use Rattle.cell_world.specs.Spelled.{listed}
use Rattle.cell_world.specs.Stores.{Maps, Shards, Tables, Mappings, piece_key, exchanged, put, delete}
use Rattle.cell_world.specs.Images.{Image, Global, Shard, global, with_store}
use Rattle.cell_world.specs.Plain.{Connections, with_connections}
use Rattle.cell_world.specs.Meaning.{meaning}
use Rattle.cell_world.specs.Operations.{conflicts}
use Rattle.cell_world.specs.Sound.{Sound, HasLog, HasShard}
use Rattle.cell_world.specs.Orders.{pair_cmp}
use Rattle.cell_world.specs.declared.operations.Op.{Op}
use Rattle.cell_world.specs.declared.operations.Piece.{Piece}
use Rattle.cell_world.specs.declared.operations.Reach.{Reach}
use Rattle.cell_world.specs.declared.operations.Reach.TheVariants as reach
use Rattle.cell_world.specs.declared.cells.Token.{Token}
use Rattle.cell_world.specs.declared.cells.Cell.TheVariants as cell
use Rattle.cell_world.specs.declared.cells.CellKey.TheVariants as at
use Rattle.cell_world.proofs.ListLaws.{all_at}
use Rattle.cell_world.proofs.MappingLaws.{sound_mappings}
use Rattle.cell_world.proofs.OrderLaws.{pairs_total, exact_text_pairs}
use Rattle.cell_world.proofs.SpanLaws.{same_self, overlaps_comm}
use Rattle.image_laws.specs.Catalogs.{Serves}
use Rattle.image_laws.proofs.SoundParts.{are_logged}
use Rattle.image_laws.proofs.StaysLawful.{token_fits}
use Rattle.op_log.specs.ShortChanges.{ShortChange, Catalog, Unshard, Retoken, PutRow, DeleteRow}
use Rattle.plain_model.specs.Legal.{IsOwnOf}
use Rattle.plain_model.specs.Steps.{Exchange, exchange_of}
use Rattle.session_laws.specs.Doing.{AllDoing, Live}
use Rattle.session_laws.specs.Core.{Stands, AllStand}
use Rattle.session_laws.specs.Needs.{Needs}
use Rattle.operation_laws.proofs.Exchanges.{name_of, map_only, map_of_own}
use Rattle.operation_laws.proofs.Standing.{stands_global, stands_tables, stands_exchange, stands_rows, bare}

-- a mapping that is put over one of its key
put_over : (mappings : Mappings) (p q : Piece) → piece_key q ≡ piece_key p → exchanged mappings (p ∷ []) (q ∷ []) ≡ map.insert mappings (piece_key q) q
put_over mappings p q e = map.same_map pairs_total exact_text_pairs _ _ (λ k.
    map.get-insert pairs_total (map.remove mappings (piece_key p)) (piece_key q) q k
    ∙ by k (eq_by_cmp pair_cmp k (piece_key q)) refl
    ∙ sym (map.get-insert pairs_total mappings (piece_key q) q k))
  where
    by : (k : Text × Text) (b : Bool) → eq_by_cmp pair_cmp k (piece_key q) ≡ b → cond (eq_by_cmp pair_cmp k (piece_key q)) (Some q) (map.get (map.remove mappings (piece_key p)) k) ≡ cond (eq_by_cmp pair_cmp k (piece_key q)) (Some q) (map.get mappings k)
    by k true t = ap (λ b. cond b (Some q) (map.get (map.remove mappings (piece_key p)) k)) t ∙ sym (ap (λ b. cond b (Some q) (map.get mappings k)) t)
    by k false t = ap (cond (eq_by_cmp pair_cmp k (piece_key q)) (Some q)) (map.get-remove pairs_total mappings (piece_key p) k ∙ ap (λ b. cond b None (map.get mappings k)) (ap (eq_by_cmp pair_cmp k) (sym e) ∙ t))

module _ (session : ℕ) (l : Live) (image : Image) (sound : Sound image) (stands : Stands Needs session l image) where
  -- its map has a shard
  has_shard : (location : Text) × HasShard (global image).shards l.op.map location
  has_shard = by (listed l.op.olds) (listed l.op.news) refl refl
    where
      by : (olds news : List Piece) → listed l.op.olds ≡ olds → listed l.op.news ≡ news → (location : Text) × HasShard (global image).shards l.op.map location
      by [] [] o n = absurd (bare session l image sound stands o n)
      by [] (x ∷ news) o n =
          (x.location, all_at (λ (new : Piece). HasShard (global image).shards l.op.map new.location) (listed l.op.news) (sound.logged.lawful l.op stands.logged).on_shards x (subst (λ ps. IsOneOf ps x) (sym n) (inl refl)))
      by (x ∷ olds) news o n =
          let among : IsOneOf (listed l.op.olds) x = subst (λ ps. IsOneOf ps x) (sym o) (inl refl) in
          let fit = (are_logged image sound).fits l.op stands.logged in
          (x.location, subst (λ name. HasShard (global image).shards name x.location) (fit.old_map x among) (sound.globals.on_shards x (fit.stand x among)))

  stands_catalog : (maps : Maps) (shards : Shards) (tables : Tables) → Serves image maps shards tables → Stands Needs session l (with_store image Global (record (global image) { maps = maps; shards = shards; tables = tables }))
  stands_catalog maps shards tables serves = stands_global session l image sound stands (record (global image) { maps = maps; shards = shards; tables = tables }) stands.logged refl
      (λ connections none. now connections (stands.exchange connections none))
    where
      now : (connections : Connections) → IsOwnOf (with_connections (meaning image) connections) l.command None image l.op
          → IsOwnOf (with_connections (meaning (with_store image Global (record (global image) { maps = maps; shards = shards; tables = tables }))) connections) l.command None (with_store image Global (record (global image) { maps = maps; shards = shards; tables = tables })) l.op
      now connections own =
          let name : l.op.map ≡ name_of l.command = map_of_own (global image).maps (global image).mappings (sound_mappings image sound) l.op ((are_logged image sound).fits l.op stands.logged) (bare session l image sound stands)
          (with_connections (meaning image) connections) l.command refl refl own in
          let s = has_shard in
          let stays : map.get maps (name_of l.command) ≡ map.get (global image).maps (name_of l.command) = subst (λ name. map.get maps name ≡ map.get (global image).maps name) name (serves.maps_stand l.op.map s.0 s.1) in
          let same : exchange_of (with_connections (meaning image) connections) l.command ≡ exchange_of (with_connections (meaning (with_store image Global (record (global image) { maps = maps; shards = shards; tables = tables }))) connections) l.command =
          map_only (with_connections (meaning image) connections) (with_connections (meaning (with_store image Global (record (global image) { maps = maps; shards = shards; tables = tables }))) connections) l.command (sym stays) refl in
          (own.0 ∙ ap (λ (e : Exchange). e.0) same, own.1 ∙ ap (λ (e : Exchange). e.1) same)

  -- a mapping that is apart from it
  stands_token : (p : Piece) → map.get (global image).mappings (piece_key p) ≡ Some p → (token : Option Token) → conflicts (reach.Part p.map p.span) l.op ≡ false → Stands Needs session l (with_store image Global (put (global image) (cell.Piece (record p { token = token }))))
  stands_token p has token clear = stands_exchange session l image sound stands p.map p.span (p ∷ []) (record p { token = token } ∷ []) (token_fits (global image).maps (global image).mappings (sound_mappings image sound) p token has) apart
      (put (global image) (cell.Piece (record p { token = token }))) stands.logged refl refl (sym (put_over (global image).mappings p (record p { token = token }) refl))
    where
      apart : l.op.map ≡ p.map → IsTrue (overlaps l.op.hull p.span) → ⊥
      apart same_map over = true≢false (sym (and_from (same p.map l.op.map) (overlaps p.span l.op.hull) (subst (λ n. same p.map n ≡ true) (sym same_map) (same_self p.map)) (overlaps_comm p.span l.op.hull ∙ over)) ∙ clear)

  pub stands_short : (reached : Reach) (after : Image) → ShortChange image reached after → conflicts reached l.op ≡ false → Stands Needs session l after
  stands_short reached after (Catalog r maps shards tables serves is) clear = subst (Stands Needs session l) (sym is) (stands_catalog maps shards tables serves)
  stands_short reached after (Unshard name location r here unmapped untargeted is) clear = subst (Stands Needs session l) (sym is) (stands_tables session l image sound stands (delete (global image) (at.Shard name location)) stands.logged refl refl refl)
  stands_short reached after (Retoken p has r token old_free new_free is) clear = subst (Stands Needs session l) (sym is) (stands_token p has token (subst (λ x. conflicts x l.op ≡ false) r clear))
  stands_short reached after (PutRow r row bytes p owned online here tabled is) clear = subst (Stands Needs session l) (sym is) (stands_rows session l image sound stands p.location (put (image.at (Shard p.location)) (cell.Row row bytes)) refl)
  stands_short reached after (DeleteRow r row p owned online here is) clear = subst (Stands Needs session l) (sym is) (stands_rows session l image sound stands p.location (delete (image.at (Shard p.location)) (at.Row row)) refl)

-- so each does, where no logged operation conflicts with what is reached
pub all_stand_short : (doing : AllDoing) (image : Image) → Sound image → AllStand Needs doing image → (reached : Reach) (after : Image) → ShortChange image reached after → ((op : Op) → HasLog (global image).log op → conflicts reached op ≡ false) → AllStand Needs doing after
all_stand_short doing image sound stand reached after change clear t l is = stands_short t l image sound (stand t l is) reached after change (clear l.op (stand t l is).logged)
