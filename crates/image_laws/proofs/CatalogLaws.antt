-- Another catalog that serves an image: it keeps the image sound, and changes nothing else of the meaning.
use Rattle.std.proofs.Common.{◌≡◌, ◌⊎◌, Bool, true, false, cond, refl, sym, ap, ◌∙◌, subst, Some, None, Option, is_some, inl, inr, List, [], ◌∷◌, ◌++◌}
use Rattle.std.specs.Prelude.{find, option_and_then, IsTrue, IfSome}
use Rattle.std.specs.List.{AllByRecursion}
use Rattle.std.specs.FinMap as map
use Rattle.std.specs.FinSet as set
use Rattle.std.proofs.lemmas.Bool.{and_parts}
use Rattle.cell_world.specs.Texts.{Text}
use Rattle.cell_world.specs.Lists.{IsOneOf}
use Rattle.cell_world.specs.Keys.{low_of}
use Rattle.cell_world.specs.KeyForms.{is_normal, is_span_of}
use Rattle.cell_world.specs.Spelled.{listed}
use Rattle.cell_world.specs.Stores.{Maps, Shards, Tables, Locals, Rows, IsKeyed}
use Rattle.cell_world.specs.Images.{Image, Place, Global, Shard, global}
use Rattle.cell_world.specs.Plain.{Owner, covers}
use Rattle.cell_world.specs.Meaning.{meaning, owner_of, next_job, is_attached_at}
use Rattle.cell_world.specs.Jobs.{Replace, table_row, Gives, IsBatchEnd}
use Rattle.cell_world.specs.Lawful.{read_tables, HasShape, LawfulOn, IsOfJob, job_of_pieces}
use Rattle.cell_world.specs.Sound.{Sound, OnlineRows, RowCells, SuspectSite, JobCells, HasShard, HasPiece, HasLog, HasJob, HasLocal, IsSpanOf, IsKeyOf, IsOwnedBy, IsComing, IsBeingMoved, IsSuspectIn}
use Rattle.cell_world.specs.declared.operations.Piece.{Piece}
use Rattle.cell_world.specs.declared.operations.Op.{Op}
use Rattle.cell_world.specs.declared.operations.JobRow.{JobRow}
use Rattle.cell_world.specs.declared.spans.Span.{Span}
use Rattle.cell_world.specs.declared.spans.Span.TheVariants.{Range, Point}
use Rattle.cell_world.specs.declared.cells.LocalRow.{LocalRow}
use Rattle.cell_world.specs.declared.cells.RowName.{RowName}
use Rattle.cell_world.specs.declared.cells.Status.TheVariants.{Online}
use Rattle.cell_world.specs.declared.cells.MapKind.{MapKind}
use Rattle.cell_world.specs.declared.cells.MapKind.TheVariants as kind
use Rattle.cell_world.specs.declared.cells.KeyType.{KeyType}
use Rattle.cell_world.proofs.ListLaws.{all_at, all_from, in_first}
use Rattle.cell_world.proofs.SpanLaws.{holds_low}
use Rattle.image_laws.specs.Catalogs.{with_catalog, Serves}
use Rattle.image_laws.proofs.OwnerLaws.{found_stands, owner_stands}
use Rattle.image_laws.proofs.MeaningLaws.{same_rows}

-- the low key of a span is of the span's key type
pub normal_low : (k : MapKind) (type : KeyType) (s : Span) → IsTrue (is_span_of k type s) → IsTrue (is_normal type (low_of s))
normal_low kind.Range type (Range low high) h = (and_parts _ _ h).0
normal_low kind.Range type (Point at) h = cc
normal_low kind.List type (Range low high) h = cc
normal_low kind.List type (Point at) h = h

-- an operation has an old mapping or a new one
pub some_piece : (rows : Text → Rows) (olds news : List Piece) → HasShape rows olds news → ((old : Piece) × IsOneOf olds old) ⊎ ((new : Piece) × IsOneOf news new)
some_piece rows [] [] shape = absurd shape
some_piece rows [] (new ∷ news) shape = inr (new, inl refl)
some_piece rows (old ∷ olds) news shape = inl (old, inl refl)

-- ---- which maps have a shard

module _ (image : Image) (sound : Sound image) where
  -- the map has a shard
  abbrev pub HasSomeShard : Text → Type 0
  HasSomeShard name = (location : Text) × HasShard (global image).shards name location

  -- that of an operation, which has an old mapping or a new one
  pub shard_of_op : (op : Op) → LawfulOn (read_tables image) op → HasSomeShard op.map
  shard_of_op op h = by (some_piece _ (listed op.olds) (listed op.news) h.shape)
    where
      by : ((old : Piece) × IsOneOf (listed op.olds) old) ⊎ ((new : Piece) × IsOneOf (listed op.news) new) → HasSomeShard op.map
      by (inl (old, among)) =
          let stands = all_at (λ (o : Piece). HasPiece (global image).mappings o) (listed op.olds) h.olds_stand old among in
          let of_map = all_at (λ (p : Piece). p.map ≡ op.map) (listed op.olds ++ listed op.news) h.of_map old (in_first (listed op.olds) (listed op.news) old among) in
          (old.location, subst (λ name. HasShard (global image).shards name old.location) of_map (sound.globals.on_shards old stands))
      by (inr (new, among)) = (new.location, all_at (λ (n : Piece). HasShard (global image).shards op.map n.location) (listed op.news) h.on_shards new among)

  -- that of a key with an owner
  pub shard_of_owner : (name key : Text) (p : Piece) → owner_of image name key ≡ Some p → HasSomeShard name
  shard_of_owner name key p owned =
      let s = owner_stands (global image).maps (global image).mappings (sound.keyed Global).mappings name key p owned in
      (p.location, subst (λ n. HasShard (global image).shards n p.location) s.1 (sound.globals.on_shards p s.0))

  -- that of a key for which a new mapping comes
  shard_of_coming : (name key location : Text) → IsComing (global image).log name key location → HasSomeShard name
  shard_of_coming name key location (op, logged, of_map, comes) =
      let s = shard_of_op op (sound.logged.lawful op logged) in
      (s.0, subst (λ n. HasShard (global image).shards n s.0) of_map s.1)

  -- that of an online row, since the low key of its span has an owner, or will have one
  pub shard_of_online : (location : Text) (locals : Locals) → OnlineRows (global image).maps (owner_of image) (global image).log location locals
      → (row : LocalRow) → HasLocal locals row → row.status ≡ Online → HasSomeShard row.map
  shard_of_online location locals h row has on =
      let span = h.spans row has on in
      let low = low_of row.span in
      by low (h.owned row low has on (holds_low span.0 span.1 row.span span.3) (span.0, span.1, span.2, normal_low span.0 span.1 row.span span.3))
    where
      by : (key : Text) → IsOwnedBy (owner_of image) row.map key location ⊎ ((owner_of image row.map key ≡ None) × IsComing (global image).log row.map key location) → HasSomeShard row.map
      by key (inl owned) = shard_of_owner row.map key owned.0 owned.1
      by key (inr unowned) = shard_of_coming row.map key location unowned.1

  -- that of a row cell, whose key has an owner or is in a batch
  shard_of_row : (location : Text) (row : RowName) → IsOwnedBy (owner_of image) row.map row.key location ⊎ IsBeingMoved (global image).maps (global image).jobs row.map row.key location → HasSomeShard row.map
  shard_of_row location row (inl owned) = shard_of_owner row.map row.key owned.0 owned.1
  shard_of_row location row (inr m) = (m.job.target, subst (λ n. HasShard (global image).shards n m.job.target) m.of_map (sound.jobs m.job m.stands).target)

-- ---- the image with another catalog

module _ (image : Image) (sound : Sound image) (maps : Maps) (shards : Shards) (tables : Tables) (serves : Serves image maps shards tables) where
  abbrev after : Image
  after = with_catalog image maps shards tables

  -- what is said of a map with a shard is said of it now, and the other way
  stood : (name : Text) → HasSomeShard image sound name → map.get maps name ≡ map.get (global image).maps name
  stood name shard = serves.maps_stand name shard.0 shard.1

  span_stays : (name : Text) → HasSomeShard image sound name → (s : Span) → IsSpanOf (global image).maps name s → IsSpanOf maps name s
  span_stays name shard s h = (h.0, h.1, stood name shard ∙ h.2, h.3)

  key_stays : (name key : Text) → HasSomeShard image sound name → IsKeyOf (global image).maps name key → IsKeyOf maps name key
  key_stays name key shard h = (h.0, h.1, stood name shard ∙ h.2, h.3)

  key_before : (name key : Text) → HasSomeShard image sound name → IsKeyOf maps name key → IsKeyOf (global image).maps name key
  key_before name key shard h = (h.0, h.1, sym (stood name shard) ∙ h.2, h.3)

  -- Each key has the owner that it had.
  same_owner_at : (name key : Text) → owner_of after name key ≡ owner_of image name key
  same_owner_at name key = by searched refl
    where
      searched : Option Piece
      searched = find (covers name key) (map.values (global image).mappings)

      of_map : Option (MapKind × KeyType) → Option Piece
      of_map m = option_and_then (λ m. cond (is_normal m.1 key) searched None) m

      either : (b : Bool) (o : Option Piece) → o ≡ None → cond b o None ≡ None
      either true o e = e
      either false o e = refl

      unowned : (m : Option (MapKind × KeyType)) → searched ≡ None → of_map m ≡ None
      unowned None e = refl
      unowned (Some m) e = either (is_normal m.1 key) searched e

      by : (found : Option Piece) → searched ≡ found → of_map (map.get maps name) ≡ of_map (map.get (global image).maps name)
      by None e = unowned (map.get maps name) e ∙ sym (unowned (map.get (global image).maps name) e)
      by (Some p) e =
          let s = found_stands (global image).maps (global image).mappings (sound.keyed Global).mappings name key p e in
          ap of_map (stood name (p.location, subst (λ n. HasShard (global image).shards n p.location) s.1 (sound.globals.on_shards p s.0)))

  pub same_owners : owner_of after ≡ owner_of image
  same_owners = λ i name key. same_owner_at name key i

  -- The meaning has the other catalog, and nothing else changes.
  pub meaning-catalog : meaning after ≡ record (meaning image) { maps = maps; shards = shards; tables = tables }
  meaning-catalog = λ i. record (meaning after) { rows = same_rows after image (λ row. ap (row_of row) same_owners) i }
    where
      row_of : RowName → Owner → Option Text
      row_of row own = option_and_then (λ p. cond (is_attached_at image.locations (global image).away p.location) (map.get (image.at (Shard p.location)).rows row) None) (own row.map row.key)

  keep_step : (op : Op) (j : Option JobRow) → IsOfJob (read_tables image) op j → IsOfJob (read_tables after) op j
  keep_step op None h = h
  keep_step op (Some job) h = record { row = subst gives (sym same_owners) h.row; emptied = h.emptied }
    where
      gives : Owner → Type 0
      gives own = Gives (IsBatchEnd own job) (table_row own (global image).mappings job) (Replace (listed op.olds) (listed op.news) op.extra)

  -- A logged operation stays lawful.
  keep_lawful : (op : Op) → HasLog (global image).log op → LawfulOn (read_tables image) op → LawfulOn (read_tables after) op
  keep_lawful op logged h = record {
    map_stands = ap is_some same ∙ h.map_stands;
    olds_stand = h.olds_stand;
    of_map = h.of_map;
    olds_in_order = h.olds_in_order;
    news_in_order = h.news_in_order;
    attached = h.attached;
    on_shards = all_from (λ (n : Piece). IsTrue (set.contains shards (op.map, n.location))) (listed op.news) (serves.coming op logged);
    spans = subst (λ o. IfSome o (λ m. AllByRecursion (λ (p : Piece). IsTrue (is_span_of m.0 m.1 p.span)) (listed op.news))) (sym same) h.spans;
    disjoint = h.disjoint;
    free = h.free;
    hull = h.hull;
    shape = h.shape;
    job = keep_step op (job_of_pieces (global image).jobs (listed op.olds)) h.job;
    no_drop = h.no_drop;
  }
    where
      same : map.get maps op.map ≡ map.get (global image).maps op.map
      same = stood op.map (shard_of_op image sound op h)

  keep_online : (location : Text) (locals : Locals) → OnlineRows (global image).maps (owner_of image) (global image).log location locals → OnlineRows maps (owner_of after) (global image).log location locals
  keep_online location locals h = subst (λ own. OnlineRows maps own (global image).log location locals) (sym same_owners) (record {
    spans = λ row has on. span_stays row.map (shard_of_online image sound location locals h row has on) row.span (h.spans row has on);
    owned = λ row key has on inside of_type. h.owned row key has on inside (key_before row.map key (shard_of_online image sound location locals h row has on) of_type);
  })

  keep_rows : (location : Text) (rows : Rows) → RowCells (global image).maps (global image).tables (owner_of image) (global image).jobs location rows → RowCells maps tables (owner_of after) (global image).jobs location rows
  keep_rows location rows h = subst (λ own. RowCells maps tables own (global image).jobs location rows) (sym same_owners) (record {
    in_table = λ row has. let shard = shard_of_row image sound location row (h.placed row has) in serves.tables_stand row.map shard.0 row.table shard.1 (h.in_table row has);
    placed = λ row has. elim (h.placed row has) [
      | inl owned ↦ inl owned
      | inr m ↦ inr (record { job = m.job; stands = m.stands; of_map = m.of_map; at_site = m.at_site; in_batch = m.in_batch; of_type = key_stays row.map row.key (shard_of_row image sound location row (inr m)) m.of_type })
    ];
  })

  keep_suspect : (location : Text) → IsSuspectIn image location → (locals : Locals) → ((row : LocalRow) → HasLocal locals row → HasShard shards row.map location)
      → SuspectSite (global image).maps (global image).shards location locals → SuspectSite maps shards location locals
  keep_suspect location suspect locals on_shards h = record { plain = h.plain; on_shards = on_shards; spans = λ row has. span_stays row.map (location, h.on_shards row has) row.span (h.spans row has); disjoint = h.disjoint }

  keep_job : (job : JobRow) → HasJob (global image).jobs job → JobCells (global image).maps (global image).shards (global image).mappings (next_job image) job → JobCells maps shards (global image).mappings (next_job image) job
  keep_job job has h = record {
    type = h.type;
    range_map = stood job.map (job.target, h.target) ∙ h.range_map;
    range = h.range;
    cursor_form = h.cursor_form;
    target = serves.targets job has;
    source = h.source;
    from_low = h.from_low;
    to_high = h.to_high;
    tokens = λ key n c. let p = h.tokens key n c in (p.0, same_owner_at job.map key ∙ p.1, p.2);
    done = λ key n c. let p = h.done key n c in (p.0, same_owner_at job.map key ∙ p.1, p.2, p.3);
    cut_off = h.cut_off;
    left = λ key n c f. let p = h.left key n c f in (p.0, same_owner_at job.map key ∙ p.1, p.2, p.3);
    numbered = h.numbered;
  }

  keep_keyed : (place : Place) → IsKeyed (after.at place)
  keep_keyed Global = let k = sound.keyed Global in record { mappings = k.mappings; log = k.log; jobs = k.jobs; locals = k.locals }
  keep_keyed (Shard location) = sound.keyed (Shard location)

  pub catalog_keeps_sound : Sound after
  catalog_keeps_sound = record {
    keyed = keep_keyed;
    globals = record {
      shards = serves.shards_of_maps;
      tables = serves.tables_of_maps;
      operations = sound.globals.operations;
      jobs = sound.globals.jobs;
      spans = λ p h. span_stays p.map (p.location, sound.globals.on_shards p h) p.span (sound.globals.spans p h);
      on_shards = serves.mapped;
      disjoint = sound.globals.disjoint;
    };
    logged = record { lawful = λ op h. keep_lawful op h (sound.logged.lawful op h); numbered = sound.logged.numbered; hulls = sound.logged.hulls };
    locals = sound.locals;
    online = λ location h. keep_online location (image.at (Shard location)).locals (sound.online location h);
    rows = λ location h. keep_rows location (image.at (Shard location)).rows (sound.rows location h);
    batches = sound.batches;
    suspect = λ location h. keep_suspect location h (image.at (Shard location)).locals (serves.suspects location h) (sound.suspect location h);
    jobs = λ job h. keep_job job h (sound.jobs job h);
    progress = sound.progress;
    tokens = sound.tokens;
  }
