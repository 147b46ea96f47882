-- The changes of a catalog that commands make: a map, a shard or a table comes, and a map or a shard goes.
use Rattle.std.proofs.Common.{◌≡◌, ◌≢◌, Bool, true, false, not, refl, sym, ap, ◌∙◌, subst, Some, None, is_some, ⊎_elim, ◌&&◌}
use Rattle.std.specs.Prelude.{IsTrue, IsSome}
use Rattle.std.specs.Ordering.{eq_by_cmp}
use Rattle.std.specs.FinMap as map
use Rattle.std.specs.FinSet as set
use Rattle.std.proofs.lemmas.Bool.{and_parts, and_from}
use Rattle.std.proofs.lemmas.Cmp.{nat_list_cmp_total}
use Rattle.cell_world.specs.Texts.{Text}
use Rattle.cell_world.specs.Keys.{same, is_among}
use Rattle.cell_world.specs.Lists.{IsOneOf}
use Rattle.cell_world.specs.Orders.{pair_cmp}
use Rattle.cell_world.specs.Spelled.{listed}
use Rattle.cell_world.specs.Stores.{Maps, Shards, Tables}
use Rattle.cell_world.specs.Images.{Image, global}
use Rattle.cell_world.specs.Plain.{is_attached}
use Rattle.cell_world.specs.Operations.{conflicts, sites_of}
use Rattle.cell_world.specs.Sound.{Sound, HasShard, HasTable, HasPiece, HasLog, HasJob, IsAttachedIn, IsSuspectIn}
use Rattle.cell_world.specs.declared.operations.Piece.{Piece}
use Rattle.cell_world.specs.declared.operations.Op.{Op}
use Rattle.cell_world.specs.declared.operations.JobRow.{JobRow}
use Rattle.cell_world.specs.declared.operations.Reach.TheVariants as reach
use Rattle.cell_world.specs.declared.cells.Away.TheVariants as away
use Rattle.cell_world.specs.declared.cells.MapKind.{MapKind}
use Rattle.cell_world.specs.declared.cells.KeyType.{KeyType}
use Rattle.cell_world.proofs.ListLaws.{all_at}
use Rattle.cell_world.proofs.OrderLaws.{pairs_total, exact_texts, exact_text_pairs}
use Rattle.cell_world.proofs.SpanLaws.{same_is, same_self, not_true, not_false}
use Rattle.cell_world.proofs.StoreLaws.{get-insert_other, get-remove_other, contains-insert_cases, contains-remove_other}
use Rattle.image_laws.specs.Catalogs.{Serves, HasGrown, tables_without, without_map}
use Rattle.image_laws.proofs.Places.{new_site, is_among_of}

-- ---- one that grew

module _ (image : Image) (sound : Sound image) where
  -- A catalog that grew serves the image.
  pub grown_serves : (maps : Maps) (shards : Shards) (tables : Tables) → HasGrown (global image) maps shards tables → Serves image maps shards tables
  grown_serves maps shards tables grown = record {
    shards_of_maps = grown.shards_of_maps;
    tables_of_maps = grown.tables_of_maps;
    maps_stand = λ name location has. grown.maps_stay name (sound.globals.shards name location has);
    tables_stand = λ name location table shard has. grown.tables_stay name table has;
    mapped = λ p has. grown.shards_stay p.map p.location (sound.globals.on_shards p has);
    coming = λ op has new among. grown.shards_stay op.map new.location (all_at (λ (n : Piece). HasShard (global image).shards op.map n.location) (listed op.news) (sound.logged.lawful op has).on_shards new among);
    targets = λ job has. grown.shards_stay job.map job.target (sound.jobs job has).target;
    suspects = λ location suspect row has. grown.shards_stay row.map location ((sound.suspect location suspect).on_shards row has);
  }

  -- A map of a new name makes it grow.
  pub map_grows : (name : Text) (kind : MapKind) (type : KeyType) → map.get (global image).maps name ≡ None
      → HasGrown (global image) (map.insert (global image).maps name (kind, type)) (global image).shards (global image).tables
  map_grows name kind type new = record {
    maps_stay = stays;
    shards_stay = λ n location has. has;
    tables_stay = λ n table has. has;
    shards_of_maps = λ n location has. let h = sound.globals.shards n location has in ap is_some (stays n h) ∙ h;
    tables_of_maps = λ n table has. let h = sound.globals.tables n table has in ap is_some (stays n h) ∙ h;
  }
    where
      stays : (n : Text) → IsSome (map.get (global image).maps n) → map.get (map.insert (global image).maps name (kind, type)) n ≡ map.get (global image).maps n
      stays n h = get-insert_other nat_list_cmp_total exact_texts (global image).maps name (kind, type) n
          (λ e. let none : map.get (global image).maps n ≡ None = subst (λ m. map.get (global image).maps m ≡ None) (sym e) new in cc (ap is_some none))

  -- what is in a set of pairs after one came in is that one, or was there
  stays_of_map : (pairs : Shards) (name second : Text) → IsSome (map.get (global image).maps name) → ((n s : Text) → IsTrue (set.contains pairs (n, s)) → IsSome (map.get (global image).maps n))
      → (n s : Text) → IsTrue (set.contains (set.insert pairs (name, second)) (n, s)) → IsSome (map.get (global image).maps n)
  stays_of_map pairs name second stands all n s has = ⊎_elim
      (λ c. subst (λ m. IsSome (map.get (global image).maps m)) (sym (ap (λ (p : Text × Text). p.0) c.0)) stands)
      (λ e. all n s (sym e ∙ has))
      (contains-insert_cases pairs_total exact_text_pairs pairs (name, second) (n, s))

  still_in : (pairs : Shards) (p q : Text × Text) → IsTrue (set.contains pairs q) → IsTrue (set.contains (set.insert pairs p) q)
  still_in pairs p q has = ⊎_elim (λ c. c.1) (λ e. e ∙ has) (contains-insert_cases pairs_total exact_text_pairs pairs p q)

  -- A shard of a map that stands makes it grow.
  pub shard_grows : (name location : Text) → IsSome (map.get (global image).maps name)
      → HasGrown (global image) (global image).maps (set.insert (global image).shards (name, location)) (global image).tables
  shard_grows name location stands = record {
    maps_stay = λ n h. refl;
    shards_stay = λ n l has. still_in (global image).shards (name, location) (n, l) has;
    tables_stay = λ n table has. has;
    shards_of_maps = stays_of_map (global image).shards name location stands sound.globals.shards;
    tables_of_maps = sound.globals.tables;
  }

  -- A table of a map that stands makes it grow.
  pub table_grows : (name table : Text) → IsSome (map.get (global image).maps name)
      → HasGrown (global image) (global image).maps (global image).shards (set.insert (global image).tables (name, table))
  table_grows name table stands = record {
    maps_stay = λ n h. refl;
    shards_stay = λ n location has. has;
    tables_stay = λ n t has. still_in (global image).tables (name, table) (n, t) has;
    shards_of_maps = sound.globals.shards;
    tables_of_maps = stays_of_map (global image).tables name table stands sound.globals.tables;
  }

-- ---- a map that goes

-- a table of another map stays
pub contains-without : (tables : Tables) (name n t : Text) → set.contains (tables_without tables name) (n, t) ≡ (set.contains tables (n, t) && not (same name n))
contains-without tables name n t = set.contains-retain tables (λ table. not (same name table.0)) (n, t)
    (λ x tie. ap (λ (q : Text × Text). not (same name q.0)) (sym (exact_text_pairs (n, t) x tie)))

module _ (image : Image) (sound : Sound image) (name : Text) (unused : (location : Text) → HasShard (global image).shards name location → ⊥) where
  not_it : (n location : Text) → HasShard (global image).shards n location → n ≢ name
  not_it n location has e = unused location (subst (λ m. HasShard (global image).shards m location) e has)

  other_map : (n : Text) → n ≢ name → map.get (map.remove (global image).maps name) n ≡ map.get (global image).maps n
  other_map n ne = get-remove_other nat_list_cmp_total exact_texts (global image).maps name n ne

  other_table : (n t : Text) → HasTable (tables_without (global image).tables name) n t → HasTable (global image).tables n t × (n ≢ name)
  other_table n t has =
      let parts = and_parts (set.contains (global image).tables (n, t)) (not (same name n)) (sym (contains-without (global image).tables name n t) ∙ has) in
      (parts.0, λ e. let is : same name n ≡ true = subst (λ m. same name m ≡ true) (sym e) (same_self name) in let differs = not_true (same name n) parts.1 in cc)

  -- Without a map that has no shard, and without its tables, it serves the image.
  pub unmap_serves : Serves image (without_map (global image) name).maps (global image).shards (without_map (global image) name).tables
  unmap_serves = record {
    shards_of_maps = λ n location has. ap is_some (other_map n (not_it n location has)) ∙ sound.globals.shards n location has;
    tables_of_maps = λ n t has. let h = other_table n t has in ap is_some (other_map n h.1) ∙ sound.globals.tables n t h.0;
    maps_stand = λ n location has. other_map n (not_it n location has);
    tables_stand = λ n location t shard has. contains-without (global image).tables name n t ∙ and_from _ _ has (not_false (same name n) (differ n location shard));
    mapped = sound.globals.on_shards;
    coming = λ op has new among. all_at (λ (n : Piece). HasShard (global image).shards op.map n.location) (listed op.news) (sound.logged.lawful op has).on_shards new among;
    targets = λ job has. (sound.jobs job has).target;
    suspects = λ location suspect row has. (sound.suspect location suspect).on_shards row has;
  }
    where
      differ : (n location : Text) → HasShard (global image).shards n location → same name n ≡ false
      differ n location has = by (same name n) refl
        where
          by : (b : Bool) → same name n ≡ b → b ≡ false
          by true e = absurd (not_it n location has (sym (same_is name n e)))
          by false e = refl

-- ---- a shard that goes

module _ (image : Image) (sound : Sound image) (name location : Text) (here : IsAttachedIn image location)
    (unmapped : (p : Piece) → HasPiece (global image).mappings p → p.map ≡ name → p.location ≡ location → ⊥)
    (untargeted : (job : JobRow) → HasJob (global image).jobs job → job.map ≡ name → job.target ≡ location → ⊥)
    (clear : (op : Op) → HasLog (global image).log op → conflicts (reach.Shard name location) op ≡ false) where
  abbrev rest : Shards
  rest = set.remove (global image).shards (name, location)

  -- another shard stands
  other_shard : (n l : Text) → (n ≡ name → l ≡ location → ⊥) → HasShard (global image).shards n l → HasShard rest n l
  other_shard n l other has = contains-remove_other pairs_total exact_text_pairs (global image).shards (name, location) (n, l) (λ e. other (ap (λ (p : Text × Text). p.0) e) (ap (λ (p : Text × Text). p.1) e)) ∙ has

  -- what stands stood
  shard_before : (n l : Text) → HasShard rest n l → HasShard (global image).shards n l
  shard_before n l has = (and_parts (not (eq_by_cmp pair_cmp (n, l) (name, location))) (set.contains (global image).shards (n, l)) (sym (set.contains-remove pairs_total (global image).shards (name, location) (n, l)) ∙ has)).1

  -- no new mapping of a logged operation comes there
  not_coming : (op : Op) → HasLog (global image).log op → (new : Piece) → IsOneOf (listed op.news) new → op.map ≡ name → new.location ≡ location → ⊥
  not_coming op has new among of_map there =
      let known : is_among (sites_of op) location ≡ true = subst (λ l. is_among (sites_of op) l ≡ true) there (is_among_of (sites_of op) new.location (new_site op new among)) in
      let conflict : conflicts (reach.Shard name location) op ≡ true = and_from _ _ (subst (λ n. same n op.map ≡ true) of_map (same_self op.map)) known in
      let none = clear op has in
      cc

  -- no suspect site is the location
  not_suspect : (l : Text) → IsSuspectIn image l → l ≢ location
  not_suspect l suspect e =
      let gone : map.get (global image).away location ≡ Some away.Suspect = subst (λ x. map.get (global image).away x ≡ Some away.Suspect) e suspect.1 in
      let off : is_attached (map.get (global image).away location) ≡ false = ap is_attached gone in
      let on : is_attached (map.get (global image).away location) ≡ true = here.attached in
      cc

  -- Without a shard of an attached site that has no mapping and is no job's target, and that no logged operation has among its sites, it serves the image.
  pub unshard_serves : Serves image (global image).maps rest (global image).tables
  unshard_serves = record {
    shards_of_maps = λ n l has. sound.globals.shards n l (shard_before n l has);
    tables_of_maps = sound.globals.tables;
    maps_stand = λ n l has. refl;
    tables_stand = λ n l t shard has. has;
    mapped = λ p has. other_shard p.map p.location (unmapped p has) (sound.globals.on_shards p has);
    coming = λ op has new among. other_shard op.map new.location (not_coming op has new among) (all_at (λ (n : Piece). HasShard (global image).shards op.map n.location) (listed op.news) (sound.logged.lawful op has).on_shards new among);
    targets = λ job has. other_shard job.map job.target (untargeted job has) (sound.jobs job has).target;
    suspects = λ l suspect row has. other_shard row.map l (λ e f. not_suspect l suspect f) ((sound.suspect l suspect).on_shards row has);
  }
