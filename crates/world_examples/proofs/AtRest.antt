-- The image at rest is sound, and so it is with a suspect site.
use Rattle.std.proofs.Common.{◌≡◌, ℕ, ◌<◌, ◌^◌, true≢false, refl, sym, Some, None, List, [], ◌∷◌, arith, inl, T}
use Rattle.std.specs.Prelude.{IsTrue, IfSome}
use Rattle.std.specs.FinMap as fin
use Rattle.std.specs.FinMap.{is_sorted}
use Rattle.cell_world.specs.Texts.{Text}
use Rattle.cell_world.specs.ByteOrder.{byte_cmp}
use Rattle.cell_world.specs.Orders.{pair_cmp, local_cmp}
use Rattle.cell_world.specs.Keys.{contains, overlaps}
use Rattle.cell_world.specs.KeyForms.{is_normal}
use Rattle.cell_world.specs.Stores.{AwaySites, piece_key, local_key}
use Rattle.cell_world.specs.Images.{Shard, Image}
use Rattle.cell_world.specs.Lawful.{IsAttached}
use Rattle.cell_world.specs.Sound.{Sound, JobTokens, GlobalCells, LocalCells, OnlineRows, RowCells, SuspectSite, HasPiece, HasJob, HasShard, IsSpanOf, IsOwnedBy}
use Rattle.cell_world.specs.declared.cells.Away.TheVariants.{Suspect, Detached}
use Rattle.cell_world.specs.declared.cells.KeyType.TheVariants.{Int}
use Rattle.cell_world.specs.declared.cells.LocalRow.{LocalRow}
use Rattle.cell_world.specs.declared.cells.MapKind.TheVariants as kind
use Rattle.cell_world.specs.declared.cells.Mark.TheVariants.{Plain, Old}
use Rattle.cell_world.specs.declared.cells.Status.TheVariants.{Online, Offline}
use Rattle.cell_world.specs.declared.operations.JobRow.{JobRow}
use Rattle.cell_world.specs.declared.operations.Piece.{Piece}
use Rattle.cell_world.proofs.OrderLaws.{exact_text_pairs, exact_texts, exact_locals}
use Rattle.cell_world.specs.declared.cells.Away.{Away}
use Rattle.world_examples.proofs.ShortTables.{empty_log, no_job, not_attached}
use Rattle.world_examples.proofs.Accepting.{b_not_a}
use Rattle.world_examples.specs.Examples.{int_key, map_m, site_a, site_b, free_piece, local_row, maps_m, shards_ab, tables_t, keyed_pieces, mappings_of, log_of, jobs_of, away_of, owner_with, sites_ab, locals_of}
use Rattle.world_examples.specs.Sounds.{pieces_at_rest, global_at_rest, a_at_rest, b_at_rest, image_at_rest, image_to_compare, image_with, shard_with, image_detached}
use Rattle.world_examples.proofs.Tables.{get_of}
use Rattle.world_examples.proofs.Standing.{standing, two_standing, each_site, AllTwo, OneAtAKey, m_stands, owner_there}
use Rattle.world_examples.proofs.ImageParts.{local_cells, online_rows, row_cells, offline_not_online, normal_of_m, keyed_locals, global_keyed, shard_keyed, image_keyed, global_cells, a_is_shard, b_is_shard, t_is_table}

abbrev low : Piece
low = free_piece 0 5 site_a Online

abbrev high : Piece
high = free_piece 5 10 site_b Offline

low_stands : HasPiece (mappings_of pieces_at_rest) low
low_stands = get_of pair_cmp (keyed_pieces pieces_at_rest) tt (piece_key low)

high_stands : HasPiece (mappings_of pieces_at_rest) high
high_stands = get_of pair_cmp (keyed_pieces pieces_at_rest) tt (piece_key high)

apart : AllTwo (λ d e. OneAtAKey d.1 e.1) (keyed_pieces pieces_at_rest)
apart = (((λ e f. refl), ((λ e f. absurd (true≢false (sym f))), tt)), (((λ e f. absurd (true≢false (sym f))), ((λ e f. refl), tt)), tt))

globals : (away : AwaySites) → GlobalCells (record global_at_rest { away = away })
globals away = global_cells pieces_at_rest [] [] None away tt (omega arith, omega arith) (omega arith)
    ((kind.Range, Int, m_stands, refl), ((kind.Range, Int, m_stands, refl), tt))
    (a_is_shard, (b_is_shard, tt))
    apart

low_owned : (key : Text) → IsTrue (is_normal Int key) → IsTrue (contains low.span key) → IsOwnedBy (owner_with pieces_at_rest) map_m key site_a
low_owned key normal h = (low, owner_there pieces_at_rest tt apart low refl refl key normal h, refl)

high_owned : (key : Text) → IsTrue (is_normal Int key) → IsTrue (contains high.span key) → IsOwnedBy (owner_with pieces_at_rest) map_m key site_b
high_owned key normal h = (high, owner_there pieces_at_rest tt apart high refl refl key normal h, refl)

a_locals : LocalCells (mappings_of pieces_at_rest) (log_of []) 1 site_a a_at_rest.locals
a_locals = local_cells pieces_at_rest [] site_a (local_row 0 5 0 Online Plain ∷ []) tt tt 1
    ((λ c. (low, low_stands, refl, record { map = refl; span = refl; status = refl })), tt) (
      (λ c. (local_row 0 5 0 Online Plain, get_of local_cmp (keyed_locals (local_row 0 5 0 Online Plain ∷ [])) tt (local_key (local_row 0 5 0 Online Plain)), refl, record { map = refl; span = refl; status = refl })),
      ((λ c. absurd (b_not_a c)), tt),
    )
    (((λ c d e f. refl), tt), tt)
    (tt, tt)
    ((omega arith, refl), tt)

b_locals : LocalCells (mappings_of pieces_at_rest) (log_of []) 1 site_b b_at_rest.locals
b_locals = local_cells pieces_at_rest [] site_b (local_row 5 10 0 Offline Plain ∷ []) tt tt 1
    ((λ c. (high, high_stands, refl, record { map = refl; span = refl; status = refl })), tt) (
      (λ c. absurd (b_not_a (sym c))),
      ((λ c. (local_row 5 10 0 Offline Plain, get_of local_cmp (keyed_locals (local_row 5 10 0 Offline Plain ∷ [])) tt (local_key (local_row 5 10 0 Offline Plain)), refl, record { map = refl; span = refl; status = refl })), tt),
    )
    (((λ c d e f. refl), tt), tt)
    (tt, tt)
    ((omega arith, refl), tt)

a_online : OnlineRows maps_m (owner_with pieces_at_rest) (log_of []) site_a a_at_rest.locals
a_online = online_rows pieces_at_rest [] site_a (local_row 0 5 0 Online Plain ∷ []) tt tt
    ((λ e. (kind.Range, Int, m_stands, refl)), tt)
    ((λ e key h of_type. inl (low_owned key (normal_of_m key of_type) h)), tt)

b_online : OnlineRows maps_m (owner_with pieces_at_rest) (log_of []) site_b b_at_rest.locals
b_online = online_rows pieces_at_rest [] site_b (local_row 5 10 0 Offline Plain ∷ []) tt tt
    ((λ e. absurd (offline_not_online e)), tt)
    ((λ e. absurd (offline_not_online e)), tt)

a_rows : RowCells maps_m tables_t (owner_with pieces_at_rest) (jobs_of []) site_a a_at_rest.rows
a_rows = row_cells pieces_at_rest [] site_a (1 ∷ 2 ∷ []) tt
    (t_is_table, (t_is_table, tt))
    (inl (low_owned (int_key 1) refl refl), (inl (low_owned (int_key 2) refl refl), tt))

b_rows : RowCells maps_m tables_t (owner_with pieces_at_rest) (jobs_of []) site_b b_at_rest.rows
b_rows = row_cells pieces_at_rest [] site_b (7 ∷ []) tt (t_is_table, tt) (inl (high_owned (int_key 7) refl refl), tt)

no_tokens : JobTokens (mappings_of pieces_at_rest) (jobs_of [])
no_tokens p = standing exact_text_pairs (λ k q. IfSome q.token (λ token. token.0 < 2 ^ 64 → (job : JobRow) × HasJob (jobs_of []) job × (job.number ≡ token.0) × (job.map ≡ q.map))) (keyed_pieces pieces_at_rest) tt (tt, (tt, tt)) (piece_key p) p

pub rest_sound : Sound image_at_rest
rest_sound = record {
  keyed = image_keyed global_at_rest a_at_rest b_at_rest (global_keyed pieces_at_rest [] [] None (away_of []) tt tt tt)
      (shard_keyed (local_row 0 5 0 Online Plain ∷ []) (1 ∷ 2 ∷ []) tt) (shard_keyed (local_row 5 10 0 Offline Plain ∷ []) (7 ∷ []) tt);
  globals = globals (away_of []);
  logged = record { lawful = λ op h. absurd (empty_log op h); numbered = λ op h. absurd (empty_log op h); hulls = λ a b h g e f. absurd (empty_log a h) };
  locals = λ location h. each_site (λ l. LocalCells (mappings_of pieces_at_rest) (log_of []) 1 l (image_at_rest.at (Shard l)).locals) sites_ab (a_locals, (b_locals, tt)) location h.known;
  online = λ location h. each_site (λ l. OnlineRows maps_m (owner_with pieces_at_rest) (log_of []) l (image_at_rest.at (Shard l)).locals) sites_ab (a_online, (b_online, tt)) location h.known;
  rows = λ location h. each_site (λ l. RowCells maps_m tables_t (owner_with pieces_at_rest) (jobs_of []) l (image_at_rest.at (Shard l)).rows) sites_ab (a_rows, (b_rows, tt)) location h.known;
  batches = λ job h. absurd (no_job job h);
  suspect = λ location h. absurd (standing exact_texts (λ k x. ⊥) [] tt tt location Suspect h.1);
  jobs = λ job h. absurd (no_job job h);
  progress = λ job h. absurd (no_job job h);
  tokens = no_tokens;
}

-- ---- with a site that is away

module _ (state : Away) (rows : List LocalRow) (keys : List ℕ) (sorted : T (is_sorted local_cmp (keyed_locals rows))) where
  abbrev b_away : AwaySites
  b_away = away_of ((site_b, state) ∷ [])

  abbrev image : Image
  image = image_with (record global_at_rest { away = b_away }) a_at_rest (shard_with rows keys)

  b_not_attached : IsAttached sites_ab b_away site_b → ⊥
  b_not_attached = not_attached ((site_b, state) ∷ []) tt site_b refl

  a_not_suspect : fin.get b_away site_a ≡ Some Suspect → ⊥
  a_not_suspect h = let none = get_of byte_cmp ((site_b, state) ∷ []) tt site_a in cc

  is_suspect : fin.get b_away site_b ≡ Some Suspect → state ≡ Suspect
  is_suspect h = let found = get_of byte_cmp ((site_b, state) ∷ []) tt site_b in cc

  -- Nothing is asked of the site's rows, and of its local cells only where it is suspect.
  pub sound_with_b_away : (state ≡ Suspect → SuspectSite maps_m shards_ab site_b (locals_of rows)) → Sound image
  sound_with_b_away fits = record {
    keyed = image_keyed (record global_at_rest { away = b_away }) a_at_rest (shard_with rows keys) (global_keyed pieces_at_rest [] [] None b_away tt tt tt)
        (shard_keyed (local_row 0 5 0 Online Plain ∷ []) (1 ∷ 2 ∷ []) tt) (shard_keyed rows keys sorted);
    globals = globals b_away;
    logged = record { lawful = λ op h. absurd (empty_log op h); numbered = λ op h. absurd (empty_log op h); hulls = λ a b h g e f. absurd (empty_log a h) };
    locals = λ location h. each_site (λ l. IsAttached sites_ab b_away l → LocalCells (mappings_of pieces_at_rest) (log_of []) 1 l (image.at (Shard l)).locals) sites_ab ((λ g. a_locals), ((λ g. absurd (b_not_attached g)), tt)) location h.known h;
    online = λ location h. each_site (λ l. IsAttached sites_ab b_away l → OnlineRows maps_m (owner_with pieces_at_rest) (log_of []) l (image.at (Shard l)).locals) sites_ab ((λ g. a_online), ((λ g. absurd (b_not_attached g)), tt)) location h.known h;
    rows = λ location h. each_site (λ l. IsAttached sites_ab b_away l → RowCells maps_m tables_t (owner_with pieces_at_rest) (jobs_of []) l (image.at (Shard l)).rows) sites_ab ((λ g. a_rows), ((λ g. absurd (b_not_attached g)), tt)) location h.known h;
    batches = λ job h. absurd (no_job job h);
    suspect = λ location h. each_site (λ l. fin.get b_away l ≡ Some Suspect → SuspectSite maps_m shards_ab l (image.at (Shard l)).locals) sites_ab ((λ g. absurd (a_not_suspect g)), ((λ g. fits (is_suspect g)), tt)) location h.0 h.1;
    jobs = λ job h. absurd (no_job job h);
    progress = λ job h. absurd (no_job job h);
    tokens = no_tokens;
  }

abbrev rows_to_compare : List LocalRow
rows_to_compare = local_row 20 30 0 Online Plain ∷ local_row 30 40 0 Offline Plain ∷ []

b_suspect : SuspectSite maps_m shards_ab site_b (locals_of rows_to_compare)
b_suspect = record {
  plain = λ row. standing exact_locals (λ k r. (r.mark ≡ Plain) × (r.number ≡ 0)) (keyed_locals rows_to_compare) tt ((refl, refl), ((refl, refl), tt)) (local_key row) row;
  on_shards = λ row. standing exact_locals (λ k r. HasShard shards_ab r.map site_b) (keyed_locals rows_to_compare) tt (b_is_shard, (b_is_shard, tt)) (local_key row) row;
  spans = λ row. standing exact_locals (λ k r. IsSpanOf maps_m r.map r.span) (keyed_locals rows_to_compare) tt ((kind.Range, Int, m_stands, refl), ((kind.Range, Int, m_stands, refl), tt)) (local_key row) row;
  disjoint = λ a b. two_standing exact_locals (λ a b. a.map ≡ b.map → IsTrue (overlaps a.span b.span) → a ≡ b) (keyed_locals rows_to_compare) tt
      (((λ e f. refl), ((λ e f. absurd (true≢false (sym f))), tt)), (((λ e f. absurd (true≢false (sym f))), ((λ e f. refl), tt)), tt)) (local_key a) (local_key b) a b;
}

pub compare_sound : Sound image_to_compare
compare_sound = sound_with_b_away Suspect rows_to_compare (7 ∷ []) tt (λ e. b_suspect)

pub detached_sound : Sound image_detached
detached_sound = sound_with_b_away Detached (local_row 5 5 9 Online (Old 8) ∷ []) (3 ∷ []) tt (λ e. cc)
