-- The image with a job is sound.
use Rattle.std.proofs.Common.{◌≡◌, ◌<◌, ◌^◌, true, false, not, true≢false, refl, sym, subst, Some, List, [], ◌∷◌, arith, inl, inr, ⊎_elim}
use Rattle.std.specs.Prelude.{IsTrue, IfSome}
use Rattle.std.specs.FinMap as fin
use Rattle.std.specs.Ordering.{nat_cmp}
use Rattle.std.proofs.lemmas.Bool.{and_parts}
use Rattle.std.proofs.lemmas.Map.Lookups.{exact_unsigned}
use Rattle.cell_world.specs.Texts.{Text}
use Rattle.cell_world.specs.Orders.{pair_cmp, local_cmp, row_cmp}
use Rattle.cell_world.specs.Keys.{same, contains, before}
use Rattle.cell_world.specs.KeyForms.{is_normal}
use Rattle.cell_world.specs.Stores.{piece_key, local_key}
use Rattle.cell_world.specs.Images.{Shard}
use Rattle.cell_world.specs.Sound.{Sound, JobCells, JobTokens, IsBatch, BatchRows, InBatch, GlobalCells, LocalCells, OnlineRows, RowCells, HasPiece, HasJob, IsBeingMoved}
use Rattle.cell_world.specs.declared.cells.Away.TheVariants.{Suspect}
use Rattle.cell_world.specs.declared.cells.KeyType.TheVariants.{Int}
use Rattle.cell_world.specs.declared.cells.LocalRow.{LocalRow}
use Rattle.cell_world.specs.declared.cells.MapKind.TheVariants as kind
use Rattle.cell_world.specs.declared.cells.Mark.TheVariants.{Plain}
use Rattle.cell_world.specs.declared.cells.Status.TheVariants.{Online, Offline}
use Rattle.cell_world.specs.declared.operations.JobRow.{JobRow}
use Rattle.cell_world.specs.declared.operations.Piece.{Piece}
use Rattle.cell_world.specs.declared.spans.High.TheVariants.{At}
use Rattle.cell_world.specs.declared.spans.Span.TheVariants.{Range}
use Rattle.cell_world.proofs.OrderLaws.{exact_text_pairs, exact_texts, exact_rows}
use Rattle.cell_world.proofs.SpanLaws.{not_true, same_self}
use Rattle.world_examples.proofs.ShortTables.{empty_log}
use Rattle.world_examples.proofs.Accepting.{b_not_a}
use Rattle.world_examples.specs.Examples.{int_key, range, map_m, site_a, site_b, job_piece, local_row, maps_m, shards_ab, tables_t, keyed_pieces, mappings_of, log_of, jobs_of, away_of, owner_with, sites_ab, keyed_jobs}
use Rattle.world_examples.specs.Sounds.{rows_with, pieces_moving, job_moving, global_moving, a_moving, b_moving, image_moving}
use Rattle.world_examples.proofs.Tables.{get_of}
use Rattle.world_examples.proofs.Standing.{standing, each_site, AllTwo, OneAtAKey, m_stands, owner_there, cut, not_both}
use Rattle.world_examples.proofs.ImageParts.{local_cells, online_rows, row_cells, offline_not_online, normal_of_m, keyed_locals, global_keyed, shard_keyed, image_keyed, global_cells, a_is_shard, b_is_shard, t_is_table, a_attached, b_attached}

abbrev moved : Piece
moved = job_piece 0 3 site_b Online

abbrev batch : Piece
batch = job_piece 3 6 site_a Offline

abbrev rest : Piece
rest = job_piece 6 10 site_a Online

moved_stands : HasPiece (mappings_of pieces_moving) moved
moved_stands = get_of pair_cmp (keyed_pieces pieces_moving) tt (piece_key moved)

batch_stands : HasPiece (mappings_of pieces_moving) batch
batch_stands = get_of pair_cmp (keyed_pieces pieces_moving) tt (piece_key batch)

rest_stands : HasPiece (mappings_of pieces_moving) rest
rest_stands = get_of pair_cmp (keyed_pieces pieces_moving) tt (piece_key rest)

job_stands : HasJob (jobs_of (job_moving ∷ [])) job_moving
job_stands = get_of nat_cmp (keyed_jobs (job_moving ∷ [])) tt 1

apart : AllTwo (λ d e. OneAtAKey d.1 e.1) (keyed_pieces pieces_moving)
apart = (
  ((λ e f. refl), ((λ e f. absurd (true≢false (sym f))), ((λ e f. absurd (true≢false (sym f))), tt))),
  (
    ((λ e f. absurd (true≢false (sym f))), ((λ e f. refl), ((λ e f. absurd (true≢false (sym f))), tt))),
    (((λ e f. absurd (true≢false (sym f))), ((λ e f. absurd (true≢false (sym f))), ((λ e f. refl), tt))), tt),
  ),
)

-- ---- owners

abbrev Owns : Piece → Text → Type 0
Owns p key = owner_with pieces_moving map_m key ≡ Some p

moved_owns : (key : Text) → IsTrue (is_normal Int key) → IsTrue (contains (range 0 3) key) → Owns moved key
moved_owns = owner_there pieces_moving tt apart moved refl refl

batch_owns : (key : Text) → IsTrue (is_normal Int key) → IsTrue (contains (range 3 6) key) → Owns batch key
batch_owns = owner_there pieces_moving tt apart batch refl refl

rest_owns : (key : Text) → IsTrue (is_normal Int key) → IsTrue (contains (range 6 10) key) → Owns rest key
rest_owns = owner_there pieces_moving tt apart rest refl refl

-- ---- the job

job_cells : JobCells maps_m shards_ab (mappings_of pieces_moving) 2 job_moving
job_cells = record {
  type = Int;
  range_map = m_stands;
  range = refl;
  cursor_form = refl;
  target = b_is_shard;
  source = λ e. b_not_a (sym e);
  from_low = refl;
  to_high = refl;
  tokens = λ key normal h. ⊎_elim
      (λ g. (moved, moved_owns key normal g, refl))
      (λ g. ⊎_elim (λ f. (batch, batch_owns key normal f, refl)) (λ f. (rest, rest_owns key normal f, refl)) (cut (int_key 3) (int_key 6) (At (int_key 10)) key g))
      (cut (int_key 0) (int_key 3) (At (int_key 10)) key h);
  done = λ key normal h. (moved, moved_owns key normal h, refl, refl);
  cut_off = λ h. record { begins = (moved, moved_stands, refl, refl); ends = (moved, moved_stands, refl, refl) };
  left = λ key normal h g. (rest, rest_owns key normal (from_end key h g), refl, refl);
  numbered = omega arith;
}
  where
    from_end : (key : Text) → IsTrue (contains (range 0 10) key) → IsTrue (not (before key (At (int_key 6)))) → IsTrue (contains (range 6 10) key)
    from_end key h g = ⊎_elim (λ f. absurd (not_both (before key (At (int_key 6))) (not_true _ g) (and_parts _ _ f).1)) (λ f. f) (cut (int_key 0) (int_key 6) (At (int_key 10)) key h)

progress : IsBatch sites_ab (away_of []) (mappings_of pieces_moving) job_moving job_moving.phase
progress = (
  record {
    above = refl;
    within = refl;
    low = int_key 3;
    at_cursor = refl;
    piece = batch;
    stands = batch_stands;
    of_map = refl;
    span = refl;
    offline = refl;
    at_site = refl;
  },
  a_attached,
  b_attached,
)

tokens : JobTokens (mappings_of pieces_moving) (jobs_of (job_moving ∷ []))
tokens p = standing exact_text_pairs (λ k q. IfSome q.token (λ token. token.0 < 2 ^ 64 → (job : JobRow) × HasJob (jobs_of (job_moving ∷ [])) job × (job.number ≡ token.0) × (job.map ≡ q.map))) (keyed_pieces pieces_moving) tt
    ((λ h. (job_moving, job_stands, refl, refl)), ((λ h. (job_moving, job_stands, refl, refl)), ((λ h. (job_moving, job_stands, refl, refl)), tt))) (piece_key p) p

-- the keys of the batch are those of [3, 6)
in_batch : (key : Text) → InBatch job_moving key → IsTrue (contains (range 3 6) key)
in_batch key h =
    let low : int_key 3 ≡ h.0 = cc in
    let end : At (int_key 6) ≡ h.1 = cc in
    subst (λ l. IsTrue (contains (Range l (At (int_key 6))) key)) (sym low) (subst (λ e. IsTrue (contains (Range h.0 e) key)) (sym end) h.4)

batches : BatchRows job_moving job_moving.phase a_moving.rows b_moving.rows
batches row of_map h bytes f = standing exact_rows (λ q bytes. InBatch job_moving q.key → fin.get a_moving.rows q ≡ Some bytes) (rows_with (1 ∷ 2 ∷ 4 ∷ [])) tt
    ((λ h. absurd (true≢false (sym (in_batch (int_key 1) h)))), ((λ h. absurd (true≢false (sym (in_batch (int_key 2) h)))), ((λ h. get_of row_cmp (rows_with (4 ∷ 5 ∷ 7 ∷ [])) tt _), tt))) row bytes f h

-- ---- the rest of the image

abbrev a_row_1 : LocalRow
a_row_1 = local_row 3 6 0 Offline Plain

abbrev a_row_2 : LocalRow
a_row_2 = local_row 6 10 0 Online Plain

abbrev b_row : LocalRow
b_row = local_row 0 3 0 Online Plain

abbrev rows_at_a : List LocalRow
rows_at_a = a_row_1 ∷ a_row_2 ∷ []

globals : GlobalCells global_moving
globals = global_cells pieces_moving [] (job_moving ∷ []) (Some (record { operation = 1; job = 2 })) (away_of []) tt (omega arith, omega arith) (omega arith)
    ((kind.Range, Int, m_stands, refl), ((kind.Range, Int, m_stands, refl), ((kind.Range, Int, m_stands, refl), tt)))
    (b_is_shard, (a_is_shard, (a_is_shard, tt)))
    apart

a_locals : LocalCells (mappings_of pieces_moving) (log_of []) 1 site_a a_moving.locals
a_locals = local_cells pieces_moving [] site_a rows_at_a tt tt 1
    ((λ c. (batch, batch_stands, refl, record { map = refl; span = refl; status = refl })), ((λ c. (rest, rest_stands, refl, record { map = refl; span = refl; status = refl })), tt)) (
      (λ c. absurd (b_not_a c)),
      (
        (λ c. (a_row_1, get_of local_cmp (keyed_locals rows_at_a) tt (local_key a_row_1), refl, record { map = refl; span = refl; status = refl })),
        ((λ c. (a_row_2, get_of local_cmp (keyed_locals rows_at_a) tt (local_key a_row_2), refl, record { map = refl; span = refl; status = refl })), tt),
      ),
    )
    (((λ c d e f. refl), ((λ c d e f. absurd (not_low (int_key 3) (int_key 6) refl f)), tt)), (((λ c d e f. absurd (not_low (int_key 6) (int_key 3) refl f)), ((λ c d e f. refl), tt)), tt))
    (tt, (tt, tt))
    ((omega arith, refl), ((omega arith, refl), tt))
  where
    not_low : (low other : Text) → same low other ≡ false → low ≡ other → ⊥
    not_low low other f e = not_both (same low other) f (subst (λ o. same low o ≡ true) e (same_self low))

b_locals : LocalCells (mappings_of pieces_moving) (log_of []) 1 site_b b_moving.locals
b_locals = local_cells pieces_moving [] site_b (b_row ∷ []) tt tt 1
    ((λ c. (moved, moved_stands, refl, record { map = refl; span = refl; status = refl })), tt) (
      (λ c. (b_row, get_of local_cmp (keyed_locals (b_row ∷ [])) tt (local_key b_row), refl, record { map = refl; span = refl; status = refl })),
      ((λ c. absurd (b_not_a (sym c))), ((λ c. absurd (b_not_a (sym c))), tt)),
    )
    (((λ c d e f. refl), tt), tt)
    (tt, tt)
    ((omega arith, refl), tt)

a_online : OnlineRows maps_m (owner_with pieces_moving) (log_of []) site_a a_moving.locals
a_online = online_rows pieces_moving [] site_a rows_at_a tt tt
    ((λ e. (kind.Range, Int, m_stands, refl)), ((λ e. (kind.Range, Int, m_stands, refl)), tt))
    ((λ e. absurd (offline_not_online e)), ((λ e key h of_type. inl (rest, rest_owns key (normal_of_m key of_type) h, refl)), tt))

b_online : OnlineRows maps_m (owner_with pieces_moving) (log_of []) site_b b_moving.locals
b_online = online_rows pieces_moving [] site_b (b_row ∷ []) tt tt
    ((λ e. (kind.Range, Int, m_stands, refl)), tt)
    ((λ e key h of_type. inl (moved, moved_owns key (normal_of_m key of_type) h, refl)), tt)

a_rows : RowCells maps_m tables_t (owner_with pieces_moving) (jobs_of (job_moving ∷ [])) site_a a_moving.rows
a_rows = row_cells pieces_moving (job_moving ∷ []) site_a (4 ∷ 5 ∷ 7 ∷ []) tt
    (t_is_table, (t_is_table, (t_is_table, tt)))
    (inl (batch, batch_owns (int_key 4) refl refl, refl), (inl (batch, batch_owns (int_key 5) refl refl, refl), (inl (rest, rest_owns (int_key 7) refl refl, refl), tt)))

-- the copied row is at the target, which doesn't own its key yet
b_rows : RowCells maps_m tables_t (owner_with pieces_moving) (jobs_of (job_moving ∷ [])) site_b b_moving.rows
b_rows = row_cells pieces_moving (job_moving ∷ []) site_b (1 ∷ 2 ∷ 4 ∷ []) tt
    (t_is_table, (t_is_table, (t_is_table, tt)))
    (inl (moved, moved_owns (int_key 1) refl refl, refl), (inl (moved, moved_owns (int_key 2) refl refl, refl), (inr copied, tt)))
  where
    copied : IsBeingMoved maps_m (jobs_of (job_moving ∷ [])) map_m (int_key 4) site_b
    copied = record { job = job_moving; stands = job_stands; of_map = refl; at_site = inr refl; in_batch = (int_key 3, At (int_key 6), refl, refl, refl); of_type = (kind.Range, Int, m_stands, refl) }

pub moving_sound : Sound image_moving
moving_sound = record {
  keyed = image_keyed global_moving a_moving b_moving (global_keyed pieces_moving [] (job_moving ∷ []) (Some (record { operation = 1; job = 2 })) (away_of []) tt tt tt)
      (shard_keyed rows_at_a (4 ∷ 5 ∷ 7 ∷ []) tt) (shard_keyed (b_row ∷ []) (1 ∷ 2 ∷ 4 ∷ []) tt);
  globals = globals;
  logged = record { lawful = λ op h. absurd (empty_log op h); numbered = λ op h. absurd (empty_log op h); hulls = λ a b h g e f. absurd (empty_log a h) };
  locals = λ location h. each_site (λ l. LocalCells (mappings_of pieces_moving) (log_of []) 1 l (image_moving.at (Shard l)).locals) sites_ab (a_locals, (b_locals, tt)) location h.known;
  online = λ location h. each_site (λ l. OnlineRows maps_m (owner_with pieces_moving) (log_of []) l (image_moving.at (Shard l)).locals) sites_ab (a_online, (b_online, tt)) location h.known;
  rows = λ location h. each_site (λ l. RowCells maps_m tables_t (owner_with pieces_moving) (jobs_of (job_moving ∷ [])) l (image_moving.at (Shard l)).rows) sites_ab (a_rows, (b_rows, tt)) location h.known;
  batches = λ job. standing exact_unsigned (λ k job. BatchRows job job.phase (image_moving.at (Shard job.source)).rows (image_moving.at (Shard job.target)).rows) (keyed_jobs (job_moving ∷ [])) tt (batches, tt) job.number job;
  suspect = λ location h. absurd (standing exact_texts (λ k x. ⊥) [] tt tt location Suspect h.1);
  jobs = λ job. standing exact_unsigned (λ k job. JobCells maps_m shards_ab (mappings_of pieces_moving) 2 job) (keyed_jobs (job_moving ∷ [])) tt (job_cells, tt) job.number job;
  progress = λ job. standing exact_unsigned (λ k job. IsBatch sites_ab (away_of []) (mappings_of pieces_moving) job job.phase) (keyed_jobs (job_moving ∷ [])) tt (progress, tt) job.number job;
  tokens = tokens;
}
