-- The image with two logged operations is sound, and both are marked.
use Rattle.std.proofs.Common.{◌≡◌, ℕ, ◌<◌, ◌^◌, true, false, not, is_some, true≢false, refl, sym, ap, subst, Some, None, List, [], ◌∷◌, arith, inl, inr}
use Rattle.std.specs.Prelude.{IsTrue, IfSome}
use Rattle.std.specs.List.{AllByRecursion, list_any}
use Rattle.std.specs.FinMap as fin
use Rattle.std.specs.Ordering.{nat_cmp}
use Rattle.std.proofs.lemmas.Map.Lookups.{exact_unsigned}
use Rattle.cell_world.specs.Texts.{Text}
use Rattle.cell_world.specs.Orders.{pair_cmp, local_cmp}
use Rattle.cell_world.specs.Keys.{contains, overlaps}
use Rattle.cell_world.specs.KeyForms.{is_normal, is_span_of}
use Rattle.cell_world.specs.Lists.{SomeOf, IsOneOf}
use Rattle.cell_world.specs.Meaning.{counts}
use Rattle.cell_world.specs.Spelled.{listed}
use Rattle.cell_world.specs.Stores.{Log, piece_key, local_key}
use Rattle.cell_world.specs.Images.{Shard}
use Rattle.cell_world.specs.Lawful.{LawfulOn, read_tables}
use Rattle.cell_world.specs.Sound.{Sound, LogCells, IsMarked, Matches, GlobalCells, LocalCells, OnlineRows, RowCells, HasPiece, HasLog, HasJob, HasLocal, IsOwnedBy}
use Rattle.cell_world.specs.declared.cells.Away.TheVariants.{Suspect}
use Rattle.cell_world.specs.declared.cells.KeyType.TheVariants.{Int}
use Rattle.cell_world.specs.declared.cells.LocalRow.{LocalRow}
use Rattle.cell_world.specs.declared.cells.MapKind.TheVariants as kind
use Rattle.cell_world.specs.declared.cells.Mark.TheVariants.{Old, New}
use Rattle.cell_world.specs.declared.cells.Status.TheVariants.{Online, Offline}
use Rattle.cell_world.specs.declared.operations.JobRow.{JobRow}
use Rattle.cell_world.specs.declared.operations.Op.{Op}
use Rattle.cell_world.specs.declared.operations.Piece.{Piece}
use Rattle.cell_world.proofs.OrderLaws.{exact_text_pairs, exact_texts}
use Rattle.world_examples.proofs.ShortTables.{no_job}
use Rattle.world_examples.proofs.Accepting.{b_not_a}
use Rattle.world_examples.specs.Examples.{int_key, range, map_m, site_a, site_b, free_piece, local_row, maps_m, tables_t, keyed_pieces, mappings_of, log_of, jobs_of, away_of, owner_with, sites_ab}
use Rattle.world_examples.specs.Sounds.{pieces_logged, offline_logged, add_logged, global_logged, a_logged, b_logged, image_logged}
use Rattle.world_examples.proofs.Tables.{get_of}
use Rattle.world_examples.proofs.Standing.{standing, two_standing, each_site, AllTwo, OneAtAKey, m_stands, owner_there, nobody_there, not_both}
use Rattle.world_examples.proofs.ImageParts.{local_cells, online_rows, row_cells, offline_not_online, normal_of_m, numbered_ops, some_m, keyed_locals, global_keyed, shard_keyed, image_keyed, global_cells, a_is_shard, b_is_shard, t_is_table, a_attached, b_attached}

abbrev standing_piece : Piece
standing_piece = free_piece 0 5 site_a Online

abbrev ops : List Op
ops = offline_logged ∷ add_logged ∷ []

abbrev log : Log
log = log_of ops

stands : HasPiece (mappings_of pieces_logged) standing_piece
stands = get_of pair_cmp (keyed_pieces pieces_logged) tt (piece_key standing_piece)

pub offline_stands : HasLog log offline_logged
offline_stands = get_of nat_cmp (numbered_ops ops) tt 1

pub add_stands : HasLog log add_logged
add_stands = get_of nat_cmp (numbered_ops ops) tt 2

apart : AllTwo (λ d e. OneAtAKey d.1 e.1) (keyed_pieces pieces_logged)
apart = (((λ e f. refl), tt), tt)

owns : (key : Text) → IsTrue (is_normal Int key) → IsTrue (contains (range 0 5) key) → IsOwnedBy (owner_with pieces_logged) map_m key site_a
owns key normal h = (standing_piece, owner_there pieces_logged tt apart standing_piece refl refl key normal h, refl)

nobody_yet : (key : Text) → IsTrue (contains (range 5 10) key) → owner_with pieces_logged map_m key ≡ None
nobody_yet = nobody_there pieces_logged tt (range 5 10) (refl, tt)

-- ---- the operations are lawful

offline_lawful : LawfulOn (read_tables image_logged) offline_logged
offline_lawful = record {
  map_stands = some_m;
  olds_stand = (stands, tt);
  of_map = (refl, (refl, tt));
  olds_in_order = refl;
  news_in_order = refl;
  attached = (a_attached, (a_attached, tt));
  on_shards = (a_is_shard, tt);
  spans = subst (λ m. IfSome m (λ m. AllByRecursion (λ (new : Piece). IsTrue (is_span_of m.0 m.1 new.span)) (listed offline_logged.news))) (sym m_stands) (refl, tt);
  disjoint = tt;
  free = λ other f of_map overlap. standing exact_text_pairs (λ k p. IsOneOf (listed offline_logged.olds) p) (keyed_pieces pieces_logged) tt (inl refl, tt) (piece_key other) other f;
  hull = refl;
  shape = inl (record { other = λ e. offline_not_online e; rest = refl });
  job = refl;
  no_drop = λ n e. cc;
}

add_lawful : LawfulOn (read_tables image_logged) add_logged
add_lawful = record {
  map_stands = some_m;
  olds_stand = tt;
  of_map = (refl, tt);
  olds_in_order = refl;
  news_in_order = refl;
  attached = (b_attached, tt);
  on_shards = (b_is_shard, tt);
  spans = subst (λ m. IfSome m (λ m. AllByRecursion (λ (new : Piece). IsTrue (is_span_of m.0 m.1 new.span)) (listed add_logged.news))) (sym m_stands) (refl, tt);
  disjoint = tt;
  free = λ other f of_map. standing exact_text_pairs (λ k p. IsTrue (list_any (λ (new : Piece). overlaps new.span p.span) (listed add_logged.news)) → IsOneOf (listed add_logged.olds) p) (keyed_pieces pieces_logged) tt ((λ e. absurd (true≢false (sym e))), tt) (piece_key other) other f;
  hull = refl;
  shape = (refl, refl);
  job = refl;
  no_drop = λ n e. cc;
}

logged : LogCells (read_tables image_logged) log 3
logged = record {
  lawful = λ op. standing exact_unsigned (λ k op. LawfulOn (read_tables image_logged) op) (numbered_ops ops) tt (offline_lawful, (add_lawful, tt)) op.number op;
  numbered = λ op. standing exact_unsigned (λ k (op : Op). op.number < 3) (numbered_ops ops) tt (omega arith, (omega arith, tt)) op.number op;
  hulls = λ a b. two_standing exact_unsigned (λ (a b : Op). a.map ≡ b.map → IsTrue (overlaps a.hull b.hull) → a ≡ b) (numbered_ops ops) tt
      (((λ e f. refl), ((λ e f. absurd (true≢false (sym f))), tt)), (((λ e f. absurd (true≢false (sym f))), ((λ e f. refl), tt)), tt)) a.number b.number a b;
}

-- ---- the rest of the image

abbrev old_row : LocalRow
old_row = local_row 0 5 0 Online (Old 1)

abbrev new_row : LocalRow
new_row = local_row 0 5 1 Offline New

abbrev added_row : LocalRow
added_row = local_row 5 10 2 Online New

abbrev rows_at_a : List LocalRow
rows_at_a = old_row ∷ new_row ∷ []

globals : GlobalCells global_logged
globals = global_cells pieces_logged ops [] (Some (record { operation = 3; job = 1 })) (away_of []) tt (omega arith, omega arith) (omega arith)
    ((kind.Range, Int, m_stands, refl), tt) (a_is_shard, tt) apart

old_counts : counts log old_row ≡ true
old_counts = ap is_some offline_stands

new_waits : counts log new_row ≡ false
new_waits = ap (λ o. not (is_some o)) offline_stands

added_waits : counts log added_row ≡ false
added_waits = ap (λ o. not (is_some o)) add_stands

-- an operation found in the log under a number is the one that stands there
same_op : (number : ℕ) (a b : Op) → fin.get log number ≡ Some a → fin.get log number ≡ Some b → a ≡ b
same_op number a b f g = cc

pub old_there : HasLocal a_logged.locals old_row
old_there = get_of local_cmp (keyed_locals rows_at_a) tt (local_key old_row)

pub new_there : HasLocal a_logged.locals new_row
new_there = get_of local_cmp (keyed_locals rows_at_a) tt (local_key new_row)

pub added_there : HasLocal b_logged.locals added_row
added_there = get_of local_cmp (keyed_locals (added_row ∷ [])) tt (local_key added_row)

a_locals : LocalCells (mappings_of pieces_logged) log 3 site_a a_logged.locals
a_locals = local_cells pieces_logged ops site_a rows_at_a tt tt 3
    ((λ c. (standing_piece, stands, refl, record { map = refl; span = refl; status = refl })), ((λ c. absurd (not_both _ new_waits c)), tt))
    ((λ c. (old_row, old_there, old_counts, record { map = refl; span = refl; status = refl })), tt)
    (((λ c d e f. refl), ((λ c d e f. absurd (not_both _ new_waits d)), tt)), (((λ c d e f. absurd (not_both _ new_waits c)), ((λ c d e f. refl), tt)), tt))
    (marked_old, (marked_new, tt))
    ((omega arith, refl), ((omega arith, refl), tt))
  where
    marked_old : IsMarked log site_a old_row (Old 1)
    marked_old op f = subst (λ (op : Op). SomeOf (λ old. Matches old_row old × (old.location ≡ site_a)) (listed op.olds)) (same_op 1 offline_logged op offline_stands f) (inl (record { map = refl; span = refl; status = refl }, refl))

    marked_new : IsMarked log site_a new_row New
    marked_new op f = subst (λ (op : Op). SomeOf (λ new. Matches new_row new × (new.location ≡ site_a)) (listed op.news)) (same_op 1 offline_logged op offline_stands f) (inl (record { map = refl; span = refl; status = refl }, refl))

b_locals : LocalCells (mappings_of pieces_logged) log 3 site_b b_logged.locals
b_locals = local_cells pieces_logged ops site_b (added_row ∷ []) tt tt 3
    ((λ c. absurd (not_both _ added_waits c)), tt)
    ((λ c. absurd (b_not_a (sym c))), tt)
    (((λ c d e f. refl), tt), tt)
    (marked, tt)
    ((omega arith, refl), tt)
  where
    marked : IsMarked log site_b added_row New
    marked op f = subst (λ (op : Op). SomeOf (λ new. Matches added_row new × (new.location ≡ site_b)) (listed op.news)) (same_op 2 add_logged op add_stands f) (inl (record { map = refl; span = refl; status = refl }, refl))

a_online : OnlineRows maps_m (owner_with pieces_logged) log site_a a_logged.locals
a_online = online_rows pieces_logged ops site_a rows_at_a tt tt
    ((λ e. (kind.Range, Int, m_stands, refl)), ((λ e. absurd (offline_not_online e)), tt))
    ((λ e key h of_type. inl (owns key (normal_of_m key of_type) h)), ((λ e. absurd (offline_not_online e)), tt))

-- the row of the add is online over keys that nobody owns yet
b_online : OnlineRows maps_m (owner_with pieces_logged) log site_b b_logged.locals
b_online = online_rows pieces_logged ops site_b (added_row ∷ []) tt tt
    ((λ e. (kind.Range, Int, m_stands, refl)), tt)
    ((λ e key h of_type. inr (nobody_yet key h, (add_logged, add_stands, refl, inl (refl, h)))), tt)

a_rows : RowCells maps_m tables_t (owner_with pieces_logged) (jobs_of []) site_a a_logged.rows
a_rows = row_cells pieces_logged [] site_a (1 ∷ 2 ∷ []) tt (t_is_table, (t_is_table, tt)) (inl (owns (int_key 1) refl refl), (inl (owns (int_key 2) refl refl), tt))

b_rows : RowCells maps_m tables_t (owner_with pieces_logged) (jobs_of []) site_b b_logged.rows
b_rows = row_cells pieces_logged [] site_b [] tt tt tt

pub logged_sound : Sound image_logged
logged_sound = record {
  keyed = image_keyed global_logged a_logged b_logged (global_keyed pieces_logged ops [] (Some (record { operation = 3; job = 1 })) (away_of []) tt tt tt)
      (shard_keyed rows_at_a (1 ∷ 2 ∷ []) tt) (shard_keyed (added_row ∷ []) [] tt);
  globals = globals;
  logged = logged;
  locals = λ location h. each_site (λ l. LocalCells (mappings_of pieces_logged) log 3 l (image_logged.at (Shard l)).locals) sites_ab (a_locals, (b_locals, tt)) location h.known;
  online = λ location h. each_site (λ l. OnlineRows maps_m (owner_with pieces_logged) log l (image_logged.at (Shard l)).locals) sites_ab (a_online, (b_online, tt)) location h.known;
  rows = λ location h. each_site (λ l. RowCells maps_m tables_t (owner_with pieces_logged) (jobs_of []) l (image_logged.at (Shard l)).rows) sites_ab (a_rows, (b_rows, tt)) location h.known;
  batches = λ job h. absurd (no_job job h);
  suspect = λ location h. absurd (standing exact_texts (λ k x. ⊥) [] tt tt location Suspect h.1);
  jobs = λ job h. absurd (no_job job h);
  progress = λ job h. absurd (no_job job h);
  tokens = λ p. standing exact_text_pairs (λ k q. IfSome q.token (λ token. token.0 < 2 ^ 64 → (job : JobRow) × HasJob (jobs_of []) job × (job.number ≡ token.0) × (job.map ≡ q.map))) (keyed_pieces pieces_logged) tt (tt, tt) (piece_key p) p;
}
