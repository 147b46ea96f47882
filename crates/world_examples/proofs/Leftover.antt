-- The image with an online row that was left under a logged add is sound.
use Rattle.std.proofs.Common.{◌≡◌, ◌<◌, ◌^◌, false, is_some, refl, sym, ap, ◌∙◌, subst, None, Some, List, [], ◌∷◌, arith, inl, inr}
use Rattle.std.specs.Prelude.{IsTrue, IfSome}
use Rattle.std.specs.List.{AllByRecursion, list_any}
use Rattle.std.specs.FinMap as fin
use Rattle.std.specs.Ordering.{nat_cmp}
use Rattle.std.proofs.lemmas.Map.Lookups.{exact_unsigned}
use Rattle.std.proofs.lemmas.Option.{none-some}
use Rattle.cell_world.specs.Keys.{overlaps}
use Rattle.cell_world.specs.KeyForms.{is_span_of}
use Rattle.cell_world.specs.Lists.{IsOneOf}
use Rattle.cell_world.specs.Meaning.{counts}
use Rattle.cell_world.specs.Spelled.{listed}
use Rattle.cell_world.specs.Stores.{Log, piece_key}
use Rattle.cell_world.specs.Images.{Shard}
use Rattle.cell_world.specs.Lawful.{LawfulOn, read_tables}
use Rattle.cell_world.specs.Sound.{Sound, LogCells, IsMarked, LocalCells, OnlineRows, RowCells, HasLog, HasJob}
use Rattle.cell_world.specs.declared.cells.Away.TheVariants.{Suspect}
use Rattle.cell_world.specs.declared.cells.KeyType.TheVariants.{Int}
use Rattle.cell_world.specs.declared.cells.MapKind.TheVariants as kind
use Rattle.cell_world.specs.declared.cells.Mark.TheVariants.{Old}
use Rattle.cell_world.specs.declared.operations.JobRow.{JobRow}
use Rattle.cell_world.specs.declared.operations.Op.{Op}
use Rattle.cell_world.specs.declared.operations.Piece.{Piece}
use Rattle.cell_world.proofs.OrderLaws.{exact_text_pairs, exact_texts}
use Rattle.world_examples.proofs.ShortTables.{no_job}
use Rattle.world_examples.specs.Examples.{range, site_a, site_b, maps_m, tables_t, keyed_pieces, mappings_of, log_of, jobs_of, away_of, owner_with, sites_ab}
use Rattle.world_examples.specs.Sounds.{add_anew, left_row, global_anew, a_left, shard_with, image_left}
use Rattle.world_examples.proofs.Tables.{get_of}
use Rattle.world_examples.proofs.Standing.{standing, two_standing, each_site, m_stands, nobody_there, not_both}
use Rattle.world_examples.proofs.ImageParts.{local_cells, online_rows, row_cells, numbered_ops, some_m, global_keyed, shard_keyed, image_keyed, global_cells, a_is_shard, a_attached}

abbrev ops : List Op
ops = add_anew ∷ []

abbrev log : Log
log = log_of ops

add_stands : HasLog log add_anew
add_stands = get_of nat_cmp (numbered_ops ops) tt 3

two_is_gone : fin.get log 2 ≡ None
two_is_gone = get_of nat_cmp (numbered_ops ops) tt 2

add_lawful : LawfulOn (read_tables image_left) add_anew
add_lawful = record {
  map_stands = some_m;
  olds_stand = tt;
  of_map = (refl, tt);
  olds_in_order = refl;
  news_in_order = refl;
  attached = (a_attached, tt);
  on_shards = (a_is_shard, tt);
  spans = subst (λ m. IfSome m (λ m. AllByRecursion (λ (new : Piece). IsTrue (is_span_of m.0 m.1 new.span)) (listed add_anew.news))) (sym m_stands) (refl, tt);
  disjoint = tt;
  free = λ other f of_map. standing exact_text_pairs (λ k p. IsTrue (list_any (λ (new : Piece). overlaps new.span p.span) (listed add_anew.news)) → IsOneOf (listed add_anew.olds) p) (keyed_pieces []) tt tt (piece_key other) other f;
  hull = refl;
  shape = (refl, refl);
  job = refl;
  no_drop = λ n e. cc;
}

logged : LogCells (read_tables image_left) log 4
logged = record {
  lawful = λ op. standing exact_unsigned (λ k op. LawfulOn (read_tables image_left) op) (numbered_ops ops) tt (add_lawful, tt) op.number op;
  numbered = λ op. standing exact_unsigned (λ k (op : Op). op.number < 4) (numbered_ops ops) tt (omega arith, tt) op.number op;
  hulls = λ a b. two_standing exact_unsigned (λ (a b : Op). a.map ≡ b.map → IsTrue (overlaps a.hull b.hull) → a ≡ b) (numbered_ops ops) tt (((λ e f. refl), tt), tt) a.number b.number a b;
}

-- the row doesn't count
gone : counts log left_row ≡ false
gone = ap is_some two_is_gone

a_locals : LocalCells (mappings_of []) log 4 site_a a_left.locals
a_locals = local_cells [] ops site_a (left_row ∷ []) tt tt 4 ((λ c. absurd (not_both _ gone c)), tt) tt (((λ c d e f. refl), tt), tt) (marked, tt) ((omega arith, refl), tt)
  where
    marked : IsMarked log site_a left_row (Old 2)
    marked op f = absurd (none-some op (sym two_is_gone ∙ f))

b_locals : LocalCells (mappings_of []) log 4 site_b (shard_with [] []).locals
b_locals = local_cells [] ops site_b [] tt tt 4 tt tt tt tt tt

-- it is online over keys that nobody owns yet, and which the add brings there
a_online : OnlineRows maps_m (owner_with []) log site_a a_left.locals
a_online = online_rows [] ops site_a (left_row ∷ []) tt tt
    ((λ e. (kind.Range, Int, m_stands, refl)), tt)
    ((λ e key h of_type. inr (nobody_there [] tt (range 0 10) tt key h, (add_anew, add_stands, refl, inl (refl, h)))), tt)

b_online : OnlineRows maps_m (owner_with []) log site_b (shard_with [] []).locals
b_online = online_rows [] ops site_b [] tt tt tt tt

no_rows : (location : _) → RowCells maps_m tables_t (owner_with []) (jobs_of []) location (shard_with [] []).rows
no_rows location = row_cells [] [] location [] tt tt tt

pub left_sound : Sound image_left
left_sound = record {
  keyed = image_keyed global_anew a_left (shard_with [] []) (global_keyed [] ops [] (Some (record { operation = 4; job = 1 })) (away_of []) tt tt tt) (shard_keyed (left_row ∷ []) [] tt) (shard_keyed [] [] tt);
  globals = global_cells [] ops [] (Some (record { operation = 4; job = 1 })) (away_of []) tt (omega arith, omega arith) (omega arith) tt tt tt;
  logged = logged;
  locals = λ location h. each_site (λ l. LocalCells (mappings_of []) log 4 l (image_left.at (Shard l)).locals) sites_ab (a_locals, (b_locals, tt)) location h.known;
  online = λ location h. each_site (λ l. OnlineRows maps_m (owner_with []) log l (image_left.at (Shard l)).locals) sites_ab (a_online, (b_online, tt)) location h.known;
  rows = λ location h. each_site (λ l. RowCells maps_m tables_t (owner_with []) (jobs_of []) l (image_left.at (Shard l)).rows) sites_ab (no_rows site_a, (no_rows site_b, tt)) location h.known;
  batches = λ job h. absurd (no_job job h);
  suspect = λ location h. absurd (standing exact_texts (λ k x. ⊥) [] tt tt location Suspect h.1);
  jobs = λ job h. absurd (no_job job h);
  progress = λ job h. absurd (no_job job h);
  tokens = λ p. standing exact_text_pairs (λ k q. IfSome q.token (λ token. token.0 < 2 ^ 64 → (job : JobRow) × HasJob (jobs_of []) job × (job.number ≡ token.0) × (job.map ≡ q.map))) (keyed_pieces []) tt tt (piece_key p) p;
}
