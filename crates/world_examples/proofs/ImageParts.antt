-- What all the images of the examples have in common: `m` with its shards and its table, and each cell under its own key.
use Rattle.std.proofs.Common.{◌≡◌, ℕ, ◌≤◌, ◌<◌, ◌^◌, ◌⊎◌, Bool, true, false, refl, ap, subst, None, Option, List, [], ◌∷◌, cond, map, T, is_some}
use Rattle.std.specs.Prelude.{IsTrue, IsSome}
use Rattle.std.specs.List.{AllByRecursion}
use Rattle.std.specs.Ordering.{nat_cmp}
use Rattle.std.specs.FinMap as fin
use Rattle.std.specs.FinMap.{is_sorted}
use Rattle.std.specs.FinSet as set
use Rattle.std.proofs.lemmas.Map.Lookups.{exact_unsigned}
use Rattle.cell_world.specs.Texts.{Text}
use Rattle.cell_world.specs.Orders.{pair_cmp, local_cmp, row_cmp}
use Rattle.cell_world.specs.Keys.{same, contains, low_of}
use Rattle.cell_world.specs.KeyForms.{is_normal}
use Rattle.cell_world.specs.Stores.{Store, AwaySites, Log, IsKeyed, empty_store, piece_key, local_key}
use Rattle.cell_world.specs.Images.{Place, Global, Shard}
use Rattle.cell_world.specs.Meaning.{counters_of, counts}
use Rattle.cell_world.specs.Lawful.{IsAttached}
use Rattle.cell_world.specs.Sound.{HasPiece, HasLocal, HasShard, HasTable, IsSpanOf, IsKeyOf, IsOwnedBy, IsComing, IsBeingMoved, IsMarked, Matches, mark_below, GlobalCells, LocalCells, OnlineRows, RowCells}
use Rattle.cell_world.specs.declared.cells.Counters.{Counters}
use Rattle.cell_world.specs.declared.cells.KeyType.TheVariants.{Int}
use Rattle.cell_world.specs.declared.cells.LocalRow.{LocalRow}
use Rattle.cell_world.specs.declared.cells.Status.TheVariants.{Online, Offline}
use Rattle.cell_world.specs.declared.operations.JobRow.{JobRow}
use Rattle.cell_world.specs.declared.operations.Op.{Op}
use Rattle.cell_world.specs.declared.operations.Piece.{Piece}
use Rattle.cell_world.proofs.OrderLaws.{pairs_total, exact_text_pairs, exact_locals, exact_rows}
use Rattle.cell_world.proofs.KeyedLaws.{keyed_empty}
use Rattle.world_examples.proofs.Accepting.{is_here}
use Rattle.world_examples.specs.Examples.{map_m, table_t, site_a, site_b, maps_m, shards_ab, tables_t, keyed_pieces, mappings_of, log_of, jobs_of, locals_of, rows_of, away_of, owner_with, sites_ab, keyed_jobs, pairs_ab}
use Rattle.world_examples.specs.Sounds.{global_with, shard_with, image_with, rows_with}
use Rattle.world_examples.proofs.Standing.{standing, keys_standing, two_standing, members, each_keyed, m_stands, is_int, AllTwo, OneAtAKey, all_disjoint}

-- ---- the entries behind the tables

abbrev pub numbered_ops : List Op → List (ℕ × Op)
numbered_ops ops = map (λ op. (op.number, op)) ops

abbrev pub keyed_locals : List LocalRow → List ((Text × (Text × ℕ)) × LocalRow)
keyed_locals rows = map (λ row. (local_key row, row)) rows

-- ---- the map, its shards and its table

pub a_is_shard : HasShard shards_ab map_m site_a
a_is_shard = set.contains-from_list pairs_total pairs_ab (map_m, site_a)

pub b_is_shard : HasShard shards_ab map_m site_b
b_is_shard = set.contains-from_list pairs_total pairs_ab (map_m, site_b)

pub t_is_table : HasTable tables_t map_m table_t
t_is_table = set.contains-from_list pairs_total ((map_m, table_t) ∷ []) (map_m, table_t)

pub some_m : IsSome (fin.get maps_m map_m)
some_m = ap is_some m_stands

-- the key type of `m` is that of the numbers
pub normal_of_m : (key : Text) → IsKeyOf maps_m map_m key → IsTrue (is_normal Int key)
normal_of_m key h = subst (λ type. IsTrue (is_normal type key)) (is_int h.0 h.1 h.2) h.3

-- ---- sites

pub offline_not_online : Offline ≡ Online → ⊥
offline_not_online e = cc

pub a_attached : IsAttached sites_ab (away_of []) site_a
a_attached = is_here site_a refl

pub b_attached : IsAttached sites_ab (away_of []) site_b
b_attached = is_here site_b refl

-- ---- each cell under its own key

pub global_keyed : (pieces : List Piece) (ops : List Op) (jobs : List JobRow) (counter : Option Counters) (away : AwaySites)
    → T (is_sorted pair_cmp (keyed_pieces pieces)) → T (is_sorted nat_cmp (numbered_ops ops)) → T (is_sorted nat_cmp (keyed_jobs jobs))
    → IsKeyed (record (global_with pieces ops jobs counter) { away = away })
global_keyed pieces ops jobs counter away f g h = record {
  mappings = each_keyed exact_text_pairs piece_key pieces f;
  log = each_keyed exact_unsigned (λ (op : Op). op.number) ops g;
  jobs = each_keyed exact_unsigned (λ (job : JobRow). job.number) jobs h;
  locals = keyed_empty.locals;
}

pub shard_keyed : (locals : List LocalRow) (keys : List ℕ) → T (is_sorted local_cmp (keyed_locals locals)) → IsKeyed (shard_with locals keys)
shard_keyed locals keys f = record { mappings = keyed_empty.mappings; log = keyed_empty.log; jobs = keyed_empty.jobs; locals = each_keyed exact_locals local_key locals f }

pub image_keyed : (g a b : Store) → IsKeyed g → IsKeyed a → IsKeyed b → (place : Place) → IsKeyed ((image_with g a b).at place)
image_keyed g a b of_g of_a of_b Global = of_g
image_keyed g a b of_g of_a of_b (Shard location) = by (same location site_a) (same location site_b)
  where
    by : (here there : Bool) → IsKeyed (cond here a (cond there b empty_store))
    by true there = of_a
    by false true = of_b
    by false false = keyed_empty

-- ---- global cells

pub global_cells : (pieces : List Piece) (ops : List Op) (jobs : List JobRow) (counter : Option Counters) (away : AwaySites) → T (is_sorted pair_cmp (keyed_pieces pieces))
    → (1 ≤ (counters_of counter).operation) × ((counters_of counter).operation ≤ 2 ^ 63) → 1 ≤ (counters_of counter).job
    → AllByRecursion (λ e. IsSpanOf maps_m e.1.map e.1.span) (keyed_pieces pieces) → AllByRecursion (λ e. HasShard shards_ab e.1.map e.1.location) (keyed_pieces pieces)
    → AllTwo (λ d e. OneAtAKey d.1 e.1) (keyed_pieces pieces) → GlobalCells (record (global_with pieces ops jobs counter) { away = away })
global_cells pieces ops jobs counter away sorted operations job spans on_shards disjoint = record {
  shards = λ name location. members pairs_total exact_text_pairs (λ k. IsSome (fin.get maps_m k.0)) pairs_ab (some_m, (some_m, tt)) (name, location);
  tables = λ name table. members pairs_total exact_text_pairs (λ k. IsSome (fin.get maps_m k.0)) ((map_m, table_t) ∷ []) (some_m, tt) (name, table);
  operations = operations;
  jobs = job;
  spans = λ p. standing exact_text_pairs (λ k q. IsSpanOf maps_m q.map q.span) (keyed_pieces pieces) sorted spans (piece_key p) p;
  on_shards = λ p. standing exact_text_pairs (λ k q. HasShard shards_ab q.map q.location) (keyed_pieces pieces) sorted on_shards (piece_key p) p;
  disjoint = all_disjoint pieces sorted disjoint;
}

-- ---- the cells of a site

module _ (pieces : List Piece) (ops : List Op) (location : Text) (locals : List LocalRow) (sorted_pieces : T (is_sorted pair_cmp (keyed_pieces pieces))) (sorted : T (is_sorted local_cmp (keyed_locals locals))) where
  abbrev log : Log
  log = log_of ops

  pub local_cells : (next : ℕ)
      → AllByRecursion (λ e. counts log e.1 ≡ true → (p : Piece) × HasPiece (mappings_of pieces) p × (p.location ≡ location) × Matches e.1 p) (keyed_locals locals)
      → AllByRecursion (λ e. e.1.location ≡ location → (row : LocalRow) × HasLocal (locals_of locals) row × (counts log row ≡ true) × Matches row e.1) (keyed_pieces pieces)
      → AllTwo (λ d e. counts log d.1 ≡ true → counts log e.1 ≡ true → d.1.map ≡ e.1.map → low_of d.1.span ≡ low_of e.1.span → d.1 ≡ e.1) (keyed_locals locals)
      → AllByRecursion (λ e. IsMarked log location e.1 e.1.mark) (keyed_locals locals)
      → AllByRecursion (λ e. (e.1.number < next) × IsTrue (mark_below next e.1.mark)) (keyed_locals locals)
      → LocalCells (mappings_of pieces) log next location (locals_of locals)
  local_cells next counted each once marks numbers = record {
    counted = λ row. standing exact_locals (λ k r. counts log r ≡ true → (p : Piece) × HasPiece (mappings_of pieces) p × (p.location ≡ location) × Matches r p) (keyed_locals locals) sorted counted (local_key row) row;
    each = λ p. standing exact_text_pairs (λ k q. q.location ≡ location → (row : LocalRow) × HasLocal (locals_of locals) row × (counts log row ≡ true) × Matches row q) (keyed_pieces pieces) sorted_pieces each (piece_key p) p;
    once = λ a b. two_standing exact_locals (λ a b. counts log a ≡ true → counts log b ≡ true → a.map ≡ b.map → low_of a.span ≡ low_of b.span → a ≡ b) (keyed_locals locals) sorted once (local_key a) (local_key b) a b;
    marks = λ row. standing exact_locals (λ k r. IsMarked log location r r.mark) (keyed_locals locals) sorted marks (local_key row) row;
    numbers = λ row. standing exact_locals (λ k r. (r.number < next) × IsTrue (mark_below next r.mark)) (keyed_locals locals) sorted numbers (local_key row) row;
  }

  pub online_rows : AllByRecursion (λ e. e.1.status ≡ Online → IsSpanOf maps_m e.1.map e.1.span) (keyed_locals locals)
      → AllByRecursion (λ e. e.1.status ≡ Online → (key : Text) → IsTrue (contains e.1.span key) → IsKeyOf maps_m e.1.map key
      → IsOwnedBy (owner_with pieces) e.1.map key location ⊎ ((owner_with pieces e.1.map key ≡ None) × IsComing log e.1.map key location)) (keyed_locals locals)
      → OnlineRows maps_m (owner_with pieces) log location (locals_of locals)
  online_rows spans owned = record {
    spans = λ row. standing exact_locals (λ k r. r.status ≡ Online → IsSpanOf maps_m r.map r.span) (keyed_locals locals) sorted spans (local_key row) row;
    owned = λ row key f online holds of_type. standing exact_locals (λ k r. r.status ≡ Online → (key : Text) → IsTrue (contains r.span key) → IsKeyOf maps_m r.map key
        → IsOwnedBy (owner_with pieces) r.map key location ⊎ ((owner_with pieces r.map key ≡ None) × IsComing log r.map key location)) (keyed_locals locals) sorted owned (local_key row) row f online key holds of_type;
  }

module _ (pieces : List Piece) (jobs : List JobRow) (location : Text) (keys : List ℕ) (sorted : T (is_sorted row_cmp (rows_with keys))) where
  pub row_cells : AllByRecursion (λ e. HasTable tables_t e.0.map e.0.table) (rows_with keys)
      → AllByRecursion (λ e. IsOwnedBy (owner_with pieces) e.0.map e.0.key location ⊎ IsBeingMoved maps_m (jobs_of jobs) e.0.map e.0.key location) (rows_with keys)
      → RowCells maps_m tables_t (owner_with pieces) (jobs_of jobs) location (rows_of (rows_with keys))
  row_cells in_table placed = record {
    in_table = keys_standing exact_rows (λ row. HasTable tables_t row.map row.table) (rows_with keys) sorted in_table;
    placed = keys_standing exact_rows (λ row. IsOwnedBy (owner_with pieces) row.map row.key location ⊎ IsBeingMoved maps_m (jobs_of jobs) row.map row.key location) (rows_with keys) sorted placed;
  }
