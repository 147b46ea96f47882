-- An operation is lawful where its clauses hold of the lists behind the tables.
use Rattle.std.proofs.Common.{◌≡◌, ◌≢◌, ℕ, true, true≢false, sym, ap, ◌∙◌, subst, Some, List, [], ◌∷◌, ◌++◌, map, T, is_some}
use Rattle.std.specs.Prelude.{IsTrue, IfSome}
use Rattle.std.specs.List.{AllByRecursion, list_any}
use Rattle.std.specs.FinMap as fin
use Rattle.std.specs.FinMap.{is_sorted}
use Rattle.std.specs.FinSet as set
use Rattle.cell_world.specs.Texts.{Text}
use Rattle.cell_world.specs.ByteOrder.{byte_cmp}
use Rattle.cell_world.specs.Keys.{same, overlaps, is_among}
use Rattle.cell_world.specs.KeyForms.{is_span_of}
use Rattle.cell_world.specs.Lists.{IsOneOf}
use Rattle.cell_world.specs.Orders.{pair_cmp}
use Rattle.cell_world.specs.Operations.{hull_of, sites_of}
use Rattle.cell_world.specs.Plain.{is_attached}
use Rattle.cell_world.specs.Spelled.{listed, has_first}
use Rattle.cell_world.specs.Stores.{piece_key}
use Rattle.cell_world.specs.Lawful.{ReadTables, LawfulOn, IsAttached, AreDisjoint, HasShape, IsOfJob, job_of_pieces}
use Rattle.cell_world.specs.declared.cells.KeyType.{KeyType}
use Rattle.cell_world.specs.declared.cells.MapKind.{MapKind}
use Rattle.cell_world.specs.declared.operations.Piece.{Piece}
use Rattle.cell_world.specs.declared.operations.JobRow.{JobRow}
use Rattle.cell_world.specs.declared.operations.Op.{Op}
use Rattle.cell_world.specs.declared.operations.Extra.TheVariants as extra
use Rattle.cell_world.proofs.OrderLaws.{pairs_total}
use Rattle.world_examples.specs.Examples.{map_m, site_a, site_b, sites_ab, maps_of, pairs_ab, shards_ab, away_of, keyed_pieces, reading}
use Rattle.world_examples.proofs.Tables.{get_of, each_of}

-- the clauses of a lawful operation that compute, for an operation on `m`
pub record Computes (m : MapKind × KeyType) (pieces : List Piece) (op : Op) : Type 0 where
  pub on_m : op.map ≡ map_m
  pub olds_stand : AllByRecursion (λ old. fin.find pair_cmp (piece_key old) (keyed_pieces pieces) ≡ Some old) (listed op.olds)
  pub of_map : AllByRecursion (λ p. p.map ≡ op.map) (listed op.olds ++ listed op.news)
  pub olds_in_order : IsTrue (has_first op.olds)
  pub news_in_order : IsTrue (has_first op.news)
  pub known : AllByRecursion (λ location. IsTrue (is_among sites_ab location)) (sites_of op)
  pub on_shards : AllByRecursion (λ new. IsTrue (is_among sites_ab new.location)) (listed op.news)
  pub spans : AllByRecursion (λ new. IsTrue (is_span_of m.0 m.1 new.span)) (listed op.news)
  pub disjoint : AreDisjoint (listed op.news)
  pub free : AllByRecursion (λ p. IsTrue (list_any (λ new. overlaps new.span p.span) (listed op.news)) → IsOneOf (listed op.olds) p) (map (λ e. e.1) (keyed_pieces pieces))
  pub hull : hull_of (listed op.olds ++ listed op.news) ≡ Some op.hull
  pub no_drop : (number : ℕ) → op.extra ≢ extra.JobDrop number

pub b_not_a : site_b ≢ site_a
b_not_a e = true≢false (sym (ap (λ location. same location site_a) e))

all_of : {X : Type 0} (P Q : X → Type 0) → ((x : X) → P x → Q x) → (xs : List X) → AllByRecursion P xs → AllByRecursion Q xs
all_of P Q f [] all = tt
all_of P Q f (x ∷ xs) all = (f x all.0, all_of P Q f xs all.1)

pub is_here : (location : Text) → IsTrue (is_among sites_ab location) → IsAttached sites_ab (away_of []) location
is_here location h = record { known = h; attached = ap is_attached (get_of byte_cmp [] tt location) }

module _ (m : MapKind × KeyType) (pieces : List Piece) (jobs : List JobRow) (at_a at_b : List ℕ) (sorted : T (is_sorted pair_cmp (keyed_pieces pieces))) where
  abbrev t : ReadTables
  t = record (reading pieces jobs at_a at_b) { maps = maps_of ((map_m, m) ∷ []) }

  pub accepted : (op : Op) → Computes m pieces op → HasShape t.rows_at (listed op.olds) (listed op.news) → IsOfJob t op (job_of_pieces t.jobs (listed op.olds)) → LawfulOn t op
  accepted op h shape job = record {
    map_stands = subst (λ name. is_some (fin.get t.maps name) ≡ true) (sym h.on_m) (ap is_some (get_of byte_cmp ((map_m, m) ∷ []) tt map_m));
    olds_stand = all_of _ _ (λ old e. get_of pair_cmp (keyed_pieces pieces) sorted (piece_key old) ∙ e) (listed op.olds) h.olds_stand;
    of_map = h.of_map;
    olds_in_order = h.olds_in_order;
    news_in_order = h.news_in_order;
    attached = all_of _ _ is_here (sites_of op) h.known;
    on_shards = all_of _ _ (λ new among. subst (λ name. set.contains shards_ab (name, new.location) ≡ true) (sym h.on_m) (set.contains-from_list pairs_total pairs_ab (map_m, new.location) ∙ among)) (listed op.news) h.on_shards;
    spans = subst (λ name. IfSome (fin.get t.maps name) (λ m. AllByRecursion (λ new. IsTrue (is_span_of m.0 m.1 new.span)) (listed op.news))) (sym h.on_m)
        (subst (λ m. IfSome m (λ m. AllByRecursion (λ new. IsTrue (is_span_of m.0 m.1 new.span)) (listed op.news))) (sym (get_of byte_cmp ((map_m, m) ∷ []) tt map_m)) h.spans);
    disjoint = h.disjoint;
    free = λ other f of_map. each_of pair_cmp (λ p. IsTrue (list_any (λ new. overlaps new.span p.span) (listed op.news)) → IsOneOf (listed op.olds) p) (keyed_pieces pieces) sorted h.free (piece_key other) other f;
    hull = h.hull;
    shape = shape;
    job = job;
    no_drop = h.no_drop;
  }
