-- What stands in short tables, and what an owner or a mapping there cannot be.
use Rattle.std.proofs.Common.{◌≡◌, Bool, true, sym, ap, ◌∙◌, subst, Some, None, Option, List, [], T, is_some, true≢false}
use Rattle.std.specs.Prelude.{IsTrue}
use Rattle.std.specs.List.{AllByRecursion, list_any}
use Rattle.std.specs.Ordering.{nat_cmp, eq_by_cmp}
use Rattle.std.specs.FinMap as fin
use Rattle.std.specs.FinMap.{is_sorted}
use Rattle.std.specs.FinSet as set
use Rattle.std.proofs.lemmas.Map.Lookups.{exact_unsigned}
use Rattle.cell_world.specs.Texts.{Text}
use Rattle.cell_world.specs.Orders.{pair_cmp, local_cmp, row_cmp}
use Rattle.cell_world.specs.Keys.{contains}
use Rattle.cell_world.specs.KeyForms.{is_normal, is_span_of}
use Rattle.cell_world.specs.Lists.{SomeOf}
use Rattle.cell_world.specs.ByteOrder.{byte_cmp}
use Rattle.cell_world.specs.Plain.{is_attached}
use Rattle.cell_world.specs.Lawful.{IsAttached}
use Rattle.cell_world.specs.Spelled.{listed}
use Rattle.cell_world.specs.declared.cells.Away.{Away}
use Rattle.cell_world.specs.Stores.{piece_key, local_key}
use Rattle.cell_world.specs.Sound.{HasMap, HasPiece, HasLocal, HasLog, HasJob, HasRow, IsSpanOf, IsKeyOf, IsComing, IsBeingMoved, InBatch, batch_high, Matches, BatchAt}
use Rattle.cell_world.specs.declared.cells.KeyType.{KeyType}
use Rattle.cell_world.specs.declared.cells.KeyType.TheVariants.{Int}
use Rattle.cell_world.specs.declared.cells.LocalRow.{LocalRow}
use Rattle.cell_world.specs.declared.cells.MapKind.{MapKind}
use Rattle.cell_world.specs.declared.cells.MapKind.TheVariants as kind
use Rattle.cell_world.specs.declared.cells.RowName.{RowName}
use Rattle.cell_world.specs.declared.cells.Status.TheVariants.{Offline}
use Rattle.cell_world.specs.declared.operations.JobRow.{JobRow}
use Rattle.cell_world.specs.declared.operations.Op.{Op}
use Rattle.cell_world.specs.declared.operations.Piece.{Piece}
use Rattle.cell_world.specs.declared.spans.High.{High}
use Rattle.cell_world.specs.declared.spans.High.TheVariants.{At}
use Rattle.cell_world.specs.declared.spans.Span.{Span}
use Rattle.cell_world.specs.declared.spans.Span.TheVariants.{Range}
use Rattle.cell_world.proofs.OrderLaws.{pairs_total, exact_text_pairs}
use Rattle.image_laws.proofs.OwnerLaws.{owner_stands}
use Rattle.world_examples.specs.Examples.{map_m, site_a, maps_m, keyed_pieces, mappings_of, log_of, jobs_of, locals_of, rows_of, owner_with, away_of, sites_ab, keyed_jobs}
use Rattle.world_examples.proofs.Tables.{get_of}
use Rattle.world_examples.proofs.Standing.{standing, m_stands, is_int, each_alone}
use Rattle.world_examples.proofs.ImageParts.{numbered_ops, keyed_locals}

-- ---- what stands

pub piece_in : (pieces : List Piece) → T (is_sorted pair_cmp (keyed_pieces pieces)) → (p : Piece) → fin.find pair_cmp (piece_key p) (keyed_pieces pieces) ≡ Some p → HasPiece (mappings_of pieces) p
piece_in pieces sorted p e = get_of pair_cmp (keyed_pieces pieces) sorted (piece_key p) ∙ e

pub local_in : (rows : List LocalRow) → T (is_sorted local_cmp (keyed_locals rows)) → (row : LocalRow) → fin.find local_cmp (local_key row) (keyed_locals rows) ≡ Some row → HasLocal (locals_of rows) row
local_in rows sorted row e = get_of local_cmp (keyed_locals rows) sorted (local_key row) ∙ e

pub op_in : (ops : List Op) → T (is_sorted nat_cmp (numbered_ops ops)) → (op : Op) → fin.find nat_cmp op.number (numbered_ops ops) ≡ Some op → HasLog (log_of ops) op
op_in ops sorted op e = get_of nat_cmp (numbered_ops ops) sorted op.number ∙ e

pub job_in : (jobs : List JobRow) → T (is_sorted nat_cmp (keyed_jobs jobs)) → (job : JobRow) → fin.find nat_cmp job.number (keyed_jobs jobs) ≡ Some job → HasJob (jobs_of jobs) job
job_in jobs sorted job e = get_of nat_cmp (keyed_jobs jobs) sorted job.number ∙ e

pub row_in : (entries : List (RowName × Text)) → T (is_sorted row_cmp entries) → (row : RowName) → is_some (fin.find row_cmp row entries) ≡ true → HasRow (rows_of entries) row
row_in entries sorted row e = ap is_some (get_of row_cmp entries sorted row) ∙ e

pub set_has : (keys : List (Text × Text)) (key : Text × Text) (b : Bool) → list_any (eq_by_cmp pair_cmp key) keys ≡ b → set.contains (set.from_list {R = pair_cmp} keys) key ≡ b
set_has keys key b e = set.contains-from_list pairs_total keys key ∙ e

-- ---- the map

abbrev kind_in : Option (MapKind × KeyType) → MapKind
kind_in None = kind.Range
kind_in (Some m) = m.0

-- a span of `m` is a range of numbers
pub span_of_m : (span : Span) → IsSpanOf maps_m map_m span → IsTrue (is_span_of kind.Range Int span)
span_of_m span h = subst (λ k. IsTrue (is_span_of k Int span)) (ap kind_in (sym h.2 ∙ m_stands)) (subst (λ type. IsTrue (is_span_of h.0 type span)) (is_int h.0 h.1 h.2) h.3)

pub key_of_m : (key : Text) → IsTrue (is_normal Int key) → IsKeyOf maps_m map_m key
key_of_m key normal = (kind.Range, Int, m_stands, normal)

-- ---- what doesn't stand

pub empty_log : (op : Op) → HasLog (log_of []) op → ⊥
empty_log op = standing exact_unsigned (λ k x. ⊥) [] tt tt op.number op

pub no_job : (job : JobRow) → HasJob (jobs_of []) job → ⊥
no_job job = standing exact_unsigned (λ k x. ⊥) [] tt tt job.number job

pub nothing_comes : (name key location : Text) → IsComing (log_of []) name key location → ⊥
nothing_comes name key location h = empty_log h.0 h.1

pub not_coming : (ops : List Op) → T (is_sorted nat_cmp (numbered_ops ops)) → (name key location : Text)
    → AllByRecursion (λ e. SomeOf (λ (new : Piece). (new.location ≡ location) × IsTrue (contains new.span key)) (listed e.1.news) → ⊥) (numbered_ops ops) → IsComing (log_of ops) name key location → ⊥
not_coming ops sorted name key location all h = standing exact_unsigned (λ k (op : Op). SomeOf (λ (new : Piece). (new.location ≡ location) × IsTrue (contains new.span key)) (listed op.news) → ⊥) (numbered_ops ops) sorted all h.0.number h.0 h.1 h.3

module _ (pieces : List Piece) (sorted : T (is_sorted pair_cmp (keyed_pieces pieces))) where
  -- the local row is that of no mapping at the site
  pub no_match : (row : LocalRow) → AllByRecursion (λ e. e.1.location ≡ site_a → Matches row e.1 → ⊥) (keyed_pieces pieces) → ((p : Piece) × HasPiece (mappings_of pieces) p × (p.location ≡ site_a) × Matches row p) → ⊥
  no_match row all h = standing exact_text_pairs (λ k p. p.location ≡ site_a → Matches row p → ⊥) (keyed_pieces pieces) sorted all (piece_key h.0) h.0 h.1 h.2 h.3

  -- no mapping that contains the key is so
  pub no_owner : (key : Text) (Is : Piece → Type 0) → AllByRecursion (λ e. IsTrue (contains e.1.span key) → Is e.1 → ⊥) (keyed_pieces pieces) → (p : Piece) → owner_with pieces map_m key ≡ Some p → Is p → ⊥
  no_owner key Is all p owns is =
      let there = owner_stands maps_m (mappings_of pieces) (each_alone pieces sorted) map_m key p owns in
      standing exact_text_pairs (λ k q. IsTrue (contains q.span key) → Is q → ⊥) (keyed_pieces pieces) sorted all (piece_key p) p there.0 there.2 is

  -- no mapping is that of the batch
  pub no_batch : (job : JobRow) (low : Text) (end : High) (location : Text) → job.cursor ≡ At low
      → AllByRecursion (λ e. e.1.map ≡ job.map → e.1.span ≡ Range low end → e.1.status ≡ Offline → e.1.location ≡ location → ⊥) (keyed_pieces pieces) → BatchAt (mappings_of pieces) job end location → ⊥
  no_batch job low end location cursor all h =
      let both : At low ≡ At h.low = sym cursor ∙ h.at_cursor in
      let is : h.low ≡ low = cc in
      standing exact_text_pairs (λ k p. p.map ≡ job.map → p.span ≡ Range low end → p.status ≡ Offline → p.location ≡ location → ⊥) (keyed_pieces pieces) sorted all (piece_key h.piece) h.piece h.stands
      h.of_map (subst (λ l. h.piece.span ≡ Range l end) is h.span) h.offline h.at_site

-- the row is in no batch in progress
pub not_moved : (jobs : List JobRow) → T (is_sorted nat_cmp (keyed_jobs jobs)) → (name key location : Text) → AllByRecursion (λ e. InBatch e.1 key → ⊥) (keyed_jobs jobs) → IsBeingMoved maps_m (jobs_of jobs) name key location → ⊥
not_moved jobs sorted name key location all h = standing exact_unsigned (λ k job. InBatch job key → ⊥) (keyed_jobs jobs) sorted all h.job.number h.job h.stands h.in_batch

-- the keys of a batch are those from its cursor up to its end
pub batch_is : (job : JobRow) (low : Text) (end : High) → job.cursor ≡ At low → batch_high job.phase ≡ Some end → (key : Text) → InBatch job key → IsTrue (contains (Range low end) key)
batch_is job low end cursor high key h =
    let first : At h.0 ≡ At low = sym h.2 ∙ cursor in
    let last : Some h.1 ≡ Some end = sym h.3 ∙ high in
    let from : h.0 ≡ low = cc in
    let to : h.1 ≡ end = cc in
    subst (λ l. IsTrue (contains (Range l end) key)) from (subst (λ e. IsTrue (contains (Range h.0 e) key)) to h.4)

-- ---- jobs

-- the key type of a job of `m` is that of the numbers, so a number is a key of it
pub key_of_job : (type : KeyType) → HasMap maps_m map_m kind.Range type → (key : Text) → IsTrue (is_normal Int key) → IsTrue (is_normal type key)
key_of_job type h key normal = subst (λ t. IsTrue (is_normal t key)) (sym (is_int kind.Range type h)) normal

-- no mapping of the map is so
pub no_piece : (pieces : List Piece) → T (is_sorted pair_cmp (keyed_pieces pieces)) → (Is : Piece → Type 0) → AllByRecursion (λ e. Is e.1 → ⊥) (keyed_pieces pieces) → (p : Piece) → HasPiece (mappings_of pieces) p → Is p → ⊥
no_piece pieces sorted Is all p has is = standing exact_text_pairs (λ k q. Is q → ⊥) (keyed_pieces pieces) sorted all (piece_key p) p has is

-- a site with a site state cell isn't attached
pub not_attached : (entries : List (Text × Away)) → T (is_sorted byte_cmp entries) → (location : Text) → is_some (fin.find byte_cmp location entries) ≡ true → IsAttached sites_ab (away_of entries) location → ⊥
not_attached entries sorted location there h = by (fin.find byte_cmp location entries) (get_of byte_cmp entries sorted location) there
  where
    by : (o : Option Away) → fin.get (away_of entries) location ≡ o → is_some o ≡ true → ⊥
    by None e t = true≢false (sym t)
    by (Some a) e t = true≢false (sym h.attached ∙ ap is_attached e)
