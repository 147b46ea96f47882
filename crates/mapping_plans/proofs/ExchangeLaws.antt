-- What the laws of an operation come to, where it exchanges one mapping or two of a map for others within their spans.
use Rattle.std.proofs.Common.{◌≡◌, List, [], ◌∷◌, ◌++◌, Option, Some, None, refl, sym, ap, ◌∙◌, subst}
use Rattle.std.specs.Prelude.{IsTrue, IfSome, IsSome}
use Rattle.std.specs.List.{list_any, AllByRecursion}
use Rattle.std.specs.FinMap as map
use Rattle.std.specs.FinSet as set
use Rattle.cell_world.specs.Texts.{Text}
use Rattle.cell_world.specs.Images.{Image, global}
use Rattle.cell_world.specs.Keys.{contains, overlaps}
use Rattle.cell_world.specs.KeyForms.{is_span_of}
use Rattle.cell_world.specs.Lawful.{Lawful, AreDisjoint, HasShape, IsAttached, IsOfJob, job_of_pieces, job_with_token, or_else, read_tables, rows_at}
use Rattle.cell_world.specs.Lists.{IsOneOf}
use Rattle.cell_world.specs.Operations.{hull_of, sites_of}
use Rattle.cell_world.specs.Sound.{Sound, HasPiece, IsSpanOf}
use Rattle.cell_world.specs.Spelled.{listed, has_first}
use Rattle.cell_world.specs.Stores.{piece_key}
use Rattle.cell_world.specs.declared.cells.KeyType.{KeyType}
use Rattle.cell_world.specs.declared.cells.MapKind.{MapKind}
use Rattle.cell_world.specs.declared.operations.Piece.{Piece}
use Rattle.cell_world.specs.declared.operations.Pieces.{Pieces}
use Rattle.cell_world.specs.declared.spans.Span.{Span}
use Rattle.cell_world.proofs.SpanLaws.{overlaps_shared, shared_of_overlap}
use Rattle.image_laws.proofs.Lists.{any_gives}
use Rattle.mapping_plans.specs.Exchanges.{exchange_op}

-- the jobs of mappings of which none has a job's token
pub no_job_of_one : (image : Image) (p : Piece) → job_with_token (global image).jobs p ≡ None → job_of_pieces (global image).jobs (p ∷ []) ≡ None
no_job_of_one image p e = ap (λ o. or_else o None) e

pub no_job_of_two : (image : Image) (p q : Piece) → job_with_token (global image).jobs p ≡ None → job_with_token (global image).jobs q ≡ None → job_of_pieces (global image).jobs (p ∷ q ∷ []) ≡ None
no_job_of_two image p q e f = λ i. or_else (e i) (or_else (f i) None)

module _ (image : Image) (sound : Sound image) (name : Text) where
  -- the spans of mappings that are of the map's kind and key type, whatever that is
  pub spans_of : (s : Span) → IsSpanOf (global image).maps name s → (news : List Piece) → ((k : MapKind) (t : KeyType) → IsTrue (is_span_of k t s) → AllByRecursion (λ (n : Piece). IsTrue (is_span_of k t n.span)) news)
      → IfSome (map.get (global image).maps name) (λ m. AllByRecursion (λ (n : Piece). IsTrue (is_span_of m.0 m.1 n.span)) news)
  spans_of s of news all = subst (λ (o : Option (MapKind × KeyType)). IfSome o (λ m. AllByRecursion (λ (n : Piece). IsTrue (is_span_of m.0 m.1 n.span)) news)) (sym of.2) (all of.0 of.1 of.3)

  -- a mapping of the map that overlaps a new one is an old one, where each key of a new one is an old one's
  pub free_of : (olds news : List Piece) → ((o : Piece) → IsOneOf olds o → HasPiece (global image).mappings o × (o.map ≡ name))
      → ((n : Piece) → IsOneOf news n → (key : Text) → IsTrue (contains n.span key) → (o : Piece) × IsOneOf olds o × IsTrue (contains o.span key))
      → (other : Piece) → HasPiece (global image).mappings other → other.map ≡ name → IsTrue (list_any (λ (n : Piece). overlaps n.span other.span) news) → IsOneOf olds other
  free_of olds news stand inside other there of_map any =
      let n = any_gives (λ (n : Piece). overlaps n.span other.span) news any in
      let key = shared_of_overlap n.0.span other.span n.2 in
      let o = inside n.0 n.1 key.0 key.1 in
      let is : o.0 ≡ other = sound.globals.disjoint o.0 other (stand o.0 o.1).0 there ((stand o.0 o.1).1 ∙ sym of_map) (overlaps_shared o.0.span other.span key.0 o.2 key.2) in
      subst (IsOneOf olds) is o.1

  -- The image admits the exchange.
  pub exchange_lawful : (hull : Span) (olds news : Pieces) → IsSome (map.get (global image).maps name)
      → AllByRecursion (λ (o : Piece). map.get (global image).mappings (piece_key o) ≡ Some o) (listed olds)
      → AllByRecursion (λ (p : Piece). p.map ≡ name) (listed olds ++ listed news)
      → IsTrue (has_first olds) → IsTrue (has_first news)
      → AllByRecursion (IsAttached image.locations (global image).away) (sites_of (exchange_op name hull olds news))
      → AllByRecursion (λ (n : Piece). IsTrue (set.contains (global image).shards (name, n.location))) (listed news)
      → IfSome (map.get (global image).maps name) (λ m. AllByRecursion (λ (n : Piece). IsTrue (is_span_of m.0 m.1 n.span)) (listed news))
      → AreDisjoint (listed news)
      → ((other : Piece) → HasPiece (global image).mappings other → other.map ≡ name → IsTrue (list_any (λ (n : Piece). overlaps n.span other.span) (listed news)) → IsOneOf (listed olds) other)
      → hull_of (listed olds ++ listed news) ≡ Some hull
      → HasShape (rows_at image) (listed olds) (listed news)
      → job_of_pieces (global image).jobs (listed olds) ≡ None
      → Lawful image (exchange_op name hull olds news)
  exchange_lawful hull olds news stands olds_stand of_map olds_first news_first attached on_shards spans disjoint free is_hull shape no_job = record {
    map_stands = stands;
    olds_stand = olds_stand;
    of_map = of_map;
    olds_in_order = olds_first;
    news_in_order = news_first;
    attached = attached;
    on_shards = on_shards;
    spans = spans;
    disjoint = disjoint;
    free = free;
    hull = is_hull;
    shape = shape;
    job = subst (λ o. IsOfJob (read_tables image) (exchange_op name hull olds news) o) (sym no_job) refl;
    no_drop = λ number e. cc;
  }
