-- Mappings of a range map, as a command that wants one finds them.
use Rattle.std.proofs.Common.{◌≡◌, ◌&&◌, true, false, not, List, Option, Some, None, is_some, refl, sym, ap, ◌∙◌, subst}
use Rattle.std.specs.Prelude.{IsTrue, IfSome, option_map}
use Rattle.std.specs.FinMap as map
use Rattle.std.specs.List.{AllByRecursion}
use Rattle.std.specs.Ordering.{is_lt, is_eq, is_gt, ordering_reverse}
use Rattle.std.specs.declared.cmp.Ordering.{Ordering}
use Rattle.std.specs.declared.cmp.Ordering.TheVariants.{Less, Equal, Greater}
use Rattle.std.proofs.lemmas.Bool.{and_parts, and_from}
use Rattle.std.proofs.lemmas.Cmp.{nat_list_cmp_total}
use Rattle.std.proofs.lemmas.Option.{same_Some}
use Rattle.cell_world.specs.Texts.{Text}
use Rattle.cell_world.specs.ByteOrder.{byte_cmp}
use Rattle.cell_world.specs.Images.{Image, global}
use Rattle.cell_world.specs.Keys.{same, below, before, at_most}
use Rattle.cell_world.specs.KeyForms.{is_normal, is_normal_end, is_span_of}
use Rattle.cell_world.specs.Meaning.{meaning}
use Rattle.cell_world.specs.Sound.{Sound, HasPiece, HasMap, IsKeyOf}
use Rattle.cell_world.specs.declared.cells.KeyType.{KeyType}
use Rattle.cell_world.specs.declared.cells.MapKind.{MapKind}
use Rattle.cell_world.specs.declared.cells.MapKind.TheVariants as kind
use Rattle.cell_world.specs.declared.operations.Piece.{Piece}
use Rattle.cell_world.specs.declared.spans.High.{High}
use Rattle.cell_world.specs.declared.spans.Span.{Span}
use Rattle.cell_world.specs.declared.spans.Span.TheVariants.{Range, Point}
use Rattle.plain_model.specs.Refusing.{first_refusal, if_there, same_kind}
use Rattle.map_ops.proofs.Checks.{NoneHolds, none_holds}
use Rattle.mapping_plans.specs.Finding.{kind_checks}

-- the map is a range map, of this key type
abbrev pub IsRangeMap : Image → Text → Type 0
IsRangeMap image name = (type : KeyType) × HasMap (global image).maps name kind.Range type

pub is_range_map : (image : Image) (name : Text) → first_refusal (kind_checks (meaning image) name (Some kind.Range)) ≡ None → IsRangeMap image name
is_range_map image name e = by (map.get (global image).maps name) refl (none_holds (kind_checks (meaning image) name (Some kind.Range)) e)
  where
    by : (m : Option (MapKind × KeyType)) → map.get (global image).maps name ≡ m → NoneHolds (kind_checks (meaning image) name (Some kind.Range)) → IsRangeMap image name
    by None is none = let wrong : true ≡ false = sym (ap (λ (o : Option (MapKind × KeyType)). not (is_some o)) is) ∙ none.0 in cc
    by (Some m) is none = of m.0 refl
      where
        other : (if_there (λ k. not (same_kind kind.Range k)) (option_map (λ (m : MapKind × KeyType). m.0) (Some m))) ≡ false
        other = subst (λ (o : Option (MapKind × KeyType)). if_there (λ k. not (same_kind kind.Range k)) (option_map (λ (m : MapKind × KeyType). m.0) o) ≡ false) is none.1.0

        of : (k : MapKind) → m.0 ≡ k → IsRangeMap image name
        of kind.Range k_is = (m.1, is ∙ ap (λ (k : MapKind). Some (k, m.1)) k_is)
        of kind.List k_is = let wrong : true ≡ false = sym (ap (λ (k : MapKind). not (same_kind kind.Range k)) k_is) ∙ other in cc

-- a range that a mapping of it has
pub record IsRanged (type : KeyType) (span : Span) : Type 0 where
  pub from : Text
  pub to : High
  pub is : span ≡ Range from to
  -- its ends are normal forms, and the low one is before the high one
  pub low : IsTrue (is_normal type from)
  pub end : IsTrue (is_normal_end type to)
  pub order : IsTrue (before from to)

pub ranged : (image : Image) → Sound image → (name : Text) (type : KeyType) → HasMap (global image).maps name kind.Range type → (p : Piece) → HasPiece (global image).mappings p → p.map ≡ name → IsRanged type p.span
ranged image sound name type has p stands of_map =
    let s = sound.globals.spans p stands in
    by s.0 s.1 (same_Some (s.0, s.1) (kind.Range, type) (sym s.2 ∙ ap (map.get (global image).maps) of_map ∙ has)) p.span refl s.3
  where
    by : (k : MapKind) (t : KeyType) → ◌≡◌ {A = MapKind × KeyType} (k, t) (kind.Range, type) → (s : Span) → p.span ≡ s → IsTrue (is_span_of k t s) → IsRanged type p.span
    by kind.Range t e (Range from to) is h =
        let types : t ≡ type = ap (λ (m : MapKind × KeyType). m.1) e in
        let first = and_parts (is_normal t from) (is_normal_end t to && before from to) h in
        let rest = and_parts (is_normal_end t to) (before from to) first.1 in
        record { from = from; to = to; is = is; low = subst (λ (t : KeyType). IsTrue (is_normal t from)) types first.0; end = subst (λ (t : KeyType). IsTrue (is_normal_end t to)) types rest.0; order = rest.1 }
    by kind.Range t e (Point at) is h = let wrong : false ≡ true = h in absurd cc
    by kind.List t e s is h = let wrong : kind.List ≡ kind.Range = ap (λ (m : MapKind × KeyType). m.0) e in absurd cc

-- a normal form of the map's key type is one of this type
pub normal_in : (image : Image) (name key : Text) (type : KeyType) → HasMap (global image).maps name kind.Range type → IsKeyOf (global image).maps name key → IsTrue (is_normal type key)
normal_in image name key type has of = subst (λ (m : MapKind × KeyType). IsTrue (is_normal m.1 key)) (same_Some (of.0, of.1) (kind.Range, type) (sym of.2 ∙ has)) of.3

-- the spans of new mappings of the map, each of its kind and key type
pub ranges_of : (image : Image) (name : Text) (type : KeyType) → HasMap (global image).maps name kind.Range type → (news : List Piece) → AllByRecursion (λ (n : Piece). IsTrue (is_span_of kind.Range type n.span)) news
    → IfSome (map.get (global image).maps name) (λ m. AllByRecursion (λ (n : Piece). IsTrue (is_span_of m.0 m.1 n.span)) news)
ranges_of image name type has news all = subst (λ (o : Option (MapKind × KeyType)). IfSome o (λ m. AllByRecursion (λ (n : Piece). IsTrue (is_span_of m.0 m.1 n.span)) news)) (sym has) all

pub range_normal : (type : KeyType) (low : Text) (end : High) → IsTrue (is_normal type low) → IsTrue (is_normal_end type end) → IsTrue (before low end) → IsTrue (is_span_of kind.Range type (Range low end))
range_normal type low end a b c = and_from (is_normal type low) (is_normal_end type end && before low end) a (and_from (is_normal_end type end) (before low end) b c)

-- a key from another one on that isn't that one is above it
pub above_low : (low key : Text) → at_most low key ≡ true → same key low ≡ false → below low key ≡ true
above_low low key = by (byte_cmp low key) (byte_cmp key low) (nat_list_cmp_total.antisymm key low)
  where
    by : (r s : Ordering) → s ≡ ordering_reverse r → not (is_gt r) ≡ true → is_eq s ≡ false → is_lt r ≡ true
    by Less s e h g = refl
    by Equal s e h g = let wrong : true ≡ false = sym (ap is_eq e) ∙ g in cc
    by Greater s e h g = cc
