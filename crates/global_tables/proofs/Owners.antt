-- The greatest mapping at or below a key is its owner, if it contains it.
use Rattle.std.proofs.Common.{◌≡◌, Bool, true, false, cond, not, Option, Some, None, option_map, refl, sym, ap, ◌∙◌, subst, true≢false}
use Rattle.std.specs.Prelude.{IsTrue}
use Rattle.std.specs.FinMap as map
use Rattle.std.specs.Ordering.{is_gt, ordering_then}
use Rattle.std.specs.declared.cmp.Ordering.{Ordering}
use Rattle.std.specs.declared.cmp.Ordering.TheVariants.{Less, Equal, Greater}
use Rattle.std.proofs.lemmas.Cmp.{nat_list_cmp_total, tied_itself}
use Rattle.cell_world.specs.Texts.{Text}
use Rattle.cell_world.specs.ByteOrder.{byte_cmp}
use Rattle.cell_world.specs.Images.{Image, Global, global, image_at, end_of_trail}
use Rattle.cell_world.specs.Keys.{contains, low_of, at_most}
use Rattle.cell_world.specs.Meaning.{owner_of}
use Rattle.cell_world.specs.Sound.{Sound, HasPiece, IsKeyOf}
use Rattle.cell_world.specs.Stores.{Stands, piece_key}
use Rattle.cell_world.specs.Finding.{IsFloor, IsAtOrBelow}
use Rattle.cell_world.specs.Orders.{cell_cmp}
use Rattle.cell_world.specs.Outside.{Told, TellsNothing, TellsContents, TellsTrail, IfContents}
use Rattle.cell_world.specs.declared.cells.Cell.TheVariants as cell
use Rattle.cell_world.specs.declared.cells.CellKey.TheVariants as at
use Rattle.cell_world.specs.declared.operations.Piece.{Piece}
use Rattle.cell_world.proofs.SpanLaws.{contains_between, low_at_most, overlaps_shared, holds_low}
use Rattle.image_laws.proofs.OwnerLaws.{owner_stands, owner_is}
use Rattle.global_tables.specs.Reads.{IsKeyIfThere, if_over}

-- ---- keys of one map are ordered by their low keys

not_gt : (r s : Ordering) → r ≡ Equal → is_gt (ordering_then r s) ≡ is_gt s
not_gt r s e = ap (λ r. is_gt (ordering_then r s)) e

same_map : (a b : Text) → a ≡ b → byte_cmp a b ≡ Equal
same_map a b e = subst (λ x. byte_cmp a x ≡ Equal) e (tied_itself nat_list_cmp_total a)

last_gt : (r : Ordering) → is_gt (ordering_then r Equal) ≡ is_gt r
last_gt Less = refl
last_gt Equal = refl
last_gt Greater = refl

low_gt : (a b low key : Text) → a ≡ b → is_gt (cell_cmp (at.Piece a low) (at.Piece b key)) ≡ is_gt (byte_cmp low key)
low_gt a b low key e = not_gt (byte_cmp a b) (ordering_then (byte_cmp low key) Equal) (same_map a b e) ∙ last_gt (byte_cmp low key)

is_not : (b : Bool) → not b ≡ true → b ≡ false
is_not true e = sym e
is_not false e = refl

not_above : (a b low key : Text) → a ≡ b → at_most low key ≡ true → is_gt (cell_cmp (at.Piece a low) (at.Piece b key)) ≡ false
not_above a b low key e h = low_gt a b low key e ∙ is_not (is_gt (byte_cmp low key)) h

low_below : (a b low key : Text) → a ≡ b → is_gt (cell_cmp (at.Piece a low) (at.Piece b key)) ≡ false → at_most low key ≡ true
low_below a b low key e h = ap not (sym (low_gt a b low key e) ∙ h)

-- ---- the owner

module _ (image : Image) (sound : Sound image) (name key : Text) (normal : IsKeyIfThere (global image).maps name key) where
  below_key : (q : Piece) → q.map ≡ name → contains q.span key ≡ true → IsAtOrBelow (at.Piece name key) (cell.Piece q)
  below_key q e h = record { kind = refl; map = ap Some e; order = not_above q.map name (low_of q.span) key e (low_at_most q.span key h) }

  stands : (q : Piece) → HasPiece (global image).mappings q → Stands (global image) (cell.Piece q)
  stands q h = ap (option_map cell.Piece) h

  has : (p : Piece) → Stands (global image) (cell.Piece p) → HasPiece (global image).mappings p
  has p h = back (map.get (global image).mappings (piece_key p)) h
    where
      back : (o : Option Piece) → option_map cell.Piece o ≡ Some (cell.Piece p) → o ≡ Some p
      back None e = cc
      back (Some q) e = let is : q ≡ p = cc in ap Some is

  unowned : ((q : Piece) → HasPiece (global image).mappings q → q.map ≡ name → contains q.span key ≡ true → ⊥) → None ≡ owner_of image name key
  unowned never = by (owner_of image name key) refl
    where
      by : (o : Option Piece) → owner_of image name key ≡ o → None ≡ owner_of image name key
      by None e = sym e
      by (Some q) e = let f = owner_stands (global image).maps (global image).mappings (sound.keyed Global).mappings name key q e in absurd (never q f.0 f.1 f.2)

  name_back : (p : Piece) → IsAtOrBelow (at.Piece name key) (cell.Piece p) → p.map ≡ name
  name_back p h = let e : Some p.map ≡ Some name = h.map in cc

  -- What a floor found below the key is the owner, if it contains it.
  pub owner_by_floor : (below : Option Piece) → IsFloor (global image) (at.Piece name key) (option_map cell.Piece below) → if_over key below ≡ owner_of image name key
  owner_by_floor None floor = unowned (λ q h e c. floor (cell.Piece q) (stands q h) (below_key q e c))
  owner_by_floor (Some p) floor = by (contains p.span key) refl
    where
      of_map : p.map ≡ name
      of_map = name_back p floor.1

      p_has : HasPiece (global image).mappings p
      p_has = has p floor.0

      by : (b : Bool) → contains p.span key ≡ b → cond b (Some p) None ≡ owner_of image name key
      by true c =
          let s = sound.globals.spans p p_has in
          let of_type : IsKeyOf (global image).maps name key = (s.0, s.1, subst (λ n. map.get (global image).maps n ≡ Some (s.0, s.1)) of_map s.2, normal s.0 s.1 (subst (λ n. map.get (global image).maps n ≡ Some (s.0, s.1)) of_map s.2)) in
          sym (owner_is (global image).maps (global image).mappings (sound.keyed Global).mappings name key sound.globals.disjoint of_type p p_has of_map c)
      by false c = unowned (λ q h e holds.
          let s = sound.globals.spans p p_has in
          let lower : at_most (low_of q.span) (low_of p.span) ≡ true = low_below q.map p.map (low_of q.span) (low_of p.span) (e ∙ sym of_map) (floor.2 (cell.Piece q) (stands q h) (below_key q e holds)) in
          let upper : at_most (low_of p.span) key ≡ true = low_below p.map name (low_of p.span) key of_map floor.1.order in
          let shared : IsTrue (contains q.span (low_of p.span)) = contains_between q.span key (low_of p.span) holds lower upper in
          let one : p ≡ q = sound.globals.disjoint p q p_has h (of_map ∙ sym e) (overlaps_shared p.span q.span (low_of p.span) (holds_low s.0 s.1 p.span s.3) shared) in
          true≢false (sym holds ∙ ap (λ (x : Piece). contains x.span key) (sym one) ∙ c))

-- ---- over what is told

pub owner_tells : (told : Told) (name key : Text) (below : Option Piece) (result : Option Piece) → result ≡ if_over key below → IfContents told (λ image. IsFloor (global image) (at.Piece name key) (option_map cell.Piece below))
    → IfContents told (λ image. Sound image → IsKeyIfThere (global image).maps name key → result ≡ owner_of image name key)
owner_tells TellsNothing name key below result is floor = tt
owner_tells (TellsContents image) name key below result is floor = λ sound normal. is ∙ owner_by_floor image sound name key normal below floor
owner_tells (TellsTrail trail) name key below result is floor = λ sound normal. is ∙ owner_by_floor (image_at trail (end_of_trail trail)) sound name key normal below floor
