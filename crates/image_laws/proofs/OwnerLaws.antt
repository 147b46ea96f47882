-- The owner of a key.
use Rattle.std.proofs.Common.{◌≡◌, Bool, true, false, cond, refl, sym, ap, ◌∙◌, subst, Some, None, Option}
use Rattle.std.specs.Prelude.{find, option_and_then, IsTrue, IfSome}
use Rattle.std.specs.FinMap as map
use Rattle.std.proofs.lemmas.Bool.{and_parts, and_from}
use Rattle.cell_world.specs.Texts.{Text}
use Rattle.cell_world.specs.Keys.{same, contains, overlaps}
use Rattle.cell_world.specs.KeyForms.{is_normal}
use Rattle.cell_world.specs.Orders.{pair_cmp}
use Rattle.cell_world.specs.Stores.{Maps, Mappings, piece_key}
use Rattle.cell_world.specs.Plain.{covers, owner_in}
use Rattle.cell_world.specs.Sound.{HasPiece, IsKeyOf}
use Rattle.cell_world.specs.declared.operations.Piece.{Piece}
use Rattle.cell_world.specs.declared.cells.MapKind.{MapKind}
use Rattle.cell_world.specs.declared.cells.KeyType.{KeyType}
use Rattle.cell_world.proofs.OrderLaws.{pairs_total}
use Rattle.cell_world.proofs.SpanLaws.{same_is, same_self, overlaps_shared}
use Rattle.image_laws.proofs.ValueLaws.{value_found, value_there}

-- each mapping stands under its own key
abbrev pub PlacedAlone : Mappings → Type 0
PlacedAlone mappings = (k : Text × Text) → IfSome (map.get mappings k) (λ p. piece_key p ≡ k)

-- mappings of one map are disjoint
abbrev pub AllDisjoint : Mappings → Type 0
AllDisjoint mappings = (p q : Piece) → HasPiece mappings p → HasPiece mappings q → p.map ≡ q.map → IsTrue (overlaps p.span q.span) → p ≡ q

module _ (maps : Maps) (mappings : Mappings) (placed : PlacedAlone mappings) (name key : Text) where
  -- the search behind the owner
  abbrev search_of : Option Piece
  search_of = find (covers name key) (map.values mappings)

  pub found_stands : (p : Piece) → search_of ≡ Some p → HasPiece mappings p × (p.map ≡ name) × IsTrue (contains p.span key)
  found_stands p g =
      let f = value_found pair_cmp pairs_total (covers name key) mappings p g in
      let place : piece_key p ≡ f.0 = subst (λ o. IfSome o (λ q. piece_key q ≡ f.0)) f.1 (placed f.0) in
      let parts = and_parts (same name p.map) (contains p.span key) f.2 in
      (subst (λ k. map.get mappings k ≡ Some p) (sym place) f.1, sym (same_is name p.map parts.0), parts.1)

  -- Where there is an owner the map stands, and the key is one of it.
  pub owner_key : (p : Piece) → owner_in maps mappings name key ≡ Some p → IsKeyOf maps name key
  owner_key p = by (map.get maps name) refl
    where
      by : (m : Option (MapKind × KeyType)) → map.get maps name ≡ m → option_and_then (λ m. cond (is_normal m.1 key) search_of None) m ≡ Some p → IsKeyOf maps name key
      by None f e = cc
      by (Some m) f e = normal (is_normal m.1 key) refl e
        where
          normal : (b : Bool) → is_normal m.1 key ≡ b → cond b search_of None ≡ Some p → IsKeyOf maps name key
          normal true g e = (m.0, m.1, f, g)
          normal false g e = cc

  -- An owner stands, is of the map, and contains the key.
  pub owner_stands : (p : Piece) → owner_in maps mappings name key ≡ Some p → HasPiece mappings p × (p.map ≡ name) × IsTrue (contains p.span key)
  owner_stands p = by (map.get maps name)
    where
      by : (m : Option (MapKind × KeyType)) → option_and_then (λ m. cond (is_normal m.1 key) search_of None) m ≡ Some p → HasPiece mappings p × (p.map ≡ name) × IsTrue (contains p.span key)
      by None e = cc
      by (Some m) e = normal (is_normal m.1 key) e
        where
          normal : (b : Bool) → cond b search_of None ≡ Some p → HasPiece mappings p × (p.map ≡ name) × IsTrue (contains p.span key)
          normal true e = found_stands p e
          normal false e = cc

  -- A mapping of the map that contains the key is its owner.
  pub owner_is : AllDisjoint mappings → IsKeyOf maps name key → (p : Piece) → HasPiece mappings p → p.map ≡ name → IsTrue (contains p.span key) → owner_in maps mappings name key ≡ Some p
  owner_is disjoint of_type p has of_map holds =
      ap (option_and_then (λ m. cond (is_normal m.1 key) search_of None)) of_type.2 ∙ ap (λ b. cond b search_of None) of_type.3 ∙ only search_of refl
    where
      passes : covers name key p ≡ true
      passes = and_from (same name p.map) (contains p.span key) (subst (λ n. same n p.map ≡ true) of_map (same_self p.map)) holds

      only : (o : Option Piece) → search_of ≡ o → search_of ≡ Some p
      only None e = let some = value_there pair_cmp pairs_total (covers name key) mappings (piece_key p) p has passes in cc
      only (Some q) e =
          let f = found_stands q e in
          e ∙ ap Some (disjoint q p f.0 has (f.1 ∙ sym of_map) (overlaps_shared q.span p.span key f.2 holds))
