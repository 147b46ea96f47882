-- The mapping that begins at the end of another one, as a read of that key finds it.
use Rattle.std.proofs.Common.{◌≡◌, ◌&&◌, Bool, true, false, cond, Option, Some, None, is_some, option_map, refl, sym, ap, ◌∙◌, subst}
use Rattle.std.specs.Prelude.{IfSome}
use Rattle.std.specs.FinMap as map
use Rattle.std.proofs.lemmas.Bool.{and_parts, and_from, eqb-true}
use Rattle.cell_world.specs.Texts.{Text}
use Rattle.cell_world.specs.Images.{Image, Global, global}
use Rattle.cell_world.specs.Keys.{same, low_of, end_of}
use Rattle.cell_world.specs.Meaning.{meaning}
use Rattle.cell_world.specs.Orders.{pair_cmp}
use Rattle.cell_world.specs.Outside.{Told, IfContents}
use Rattle.cell_world.specs.Sound.{Sound, HasPiece}
use Rattle.cell_world.specs.Stores.{cell_at, piece_key}
use Rattle.cell_world.specs.declared.cells.Cell.TheVariants as cell
use Rattle.cell_world.specs.declared.cells.CellKey.TheVariants as at
use Rattle.cell_world.specs.declared.cells.Status.{Status}
use Rattle.cell_world.specs.declared.cells.Status.TheVariants.{Online, Offline}
use Rattle.cell_world.specs.declared.cells.Token.{Token}
use Rattle.cell_world.specs.declared.operations.Piece.{Piece}
use Rattle.cell_world.specs.declared.spans.High.{High}
use Rattle.cell_world.specs.declared.spans.High.TheVariants.{At, Max}
use Rattle.cell_world.specs.declared.spans.Span.{Span}
use Rattle.cell_world.specs.declared.spans.Span.TheVariants.{Range, Point}
use Rattle.cell_world.proofs.ContentsLaws.{contents_all, contents_weaker}
use Rattle.cell_world.proofs.OrderLaws.{pairs_total}
use Rattle.cell_world.proofs.SpanLaws.{same_is, same_self}
use Rattle.image_laws.proofs.ValueLaws.{value_found, value_there}
use Rattle.plain_model.specs.Refusing.{next_mapping, begins_at, same_status, same_token}
use Rattle.mapping_plans.specs.Merging.{end_key, if_agrees}

-- equal statuses and tokens are one
pub one_status : (a b : Status) → same_status a b ≡ true → a ≡ b
one_status Online Online e = refl
one_status Offline Offline e = refl
one_status Online Offline e = cc
one_status Offline Online e = cc

pub one_token : (a b : Option Token) → same_token a b ≡ true → a ≡ b
one_token None None e = refl
one_token (Some a) (Some b) e = let is : a.0 ≡ b.0 = eqb-true a.0 b.0 e in λ i. Some (record { 0 = is i })
one_token (Some a) None e = cc
one_token None (Some b) e = cc

-- where a range ends at a key that is its end
ends : (s : Span) (end : Text) → end_key s ≡ Some end → end_of s ≡ Some (At end)
ends (Range low (At high)) end e = let is : high ≡ end = cc in ap (λ (t : Text). Some (At t)) is
ends (Range low Max) end e = cc
ends (Point at) end e = cc

never_begins : (s : Span) → end_key s ≡ None → (q : Piece) → begins_at (end_of s) q ≡ false
never_begins (Range low (At high)) e q = cc
never_begins (Range low Max) e q = refl
never_begins (Point at) e q = refl

-- what begins at the end of a span begins at a key
begun_at : (s : Span) (q : Piece) → begins_at (end_of s) q ≡ true → end_of s ≡ Some (At (low_of q.span))
begun_at (Range low (At high)) q e = ap (λ (t : Text). Some (At t)) (same_is high (low_of q.span) e)
begun_at (Range low Max) q e = cc
begun_at (Point at) q e = cc

-- The mapping is the next one of another one.
pub record IsNext (image : Image) (p next : Piece) : Type 0 where
  pub stands : HasPiece (global image).mappings next
  pub of_map : next.map ≡ p.map
  pub begins : end_of p.span ≡ Some (At (low_of next.span))
  pub location : next.location ≡ p.location
  pub status : next.status ≡ p.status
  pub token : next.token ≡ p.token

module _ (image : Image) (sound : Sound image) (p : Piece) where
  abbrev agrees : Piece → Bool
  agrees q = same p.location q.location && (same_status p.status q.status && same_token p.token q.token)

  abbrev test : Piece → Bool
  test q = same p.map q.map && (begins_at (end_of p.span) q && agrees q)

  placed : (k : Text × Text) (q : Piece) → map.get (global image).mappings k ≡ Some q → piece_key q ≡ k
  placed k q e = subst (λ (o : Option Piece). IfSome o (λ q. piece_key q ≡ k)) e ((sound.keyed Global).mappings k)

  pub is_next : (next : Piece) → next_mapping (meaning image) p ≡ Some next → IsNext image p next
  is_next next e =
      let f = value_found pair_cmp pairs_total test (global image).mappings next e in
      let one = and_parts (same p.map next.map) (begins_at (end_of p.span) next && agrees next) f.2 in
      let two = and_parts (begins_at (end_of p.span) next) (agrees next) one.1 in
      let three = and_parts (same p.location next.location) (same_status p.status next.status && same_token p.token next.token) two.1 in
      let four = and_parts (same_status p.status next.status) (same_token p.token next.token) three.1 in
      record {
        stands = subst (λ k. map.get (global image).mappings k ≡ Some next) (sym (placed f.0 next f.1)) f.1;
        of_map = sym (same_is p.map next.map one.0);
        begins = begun_at p.span next two.0;
        location = sym (same_is p.location next.location three.0);
        status = sym (one_status p.status next.status four.0);
        token = sym (one_token p.token next.token four.1);
      }

  -- a mapping without an end has none
  pub no_next : end_key p.span ≡ None → None ≡ next_mapping (meaning image) p
  no_next none = by (next_mapping (meaning image) p) refl
    where
      by : (o : Option Piece) → next_mapping (meaning image) p ≡ o → None ≡ o
      by None e = refl
      by (Some q) e =
          let f = value_found pair_cmp pairs_total test (global image).mappings q e in
          let two = and_parts (begins_at (end_of p.span) q) (agrees q) (and_parts (same p.map q.map) (begins_at (end_of p.span) q && agrees q) f.2).1 in
          let wrong : true ≡ false = sym two.0 ∙ never_begins p.span none q in cc

  module _ (end : Text) (is : end_key p.span ≡ Some end) where
    at_end : (q : Piece) → low_of q.span ≡ end → begins_at (end_of p.span) q ≡ true
    at_end q low = ap (λ (e : Option High). begins_at e q) (ends p.span end is) ∙ ap (same end) low ∙ same_self end

    -- the mapping that stands at the end, if it agrees, is the next one
    decides : if_agrees p (map.get (global image).mappings (p.map, end)) ≡ next_mapping (meaning image) p
    decides = by (next_mapping (meaning image) p) refl
      where
        none : (o : Option Piece) → map.get (global image).mappings (p.map, end) ≡ o → next_mapping (meaning image) p ≡ None → if_agrees p o ≡ None
        none None there e = refl
        none (Some q) there e = choose (same p.map q.map && agrees q) refl
          where
            choose : (b : Bool) → (same p.map q.map && agrees q) ≡ b → cond (same p.map q.map && agrees q) (Some q) None ≡ None
            choose false t = ap (λ b. cond b (Some q) None) t
            choose true t =
                let both = and_parts (same p.map q.map) (agrees q) t in
                let low : low_of q.span ≡ end = ap (λ (k : Text × Text). k.1) (placed (p.map, end) q there) in
                let passes : test q ≡ true = and_from (same p.map q.map) (begins_at (end_of p.span) q && agrees q) both.0 (and_from (begins_at (end_of p.span) q) (agrees q) (at_end q low) both.1) in
                let found = value_there pair_cmp pairs_total test (global image).mappings (p.map, end) q there passes in
                let wrong : false ≡ true = sym (ap is_some e) ∙ found in cc

        by : (o : Option Piece) → next_mapping (meaning image) p ≡ o → if_agrees p (map.get (global image).mappings (p.map, end)) ≡ o
        by None e = none (map.get (global image).mappings (p.map, end)) refl e
        by (Some q) e =
            let f = value_found pair_cmp pairs_total test (global image).mappings q e in
            let one = and_parts (same p.map q.map) (begins_at (end_of p.span) q && agrees q) f.2 in
            let two = and_parts (begins_at (end_of p.span) q) (agrees q) one.1 in
            let low : low_of q.span ≡ end = (let ends_so : Some (At (low_of q.span)) ≡ Some (At end) = sym (begun_at p.span q two.0) ∙ ends p.span end is in cc) in
            let key : piece_key q ≡ (p.map, end) = λ i. (sym (same_is p.map q.map one.0) i, low i) in
            let stands : map.get (global image).mappings (p.map, end) ≡ Some q = ap (map.get (global image).mappings) (sym key ∙ placed f.0 q f.1) ∙ f.1 in
            ap (if_agrees p) stands ∙ ap (λ b. cond b (Some q) None) (and_from (same p.map q.map) (agrees q) one.0 two.1)

    pub read_next : (found : Option Piece) → option_map cell.Piece found ≡ cell_at (global image) (at.Piece p.map end) → if_agrees p found ≡ next_mapping (meaning image) p
    read_next found e = ap (if_agrees p) (same_option found (map.get (global image).mappings (p.map, end)) e) ∙ decides
      where
        same_option : (a b : Option Piece) → option_map cell.Piece a ≡ option_map cell.Piece b → a ≡ b
        same_option None None e = refl
        same_option None (Some b) e = cc
        same_option (Some a) None e = cc
        same_option (Some a) (Some b) e = let is : a ≡ b = cc in ap Some is

-- ---- over what is told

pub none_told : (told : Told) (p : Piece) (end : Option Text) → end ≡ end_key p.span → end ≡ None → IfContents told (λ image. Sound image → None ≡ next_mapping (meaning image) p)
none_told told p end read none = contents_all told (λ image. Sound image → None ≡ next_mapping (meaning image) p) (λ image sound. no_next image sound p (sym read ∙ none))

pub next_told : (told : Told) (p : Piece) (end : Option Text) → end ≡ end_key p.span → (key : Text) → end ≡ Some key → (found : Option Piece) → IfContents told (λ image. option_map cell.Piece found ≡ cell_at (global image) (at.Piece p.map key))
    → (next : Option Piece) → next ≡ if_agrees p found → IfContents told (λ image. Sound image → next ≡ next_mapping (meaning image) p)
next_told told p end read key some found there next is = contents_weaker told (λ image. option_map cell.Piece found ≡ cell_at (global image) (at.Piece p.map key)) (λ image. Sound image → next ≡ next_mapping (meaning image) p)
    (λ image e sound. is ∙ read_next image sound p key (sym read ∙ some) found e) there

-- whatever is told, it is of the map
pub next_of_map : (p : Piece) (found next : Option Piece) → next ≡ if_agrees p found → IfSome next (λ q. same p.map q.map ≡ true)
next_of_map p found next is = subst (λ (o : Option Piece). IfSome o (λ q. same p.map q.map ≡ true)) (sym is) (by found)
  where
    by : (o : Option Piece) → IfSome (if_agrees p o) (λ q. same p.map q.map ≡ true)
    by None = tt
    by (Some q) = choose (same p.map q.map) refl (same p.location q.location && (same_status p.status q.status && same_token p.token q.token))
      where
        choose : (a : Bool) → same p.map q.map ≡ a → (b : Bool) → IfSome (cond (a && b) (Some q) None) (λ q. same p.map q.map ≡ true)
        choose true e true = e
        choose true e false = tt
        choose false e b = tt
