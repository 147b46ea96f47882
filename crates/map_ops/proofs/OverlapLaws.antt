-- Two mappings decide whether some mapping shares a key with a span: the greatest at or below its low key, and the first at or above it.
use Rattle.std.proofs.Common.{◌≡◌, inl, inr, ◌⊎◌, Bool, true, false, not, ◌||◌, List, [], ◌∷◌, length, Option, Some, None, option_map, refl, sym, ap, ◌∙◌, subst}
use Rattle.std.specs.Prelude.{Result, Ok, Err, IfOk, slice_get}
use Rattle.std.specs.FinMap as map
use Rattle.std.specs.Ordering.{is_lt, is_gt, ordering_then, ordering_reverse}
use Rattle.std.specs.declared.cmp.Ordering.{Ordering}
use Rattle.std.specs.declared.cmp.Ordering.TheVariants.{Less, Equal, Greater}
use Rattle.std.proofs.lemmas.Cmp.{nat_list_cmp_total, tied_itself}
use Rattle.std.proofs.lemmas.Bool.{and_parts, and_from}
use Rattle.cell_world.specs.Texts.{Text}
use Rattle.cell_world.specs.ByteOrder.{byte_cmp}
use Rattle.cell_world.specs.Finding.{IsFloor, IsAtOrBelow, IsScan, IsFromOn}
use Rattle.cell_world.specs.Images.{Image, Global, global}
use Rattle.cell_world.specs.Keys.{same, at_most, contains, low_of, overlaps}
use Rattle.cell_world.specs.Lists.{IsOneOf}
use Rattle.cell_world.specs.Orders.{cell_cmp}
use Rattle.cell_world.specs.Outside.{Outside, Told, IfContents}
use Rattle.cell_world.specs.Sound.{Sound, HasPiece}
use Rattle.cell_world.specs.Stores.{Store, Stands, own_key, piece_key}
use Rattle.cell_world.specs.declared.cells.Cell.{Cell}
use Rattle.cell_world.specs.declared.cells.Cell.TheVariants as cell
use Rattle.cell_world.specs.declared.cells.CellKey.{CellKey}
use Rattle.cell_world.specs.declared.cells.CellKey.TheVariants as at
use Rattle.cell_world.specs.declared.operations.Piece.{Piece}
use Rattle.cell_world.specs.declared.spans.Span.{Span}
use Rattle.cell_world.proofs.ContentsLaws.{contents_weaker, contents_both}
use Rattle.cell_world.proofs.OrderLaws.{pairs_total, exact_texts, exact_text_pairs}
use Rattle.cell_world.proofs.SpanLaws.{same_is, same_self, not_true, not_false, at_most_trans, contains_between, low_at_most, overlaps_shared, shared_of_overlap, holds_low}
use Rattle.image_laws.proofs.Lists.{any_from, any_gives, or_true}
use Rattle.global_tables.proofs.CellOrder.{cell_total, rises_all}
use Rattle.global_tables.proofs.GroupCells.{value_there, value_stands}
use Rattle.global_tables.specs.Reads.{ReadsOnce}
use Rattle.global_tables.specs.declared.faults.StepFault.{StepFault}
use Rattle.map_ops.specs.Overlapping.{has_overlap, is_overlapping, IsFirstFrom}
use Rattle.plain_model.specs.Refusing.{overlaps_in}

-- ---- keys of mappings in cell order

last_gt : (r : Ordering) → is_gt (ordering_then r Equal) ≡ is_gt r
last_gt Less = refl
last_gt Equal = refl
last_gt Greater = refl

last_lt : (r : Ordering) → is_lt (ordering_then r Equal) ≡ is_lt r
last_lt Less = refl
last_lt Equal = refl
last_lt Greater = refl

tied : (a b : Text) → a ≡ b → byte_cmp a b ≡ Equal
tied a b e = subst (λ x. byte_cmp a x ≡ Equal) e (tied_itself nat_list_cmp_total a)

-- of one map the low keys decide
gt_of : (a b low key : Text) → a ≡ b → is_gt (cell_cmp (at.Piece a low) (at.Piece b key)) ≡ is_gt (byte_cmp low key)
gt_of a b low key e = ap (λ (r : Ordering). is_gt (ordering_then r (ordering_then (byte_cmp low key) Equal))) (tied a b e) ∙ last_gt (byte_cmp low key)

lt_of : (a b low key : Text) → a ≡ b → is_lt (cell_cmp (at.Piece a low) (at.Piece b key)) ≡ is_lt (byte_cmp low key)
lt_of a b low key e = ap (λ (r : Ordering). is_lt (ordering_then r (ordering_then (byte_cmp low key) Equal))) (tied a b e) ∙ last_lt (byte_cmp low key)

not_lt_reversed : (r s : Ordering) → s ≡ ordering_reverse r → is_lt r ≡ false → not (is_gt s) ≡ true
not_lt_reversed Less s e h = cc
not_lt_reversed Equal s e h = ap (λ (s : Ordering). not (is_gt s)) e
not_lt_reversed Greater s e h = ap (λ (s : Ordering). not (is_gt s)) e

-- what isn't below a key is at or above it
above : (a b : Text) → is_lt (byte_cmp a b) ≡ false → at_most b a ≡ true
above a b h = not_lt_reversed (byte_cmp a b) (byte_cmp b a) (nat_list_cmp_total.antisymm b a) h

not_below : (r : Ordering) → not (is_gt r) ≡ false → is_lt r ≡ false
not_below Less h = cc
not_below Equal h = refl
not_below Greater h = refl

-- of two keys that aren't below one another's maps, both maps are one
one_map : (a b : Text) (r s : Ordering) → is_lt (ordering_then (byte_cmp a b) r) ≡ false → is_lt (ordering_then (byte_cmp b a) s) ≡ false → a ≡ b
one_map a b r s h g = by (byte_cmp a b) refl
  where
    by : (o : Ordering) → byte_cmp a b ≡ o → a ≡ b
    by Less e = let wrong : true ≡ false = sym (ap (λ (o : Ordering). is_lt (ordering_then o r)) e) ∙ h in cc
    by Equal e = exact_texts a b e
    by Greater e = let wrong : true ≡ false = sym (ap (λ (o : Ordering). is_lt (ordering_then o s)) (nat_list_cmp_total.antisymm b a ∙ ap ordering_reverse e)) ∙ g in cc

-- ---- the first cell of a scan

not_before : (a b : CellKey) → cell_cmp a b ≡ Less → is_lt (cell_cmp b a) ≡ false
not_before a b h = ap is_lt (cell_total.antisymm b a ∙ ap ordering_reverse h)

-- A scan of one cell gives the first one.
pub first_of_scan : (s : Store) (key : CellKey) (cells : List Cell) → IsScan s key 1 cells → IsFirstFrom s key (slice_get cells 0)
first_of_scan s key [] scan = λ c stands from. by c (scan.all c stands from)
  where
    by : (c : Cell) → IsOneOf {A = Cell} [] c ⊎ ((length {A = Cell} [] ≡ 1) × ((d : Cell) → IsOneOf {A = Cell} [] d → cell_cmp (own_key d) (own_key c) ≡ Less)) → ⊥
    by c (inl h) = absurd h
    by c (inr h) = cc
first_of_scan s key (first ∷ cells) scan = ((scan.stand first (inl refl)).0, (scan.stand first (inl refl)).1, λ c stands from. by c (scan.all c stands from))
  where
    by : (c : Cell) → IsOneOf (first ∷ cells) c ⊎ ((length (first ∷ cells) ≡ 1) × ((d : Cell) → IsOneOf (first ∷ cells) d → cell_cmp (own_key d) (own_key c) ≡ Less)) → is_lt (cell_cmp (own_key c) (own_key first)) ≡ false
    by c (inl (inl is)) = subst (λ (d : Cell). is_lt (cell_cmp (own_key d) (own_key first)) ≡ false) is (ap is_lt (tied_itself cell_total (own_key first)))
    by c (inl (inr h)) = not_before (own_key first) (own_key c) (rises_all first cells scan.rises c h)
    by c (inr h) = not_before (own_key first) (own_key c) (h.1 first (inl refl))

-- so of what was made of the cells that were found
pub first_told : (told : Told) (key : CellKey) (found cells : List Cell) → cells ≡ found → (piece : Result (Option Piece) StepFault) → IfOk piece (λ p. slice_get cells 0 ≡ option_map cell.Piece p) → IfContents told (λ image. IsScan (global image) key 1 found)
    → IfOk piece (λ p. IfContents told (λ image. IsFirstFrom (global image) key (option_map cell.Piece p)))
first_told told key found cells are (Ok p) is scan = contents_weaker told (λ image. IsScan (global image) key 1 found) (λ image. IsFirstFrom (global image) key (option_map cell.Piece p))
    (λ image scan. subst (IsFirstFrom (global image) key) (ap (λ (cs : List Cell). slice_get cs 0) (sym are) ∙ is) (first_of_scan (global image) key found scan)) scan
first_told told key found cells are (Err e) is scan = tt

-- ---- the two decide

-- two tests that hold in the same cases
same_tests : (a b : Bool) → (a ≡ true → b ≡ true) → (b ≡ true → a ≡ true) → a ≡ b
same_tests true b f g = sym (f refl)
same_tests false true f g = g refl
same_tests false false f g = refl

either : (a b : Bool) → (a || b) ≡ true → (a ≡ true) ⊎ (b ≡ true)
either true b e = inl refl
either false b e = inr e

or_first : (a b : Bool) → a ≡ true → (a || b) ≡ true
or_first true b e = refl
or_first false b e = cc

module _ (image : Image) (sound : Sound image) (name : Text) (span : Span) where
  abbrev key : CellKey
  key = at.Piece name (low_of span)

  abbrev Has : Piece → Type 0
  Has q = HasPiece (global image).mappings q

  has : (p : Piece) → Stands (global image) (cell.Piece p) → Has p
  has p h = back (map.get (global image).mappings (piece_key p)) h
    where
      back : (o : Option Piece) → option_map cell.Piece o ≡ Some (cell.Piece p) → o ≡ Some p
      back None e = cc
      back (Some q) e = let is : q ≡ p = cc in ap Some is

  stands : (q : Piece) → Has q → Stands (global image) (cell.Piece q)
  stands q h = ap (option_map cell.Piece) h

  low_held : (p : Piece) → Has p → contains p.span (low_of p.span) ≡ true
  low_held p h = let s = sound.globals.spans p h in holds_low s.0 s.1 p.span s.3

  test_of : (q : Piece) → q.map ≡ name → overlaps q.span span ≡ true → overlaps_in name span q ≡ true
  test_of q e over = and_from (same name q.map) (overlaps q.span span) (subst (λ (n : Text). same name n ≡ true) (sym e) (same_self name)) over

  -- one that overlaps is one of those that stand
  found_by : (p : Option Piece) → ((q : Piece) → p ≡ Some q → Has q) → is_overlapping name span p ≡ true → has_overlap (global image).mappings name span ≡ true
  found_by None there e = let wrong : false ≡ true = e in cc
  found_by (Some q) there e = any_from (overlaps_in name span) (map.values (global image).mappings) q
      (value_there pairs_total piece_key (global image).mappings (sound.keyed Global).mappings exact_text_pairs (piece_key q) q (there q refl)) e

  module _ (below first : Option Piece) (floor : IsFloor (global image) key (option_map cell.Piece below)) (next : IsFirstFrom (global image) key (option_map cell.Piece first)) where
    found : (is_overlapping name span below || is_overlapping name span first) ≡ true → has_overlap (global image).mappings name span ≡ true
    found e = by (either (is_overlapping name span below) (is_overlapping name span first) e)
      where
        by : (is_overlapping name span below ≡ true) ⊎ (is_overlapping name span first ≡ true) → has_overlap (global image).mappings name span ≡ true
        by (inl h) = found_by below (λ q is. has q (subst (λ (o : Option Piece). IsFloor (global image) key (option_map cell.Piece o)) is floor).0) h
        by (inr h) = found_by first (λ q is. has q (subst (λ (o : Option Piece). IsFirstFrom (global image) key (option_map cell.Piece o)) is next).0) h

    -- of one that overlaps
    module _ (q : Piece) (there : Has q) (of_map : q.map ≡ name) (over : overlaps q.span span ≡ true) where
      abbrev shared : Text
      shared = (shared_of_overlap q.span span over).0

      -- where it begins at or below the low key it is the greatest that does
      by_floor : at_most (low_of q.span) (low_of span) ≡ true → is_overlapping name span below ≡ true
      by_floor lower = by below floor
        where
          q_below : IsAtOrBelow key (cell.Piece q)
          q_below = record { kind = refl; map = ap Some of_map; order = gt_of q.map name (low_of q.span) (low_of span) of_map ∙ not_true (is_gt (byte_cmp (low_of q.span) (low_of span))) lower }

          by : (o : Option Piece) → IsFloor (global image) key (option_map cell.Piece o) → is_overlapping name span o ≡ true
          by None f = absurd (f (cell.Piece q) (stands q there) q_below)
          by (Some p) f =
              let p_has = has p f.0 in
              let maps : Some p.map ≡ Some name = f.1.map in
              let p_map : p.map ≡ name = cc in
              let from : at_most (low_of q.span) (low_of p.span) ≡ true = not_false (is_gt (byte_cmp (low_of q.span) (low_of p.span))) (sym (gt_of q.map p.map (low_of q.span) (low_of p.span) (of_map ∙ sym p_map)) ∙ f.2 (cell.Piece q) (stands q there) q_below) in
              let upto : at_most (low_of p.span) (low_of span) ≡ true = not_false (is_gt (byte_cmp (low_of p.span) (low_of span))) (sym (gt_of p.map name (low_of p.span) (low_of span) p_map) ∙ f.1.order) in
              let within : at_most (low_of p.span) shared ≡ true = at_most_trans (low_of p.span) (low_of span) shared upto (low_at_most span shared (shared_of_overlap q.span span over).2) in
              let held : contains q.span (low_of p.span) ≡ true = contains_between q.span shared (low_of p.span) (shared_of_overlap q.span span over).1 from within in
              let one : p ≡ q = sound.globals.disjoint p q p_has there (p_map ∙ sym of_map) (overlaps_shared p.span q.span (low_of p.span) (low_held p p_has) held) in
              subst (λ (x : Piece). overlaps_in name span x ≡ true) (sym one) (test_of q of_map over)

      -- where it begins above the low key the first from there on begins in the span
      by_next : at_most (low_of q.span) (low_of span) ≡ false → is_overlapping name span first ≡ true
      by_next higher = by first next
        where
          q_from : IsFromOn key (cell.Piece q)
          q_from = record { kind = refl; order = lt_of q.map name (low_of q.span) (low_of span) of_map ∙ not_below (byte_cmp (low_of q.span) (low_of span)) higher }

          by : (o : Option Piece) → IsFirstFrom (global image) key (option_map cell.Piece o) → is_overlapping name span o ≡ true
          by None f = absurd (f (cell.Piece q) (stands q there) q_from)
          by (Some d) f =
              let d_has = has d f.0 in
              let least : is_lt (cell_cmp (at.Piece q.map (low_of q.span)) (at.Piece d.map (low_of d.span))) ≡ false = f.2 (cell.Piece q) (stands q there) q_from in
              let of_name : is_lt (cell_cmp (at.Piece name (low_of q.span)) (at.Piece d.map (low_of d.span))) ≡ false = subst (λ (n : Text). is_lt (cell_cmp (at.Piece n (low_of q.span)) (at.Piece d.map (low_of d.span))) ≡ false) of_map least in
              let d_map : d.map ≡ name = one_map d.map name (ordering_then (byte_cmp (low_of d.span) (low_of span)) Equal) (ordering_then (byte_cmp (low_of q.span) (low_of d.span)) Equal) f.1.order of_name in
              let from : at_most (low_of span) (low_of d.span) ≡ true = above (low_of d.span) (low_of span) (sym (lt_of d.map name (low_of d.span) (low_of span) d_map) ∙ f.1.order) in
              let upto : at_most (low_of d.span) (low_of q.span) ≡ true = above (low_of q.span) (low_of d.span) (sym (lt_of q.map d.map (low_of q.span) (low_of d.span) (of_map ∙ sym d_map)) ∙ least) in
              let within : at_most (low_of d.span) shared ≡ true = at_most_trans (low_of d.span) (low_of q.span) shared upto (low_at_most q.span shared (shared_of_overlap q.span span over).1) in
              let held : contains span (low_of d.span) ≡ true = contains_between span shared (low_of d.span) (shared_of_overlap q.span span over).2 from within in
              test_of d d_map (overlaps_shared d.span span (low_of d.span) (low_held d d_has) held)

      by_either : (is_overlapping name span below || is_overlapping name span first) ≡ true
      by_either = by (at_most (low_of q.span) (low_of span)) refl
        where
          by : (b : Bool) → at_most (low_of q.span) (low_of span) ≡ b → (is_overlapping name span below || is_overlapping name span first) ≡ true
          by true e = or_first (is_overlapping name span below) (is_overlapping name span first) (by_floor e)
          by false e = or_true (is_overlapping name span below) (is_overlapping name span first) (by_next e)

    -- Some mapping of the map overlaps the span exactly where one of the two does.
    pub two_decide : (is_overlapping name span below || is_overlapping name span first) ≡ has_overlap (global image).mappings name span
    two_decide = same_tests (is_overlapping name span below || is_overlapping name span first) (has_overlap (global image).mappings name span) found decided
      where
        decided : has_overlap (global image).mappings name span ≡ true → (is_overlapping name span below || is_overlapping name span first) ≡ true
        decided e =
            let g = any_gives (overlaps_in name span) (map.values (global image).mappings) e in
            let both = and_parts (same name g.0.map) (overlaps g.0.span span) g.2 in
            by_either g.0 (value_stands pairs_total piece_key (global image).mappings (sound.keyed Global).mappings g.0 g.1) (sym (same_is name g.0.map both.0)) both.1

-- ---- over what is told: two reads, one after the other

told_same : (old new : Outside) → ReadsOnce old new → new.told ≡ old.told
told_same old new once = ap (λ (o : Outside). o.told) once.same

module _ (old mid : Outside) (once : ReadsOnce old mid) (name : Text) (span : Span) (low : Text) (low_is : low ≡ low_of span) (below first : Option Piece)
    (floor : IfContents old.told (λ image. IsFloor (global image) (at.Piece name low) (option_map cell.Piece below)))
    (next : IfContents mid.told (λ image. IsFirstFrom (global image) (at.Piece name low) (option_map cell.Piece first))) where
  abbrev Below : Text → Image → Type 0
  Below l image = IsFloor (global image) (at.Piece name l) (option_map cell.Piece below)

  abbrev First : Text → Image → Type 0
  First l image = IsFirstFrom (global image) (at.Piece name l) (option_map cell.Piece first)

  overlap_told : (found : Bool) → found ≡ (is_overlapping name span below || is_overlapping name span first) → IfContents old.told (λ image. Sound image → found ≡ has_overlap (global image).mappings name span)
  overlap_told found is = contents_weaker old.told (λ image. Below low image × First low image) (λ image. Sound image → found ≡ has_overlap (global image).mappings name span)
      (λ image both sound. is ∙ two_decide image sound name span below first (subst (λ (l : Text). Below l image) low_is both.0) (subst (λ (l : Text). First l image) low_is both.1))
      (contents_both old.told (Below low) (First low) floor (subst (λ (t : Told). IfContents t (First low)) (told_same old mid once) next))

  -- where the one below overlaps, that is found
  pub overlap_below : (found : Bool) → found ≡ is_overlapping name span below → found ≡ true → IfContents old.told (λ image. Sound image → found ≡ has_overlap (global image).mappings name span)
  overlap_below found is overlaps = overlap_told found (overlaps ∙ sym (or_first (is_overlapping name span below) (is_overlapping name span first) (sym is ∙ overlaps)))

  -- and else what is said of the first one
  pub overlap_first : (none : Bool) → none ≡ is_overlapping name span below → none ≡ false → (found : Bool) → found ≡ is_overlapping name span first → IfContents old.told (λ image. Sound image → found ≡ has_overlap (global image).mappings name span)
  overlap_first none is apart found found_is = overlap_told found (found_is ∙ sym (ap (λ (b : Bool). b || is_overlapping name span first) (sym is ∙ apart)))
