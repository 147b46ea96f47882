-- Mappings and operations are read exactly.
use Rattle.std.proofs.Common.{◌≡◌, ℕ, zero, suc, ◌+◌, ◌^◌, ◌<◌, ◌≤◌, true, false, ◌&&◌, List, [], ◌∷◌, ◌++◌, Option, Some, None, true≢false, refl, sym, ap, ◌∙◌, arith}
use Rattle.std.specs.Prelude.{IsTrue}
use Rattle.std.specs.List.{list_all}
use Rattle.std.specs.Ordering.{is_eq}
use Rattle.std.specs.declared.cmp.Ordering.{Ordering}
use Rattle.std.specs.declared.cmp.Ordering.TheVariants.{Less, Equal, Greater}
use Rattle.std.proofs.lemmas.Bool.{and_parts, and_from}
use Rattle.std.proofs.lemmas.List.{append-nil}
use Rattle.std.proofs.lemmas.List.Folds.{list_all-append}
use Rattle.std.proofs.lemmas.Cmp.{nat_list_cmp_total, tied_itself}
use Rattle.std.proofs.lemmas.Map.Lookups.{exact_bytes}
use Rattle.cell_world.specs.Texts.{Text, is_name}
use Rattle.cell_world.specs.ByteOrder.{byte_cmp}
use Rattle.cell_world.specs.Keys.{same}
use Rattle.cell_world.specs.Spelled.{listed, has_first, IsSpan, IsPiece, ArePieces, IsExtra, IsOp}
use Rattle.cell_world.specs.declared.operations.Piece.{Piece}
use Rattle.cell_world.specs.declared.operations.Pieces.{Pieces}
use Rattle.cell_world.specs.declared.operations.Op.{Op}
use Rattle.record_form.specs.Reading.{is_from, both, pair}
use Rattle.record_form.specs.Layout.{text_bytes, span_bytes, piece_bytes, pieces_bytes, extra_bytes, op_bytes}
use Rattle.record_form.specs.Fields.{name_at, span_at}
use Rattle.record_form.specs.Kinds.{piece_of, piece_at, no_piece, one_piece, two_pieces, pieces_body_at, pieces_at, exchange_at, op_at}
use Rattle.record_form.specs.declared.pieces.Exchange.{Exchange}
use Rattle.record_form.proofs.Readers.{IsReader, Tagged, tag, body, both_reader, pair_reader, made_reader, nothing_reader, tagged_reader}
use Rattle.record_form.proofs.Widths.{number_8_reader}
use Rattle.record_form.proofs.NameTexts.{name_reader}
use Rattle.record_form.proofs.LocationTexts.{location_reader}
use Rattle.record_form.proofs.SpanTexts.{past, span_reader}
use Rattle.record_form.proofs.ChoiceTexts.{status_reader, token_reader}
use Rattle.record_form.proofs.JobTexts.{extra_reader}

same_is : (a b : Text) → same a b ≡ true → a ≡ b
same_is a b h = by (byte_cmp a b) refl h
  where
    by : (r : Ordering) → byte_cmp a b ≡ r → is_eq r ≡ true → a ≡ b
    by Less e h = cc
    by Equal e h = exact_bytes a b e
    by Greater e h = cc

is_same : (a b : Text) → a ≡ b → same a b ≡ true
is_same a b e = ap (same a) (sym e) ∙ ap is_eq (tied_itself nat_list_cmp_total a)

-- ---- a mapping of a map

abbrev pub IsPieceOf : Text → Piece → Type 0
IsPieceOf map p = IsPiece p × (map ≡ p.map)

pub piece_reader : (map : Text) → IsTrue (is_name map) → IsReader (piece_at map) piece_bytes (IsPieceOf map)
unfolding piece_at
piece_reader map named = made_reader {f = piece_of map} (pair_reader span_reader (pair_reader status_reader (pair_reader location_reader token_reader))) (record {
  same = λ p h. refl;
  fits = λ p h. (record { map = named; span = h.0; location = h.1.1.0; token = h.1.1.1 }, refl);
  from = λ b h. ((b.span, (b.status, (b.location, b.token))), (h.0.span, (tt, (h.0.location, h.0.token))), λ i. record { map = h.1 i; span = b.span; location = b.location; status = b.status; token = b.token });
})

-- ---- at most two of them

abbrev pub ArePiecesOf : Text → Pieces → Type 0
ArePiecesOf map ps = ArePieces ps × IsTrue (has_first ps) × IsTrue (list_all (λ (p : Piece). same map p.map) (listed ps))

-- the first mapping is of the map, and so is the second
first_of : (map : Text) (p : Piece) (ps : List Piece) → list_all (λ (q : Piece). same map q.map) (p ∷ ps) ≡ true → (map ≡ p.map) × (list_all (λ (q : Piece). same map q.map) ps ≡ true)
first_of map p ps h = let both = and_parts (same map p.map) (list_all (λ (q : Piece). same map q.map) ps) h in (same_is map p.map both.0, both.1)

of_map : (map : Text) (p : Piece) (ps : List Piece) → map ≡ p.map → list_all (λ (q : Piece). same map q.map) ps ≡ true → list_all (λ (q : Piece). same map q.map) (p ∷ ps) ≡ true
of_map map p ps e h = and_from (same map p.map) (list_all (λ (q : Piece). same map q.map) ps) (is_same map p.map e) h

at_none : (map : Text) (one two : Option Piece) → Tagged pieces_bytes (ArePiecesOf map) 0 (record { one = one; two = two }) → (u : Unit {0}) × Unit {0} × (no_piece ≡ record { one = one; two = two })
at_none map None None h = (tt, tt, refl)
at_none map None (Some q) h = let e = h.1 in absurd (omega arith)
at_none map (Some p) None h = let e = h.1 in absurd (omega arith)
at_none map (Some p) (Some q) h = let e = h.1 in absurd (omega arith)

at_one : (map : Text) (one two : Option Piece) → Tagged pieces_bytes (ArePiecesOf map) 1 (record { one = one; two = two }) → (p : Piece) × IsPieceOf map p × (one_piece p ≡ record { one = one; two = two })
at_one map None None h = let e = h.1 in absurd (omega arith)
at_one map None (Some q) h = absurd (true≢false (sym h.0.1))
at_one map (Some p) None h = (p, (h.0.0.0, (first_of map p [] h.0.2).0), refl)
at_one map (Some p) (Some q) h = let e = h.1 in absurd (omega arith)

at_two : (map : Text) (one two : Option Piece) → Tagged pieces_bytes (ArePiecesOf map) 2 (record { one = one; two = two }) → (p : Piece × Piece) × (IsPieceOf map p.0 × IsPieceOf map p.1) × (two_pieces p ≡ record { one = one; two = two })
at_two map None None h = let e = h.1 in absurd (omega arith)
at_two map None (Some q) h = let e = h.1 in absurd (omega arith)
at_two map (Some p) None h = let e = h.1 in absurd (omega arith)
at_two map (Some p) (Some q) h =
    let first = first_of map p (q ∷ []) h.0.2 in
    let second = first_of map q [] first.1 in
    ((p, q), ((h.0.0.0, first.0), (h.0.0.1, second.0)), refl)

begun : (map : Text) (one two : Option Piece) → ArePiecesOf map (record { one = one; two = two })
    → (is_from 0 2 (tag pieces_bytes (record { one = one; two = two })) ≡ true) × (pieces_bytes (record { one = one; two = two }) ≡ tag pieces_bytes (record { one = one; two = two }) ∷ body pieces_bytes (record { one = one; two = two }))
begun map None None h = (refl, refl)
begun map None (Some q) h = (refl, refl)
begun map (Some p) None h = (refl, refl)
begun map (Some p) (Some q) h = (refl, refl)

pieces_cases : (map : Text) → IsTrue (is_name map) → (t : ℕ) → is_from 0 2 t ≡ true → IsReader (pieces_body_at map t) (body pieces_bytes) (Tagged pieces_bytes (ArePiecesOf map) t)
pieces_cases map named zero h = made_reader nothing_reader (record { same = λ u f. refl; fits = λ u f. (((tt, tt), refl, refl), refl); from = λ ps h. at_none map ps.one ps.two h })
pieces_cases map named (suc zero) h = made_reader (piece_reader map named) (record {
  same = λ p f. append-nil (piece_bytes p);
  fits = λ p f. (((f.0, tt), refl, of_map map p [] f.1 refl), refl);
  from = λ ps h. at_one map ps.one ps.two h;
})
pieces_cases map named (suc (suc zero)) h = made_reader (pair_reader (piece_reader map named) (piece_reader map named)) (record {
  same = λ p f. ap (λ (l : List ℕ). piece_bytes p.0 ++ l) (append-nil (piece_bytes p.1));
  fits = λ p f. (((f.0.0, f.1.0), refl, of_map map p.0 (p.1 ∷ []) f.0.1 (of_map map p.1 [] f.1.1 refl)), refl);
  from = λ ps h. at_two map ps.one ps.two h;
})
pieces_cases map named (suc (suc (suc t))) h = past 2 (suc (suc (suc t))) h (omega arith)

pub pieces_reader : (map : Text) → IsTrue (is_name map) → IsReader (pieces_at map) pieces_bytes (ArePiecesOf map)
unfolding pieces_at
pieces_reader map named = tagged_reader (is_from 0 2) (pieces_body_at map) pieces_bytes (ArePiecesOf map) 0 refl (λ ps h. begun map ps.one ps.two h) (pieces_cases map named)

-- ---- operations

abbrev exchange_bytes : Exchange → List ℕ
exchange_bytes x = pieces_bytes x.olds ++ (pieces_bytes x.news ++ extra_bytes x.extra)

record IsExchangeOf (map : Text) (x : Exchange) : Type 0 where
  olds : ArePiecesOf map x.olds
  news : ArePiecesOf map x.news
  extra : IsExtra x.extra

exchange_reader : (map : Text) → IsTrue (is_name map) → IsReader (exchange_at map) exchange_bytes (IsExchangeOf map)
unfolding exchange_at
exchange_reader map named = made_reader (pair_reader (pieces_reader map named) (pair_reader (pieces_reader map named) extra_reader)) (record {
  same = λ p h. refl;
  fits = λ p h. record { olds = h.0; news = h.1.0; extra = h.1.1 };
  from = λ x h. ((x.olds, (x.news, x.extra)), (h.olds, (h.news, h.extra)), refl);
})

-- an operation that has a spelling
abbrev pub IsSpelledOp : Op → Type 0
IsSpelledOp op = IsOp op × IsTrue ((has_first op.olds && has_first op.news) && list_all (λ (p : Piece). same op.map p.map) (listed op.olds ++ listed op.news))

joined : (map : Text) (ps qs : List Piece) → list_all (λ (p : Piece). same map p.map) ps ≡ true → list_all (λ (p : Piece). same map p.map) qs ≡ true → list_all (λ (p : Piece). same map p.map) (ps ++ qs) ≡ true
joined map ps qs h g = list_all-append (λ (p : Piece). same map p.map) ps qs ∙ and_from _ _ h g

parted : (map : Text) (ps qs : List Piece) → list_all (λ (p : Piece). same map p.map) (ps ++ qs) ≡ true → (list_all (λ (p : Piece). same map p.map) ps ≡ true) × (list_all (λ (p : Piece). same map p.map) qs ≡ true)
parted map ps qs h = and_parts _ _ (sym (list_all-append (λ (p : Piece). same map p.map) ps qs) ∙ h)

op_from : (op : Op) → IsSpelledOp op → IsExchangeOf op.map (record { olds = op.olds; news = op.news; extra = op.extra })
op_from op h =
    let tests = and_parts (has_first op.olds && has_first op.news) _ h.1 in
    let firsts = and_parts (has_first op.olds) (has_first op.news) tests.0 in
    let maps = parted op.map (listed op.olds) (listed op.news) tests.1 in
    record { olds = (h.0.olds, firsts.0, maps.0); news = (h.0.news, firsts.1, maps.1); extra = h.0.extra }

op_fits : (map : Text) (x : Exchange) → IsExchangeOf map x → IsTrue ((has_first x.olds && has_first x.news) && list_all (λ (p : Piece). same map p.map) (listed x.olds ++ listed x.news))
op_fits map x h = and_from (has_first x.olds && has_first x.news) _ (and_from (has_first x.olds) (has_first x.news) h.olds.1 h.news.1) (joined map (listed x.olds) (listed x.news) h.olds.2 h.news.2)

pub op_reader : IsReader op_at op_bytes IsSpelledOp
unfolding op_at
op_reader = made_reader (pair_reader number_8_reader (both_reader name_at text_bytes (λ map. IsTrue (is_name map)) (λ map. pair span_at (exchange_at map)) (λ map p. span_bytes p.0 ++ exchange_bytes p.1) (λ map p. IsSpan p.0 × IsExchangeOf map p.1) name_reader (λ map h. pair_reader span_reader (exchange_reader map h)))) (record {
  same = λ p h. refl;
  fits = λ p h. (record { number = h.0; map = h.1.0; hull = h.1.1.0; olds = h.1.1.1.olds.0; news = h.1.1.1.news.0; extra = h.1.1.1.extra }, op_fits p.1.0 p.1.1.1 h.1.1.1);
  from = λ op h. ((op.number, (op.map, (op.hull, record { olds = op.olds; news = op.news; extra = op.extra }))), (h.0.number, (h.0.map, (h.0.hull, op_from op h))), refl);
})
