-- How long spellings are at most.
use Rattle.std.proofs.Common.{◌≡◌, ℕ, ◌+◌, ◌≤◌, List, [], ◌∷◌, ◌++◌, length, take, Option, Some, None, ap, ◌∙◌, arith}
use Rattle.std.specs.Prelude.{IsTrue, IfSome}
use Rattle.std.specs.Int.{w16, w32, w64, to_be_bytes}
use Rattle.std.proofs.lemmas.Bool.{and_parts, leb-true}
use Rattle.std.proofs.lemmas.List.{length-append, length-take-le}
use Rattle.text_scan.specs.Places.{Leaves}
use Rattle.cell_world.specs.Texts.{is_name, is_location, is_key_form, is_row_value, are_bytes}
use Rattle.cell_world.specs.Spelled.{IsCell, IsEnd, IsSpan, IsPiece, IsPhase, IsJob, IsExtra, IsOp}
use Rattle.cell_world.specs.declared.spans.High.{High}
use Rattle.cell_world.specs.declared.spans.High.TheVariants.{At, Max}
use Rattle.cell_world.specs.declared.spans.Span.{Span}
use Rattle.cell_world.specs.declared.spans.Span.TheVariants.{Range, Point}
use Rattle.cell_world.specs.declared.cells.Token.{Token}
use Rattle.cell_world.specs.declared.cells.Mark.{Mark}
use Rattle.cell_world.specs.declared.cells.Mark.TheVariants as mark
use Rattle.cell_world.specs.declared.operations.Piece.{Piece}
use Rattle.cell_world.specs.declared.operations.Phase.{Phase}
use Rattle.cell_world.specs.declared.operations.Phase.TheVariants as phase
use Rattle.cell_world.specs.declared.operations.JobRow.{JobRow}
use Rattle.cell_world.specs.declared.operations.Extra.{Extra}
use Rattle.cell_world.specs.declared.operations.Extra.TheVariants as extra
use Rattle.cell_world.specs.declared.operations.Op.{Op}
use Rattle.cell_world.specs.declared.cells.Cell.{Cell}
use Rattle.cell_world.specs.declared.cells.Cell.TheVariants as cell
use Rattle.record_form.specs.Layout.{text_bytes, end_bytes, span_bytes, token_bytes, mark_bytes, piece_bytes, pieces_bytes, phase_bytes, job_bytes, extra_bytes, op_bytes, fields, spelling, IsSpelling}
use Rattle.record_form.proofs.NameTexts.{bounds, name_walks}
use Rattle.record_form.proofs.LocationTexts.{location_walks}

-- at most so many bytes
pub record Short (most : ℕ) (bytes : List ℕ) : Type 0 where
  pub fits : length bytes ≤ most

short : {most : ℕ} {bytes : List ℕ} → length bytes ≤ most → Short most bytes
short h = record { fits = h }

-- one part and another
add : {m n : ℕ} {xs ys : List ℕ} → Short m xs → Short n ys → Short (m + n) (xs ++ ys)
add {m} {n} {xs} {ys} h g = record { fits = let a = h.fits in let b = g.fits in omega (arith, length-append xs ys, a, b) }

-- a byte before
after : {m : ℕ} {xs : List ℕ} (b : ℕ) → Short m xs → Short (1 + m) (b ∷ xs)
after b h = record { fits = let a = h.fits in omega (arith, a) }

more : {m : ℕ} (n : ℕ) {xs : List ℕ} → m ≤ n → Short m xs → Short n xs
more n le h = record { fits = let a = h.fits in omega (arith, a) }

pub name_short : (name : List ℕ) → IsTrue (is_name name) → length name ≤ 32
name_short name h = (bounds 1 32 (length name) (name_walks name h).0).1

pub location_short : (location : List ℕ) → IsTrue (is_location location) → length location ≤ 129
location_short location h = (bounds 3 129 (length location) (location_walks location h).0).1

pub key_short : (key : List ℕ) → IsTrue (is_key_form key) → length key ≤ 128
key_short key h = leb-true (length key) 128 (and_parts (are_bytes key) _ h).1

value_short : (value : List ℕ) → IsTrue (is_row_value value) → length value ≤ 1024
value_short value h = leb-true (length value) 1024 (and_parts (are_bytes value) _ h).1

name_bytes : (name : List ℕ) → IsTrue (is_name name) → Short 33 (text_bytes name)
name_bytes name h = after (length name) (short (name_short name h))

location_bytes : (location : List ℕ) → IsTrue (is_location location) → Short 130 (text_bytes location)
location_bytes location h = after (length location) (short (location_short location h))

key_bytes : (key : List ℕ) → IsTrue (is_key_form key) → Short 129 (text_bytes key)
key_bytes key h = after (length key) (short (key_short key h))

four : (n : ℕ) → Short 4 (to_be_bytes w32 n)
four n = short (omega arith)

eight : (n : ℕ) → Short 8 (to_be_bytes w64 n)
eight n = short (omega arith)

none : Short 0 []
none = short (omega arith)

end_short : (end : High) → IsEnd end → Short 130 (end_bytes end)
end_short (At key) h = after 0 (key_bytes key h)
end_short Max h = more 130 (omega arith) (after 1 none)

span_short : (span : Span) → IsSpan span → Short 260 (span_bytes span)
span_short (Range low high) h = after 0 (add (key_bytes low h.0) (end_short high h.1))
span_short (Point at) h = more 260 (omega arith) (after 1 (key_bytes at h))

token_short : (token : Option Token) → Short 17 (token_bytes token)
token_short None = more 17 (omega arith) (after 0 none)
token_short (Some token) = short (omega arith)

mark_short : (m : Mark) → Short 9 (mark_bytes m)
mark_short mark.Plain = more 9 (omega arith) (after 0 none)
mark_short (mark.Old n) = after 1 (eight n)
mark_short mark.New = more 9 (omega arith) (after 2 none)

phase_short : (p : Phase) → IsPhase p → Short 131 (phase_bytes p)
phase_short phase.Idle h = more 131 (omega arith) (after 0 none)
phase_short (phase.Copying end) h = after 1 (end_short end h)
phase_short (phase.Moved end) h = after 2 (end_short end h)

piece_short : (p : Piece) → IsPiece p → Short 408 (piece_bytes p)
piece_short p h = add (span_short p.span h.span) (after _ (add (location_bytes p.location h.location) (token_short p.token)))

pieces_short : (one two : Option Piece) → IfSome one IsPiece → IfSome two IsPiece → Short 817 (pieces_bytes (record { one = one; two = two }))
pieces_short None None h g = more 817 (omega arith) (after 0 none)
pieces_short None (Some q) h g = more 817 (omega arith) (after 1 (add (piece_short q g) none))
pieces_short (Some p) None h g = more 817 (omega arith) (after 1 (add (piece_short p h) none))
pieces_short (Some p) (Some q) h g = after 2 (add (piece_short p h) (add (piece_short q g) none))

job_short : (job : JobRow) → IsJob job → Short 821 (job_bytes job)
job_short job h =
    add (four job.number) (add (name_bytes job.map h.map) (add (key_bytes job.low h.low) (add (end_short job.high h.high)
    (add (location_bytes job.source h.source) (add (location_bytes job.target h.target) (add (four job.batch) (add (end_short job.cursor h.cursor) (phase_short job.phase h.phase))))))))

extra_short : (x : Extra) → IsExtra x → Short 822 (extra_bytes x)
extra_short extra.None h = more 822 (omega arith) (after 0 none)
extra_short (extra.JobPut job) h = after 1 (job_short job h)
extra_short (extra.JobDrop number) h = more 822 (omega arith) (after 2 (four number))

op_short : (op : Op) → IsOp op → Short 2757 (op_bytes op)
op_short op h =
    add (eight op.number) (add (name_bytes op.map h.map) (add (span_short op.hull h.hull)
    (add (pieces_short op.olds.one op.olds.two h.olds.0 h.olds.1) (add (pieces_short op.news.one op.news.two h.news.0 h.news.1) (extra_short op.extra h.extra)))))

fields_short : (c : Cell) → IsCell c → Short 2757 (fields c)
fields_short (cell.Map name kind type) h = more 2757 (omega arith) (add (name_bytes name h.typed) (after _ (after _ none)))
fields_short (cell.Shard name location) h = more 2757 (omega arith) (add (name_bytes name h.typed.0) (location_bytes location h.typed.1))
fields_short (cell.Table name table) h = more 2757 (omega arith) (add (name_bytes name h.typed.0) (name_bytes table h.typed.1))
fields_short (cell.Piece piece) h = more 2757 (omega arith) (add (name_bytes piece.map h.typed.map) (piece_short piece h.typed))
fields_short (cell.Log op) h = op_short op h.typed
fields_short (cell.Job job) h = more 2757 (omega arith) (job_short job h.typed)
fields_short (cell.Counter counters) h = more 2757 (omega arith) (add (eight counters.operation) (four counters.job))
fields_short (cell.SiteState location state) h = more 2757 (omega arith) (add (location_bytes location h.typed) (after _ none))
fields_short (cell.Local row) h = more 2757 (omega arith) (add (name_bytes row.map h.typed.map) (add (span_short row.span h.typed.span) (add (eight row.number) (after _ (mark_short row.mark)))))
fields_short (cell.Row row bytes) h =
    let n = h.typed.0 in
    let two : Short 2 (to_be_bytes w16 (length bytes)) = short (omega arith) in
    more 2757 (omega arith) (add (add (name_bytes row.map n.map) (add (key_bytes row.key n.key) (add (name_bytes row.table n.table) (eight row.number)))) (add two (short (value_short bytes h.typed.1))))

pub spelling_short : (c : Cell) → IsCell c → length (spelling c) ≤ 2759
spelling_short c h = let most = (fields_short c h).fits in omega (arith, most)

-- a place is in some spelling, or at its end
pub place_short : (bytes : List ℕ) (n : ℕ) → Leaves IsSpelling bytes n → n ≤ 2759
place_short bytes n h =
    let c = h.before.1.0 in
    let most = spelling_short c h.before.1.1 in
    let is : length (take n bytes ++ h.before.0) ≡ length (spelling c) = ap length h.before.1.2 in
    omega (arith, is, length-append (take n bytes) h.before.0, length-take-le n bytes h.within, most)
