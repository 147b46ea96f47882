use Rattle.std.proofs.Common.{◌≡◌, ◌-◌, ◌≤◌, length, arith}
use Rattle.text_scan.specs.Places.{Leaves}
use Rattle.cell_world.specs.Spelled.{IsCell}
use Rattle.record_form.specs.Layout.{spelling, IsSpelling}
use Rattle.record_form.specs.Kinds.{cell_at}
use Rattle.record_form.proofs.Whole.{ok_value, left_of, memory_of, whole_takes, whole_stops, whole_left}
use Rattle.record_form.proofs.CellTexts.{cell_reader}
use Rattle.record_form.proofs.Lengths.{place_short}
use Rattle.record_form.proofs.reading.read_cell.Goals as goal

pub overflow_sub-result : goal.overflow_sub-result
overflow_sub-result c = whole_left cell_at spelling IsCell cell_reader c.args.bytes.now c.in-Err-Left.left (λ i. omega (arith, c.type_inv.bytes i)) (left_of _ _ _ c.in-Err-Left.field-0-is c.in-Err-Left.ensures)

pub overflow_cast-result : goal.overflow_cast-result
overflow_cast-result c =
    let place : Leaves IsSpelling c.args.bytes.now (length c.args.bytes.now - c.in-Err-Left.left) = whole_stops cell_at spelling IsCell cell_reader c.args.bytes.now c.in-Err-Left.left (λ i. omega (arith, c.type_inv.bytes i)) (left_of _ _ _ c.in-Err-Left.field-0-is c.in-Err-Left.ensures) in
    let most = place_short c.args.bytes.now (length c.args.bytes.now - c.in-Err-Left.left) place in
    omega (arith, most)

pub returns-in-Ok-clause-ok : goal.returns-in-Ok-clause-ok
returns-in-Ok-clause-ok c =
    let t = whole_takes cell_at spelling IsCell cell_reader c.args.bytes.now c.in-Ok.cell (λ i. omega (arith, c.type_inv.bytes i)) c.in-Ok.ensures in
    (t.1, t.0)

pub returns-in-Err-Memory-clause-err : goal.returns-in-Err-Memory-clause-err
returns-in-Err-Memory-clause-err c =
    let read = ok_value _ (memory_of _ _ c.in-Err-Memory.field-0-is c.in-Err-Memory.ensures) in
    let t = whole_takes cell_at spelling IsCell cell_reader c.args.bytes.now read.0 (λ i. omega (arith, c.type_inv.bytes i)) read.1 in
    (read.0, t.1, t.0)

pub returns-in-Err-Left-clause-err : goal.returns-in-Err-Left-clause-err
returns-in-Err-Left-clause-err c = whole_stops cell_at spelling IsCell cell_reader c.args.bytes.now c.in-Err-Left.left (λ i. omega (arith, c.type_inv.bytes i)) (left_of _ _ _ c.in-Err-Left.field-0-is c.in-Err-Left.ensures)
