use Rattle.std.proofs.Common.{arith}
use Rattle.local_tables.proofs.BelowRows.{number_below, key_below_row, lowest_row}
use Rattle.local_tables.proofs.judging.below_row.Goals as goal

pub returns-then-row-gt0 : goal.returns-then-row-gt0
returns-then-row-gt0 c = number_below c.args.row.now c.low.result.now c.low.ensures (let some = c.if-row-gt0.true in omega (arith, some))

pub returns-in-None : goal.returns-in-None
returns-in-None c = lowest_row c.args.row.now c.low-2.result.now c.low-2.ensures c.in-None.ensures (let none = c.if-row-gt0.false in omega (arith, none))

pub returns-in-Some : goal.returns-in-Some
returns-in-Some c = key_below_row c.args.row.now c.low-2.result.now c.in-Some.low c.low-2.ensures (let none = c.if-row-gt0.false in omega (arith, none)) c.in-Some.ensures
