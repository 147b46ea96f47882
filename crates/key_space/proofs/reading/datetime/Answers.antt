use Rattle.std.proofs.Common.{arith, ◌≤◌, Some, sym, ap, subst, ◌∙◌}
use Rattle.cell_world.specs.KeyForms.{number_of, last_tick}
use Rattle.key_space.proofs.HexDigits.{some_value}
use Rattle.key_space.proofs.Readings.{datetime_some, datetime_none, not_above}
use Rattle.key_space.proofs.reading.datetime.Goals as goal

pub returns-in_default-clause-err : goal.returns-in_default-clause-err
returns-in_default-clause-err c =
    let text = c.args.text.now in
    let found = some_value (number_of text) c.in_ok-check_unsigned.ensures.ok in
    let large = c.in_default.ensures.none found.0 found.1 in
    (tt, c.in_ok-check_unsigned.ensures.ok, datetime_none text found.0 found.1 (omega (arith, large)))

pub returns-in-Some-of-clause-ok : goal.returns-in-Some-of-clause-ok
returns-in-Some-of-clause-ok c =
    let same = c.in-Some-of.ensures.1 in
    datetime_some c.args.text.now c.in-Some-of.ticks (c.in-Some.ensures.some ∙ ap Some (sym same)) (subst (λ n. n ≤ last_tick) (sym same) c.in-Some-of.ensures.0)

pub returns-in-None-clause-err : goal.returns-in-None-clause-err
returns-in-None-clause-err c =
    (tt, c.in_ok-check_unsigned.ensures.ok, datetime_none c.args.text.now c.in-Some.ticks c.in-Some.ensures.some (not_above c.in-Some.ticks last_tick (λ le. c.in-None.ensures le)))
