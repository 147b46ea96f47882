use Rattle.std.proofs.Common.{◌≡◌, ◌≤◌, length}
use Rattle.record_form.specs.Reading.{text_at}
use Rattle.record_form.proofs.Loops.{from_place}
use Rattle.record_form.proofs.texts.text.Given as goal

abbrev pub invariant-loop-i : goal.invariant-loop-i
invariant-loop-i g l = record {
  within : l.i ≤ length l.bytes;
  read : from_place g.S.Steps.next l.len l.i l.state l.bytes ≡ text_at g.S.Steps.next l.len l.fn.start l.bytes;
}
