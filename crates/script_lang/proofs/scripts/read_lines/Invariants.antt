use Rattle.std.proofs.Common.{◌+◌, ◌≤◌, length}
use Rattle.script_lang.proofs.ScriptLaws.{SoFar}
use Rattle.script_lang.proofs.scripts.read_lines.Given as goal

abbrev pub invariant-loop-rest : goal.invariant-loop-rest
invariant-loop-rest l = record {
  far : SoFar l.program l.in_force l.bytes l.rest l.asked l.session l.number;
  few : l.number + length l.rest ≤ length l.bytes;
}

abbrev pub decreases-loop-rest : goal.decreases-loop-rest
decreases-loop-rest l = length l.rest
