use Rattle.std.proofs.Common.{◌≤◌, ◌-◌, ◌≡◌, vec_len}
use Rattle.script_lang.specs.Sources.{script_limit, WereTaken}
use Rattle.script_lang.proofs.reading.read_all.Given as goal

abbrev pub invariant-loop-bytes : goal.invariant-loop-bytes
invariant-loop-bytes g l =
    let S = g.S.Source in
    record {
      taken : WereTaken (S.left l.fn.source) (S.left l.source) l.bytes.items;
      short : vec_len l.bytes ≤ script_limit;
      buffer : vec_len l.buffer ≡ 4096;
      falls : S.faults l.fn.source ≤ S.faults l.source;
    }

abbrev pub decreases-loop-bytes : goal.decreases-loop-bytes
decreases-loop-bytes g l = script_limit - vec_len l.bytes
