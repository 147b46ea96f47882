use Rattle.std.proofs.Common.{arith, inl, inr, ◌≡◌, ◌-◌, get_or}
use Rattle.key_space.proofs.Zeros.{zero_off, all_off}
use Rattle.key_space.proofs.bytes_texts.without_zeros.Goals as goal
use Rattle.key_space.proofs.bytes_texts.without_zeros.Goals.{then-loop-len-test+else-bytes-len-eq0, else-loop-len-test}

pub loop-len-preserved : goal.loop-len-preserved
loop-len-preserved c =
    let byte : get_or c.args.bytes.now (c.loop-len.len - 1) 0 ≡ 0 = omega arith in
    record { within = omega arith; same = zero_off c.loop-len.len c.args.bytes.now (omega arith) (omega arith) byte c.loop-len.invariant.same }

pub returns-clause-value : goal.returns-clause-value
returns-clause-value c =
    all_off c.loop-len.len c.args.bytes.now c.loop-len.invariant.within
    (elim c.loop-len-test.branch [
      | then-loop-len-test+else-bytes-len-eq0 w ↦ inr (omega arith, λ e. omega (arith, e))
      | else-loop-len-test w ↦ inl (omega arith)
    ])
    c.loop-len.invariant.same
