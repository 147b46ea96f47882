use Rattle.std.proofs.Common.{◌≡◌, drop}
use Rattle.plain_model.specs.Refusing.{first_refusal}
use Rattle.map_ops.proofs.refusals.first_of.Given as goal

abbrev pub invariant-loop-check : goal.invariant-loop-check
invariant-loop-check l = first_refusal l.checks ≡ first_refusal (drop l.check-index l.checks)
