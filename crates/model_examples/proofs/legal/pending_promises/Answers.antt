use Rattle.std.proofs.Common.{◌≡◌, arith, refl}
use Rattle.model_examples.proofs.legal.pending_promises.Goals as goal

pub returns-clause-named_next : goal.returns-clause-named_next
returns-clause-named_next c = (record { other = 2; is_other = λ (e : 2 ≡ 1). absurd (omega arith); at_operation = refl }, (tt, tt))
