use Rattle.std.proofs.Common.{◌≡◌, arith, refl}
use Rattle.model_examples.proofs.legal.job_running_promises.Goals as goal

pub returns-clause-answered_next : goal.returns-clause-answered_next
returns-clause-answered_next c = (record { other = 2; is_other = λ (e : 2 ≡ 1). absurd (omega arith); number = 1; asked = refl; at_job = (refl, refl) }, (tt, tt))

pub returns-clause-going : goal.returns-clause-going
returns-clause-going c = (record { other = 2; is_other = λ (e : 2 ≡ 1). absurd (omega arith); number = 1; asked = refl; at_job = refl }, tt)
