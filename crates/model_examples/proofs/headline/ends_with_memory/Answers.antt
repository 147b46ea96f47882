use Rattle.std.proofs.Common.{true≢false, refl}
use Rattle.model_examples.proofs.headline.ends_with_memory.Goals as goal

pub returns-clause-the_last : goal.returns-clause-the_last
returns-clause-the_last c = (refl, tt)

pub returns-clause-none : goal.returns-clause-none
returns-clause-none c = (refl, tt)

pub returns-clause-never_before_another : goal.returns-clause-never_before_another
returns-clause-never_before_another c h = true≢false h.0
