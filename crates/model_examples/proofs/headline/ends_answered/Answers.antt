use Rattle.std.proofs.Common.{true≢false, refl, sym}
use Rattle.model_examples.proofs.headline.ends_answered.Goals as goal

pub returns-clause-one : goal.returns-clause-one
returns-clause-one c = refl

pub returns-clause-never_none : goal.returns-clause-never_none
returns-clause-never_none c h = true≢false (sym h)

pub returns-clause-never_nothing : goal.returns-clause-never_nothing
returns-clause-never_nothing c h = h
