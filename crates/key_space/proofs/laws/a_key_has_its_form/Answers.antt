use Rattle.key_space.proofs.OneKey.{normal_form, one_key}
use Rattle.key_space.proofs.laws.a_key_has_its_form.Goals as goal

pub returns-clause-normal : goal.returns-clause-normal
returns-clause-normal c = normal_form

pub returns-clause-alone : goal.returns-clause-alone
returns-clause-alone c = one_key
