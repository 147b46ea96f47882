use Rattle.std.proofs.Common.{refl}
use Rattle.std.specs.Fmt.{digits}
use Rattle.cell_world.specs.KeyPrinting.{key_text}
use Rattle.plain_model.proofs.laws.worked_texts.Goals as goal

pub returns-clause-int_5 : goal.returns-clause-int_5
unfolding digits key_text
returns-clause-int_5 c = refl

pub returns-clause-int_minus_1 : goal.returns-clause-int_minus_1
unfolding digits key_text
returns-clause-int_minus_1 c = refl

pub returns-clause-int_least : goal.returns-clause-int_least
unfolding digits key_text
returns-clause-int_least c = refl

pub returns-clause-long_0 : goal.returns-clause-long_0
unfolding digits key_text
returns-clause-long_0 c = refl

pub returns-clause-timespan_minus_5 : goal.returns-clause-timespan_minus_5
unfolding digits key_text
returns-clause-timespan_minus_5 c = refl

pub returns-clause-datetime_last : goal.returns-clause-datetime_last
unfolding digits key_text
returns-clause-datetime_last c = refl

pub returns-clause-guid_1 : goal.returns-clause-guid_1
unfolding digits key_text
returns-clause-guid_1 c = refl

pub returns-clause-guid_order : goal.returns-clause-guid_order
unfolding digits key_text
returns-clause-guid_order c = refl

pub returns-clause-bytes_1 : goal.returns-clause-bytes_1
unfolding digits key_text
returns-clause-bytes_1 c = refl

pub returns-clause-bytes_none : goal.returns-clause-bytes_none
unfolding digits key_text
returns-clause-bytes_none c = refl
