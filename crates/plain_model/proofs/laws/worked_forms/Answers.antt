use Rattle.std.proofs.Common.{refl}
use Rattle.cell_world.specs.KeyForms.{normal_of}
use Rattle.plain_model.proofs.laws.worked_forms.Goals as goal

pub returns-clause-int_5 : goal.returns-clause-int_5
unfolding normal_of
returns-clause-int_5 c = refl

pub returns-clause-int_100 : goal.returns-clause-int_100
unfolding normal_of
returns-clause-int_100 c = refl

pub returns-clause-int_minus_1 : goal.returns-clause-int_minus_1
unfolding normal_of
returns-clause-int_minus_1 c = refl

pub returns-clause-int_least : goal.returns-clause-int_least
unfolding normal_of
returns-clause-int_least c = refl

pub returns-clause-int_too_great : goal.returns-clause-int_too_great
unfolding normal_of
returns-clause-int_too_great c = refl

pub returns-clause-int_leading_zero : goal.returns-clause-int_leading_zero
unfolding normal_of
returns-clause-int_leading_zero c = refl

pub returns-clause-int_minus_0 : goal.returns-clause-int_minus_0
unfolding normal_of
returns-clause-int_minus_0 c = refl

pub returns-clause-int_letter : goal.returns-clause-int_letter
unfolding normal_of
returns-clause-int_letter c = refl

pub returns-clause-long_5 : goal.returns-clause-long_5
unfolding normal_of
returns-clause-long_5 c = refl

pub returns-clause-datetime_last : goal.returns-clause-datetime_last
unfolding normal_of
returns-clause-datetime_last c = refl

pub returns-clause-datetime_too_great : goal.returns-clause-datetime_too_great
unfolding normal_of
returns-clause-datetime_too_great c = refl

pub returns-clause-datetime_minus_1 : goal.returns-clause-datetime_minus_1
unfolding normal_of
returns-clause-datetime_minus_1 c = refl

pub returns-clause-guid_1 : goal.returns-clause-guid_1
unfolding normal_of
returns-clause-guid_1 c = refl

pub returns-clause-bytes_0100 : goal.returns-clause-bytes_0100
unfolding normal_of
returns-clause-bytes_0100 c = refl

pub returns-clause-bytes_none : goal.returns-clause-bytes_none
unfolding normal_of
returns-clause-bytes_none c = refl

pub returns-clause-bytes_half : goal.returns-clause-bytes_half
unfolding normal_of
returns-clause-bytes_half c = refl
