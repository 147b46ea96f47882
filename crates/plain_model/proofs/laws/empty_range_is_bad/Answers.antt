use Rattle.std.proofs.Common.{refl}
use Rattle.cell_world.specs.KeyForms.{normal_of}
use Rattle.plain_model.specs.Refusing.{refusal}
use Rattle.plain_model.proofs.laws.empty_range_is_bad.Goals as goal

pub returns : goal.returns
unfolding refusal normal_of
returns c s i name location h = rw h refl
