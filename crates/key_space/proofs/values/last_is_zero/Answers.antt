use Rattle.key_space.proofs.KeyForms.{last_byte}
use Rattle.key_space.proofs.values.last_is_zero.Goals as goal

pub returns-in-len1-up : goal.returns-in-len1-up
returns-in-len1-up c = last_byte c.args.bytes.now c.in-len1-up.len_at_least
