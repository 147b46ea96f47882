use Rattle.std.proofs.Common.{ap, sym, ◌∙◌}
use Rattle.cell_world.specs.KeyForms.{normal_of}
use Rattle.key_space.specs.Values.{type_of}
use Rattle.key_space.proofs.Printed.{printed_key, read_again}
use Rattle.key_space.proofs.laws.printed_keys_are_read.Goals as goal

pub returns : goal.returns
returns c = λ k is. ap (normal_of (type_of k)) (sym (printed_key k is)) ∙ read_again k is
