use Rattle.cell_world.proofs.Bytes.{bytes_fit}
use Rattle.key_space.proofs.values.known_bytes.Goals as goal

pub returns : goal.returns
returns c = bytes_fit c.args.bytes.now c.type_inv.bytes
