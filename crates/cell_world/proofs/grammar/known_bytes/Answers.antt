-- Each number of a list of bytes is a byte.
use Rattle.cell_world.proofs.Bytes.{bytes_fit}
use Rattle.cell_world.proofs.grammar.known_bytes.Goals as goal

pub returns : goal.returns
returns c = bytes_fit c.args.bytes.now c.type_inv.bytes
