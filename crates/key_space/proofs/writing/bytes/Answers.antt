use Rattle.std.proofs.Common.{◌++◌, ◌∙◌}
use Rattle.cell_world.proofs.Bytes.{bytes_fit}
use Rattle.key_space.proofs.HexPrinting.{encoded}
use Rattle.key_space.proofs.writing.bytes.Goals as goal

pub returns : goal.returns
returns c =
    let digits = c.as_bytes.ensures.value ∙ (c.in_ok-digits.ensures ∙ encoded c.args.bytes.now (bytes_fit c.args.bytes.now c.type_inv.bytes)) in
    c.in_ok-extend_from_slice.ensures.items ∙ (λ i. c.in_ok-text.ensures.items i ++ digits i)
