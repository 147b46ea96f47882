use Rattle.std.proofs.Common.{◌++◌, ◌∙◌, append_assoc, codes}
use Rattle.cell_world.specs.KeyPrinting.{hex_text}
use Rattle.key_space.proofs.HexPrinting.{encoded}
use Rattle.script_lang.proofs.WritingLaws.{as_told, all_bytes}
use Rattle.script_lang.proofs.key_words.add_bytes.Goals as goal

pub returns : goal.returns
returns c =
    let bytes = c.args.bytes.now in
    let digits = c.as_bytes.ensures.value ∙ (c.in-Ok.ensures ∙ encoded bytes (all_bytes bytes (λ i. (c.type_inv.bytes i).fits))) in
    as_told c.add-2.result _ _ _ ((λ i. c.in_ok-add.ensures i ++ digits i) ∙ append_assoc c.args.line.now.items (codes "0x") (hex_text bytes)) c.add-2.ensures
