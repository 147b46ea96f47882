use Rattle.std.proofs.Common.{◌++◌, ap, ◌∙◌}
use Rattle.uuid.specs.Text.{hyphenated_text, lower}
use Rattle.key_space.proofs.HexPrinting.{uuid_prints}
use Rattle.script_lang.proofs.WritingLaws.{as_told, all_bytes}
use Rattle.script_lang.proofs.key_words.add_guid.Goals as goal

pub returns : goal.returns
returns c =
    let bytes = c.args.bytes.now in
    let of = c.hyphenated.ensures ∙ c.from_bytes.ensures in
    let text = c.as_bytes.ensures.value ∙ (c.encode_lower-text.ensures.text ∙ (ap (hyphenated_text lower) of ∙ uuid_prints bytes (record { all_bytes = all_bytes bytes (λ i. c.fits-bytes i); count = c.told-bytes }))) in
    as_told c.add.result _ _ _ (ap (λ t. c.args.line.now.items ++ t) text) c.add.ensures
