use Rattle.std.proofs.Common.{ap, ◌∙◌}
use Rattle.std.proofs.lemmas.Result.{IfOk-weaker}
use Rattle.uuid.specs.Text.{hyphenated_text, lower}
use Rattle.key_space.proofs.HexPrinting.{uuid_prints}
use Rattle.key_space.proofs.writing.guid.Goals as goal

pub returns : goal.returns
returns c =
    let of = c.hyphenated.ensures ∙ (c.from_bytes.ensures ∙ c.bytes.ensures.value) in
    let text = c.as_bytes.ensures.value ∙ (c.encode_lower-text.ensures.text ∙ (ap (hyphenated_text lower) of ∙ uuid_prints c.args.guid.now c.bytes.ensures.known)) in
    IfOk-weaker c.from_slice.result _ _ (λ v e. e ∙ text) c.from_slice.ensures.items
