use Rattle.std.proofs.Common.{◌≡◌, Some, sym, ap, ◌∙◌}
use Rattle.std.proofs.lemmas.Result.{IfOk-at_ok}
use Rattle.uuid.specs.Text.{parsed}
use Rattle.cell_world.specs.KeyForms.{guid_bytes}
use Rattle.key_space.proofs.HexDigits.{some_value}
use Rattle.key_space.proofs.GuidValues.{parses}
use Rattle.key_space.proofs.guid_texts.read_guid.Goals as goal

pub unwrap-id-requires : goal.unwrap-id-requires
unwrap-id-requires c =
    let found = some_value (guid_bytes c.args.text.now) c.in_ok-check.ensures.ok in
    c.try_parse_ascii.ensures.ok.1 (found.0, parses c.args.text.now found.0 found.1)

pub returns-clause-ok : goal.returns-clause-ok
returns-clause-ok c =
    let text = c.args.text.now in
    let found = some_value (guid_bytes text) c.in_ok-check.ensures.ok in
    let read : Some c.unwrap-id.result ≡ parsed text = IfOk-at_ok (λ u. Some u ≡ parsed text) c.unwrap-id.ensures c.try_parse_ascii.ensures.bytes in
    found.1 ∙ (sym (parses text found.0 found.1) ∙ (sym read ∙ ap Some (sym (c.of.ensures ∙ c.into_bytes.ensures))))
