use Rattle.std.proofs.Common.{◌≡◌, Some, sym, ap, arith, rules, ◌∙◌}
use Rattle.std.specs.Int.{from_be_bytes, w128}
use Rattle.std.proofs.lemmas.Result.{IfOk-at_ok}
use Rattle.uuid.specs.Text.{parsed}
use Rattle.key_space.proofs.GuidValues.{parses}
use Rattle.script_lang.proofs.GuidLaws.{other_length, guid_there, number_there}
use Rattle.script_lang.proofs.values.guid_number.Goals as goal

pub returns-then-word-ne-GUID_BYTES : goal.returns-then-word-ne-GUID_BYTES
returns-then-word-ne-GUID_BYTES c = sym (other_length c.args.word.now (λ e. omega (arith, e)))

pub unwrap-id-requires : goal.unwrap-id-requires
unwrap-id-requires c =
    let found = guid_there c.args.word.now (search rules) in
    c.try_parse_ascii.ensures.ok.1 (found.0, parses c.args.word.now found.0 found.1)

pub returns : goal.returns
returns c =
    let word = c.args.word.now in
    let found = guid_there word (search rules) in
    let read : Some c.unwrap-id.result ≡ parsed word = IfOk-at_ok (λ u. Some u ≡ parsed word) c.unwrap-id.ensures c.try_parse_ascii.ensures.bytes in
    let same : Some c.unwrap-id.result ≡ Some found.0 = read ∙ parses word found.0 found.1 in
    let bytes : c.into_bytes.result ≡ found.0 = c.into_bytes.ensures ∙ cc same in
    ap Some (c.from_be_bytes.ensures ∙ ap (from_be_bytes w128) bytes) ∙ sym (number_there word found.0 found.1)
