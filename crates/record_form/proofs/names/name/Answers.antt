use Rattle.record_form.specs.Reading.{is_from}
use Rattle.record_form.specs.Fields.{name_next}
use Rattle.record_form.specs.declared.names.InName.TheVariants.{First}
use Rattle.record_form.proofs.Readers.{byte_takes}
use Rattle.record_form.proofs.Walks.{text_takes}
use Rattle.record_form.proofs.NameTexts.{some_if, walked_name}
use Rattle.record_form.proofs.names.name.Goals as goal

pub unwrap-requires : goal.unwrap-requires
unwrap-requires c =
    let len = byte_takes (is_from 1 32) c.args.input.now.now (c.in_ok-len.len, c.byte.new.input.now) c.in_ok-len.ensures in
    let text = text_takes name_next c.in_ok-len.len First c.byte.new.input.now (c.in_ok-bytes.bytes.now, c.text.new.input.now) c.in_ok-bytes.ensures in
    some_if c.read.result _ c.in_ok-bytes.bytes.now c.read.ensures (walked_name c.in_ok-len.len c.in_ok-bytes.bytes.now len.1 text.1).1
