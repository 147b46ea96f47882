use Rattle.record_form.specs.Reading.{is_from}
use Rattle.record_form.specs.Fields.{location_next}
use Rattle.record_form.specs.declared.locations.InLocation.TheVariants.{Server}
use Rattle.record_form.proofs.Readers.{byte_takes}
use Rattle.record_form.proofs.Walks.{text_takes}
use Rattle.record_form.proofs.NameTexts.{some_if}
use Rattle.record_form.proofs.LocationTexts.{walked_location}
use Rattle.record_form.proofs.locations.location.Goals as goal

pub unwrap-requires : goal.unwrap-requires
unwrap-requires c =
    let len = byte_takes (is_from 3 129) c.args.input.now.now (c.in_ok-len.len, c.byte.new.input.now) c.in_ok-len.ensures in
    let text = text_takes location_next c.in_ok-len.len (Server 0) c.byte.new.input.now (c.in_ok-bytes.bytes.now, c.text.new.input.now) c.in_ok-bytes.ensures in
    some_if c.read.result _ c.in_ok-bytes.bytes.now c.read.ensures (walked_location c.in_ok-len.len c.in_ok-bytes.bytes.now len.1 text.1).1
