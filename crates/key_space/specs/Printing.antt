-- The text of a key by its value.
use Rattle.std.specs.Fmt.{decimal, signed_decimal}
use Rattle.cell_world.specs.Texts.{Text}
use Rattle.cell_world.specs.KeyPrinting.{guid_text, bytes_text}
use Rattle.key_space.specs.declared.keys.Key.{Key}
use Rattle.key_space.specs.declared.keys.Key.TheVariants.{Int, Long, Guid, Bytes, Datetime, Timespan}

abbrev pub printed_text : Key → Text
printed_text (Int x) = signed_decimal x
printed_text (Long x) = signed_decimal x
printed_text (Guid bytes) = guid_text bytes
printed_text (Bytes bytes) = bytes_text bytes
printed_text (Datetime ticks) = decimal ticks
printed_text (Timespan ticks) = signed_decimal ticks
