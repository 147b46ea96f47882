use Rattle.std.proofs.Common.{◌∙◌}
use Rattle.key_space.proofs.HexDigits.{some_if}
use Rattle.key_space.proofs.Zeros.{is_trimmed}
use Rattle.key_space.proofs.bytes_texts.key_of_written.Goals as goal

pub unwrap-requires : goal.unwrap-requires
unwrap-requires c =
    some_if c.of.result _ c.norm-form.result c.of.ensures (is_trimmed c.args.bytes.now c.norm-form.result c.known.ensures (c.norm-form.ensures ∙ c.without_zeros.ensures.value))
