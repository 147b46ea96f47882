use Rattle.local_tables.proofs.KeysBelow.{made_at_zero, made_at_byte}
use Rattle.local_tables.proofs.below.key_below.Goals as goal

pub returns-then-last-eq0 : goal.returns-then-last-eq0
returns-then-last-eq0 c = made_at_zero c.args.key.now c.as_slice-bytes.result.now c.as_slice-bytes.ensures c.known.ensures c.if-length-eq0.false c.of_bytes.result c.if-last-eq0.true c.of_bytes.ensures

pub returns : goal.returns
returns c = made_at_byte c.args.key.now c.as_slice-bytes.result.now c.as_slice-bytes.ensures c.known.ensures c.if-length-eq0.false c.of_bytes-2.result c.topped.result c.if-last-eq0.false c.topped.ensures c.of_bytes-2.ensures
