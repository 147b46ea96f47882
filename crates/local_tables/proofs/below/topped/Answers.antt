use Rattle.std.proofs.Common.{ap, ◌∙◌, set, length}
use Rattle.local_tables.proofs.KeysBelow.{set_behind}
use Rattle.local_tables.proofs.below.topped.Goals as goal

pub returns : goal.returns
returns c = ap (λ xs. set xs (length c.args.front.now) c.args.last) c.filled-bytes.ensures ∙ set_behind c.args.front.now c.args.last c.requires
