use Rattle.std.proofs.Common.{None}
use Rattle.plain_tables.proofs.LinkLaws.{link-update}
use Rattle.plain_tables.proofs.changes.drop_link.Goals as goal

pub returns : goal.returns
returns c = link-update c.args.links.now c.remove.new.self c.args.session c.args.number None c.remove.ensures.updates
