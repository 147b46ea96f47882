use Rattle.std.proofs.Common.{Some}
use Rattle.plain_tables.proofs.LinkLaws.{link-update}
use Rattle.plain_tables.proofs.ExchangeLaws.{of_ok}
use Rattle.plain_tables.proofs.changes.put_link.Goals as goal

pub returns-clause-ok : goal.returns-clause-ok
returns-clause-ok c = link-update c.args.links.now c.insert.new.self c.args.session c.args.number (Some c.args.link.now) (of_ok c.insert.result c.if-is_err.ensures.value c.insert.ensures.updates)
