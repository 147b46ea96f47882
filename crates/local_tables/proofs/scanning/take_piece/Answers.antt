use Rattle.local_tables.proofs.ScanLaws.{takes}
use Rattle.local_tables.proofs.scanning.take_piece.Goals as goal

pub returns-clause-taken : goal.returns-clause-taken
returns-clause-taken c =
    takes c.args.work c.args.op.now c.args.found.now c.args.rows.now.items _ c.index-found-count.result c.if-count.false c.index-found-count.is c.in_ok-push_rows-2.ensures.pushed c.next_from.result c.next_from.ensures.next
