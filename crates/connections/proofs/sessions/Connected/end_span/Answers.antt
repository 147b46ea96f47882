use Rattle.std.proofs.Common.{length-set, arith}
use Rattle.connections.specs.Links.{is_under}
use Rattle.connections.proofs.EachTable.{all_tables, one_more_table}
use Rattle.connections.proofs.sessions.Connected.end_span.Goals as goal

pub loop-table-preserved : goal.loop-table-preserved
loop-table-preserved c = record {
  many = simp length-set c.loop-table.invariant.many;
  before = one_more_table (is_under c.args.map.now c.args.span.now) c.loop-table.table-index c.args.self.now.sessions.items c.loop-table.table-items c.table-item.result c.end_span.new.self (omega arith) c.end_span.ensures c.loop-table.invariant.before;
}

pub returns-clause-ended : goal.returns-clause-ended
returns-clause-ended c = all_tables (is_under c.args.map.now c.args.span.now) c.loop-table.table-index c.args.self.now.sessions.len c.args.self.now.sessions.items c.loop-table.table-items c.loop-table.invariant.many (omega arith) (omega arith) c.loop-table.invariant.before
