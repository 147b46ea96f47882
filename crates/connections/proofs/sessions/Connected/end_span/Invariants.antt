use Rattle.std.proofs.Common.{◌≡◌, length}
use Rattle.connections.specs.Links.{is_under}
use Rattle.connections.proofs.EachTable.{TablesEndedBefore}
use Rattle.connections.proofs.sessions.Connected.end_span.Given as goal

abbrev pub invariant-loop-table : goal.invariant-loop-table
invariant-loop-table l = record {
  many : length l.table-items ≡ length l.fn.self.sessions.items;
  before : TablesEndedBefore (is_under l.map l.span) l.table-index l.fn.self.sessions.items l.table-items;
}
