use Rattle.std.proofs.Common.{◌≡◌, length}
use Rattle.connections.specs.Links.{is_to}
use Rattle.connections.proofs.TableLaws.{EndedBefore}
use Rattle.connections.proofs.table.Connections.end_site.Given as goal

abbrev pub invariant-loop-place : goal.invariant-loop-place
invariant-loop-place l = record {
  many : length l.place-items ≡ 64;
  before : EndedBefore (is_to l.at) l.place-index l.fn.self l.place-items;
}
