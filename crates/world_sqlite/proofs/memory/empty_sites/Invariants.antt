use Rattle.std.proofs.Common.{◌≡◌, length}
use Rattle.sqlite.specs.Steps.{over_memory}
use Rattle.sqlite_site.specs.Kept.{store_of}
use Rattle.world_sqlite.specs.Counted.{AreFresh, AreEmpty}
use Rattle.world_sqlite.proofs.memory.empty_sites.Given as goal

abbrev pub invariant-each : goal.invariant-each
invariant-each l = (length l.sites.items ≡ l.number) × AreFresh l.sites.items (λ s. s.faults) × AreEmpty l.sites.items (λ s. store_of over_memory s.conn)
