use Rattle.std.proofs.Common.{◌≡◌, ◌+◌, length}
use Rattle.world_sqlite.specs.Counted.{AreFresh}
use Rattle.world_sqlite.proofs.files.sites_in.Given as goal

abbrev pub invariant-each : goal.invariant-each
invariant-each l = (length l.sites.items ≡ l.location-index + 1) × AreFresh l.sites.items (λ s. s.faults)
