use Rattle.std.proofs.Common.{IsTrue, take}
use Rattle.std.specs.List.{AllByRecursion}
use Rattle.cell_world.specs.Texts.{is_location}
use Rattle.world_sqlite.proofs.world.known_locations.Given as goal

abbrev pub invariant-loop-location : goal.invariant-loop-location
invariant-loop-location l = AllByRecursion (λ location. IsTrue (is_location location)) (take l.location-index l.locations)
