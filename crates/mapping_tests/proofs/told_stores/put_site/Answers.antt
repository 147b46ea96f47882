use Rattle.std.proofs.Common.{ap, sym, ◌∙◌, is_some}
use Rattle.image_laws.proofs.SiteLaws.{place_of_number}
use Rattle.world_memory.specs.Memory.{outside_of}
use Rattle.mapping_tests.proofs.told_stores.put_site.Goals as goal

pub commit-requires : goal.commit-requires
commit-requires c = ap is_some (place_of_number (outside_of c.args.world.now).locations _ c.in-Some.site (sym c.locate.ensures ∙ c.in-Some.is))
