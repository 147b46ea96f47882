use Rattle.std.proofs.Common.{is_some, sym, ap, ◌∙◌}
use Rattle.image_laws.proofs.SiteLaws.{place_of_number}
use Rattle.world_memory.specs.Memory.{outside_of}
use Rattle.script_runs.proofs.images.rows_at.Goals as goal

pub scan-requires : goal.scan-requires
scan-requires c = ap is_some (place_of_number (outside_of c.args.world.now).locations c.args.at.now c.in-Some.site (sym c.locate.ensures ∙ c.in-Some.is))
