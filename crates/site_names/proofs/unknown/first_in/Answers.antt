use Rattle.std.proofs.Common.{sym, ◌∙◌}
use Rattle.site_names.proofs.FirstNamed.{found_unknown}
use Rattle.site_names.proofs.unknown.first_in.Goals as goal

pub returns-in-Some-clause-unknown : goal.returns-in-Some-clause-unknown
returns-in-Some-clause-unknown g c = found_unknown (g.W.World.outside c.args.world.now).locations _ c.in-Some.location (sym c.unknown.ensures ∙ c.in-Some.is)
