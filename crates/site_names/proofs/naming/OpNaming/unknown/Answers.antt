use Rattle.std.proofs.Common.{◌∙◌}
use Rattle.std.specs.Option.{option_or}
use Rattle.cell_world.specs.Operations.{locations_of, sites_of_extra}
use Rattle.cell_world.specs.Spelled.{listed}
use Rattle.site_names.proofs.FirstNamed.{first_of_three}
use Rattle.site_names.proofs.naming.OpNaming.unknown.Goals as goal

pub returns : goal.returns
returns g c =
    c.or-2.ensures ∙ (λ i. option_or ((c.or.ensures ∙ (λ j. option_or (c.unknown_of_pieces-old.ensures j) (c.unknown_of_pieces-new.ensures j))) i) (c.unknown_of_extra.ensures i))
    ∙ first_of_three (g.W.World.outside c.args.world.now).locations (locations_of (listed c.args.self.now.olds)) (locations_of (listed c.args.self.now.news)) (sites_of_extra c.args.self.now.extra)
