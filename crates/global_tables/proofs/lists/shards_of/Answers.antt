use Rattle.std.proofs.Common.{◌∙◌, ap, map}
use Rattle.cell_world.specs.Images.{global}
use Rattle.global_tables.proofs.RowLaws.{locations_from, ok_after}
use Rattle.global_tables.proofs.lists.shards_of.Goals as goal

pub returns-clause-found : goal.returns-clause-found
returns-clause-found g c =
    ok_after (g.W.World.outside c.args.world.now).told c.locations.result _ _ _
    (λ locations image made e. made ∙ ap (map (λ row. row.location)) c.deref.ensures.value ∙ locations_from (global image) c.args.map.now c.in_ok-rows.rows.items e) c.in_ok-rows.ensures.found c.locations.ensures.listed
