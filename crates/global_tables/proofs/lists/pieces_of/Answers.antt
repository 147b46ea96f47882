use Rattle.cell_world.specs.Images.{global}
use Rattle.global_tables.proofs.RowLaws.{pieces_from, ok_weaker}
use Rattle.global_tables.proofs.lists.pieces_of.Goals as goal

pub returns-clause-found : goal.returns-clause-found
returns-clause-found g c = ok_weaker (g.W.World.outside c.args.world.now).told c.rows_of.result _ _ (λ pieces image e. pieces_from (global image) c.args.map.now pieces.items e) c.rows_of.ensures.found
