use Rattle.cell_world.specs.Images.{global}
use Rattle.global_tables.proofs.RowLaws.{ops_from, ok_weaker}
use Rattle.global_tables.proofs.lists.log_rows.Goals as goal

pub returns-clause-found : goal.returns-clause-found
returns-clause-found g c = ok_weaker (g.W.World.outside c.args.world.now).told c.rows_of.result _ _ (λ ops image e. ops_from (global image) ops.items e) c.rows_of.ensures.found
