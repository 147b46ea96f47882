use Rattle.std.proofs.Common.{sym, ap, ◌∙◌, true≢false, [], ◌∷◌}
use Rattle.cell_world.specs.ByteOrder.{byte_cmp}
use Rattle.cell_world.specs.Plain.{is_attached}
use Rattle.cell_world.specs.declared.cells.Away.TheVariants.{Detached, Suspect}
use Rattle.world_examples.specs.Examples.{site_a, site_b}
use Rattle.world_examples.proofs.Tables.{get_of}
use Rattle.world_examples.proofs.lawful.refused_where_a_site_is_away.Goals as goal

pub returns-clause-detached : goal.returns-clause-detached
returns-clause-detached c h = true≢false (sym h.attached.0.attached ∙ ap is_attached (get_of byte_cmp ((site_a, Detached) ∷ []) tt site_a))

pub returns-clause-suspect : goal.returns-clause-suspect
returns-clause-suspect c h = true≢false (sym h.attached.0.attached ∙ ap is_attached (get_of byte_cmp ((site_a, Suspect) ∷ []) tt site_a))

pub returns-clause-target : goal.returns-clause-target
returns-clause-target c h = true≢false (sym h.attached.1.1.1.0.attached ∙ ap is_attached (get_of byte_cmp ((site_b, Detached) ∷ []) tt site_b))
