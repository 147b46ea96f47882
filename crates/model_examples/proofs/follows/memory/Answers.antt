use Rattle.std.proofs.Common.{◌≡◌, true, false, refl, sym, ap, ◌∙◌, is_some, ◌∷◌, []}
use Rattle.std.specs.FinMap as fin
use Rattle.cell_world.specs.Orders.{row_cmp}
use Rattle.cell_world.specs.Plain.{PlainState}
use Rattle.cell_world.specs.declared.cells.Away.TheVariants.{Detached, Suspect}
use Rattle.plain_model.proofs.NearLaws.{near_itself}
use Rattle.model_examples.specs.Values.{away_state, one_row, row_m}
use Rattle.world_examples.specs.Examples.{map_n, site_a}
use Rattle.model_examples.proofs.Lookups.{get_of, differ}
use Rattle.model_examples.proofs.Maps.{has_it, has_none, m_is_more}
use Rattle.model_examples.proofs.NearStates.{near_maps, detached_holds}
use Rattle.model_examples.proofs.follows.memory.Goals as goal

pub returns-clause-not_done : goal.returns-clause-not_done
returns-clause-not_done c = refl

pub returns-clause-never_done : goal.returns-clause-never_done
returns-clause-never_done c f = m_is_more f

pub returns-clause-attach_holds_other : goal.returns-clause-attach_holds_other
returns-clause-attach_holds_other c = detached_holds one_row

pub returns-clause-attach_never_a_map : goal.returns-clause-attach_never_a_map
returns-clause-attach_never_a_map c f = let e : true ≡ false = sym (has_it (away_state Detached) map_n) ∙ near_maps map_n _ _ f ∙ has_none map_n in cc

pub returns-clause-clear_not_done : goal.returns-clause-clear_not_done
returns-clause-clear_not_done c = near_itself (away_state Suspect)

pub returns-clause-clear_never_a_map : goal.returns-clause-clear_never_a_map
returns-clause-clear_never_a_map c f = let e : true ≡ false = sym (has_it (away_state Suspect) map_n) ∙ near_maps map_n _ _ f ∙ has_none map_n in cc

pub returns-clause-detach_never_holds_other : goal.returns-clause-detach_never_holds_other
returns-clause-detach_never_holds_other c f = differ (λ (s : PlainState). is_some (fin.get (s.held site_a).rows (row_m 5))) _ _ f
    (ap is_some (get_of row_cmp ((row_m 5, 1 ∷ []) ∷ []) tt (row_m 5)))
    (ap is_some (fin.get-empty row_cmp (row_m 5)))
