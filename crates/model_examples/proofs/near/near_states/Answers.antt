use Rattle.std.proofs.Common.{◌≡◌, true, false, refl, sym, ap, ◌∙◌, Some, None, is_some, ◌∷◌, []}
use Rattle.std.specs.FinMap as fin
use Rattle.cell_world.specs.ByteOrder.{byte_cmp}
use Rattle.cell_world.specs.Orders.{local_cmp, row_cmp}
use Rattle.cell_world.specs.Plain.{PlainState, Held}
use Rattle.cell_world.specs.Stores.{Rows}
use Rattle.cell_world.specs.declared.cells.Away.{Away}
use Rattle.cell_world.specs.declared.cells.Away.TheVariants.{Detached, Suspect}
use Rattle.cell_world.specs.declared.cells.Status.{Status}
use Rattle.cell_world.specs.declared.cells.Status.TheVariants.{Online, Offline}
use Rattle.plain_model.specs.Differing.{local_status, local_rows_of}
use Rattle.plain_model.specs.Worked.{small_key, small_range, local_row_over}
use Rattle.model_examples.specs.Values.{empty_state, one_row, row_m, keyed_locals, local_rows}
use Rattle.world_examples.specs.Examples.{map_m, map_n, site_a}
use Rattle.model_examples.proofs.Lookups.{get_of, entries_of, differ}
use Rattle.model_examples.proofs.Maps.{has_it, has_none}
use Rattle.model_examples.proofs.NearStates.{near_maps, is_away, detached_holds, suspect_cuts}
use Rattle.model_examples.proofs.near.near_states.Goals as goal

has_row : is_some (fin.get one_row.rows (row_m 5)) ≡ true
has_row = ap is_some (get_of row_cmp ((row_m 5, 1 ∷ []) ∷ []) tt (row_m 5))

has_no_row : is_some (fin.get (fin.empty {X = Rattle.cell_world.specs.Texts.Text} {R = row_cmp}) (row_m 5)) ≡ false
has_no_row = ap is_some (fin.get-empty row_cmp (row_m 5))

-- the status over 5 of one local row
over_5 : (status : Status) → local_status (local_rows_of (local_rows (local_row_over (small_range 0 10) status ∷ [])).locals map_m) (small_key 5) ≡ Some status
over_5 status = rw (entries_of local_cmp (keyed_locals (local_row_over (small_range 0 10) status ∷ [])) tt) refl

over_none : local_status (local_rows_of (local_rows []).locals map_m) (small_key 5) ≡ None
over_none = rw (entries_of local_cmp (keyed_locals []) tt) refl

pub returns-clause-detached_holds_other : goal.returns-clause-detached_holds_other
returns-clause-detached_holds_other c = detached_holds one_row

pub returns-clause-suspect_cut_otherwise : goal.returns-clause-suspect_cut_otherwise
returns-clause-suspect_cut_otherwise c = suspect_cuts

pub returns-clause-never_where_it_is_attached : goal.returns-clause-never_where_it_is_attached
returns-clause-never_where_it_is_attached c near = differ (λ (h : Held). is_some (fin.get h.rows (row_m 5))) _ _ (near.here site_a (fin.get-empty {X = Away} byte_cmp site_a)) has_row has_no_row

pub returns-clause-never_a_row_more : goal.returns-clause-never_a_row_more
returns-clause-never_a_row_more c near = differ (λ (rows : Rows). is_some (fin.get rows (row_m 5))) _ _ (near.rows site_a (is_away Suspect)) has_row has_no_row

pub returns-clause-never_a_row_less : goal.returns-clause-never_a_row_less
returns-clause-never_a_row_less c near = differ (λ (rows : Rows). is_some (fin.get rows (row_m 5))) _ _ (sym (near.rows site_a (is_away Suspect))) has_row has_no_row

pub returns-clause-never_another_status : goal.returns-clause-never_another_status
returns-clause-never_another_status c near = let e : Some Online ≡ Some Offline = sym (over_5 Online) ∙ near.status site_a map_m (small_key 5) (is_away Suspect) ∙ over_5 Offline in cc

pub returns-clause-never_a_local_row_less : goal.returns-clause-never_a_local_row_less
returns-clause-never_a_local_row_less c near = let e : Some Online ≡ None = sym (over_5 Online) ∙ near.status site_a map_m (small_key 5) (is_away Suspect) ∙ over_none in cc

pub returns-clause-never_a_map_more : goal.returns-clause-never_a_map_more
returns-clause-never_a_map_more c near = let e : true ≡ false = sym (has_it empty_state map_n) ∙ near_maps map_n _ _ near ∙ has_none map_n in cc

pub returns-clause-never_another_site_state : goal.returns-clause-never_another_site_state
returns-clause-never_another_site_state c near = let e : Some Suspect ≡ Some Detached = sym (is_away Suspect) ∙ ap (λ (s : PlainState). fin.get s.away site_a) near.same ∙ is_away Detached in cc
