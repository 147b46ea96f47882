use Rattle.std.proofs.Common.{refl, ap, is_some, ◌∷◌, []}
use Rattle.std.specs.FinMap as fin
use Rattle.cell_world.specs.Orders.{local_cmp, row_cmp}
use Rattle.cell_world.specs.Plain.{Held}
use Rattle.model_examples.specs.Values.{row_m, keyed_locals}
use Rattle.model_examples.proofs.Lookups.{get_of, entries_of, differ}
use Rattle.model_examples.proofs.on_trail.held_after_attach.Goals as goal

pub returns-clause-as_it_came_back : goal.returns-clause-as_it_came_back
returns-clause-as_it_came_back c = (refl, rw (entries_of local_cmp (keyed_locals []) tt) refl)

pub returns-clause-never_what_it_was : goal.returns-clause-never_what_it_was
returns-clause-never_what_it_was c f = differ (λ (h : Held). is_some (fin.get h.rows (row_m 5))) _ _ f.1 (ap is_some (get_of row_cmp ((row_m 5, 1 ∷ []) ∷ []) tt (row_m 5))) (ap is_some (fin.get-empty row_cmp (row_m 5)))
