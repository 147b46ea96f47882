use Rattle.std.proofs.Common.{sym, ap, is_some, ◌∷◌, []}
use Rattle.std.specs.FinMap as fin
use Rattle.cell_world.specs.Orders.{row_cmp}
use Rattle.cell_world.specs.Plain.{Held}
use Rattle.model_examples.specs.Values.{row_m}
use Rattle.model_examples.proofs.Lookups.{get_of, differ}
use Rattle.model_examples.proofs.on_trail.held_after_detach.Goals as goal

pub returns-clause-never_nothing : goal.returns-clause-never_nothing
returns-clause-never_nothing c f = differ (λ (h : Held). is_some (fin.get h.rows (row_m 5))) _ _ (sym f) (ap is_some (get_of row_cmp ((row_m 5, 1 ∷ []) ∷ []) tt (row_m 5))) (ap is_some (fin.get-empty row_cmp (row_m 5)))
