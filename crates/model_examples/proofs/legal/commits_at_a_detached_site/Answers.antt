use Rattle.std.proofs.Common.{◌≡◌, true, false, refl, ap, is_some, []}
use Rattle.std.specs.FinMap as fin
use Rattle.std.specs.FinSet as set
use Rattle.cell_world.specs.Orders.{local_cmp}
use Rattle.cell_world.specs.Stores.{Store, local_key}
use Rattle.cell_world.specs.declared.cells.Away.TheVariants.{Detached}
use Rattle.cell_world.specs.declared.cells.LocalRow.{LocalRow}
use Rattle.cell_world.specs.declared.cells.Mark.TheVariants.{Old}
use Rattle.cell_world.specs.declared.cells.Status.TheVariants.{Online}
use Rattle.cell_world.proofs.OrderLaws.{locals_total, pairs_total}
use Rattle.cell_world.proofs.StoreLaws.{get-insert_same, contains-insert_same}
use Rattle.plain_model.specs.Worked.{small_range, local_row_over}
use Rattle.model_examples.specs.Values.{keyed_locals}
use Rattle.world_examples.specs.Examples.{map_m, site_a, locals_of}
use Rattle.model_examples.proofs.Lookups.{entries_of, differ}
use Rattle.model_examples.proofs.JobStates.{m_stands}
use Rattle.model_examples.proofs.NearStates.{is_away}
use Rattle.model_examples.proofs.legal.commits_at_a_detached_site.Goals as goal

abbrev row : LocalRow
row = local_row_over (small_range 0 10) Online

pub returns-clause-a_row_that_is_not_kept : goal.returns-clause-a_row_that_is_not_kept
returns-clause-a_row_that_is_not_kept c = (
  refl,
  λ detached. record {
    reopened = refl;
    kept = rw (fin.entries-insert locals_total (locals_of []) (local_key row) (record row { mark = Old 1 }), entries_of local_cmp (keyed_locals []) tt) refl;
  },
)

pub returns-clause-never_without_a_reopening : goal.returns-clause-never_without_a_reopening
returns-clause-never_without_a_reopening c f = let e : false ≡ true = (f.1 (is_away Detached)).reopened in cc

pub returns-clause-never_without_a_reopening_not_made : goal.returns-clause-never_without_a_reopening_not_made
returns-clause-never_without_a_reopening_not_made c f = let e : false ≡ true = f.1 (is_away Detached) in cc

pub returns-clause-never_after_an_entry : goal.returns-clause-never_after_an_entry
returns-clause-never_after_an_entry c f = let e : false ≡ true = (f.1 (is_away Detached)).reopened in cc

pub returns-clause-never_a_row_more : goal.returns-clause-never_a_row_more
returns-clause-never_a_row_more c f = differ (λ (store : Store). is_some (fin.get store.locals (local_key row))) _ _ (f.1 (is_away Detached)).kept
    (rw (fin.entries-insert locals_total (locals_of []) (local_key row) row, entries_of local_cmp (keyed_locals []) tt, contains-insert_same pairs_total set.empty (map_m, site_a), m_stands)
    (ap is_some (get-insert_same locals_total fin.empty (local_key row) row)))
    (rw (entries_of local_cmp (keyed_locals []) tt) (ap is_some (fin.get-empty local_cmp (local_key row))))
