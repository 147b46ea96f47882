use Rattle.std.proofs.Common.{◌≡◌, ℕ, refl, ap, List, [], ◌∷◌, arith}
use Rattle.std.specs.Prelude.{IsTrue}
use Rattle.cell_world.specs.Keys.{overlaps}
use Rattle.cell_world.specs.Marked.{IsOld, IsNew, MarkedAt, is_mark_of}
use Rattle.cell_world.specs.declared.cells.Mark.TheVariants.{Plain, Old, New}
use Rattle.cell_world.specs.declared.cells.Status.TheVariants.{Online, Offline}
use Rattle.cell_world.specs.declared.operations.Op.{Op}
use Rattle.world_examples.specs.Examples.{range, map_m, site_a, site_b, free_piece, local_row, log_of}
use Rattle.world_examples.specs.Sounds.{offline_logged, add_logged, a_logged, b_logged}
use Rattle.world_examples.proofs.Marking.{logs, old_number, not_marked, each_row, source_done, target_done, in_log}
use Rattle.world_examples.proofs.stages.stage_target_done.Goals as goal
use Rattle.world_examples.proofs.Logged.{offline_stands, add_stands, old_there, new_there, added_there}

abbrev ops : List Op
ops = offline_logged ∷ add_logged ∷ []

at_a : MarkedAt (log_of ops) offline_logged site_a a_logged.locals
at_a = record {
  olds = ((λ l. (local_row 0 5 0 Online (Old 1), old_there, record { map = refl; span = refl; status = refl }, refl)), tt);
  news = ((λ l. (local_row 0 5 1 Offline New, new_there, record { map = refl; span = refl; status = refl }, (refl, refl))), tt);
  others = each_row (local_row 0 5 0 Online (Old 1) ∷ local_row 0 5 1 Offline New ∷ []) tt (λ row. row.map ≡ map_m → IsTrue (overlaps row.span (range 0 5)) → IsTrue (is_mark_of (log_of ops) row row.mark)) ((λ m o. logs ops tt 1), ((λ m o. logs ops tt 1), tt));
}

at_b : MarkedAt (log_of ops) add_logged site_b b_logged.locals
at_b = record {
  olds = tt;
  news = ((λ l. (local_row 5 10 2 Online New, added_there, record { map = refl; span = refl; status = refl }, (refl, refl))), tt);
  others = each_row (local_row 5 10 2 Online New ∷ []) tt (λ row. row.map ≡ map_m → IsTrue (overlaps row.span (range 5 10)) → IsTrue (is_mark_of (log_of ops) row row.mark)) ((λ m o. logs ops tt 2), tt);
}

pub returns-clause-accepted : goal.returns-clause-accepted
returns-clause-accepted c = (in_log, (source_done, tt), (target_done, tt))

pub returns-clause-whole_image : goal.returns-clause-whole_image
returns-clause-whole_image c = (offline_stands, (at_a, tt), (at_a, tt))

pub returns-clause-whole_image_of_an_add : goal.returns-clause-whole_image_of_an_add
returns-clause-whole_image_of_an_add c = (add_stands, tt, (at_b, tt))

pub returns-clause-source_unmarked : goal.returns-clause-source_unmarked
returns-clause-source_unmarked c = λ h. not_marked (local_row 0 5 0 Offline Plain ∷ []) tt (IsOld 1) (free_piece 0 5 site_a Offline) ((λ m e. let number : ◌≡◌ {A = ℕ} 0 1 = ap old_number e in omega arith), tt) (h.1.0.olds.0 refl)

pub returns-clause-no_new_row : goal.returns-clause-no_new_row
returns-clause-no_new_row c = λ h. not_marked [] tt (IsNew 1) (free_piece 0 5 site_b Offline) tt (h.2.0.news.0 refl)

pub returns-clause-of_other_number : goal.returns-clause-of_other_number
returns-clause-of_other_number c = λ h. not_marked (local_row 0 5 2 Offline New ∷ []) tt (IsNew 1) (free_piece 0 5 site_b Offline) ((λ m e. let number : ◌≡◌ {A = ℕ} 2 1 = e.1 in omega arith), tt) (h.2.0.news.0 refl)
