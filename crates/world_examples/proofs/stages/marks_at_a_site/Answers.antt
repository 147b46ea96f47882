use Rattle.std.proofs.Common.{true≢false, refl, sym, ap, [], ◌∷◌}
use Rattle.cell_world.specs.Keys.{contains}
use Rattle.cell_world.specs.Marked.{IsOld, IsNew}
use Rattle.cell_world.specs.declared.cells.Mark.TheVariants.{Old, New}
use Rattle.cell_world.specs.declared.cells.Status.TheVariants.{Online, Offline}
use Rattle.world_examples.specs.Examples.{int_key, site_a, site_b, free_piece, local_row, add_at_a}
use Rattle.world_examples.specs.Sounds.{move_logged}
use Rattle.world_examples.proofs.Standing.{not_both}
use Rattle.world_examples.proofs.ImageParts.{offline_not_online}
use Rattle.world_examples.proofs.ShortTables.{local_in}
use Rattle.world_examples.proofs.Marking.{logs, not_marked, old_row, source_marked}
use Rattle.world_examples.proofs.stages.marks_at_a_site.Goals as goal

pub returns-clause-accepted : goal.returns-clause-accepted
returns-clause-accepted c = source_marked (move_logged ∷ []) (old_row ∷ local_row 5 9 0 Online (Old 7) ∷ []) tt refl ((λ m o. logs (move_logged ∷ []) tt 1), ((λ m o. absurd (true≢false (sym o))), tt))

pub returns-clause-other_in_log : goal.returns-clause-other_in_log
returns-clause-other_in_log c = source_marked (move_logged ∷ record add_at_a { number = 2 } ∷ []) (old_row ∷ local_row 3 9 0 Online (Old 2) ∷ []) tt refl ((λ m o. logs (move_logged ∷ record add_at_a { number = 2 } ∷ []) tt 1), ((λ m o. logs (move_logged ∷ record add_at_a { number = 2 } ∷ []) tt 2), tt))

pub returns-clause-status : goal.returns-clause-status
returns-clause-status c = λ h. not_marked (local_row 0 5 0 Online (Old 1) ∷ []) tt (IsOld 1) (free_piece 0 5 site_a Offline) ((λ m e. offline_not_online (sym m.status)), tt) (h.olds.0 refl)

pub returns-clause-span : goal.returns-clause-span
returns-clause-span c = λ h. not_marked (local_row 0 4 0 Offline (Old 1) ∷ []) tt (IsOld 1) (free_piece 0 5 site_a Offline) ((λ m e. true≢false (sym (ap (λ span. contains span (int_key 4)) m.span))), tt) (h.olds.0 refl)

pub returns-clause-new_at_target : goal.returns-clause-new_at_target
returns-clause-new_at_target c = λ h. not_marked [] tt (IsNew 1) (free_piece 0 5 site_b Offline) tt (h.news.0 refl)

pub returns-clause-old_mark_in_the_hull : goal.returns-clause-old_mark_in_the_hull
returns-clause-old_mark_in_the_hull c = λ h. not_both _ (logs (move_logged ∷ []) tt 7) (h.others (local_row 3 9 0 Online (Old 7)) (local_in (old_row ∷ local_row 3 9 0 Online (Old 7) ∷ []) tt (local_row 3 9 0 Online (Old 7)) refl) refl refl)

pub returns-clause-new_mark_in_the_hull : goal.returns-clause-new_mark_in_the_hull
returns-clause-new_mark_in_the_hull c = λ h. not_both _ (logs (move_logged ∷ []) tt 7) (h.others (local_row 3 9 7 Online New) (local_in (old_row ∷ local_row 3 9 7 Online New ∷ []) tt (local_row 3 9 7 Online New) refl) refl refl)
