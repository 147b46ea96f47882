use Rattle.std.proofs.Common.{◌≡◌, ℕ, true≢false, refl, sym, ap, [], ◌∷◌, arith}
use Rattle.cell_world.specs.declared.cells.Away.TheVariants.{Detached}
use Rattle.cell_world.specs.declared.cells.Mark.TheVariants.{Plain, Old, New}
use Rattle.cell_world.specs.declared.cells.Status.TheVariants.{Online, Offline}
use Rattle.cell_world.specs.Marked.{mark_tables}
use Rattle.world_examples.specs.Examples.{site_b, local_row, away_of}
use Rattle.world_examples.specs.Sounds.{offline_logged, image_logged, marks_with}
use Rattle.world_examples.proofs.ImageParts.{b_attached}
use Rattle.world_examples.proofs.ShortTables.{local_in, not_attached}
use Rattle.world_examples.proofs.Marking.{old_number, is_new, no_mark, no_mark_but}
use Rattle.world_examples.proofs.stages.marks_elsewhere.Goals as goal

pub returns-clause-accepted : goal.returns-clause-accepted
returns-clause-accepted c = no_mark_but (marks_with [] 2 (local_row 0 5 0 Online (Old 1) ∷ local_row 0 5 1 Offline New ∷ []) (local_row 0 5 0 Online (Old 7) ∷ local_row 5 9 1 Online Plain ∷ [])) offline_logged (
  (λ here off. absurd (true≢false off)),
  (
    (λ here off. no_mark (local_row 0 5 0 Online (Old 7) ∷ local_row 5 9 1 Online Plain ∷ []) tt
        (((λ e. let seven : ◌≡◌ {A = ℕ} 7 1 = ap old_number e in omega arith), (λ e. true≢false (sym (ap is_new e.0)))), (((λ e. let zero : ◌≡◌ {A = ℕ} 0 1 = ap old_number e in omega arith), (λ e. true≢false (sym (ap is_new e.0)))), tt))),
    tt,
  ),
)

pub returns-clause-site_away : goal.returns-clause-site_away
returns-clause-site_away c = no_mark_but (record (marks_with [] 2 [] (local_row 0 5 0 Online (Old 1) ∷ [])) { away = away_of ((site_b, Detached) ∷ []) }) offline_logged
    ((λ here off. absurd (true≢false off)), ((λ here off. absurd (not_attached ((site_b, Detached) ∷ []) tt site_b refl here)), tt))

pub returns-clause-whole_image : goal.returns-clause-whole_image
returns-clause-whole_image c = no_mark_but (mark_tables image_logged) offline_logged
    ((λ here off. absurd (true≢false off)), ((λ here off. no_mark (local_row 5 10 2 Online New ∷ []) tt (((λ e. true≢false (ap is_new e)), (λ e. let two : ◌≡◌ {A = ℕ} 2 1 = e.1 in omega arith)), tt)), tt))

pub returns-clause-old : goal.returns-clause-old
returns-clause-old c = λ h. (h site_b b_attached refl (local_row 0 5 0 Online (Old 1)) (local_in (local_row 0 5 0 Online (Old 1) ∷ []) tt (local_row 0 5 0 Online (Old 1)) refl)).0 refl

pub returns-clause-new : goal.returns-clause-new
returns-clause-new c = λ h. (h site_b b_attached refl (local_row 0 5 1 Offline New) (local_in (local_row 0 5 1 Offline New ∷ []) tt (local_row 0 5 1 Offline New) refl)).1 (refl, refl)

pub returns-clause-beside_the_hull : goal.returns-clause-beside_the_hull
returns-clause-beside_the_hull c = λ h. (h site_b b_attached refl (local_row 7 9 1 Online New) (local_in (local_row 7 9 1 Online New ∷ []) tt (local_row 7 9 1 Online New) refl)).1 (refl, refl)
