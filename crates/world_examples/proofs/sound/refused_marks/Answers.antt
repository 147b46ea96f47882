use Rattle.std.proofs.Common.{◌<◌, true≢false, refl, sym, ap, [], ◌∷◌, arith, ⊎_elim}
use Rattle.cell_world.specs.Keys.{contains}
use Rattle.cell_world.specs.declared.cells.Mark.TheVariants.{Plain, Old, New}
use Rattle.cell_world.specs.declared.cells.Status.TheVariants.{Online}
use Rattle.world_examples.proofs.Accepting.{b_not_a}
use Rattle.world_examples.specs.Examples.{int_key, local_row, add_at_a}
use Rattle.world_examples.specs.Sounds.{add_logged}
use Rattle.world_examples.proofs.ShortTables.{local_in, op_in}
use Rattle.world_examples.proofs.sound.refused_marks.Goals as goal

pub returns-clause-old : goal.returns-clause-old
returns-clause-old c = λ h. h.marks (local_row 0 5 0 Online (Old 2)) (local_in (local_row 0 5 0 Online (Old 2) ∷ []) tt (local_row 0 5 0 Online (Old 2)) refl) add_logged (op_in (add_logged ∷ []) tt add_logged refl)

pub returns-clause-new : goal.returns-clause-new
returns-clause-new c = λ h. ⊎_elim (λ n. true≢false (sym (ap (λ s. contains s (int_key 5)) n.0.span))) (λ n. n)
    (h.marks (local_row 0 5 1 Online New) (local_in (local_row 0 5 1 Online New ∷ []) tt (local_row 0 5 1 Online New) refl) add_at_a (op_in (add_at_a ∷ []) tt add_at_a refl))

pub returns-clause-elsewhere : goal.returns-clause-elsewhere
returns-clause-elsewhere c = λ h. ⊎_elim (λ n. b_not_a n.1) (λ n. n)
    (h.marks (local_row 5 10 2 Online New) (local_in (local_row 5 10 2 Online New ∷ []) tt (local_row 5 10 2 Online New) refl) add_logged (op_in (add_logged ∷ []) tt add_logged refl))

pub returns-clause-number_of_name : goal.returns-clause-number_of_name
returns-clause-number_of_name c = λ h. let below : 1 < 1 = (h.numbers (local_row 0 5 1 Online Plain) (local_in (local_row 0 5 1 Online Plain ∷ []) tt (local_row 0 5 1 Online Plain) refl)).0 in omega arith

pub returns-clause-number_of_mark : goal.returns-clause-number_of_mark
returns-clause-number_of_mark c = λ h. true≢false (sym (h.numbers (local_row 0 5 0 Online (Old 1)) (local_in (local_row 0 5 0 Online (Old 1) ∷ []) tt (local_row 0 5 0 Online (Old 1)) refl)).1)
