use Rattle.std.proofs.Common.{◌≡◌, Bool, true, false, true≢false, cond, refl, sym, ap, Some, None, [], ◌∷◌, is_some}
use Rattle.std.specs.Prelude.{option_and_then}
use Rattle.std.specs.Ordering.{eq_by_cmp}
use Rattle.cell_world.specs.Orders.{local_cmp}
use Rattle.cell_world.specs.Stores.{local_key}
use Rattle.cell_world.specs.Sweep.{sweep}
use Rattle.cell_world.specs.declared.cells.LocalRow.{LocalRow}
use Rattle.cell_world.specs.declared.cells.Mark.TheVariants.{Plain, Old, New}
use Rattle.cell_world.specs.declared.cells.Status.TheVariants.{Online, Offline}
use Rattle.world_examples.specs.Examples.{local_row}
use Rattle.world_examples.specs.Sounds.{move_logged}
use Rattle.world_examples.proofs.Sweeping.{log, swept_at, swept_from, old_in, zero_not_one}
use Rattle.world_examples.proofs.steps.tables_as_it_steps.Goals as goal

abbrev plain : LocalRow
plain = local_row 0 5 0 Offline Plain

abbrev marked : LocalRow
marked = local_row 0 5 0 Offline (Old 1)

abbrev beside : LocalRow
beside = local_row 5 9 0 Online Plain

by : (a b : Bool) → cond a (Some marked) (cond b (Some beside) None) ≡ option_and_then (sweep log move_logged (Old 1)) (cond a (Some plain) (cond b (Some beside) None))
by true b = refl
by false true = refl
by false false = refl

pub returns-clause-accepted : goal.returns-clause-accepted
returns-clause-accepted c = swept_from (plain ∷ beside ∷ []) (marked ∷ beside ∷ []) tt tt (λ k. by (eq_by_cmp local_cmp k (local_key plain)) (eq_by_cmp local_cmp k (local_key beside)))

pub returns-clause-unmarked : goal.returns-clause-unmarked
returns-clause-unmarked c = λ h. zero_not_one (ap old_in (swept_at (plain ∷ []) (plain ∷ []) tt tt h (local_key plain)))

pub returns-clause-marked_beside : goal.returns-clause-marked_beside
returns-clause-marked_beside c = λ h. zero_not_one (sym (ap old_in (swept_at (beside ∷ []) (local_row 5 9 0 Online (Old 1) ∷ []) tt tt h (local_key beside))))

pub returns-clause-dropped : goal.returns-clause-dropped
returns-clause-dropped c = λ h. true≢false (sym (ap is_some (swept_at (plain ∷ []) [] tt tt h (local_key plain))))

pub returns-clause-added : goal.returns-clause-added
returns-clause-added c = λ h. true≢false (ap is_some (swept_at [] (local_row 0 5 1 Offline New ∷ []) tt tt h (local_key (local_row 0 5 1 Offline New))))
