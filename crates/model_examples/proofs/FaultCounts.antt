-- How the store count rose between small worlds.
use Rattle.std.proofs.Common.{◌≤◌, arith, Bool, true, false, cond, inr, ⊎_elim}
use Rattle.std.specs.Prelude.{◌==◌}
use Rattle.cell_world.specs.Outside.{StoreRoseBy, TellsNothing}
use Rattle.model_examples.specs.Runs.{world_of, with_faults}

pub one_rise : StoreRoseBy 1 (world_of TellsNothing) (with_faults 1 (world_of TellsNothing))
one_rise = let rose : 1 ≤ 1 = omega arith in inr rose

pub no_rise : StoreRoseBy 1 (world_of TellsNothing) (world_of TellsNothing) → ⊥
no_rise = ⊎_elim (λ last. let e : 18446744073709551615 ≤ 0 = last.2 in omega arith) (λ rose. let e : 1 ≤ 0 = rose in omega arith)

-- no site of the small world has its last count
pub not_last : (b : Bool) → 18446744073709551615 ≤ cond b 1 0 → ⊥
not_last true e = let f : 18446744073709551615 ≤ 1 = e in omega arith
not_last false e = let f : 18446744073709551615 ≤ 0 = e in omega arith

pub not_two : StoreRoseBy 2 (world_of TellsNothing) (with_faults 1 (world_of TellsNothing)) → ⊥
not_two = ⊎_elim (λ last. not_last (last.0 == 1) last.2) (λ rose. let e : 2 ≤ 1 = rose in omega arith)
