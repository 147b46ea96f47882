use Rattle.std.proofs.Common.{◌≡◌, ◌≤◌, arith, true, false, refl, sym, ap, ◌∙◌, subst, Some, None, ◌∷◌, []}
use Rattle.std.specs.Ordering.{nat_cmp}
use Rattle.std.proofs.lemmas.Cmp.{nat_cmp_total}
use Rattle.std.specs.FinMap as fin
use Rattle.cell_world.specs.Operations.{conflicts}
use Rattle.cell_world.specs.declared.operations.Op.{Op}
use Rattle.cell_world.specs.declared.operations.Reach.{Reach}
use Rattle.cell_world.specs.declared.operations.Reach.TheVariants as reach
use Rattle.plain_model.specs.OnTrail.{IsLeastInWay, IsLive}
use Rattle.plain_model.specs.Timelines.{Happened}
use Rattle.plain_model.specs.Worked.{small_range}
use Rattle.model_examples.specs.Values.{two_sites, add_op, tried}
use Rattle.world_examples.specs.Examples.{map_m}
use Rattle.model_examples.proofs.Operations.{reached, in_log, only_in_log}
use Rattle.model_examples.proofs.on_trail.pending_in_the_way.Goals as goal

pub returns-clause-of_one : goal.returns-clause-of_one
returns-clause-of_one c = subst (λ (r : Reach). IsLeastInWay two_sites (Happened (tried (add_op 1 5 15) true) ∷ []) r 1) (sym reached) (record {
  op = add_op 1 5 15;
  named = refl;
  live = record { logged = in_log (add_op 1 5 15); unnamed = refl };
  in_way = refl;
  least = λ other live way. let e : 1 ≡ other.number = ap (λ (op : Op). op.number) (only_in_log (add_op 1 5 15) other live.logged) in omega arith;
})

pub returns-clause-never_the_greater : goal.returns-clause-never_the_greater
returns-clause-never_the_greater c f =
    let g : IsLeastInWay two_sites (Happened (tried (add_op 2 0 5) true) ∷ Happened (tried (add_op 1 5 15) true) ∷ []) (reach.Part map_m (small_range 0 10)) 2
    = subst (λ (r : Reach). IsLeastInWay two_sites (Happened (tried (add_op 2 0 5) true) ∷ Happened (tried (add_op 1 5 15) true) ∷ []) r 2) reached f in
    let live : IsLive two_sites (Happened (tried (add_op 2 0 5) true) ∷ Happened (tried (add_op 1 5 15) true) ∷ []) (add_op 1 5 15) = record {
      logged = fin.get-insert nat_cmp_total (fin.insert fin.empty 1 (add_op 1 5 15)) 2 (add_op 2 0 5) 1 ∙ in_log (add_op 1 5 15);
      unnamed = refl;
    } in
    let e : 2 ≤ 1 = g.least (add_op 1 5 15) live refl in omega arith

pub returns-clause-never_one_beside : goal.returns-clause-never_one_beside
returns-clause-never_one_beside c f =
    let g : IsLeastInWay two_sites (Happened (tried (add_op 1 10 15) true) ∷ []) (reach.Part map_m (small_range 0 10)) 1
    = subst (λ (r : Reach). IsLeastInWay two_sites (Happened (tried (add_op 1 10 15) true) ∷ []) r 1) reached f in
    let e : false ≡ true = ap (conflicts (reach.Part map_m (small_range 0 10))) (only_in_log (add_op 1 10 15) g.op g.live.logged) ∙ g.in_way in cc

pub returns-clause-never_one_that_was_not_logged : goal.returns-clause-never_one_that_was_not_logged
returns-clause-never_one_that_was_not_logged c f = let e : None ≡ Some f.op = sym (fin.get-empty nat_cmp f.op.number) ∙ f.live.logged in cc
