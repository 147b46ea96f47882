-- Live operations of sessions in the way, and the logged ones that the steps look at.
use Rattle.std.proofs.Common.{◌≡◌, ℕ, ◌≤◌, Bool, true, false, ◌&&◌, refl, sym, ap, ◌∙◌, subst, Some, List}
use Rattle.std.specs.FinMap as map
use Rattle.cell_world.specs.Images.{Image, global}
use Rattle.cell_world.specs.Operations.{conflicts}
use Rattle.cell_world.specs.Sound.{HasLog}
use Rattle.cell_world.specs.declared.operations.Op.{Op}
use Rattle.cell_world.specs.declared.operations.Reach.{Reach}
use Rattle.op_steps.specs.Clearing as way
use Rattle.op_steps.specs.Live.{is_live}
use Rattle.operation_laws.specs.LiveNumbers.{AreTheLive}
use Rattle.session_laws.specs.Doing.{AllDoing}
use Rattle.manager_core.specs.Coming.{IsInWay, IsFirstInWay}
use Rattle.manager_core.specs.Steady.{IsSteady}

some_is : (a b : Op) → Some a ≡ Some b → a ≡ b
some_is a b is = cc

-- one number is one logged operation
one_logged : (image : Image) (a b : Op) → HasLog (global image).log a → HasLog (global image).log b → a.number ≡ b.number → a ≡ b
one_logged image a b first second same = some_is a b (sym first ∙ ap (map.get (global image).log) same ∙ second)

both_true : (a b : Bool) → a ≡ true → b ≡ true → (a && b) ≡ true
both_true a b one two = ap (λ x. x && b) one ∙ two

first_true : (a b : Bool) → (a && b) ≡ true → a ≡ true
first_true true b is = refl
first_true false b is = absurd cc

pub second_true : (a b : Bool) → (a && b) ≡ true → b ≡ true
second_true true b is = is
second_true false b is = absurd cc

no_truth : (b : Bool) → b ≡ true → b ≡ false → ⊥
no_truth b t f = cc

module _ (live : List ℕ) (before : AllDoing) (are : AreTheLive live before) (reached : Reach) (image : Image) (steady : IsSteady before image) where
  -- a session's live operation in the way is a logged one
  in_way_logged : (number : ℕ) (w : IsInWay before reached number) → HasLog (global image).log w.live.op × (way.is_in_way live reached w.live.op ≡ true)
  in_way_logged number w = (
    (steady.stand w.session w.live w.here).logged,
    both_true (conflicts reached w.live.op) (is_live live w.live.op.number) w.conflict (are.listed w.session w.live w.here),
  )

  -- and the other way round
  logged_in_way : (op : Op) → HasLog (global image).log op → way.is_in_way live reached op ≡ true → IsInWay before reached op.number
  logged_in_way op logged in_way =
      let h = are.had op.number (second_true (conflicts reached op) (is_live live op.number) in_way) in record {
        session = h.session;
        live = h.live;
        here = h.here;
        named = h.named;
        conflict = subst (λ o. conflicts reached o ≡ true) (one_logged image op h.live.op logged (steady.stand h.session h.live h.here).logged (sym h.named)) (first_true (conflicts reached op) (is_live live op.number) in_way);
      }

  -- the least of the logged ones is the first of the sessions'
  pub first_in_way : (op : Op) → way.IsLeastInWay live reached (global image).log op → IsFirstInWay before reached op.number
  first_in_way op least = record {
    in_way = logged_in_way op least.logged least.in_way;
    least = λ number w. let l = in_way_logged number w in subst (λ n. op.number ≤ n) w.named (least.least w.live.op l.0 l.1);
  }

  pub least_in_way : (number : ℕ) (first : IsFirstInWay before reached number) → way.IsLeastInWay live reached (global image).log first.in_way.live.op
  least_in_way number first = record {
    logged = (in_way_logged number first.in_way).0;
    in_way = (in_way_logged number first.in_way).1;
    least = λ other logged in_way. subst (λ n. n ≤ other.number) (sym first.in_way.named) (first.least other.number (logged_in_way other logged in_way));
  }

  -- where no logged live one is in the way no session's is
  pub none_in_way : way.NoneInWay live reached (global image).log → (number : ℕ) → IsInWay before reached number → ⊥
  none_in_way none number w = let l = in_way_logged number w in no_truth (way.is_in_way live reached w.live.op) l.1 (none w.live.op l.0)
