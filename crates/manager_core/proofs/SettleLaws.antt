-- One committed operation after another is settled.
use Rattle.std.proofs.Common.{◌≡◌, ◌⊎◌, ⊎_elim, inl, inr, ℕ, ◌+◌, ◌<◌, ◌≤◌, refl, sym, ap, ◌∙◌, subst, arith, Some, None}
use Rattle.std.specs.Prelude.{Result, IsOk}
use Rattle.std.proofs.lemmas.Bool.{cases_lt}
use Rattle.cell_world.specs.Outside.{Outside, IfContents, IsLater}
use Rattle.cell_world.specs.declared.operations.Op.{Op}
use Rattle.cell_world.specs.declared.operations.StageName.{StageName}
use Rattle.cell_world.specs.declared.operations.StageName.TheVariants.{Committed}
use Rattle.cell_world.proofs.OutsideLaws.{later_then, later_same}
use Rattle.global_tables.specs.declared.faults.StepFault.{StepFault}
use Rattle.op_steps.specs.Advancing.{Advances}
use Rattle.op_steps.specs.Passing.{Passes, FailsByMemory}
use Rattle.op_steps.specs.declared.stages.Stage.{Stage}
use Rattle.session_laws.specs.Core.{SameGoing}
use Rattle.session_laws.specs.Doing.{Doing, Resting, Working, Operating, AllDoing, live_of, going_of, IsThen}
use Rattle.session_laws.proofs.SessionLaws.{this_or_other}
use Rattle.operation_laws.specs.Left.{left_of, without_left}
use Rattle.operation_laws.proofs.CoreCourses.{same_doing}
use Rattle.manager_core.specs.Coming.{IsTidied, SettleStep, SettleSteps}
use Rattle.manager_core.specs.Cores.{Waits}
use Rattle.manager_core.specs.Steady.{AreSteady, Becomes, IsSettledOp}
use Rattle.manager_core.proofs.Steadiness.{becomes_same, becomes_then}
use Rattle.manager_core.proofs.TidyLaws.{tidied_none, tidied_then, tidied_weaker}
use Rattle.manager_core.proofs.Waiting.{waits_same, waits_then}

-- the call went on from a stage of this name
pub from_stage : (op : Op) (name : StageName) (result : Result Stage StepFault) (old new : Outside) → name ≡ Committed → Passes (Advances op name (IsOk result) (FailsByMemory result)) old new → Passes (Advances op Committed (IsOk result) (FailsByMemory result)) old new
from_stage op name result old new is = subst (λ n. Passes (Advances op n (IsOk result) (FailsByMemory result)) old new) is

pub same_op : (a b : Op) → Some a ≡ Some b → a ≡ b
same_op a b is = cc

-- ---- a session with nothing left

nothing_to_leave : (d : Doing) → left_of d ≡ None → without_left d ≡ d
nothing_to_leave (Resting left) is = ap Resting (sym is)
nothing_to_leave (Working command left) is = ap (Working command) (sym is)
nothing_to_leave (Operating command op stage) is = refl

pub same_as_before : (before next : AllDoing) (session : ℕ) → left_of (before session) ≡ None → IsThen before session (without_left (before session)) next → next ≡ before
same_as_before before next session none then = λ i session'. at session' i
  where
    at : (t : ℕ) → next t ≡ before t
    at t = ⊎_elim
        (λ same. ap next (sym same) ∙ then.here ∙ nothing_to_leave (before session) none ∙ ap before same)
        (λ other. then.others t other)
        (this_or_other before session (without_left (before session)) next then t)

pub becomes_alike : (a b : Outside) (before next : AllDoing) → next ≡ before → b.told ≡ a.told → Becomes a b before next
becomes_alike a b before next is same = subst (Becomes a b before) (sym is) (becomes_same a b before same)

pub waits_alike : (a b : Outside) (before next : AllDoing) → next ≡ before → b.told ≡ a.told → Waits a b before next
waits_alike a b before next is same = subst (Waits a b before) (sym is) (waits_same a b before same)

pub nothing_left_then : (d : Doing) → left_of (without_left d) ≡ None
nothing_left_then (Resting left) = refl
nothing_left_then (Working command left) = refl
nothing_left_then (Operating command op stage) = refl

-- ---- what goes on stays

going_stays : (d : Doing) → going_of (without_left d) ≡ going_of d
going_stays (Resting left) = refl
going_stays (Working command left) = refl
going_stays (Operating command op stage) = refl

live_stays : (d : Doing) → live_of (without_left d) ≡ live_of d
live_stays (Resting left) = refl
live_stays (Working command left) = refl
live_stays (Operating command op stage) = refl

pub still_going : (before : AllDoing) (session : ℕ) (next : AllDoing) → IsThen before session (without_left (before session)) next → SameGoing before next
still_going before session next then = record { going = going; live = λ t l is. (l, sym (live t) ∙ is, refl, refl) }
  where
    going : (t : ℕ) → going_of (next t) ≡ going_of (before t)
    going t = ⊎_elim
        (λ same. ap (λ i. going_of (next i)) (sym same) ∙ ap going_of then.here ∙ going_stays (before session) ∙ ap (λ i. going_of (before i)) same)
        (λ other. ap going_of (then.others t other))
        (this_or_other before session (without_left (before session)) next then t)

    live : (t : ℕ) → live_of (next t) ≡ live_of (before t)
    live t = ⊎_elim
        (λ same. ap (λ i. live_of (next i)) (sym same) ∙ ap live_of then.here ∙ live_stays (before session) ∙ ap (λ i. live_of (before i)) same)
        (λ other. ap live_of (then.others t other))
        (this_or_other before session (without_left (before session)) next then t)

pub going_then : (a b c : AllDoing) → SameGoing a b → SameGoing b c → SameGoing a c
going_then a b c first second = record {
  going = λ t. second.going t ∙ first.going t;
  live = λ t l is. let m = second.live t l is in let k = first.live t m.0 m.1 in (k.0, k.1, k.2 ∙ m.2, k.3 ∙ m.3);
}

-- ---- one session after another

-- what the sessions up to this one had left is settled
pub record SettledSo (old now : Outside) (before doing : AllDoing) (count : ℕ) : Type 0 where
  pub becomes : Becomes old now before doing
  pub waits : Waits old now before doing
  pub going : SameGoing before doing
  pub tidied : AreSteady before old → IsTidied (SettleSteps before) old.told now.told
  pub later : IsLater old now
  pub none : (session : ℕ) → 1 ≤ session → session ≤ count → left_of (doing session) ≡ None
  pub same : (session : ℕ) → count < session → doing session ≡ before session
  pub settled : AreSteady before old → (session : ℕ) (op : Op) → 1 ≤ session → session ≤ count → left_of (before session) ≡ Some op → IfContents now.told (IsSettledOp op)

pub settled_none : (old : Outside) (before : AllDoing) → SettledSo old old before before 0
settled_none old before = record {
  becomes = becomes_same old old before refl;
  waits = waits_same old old before refl;
  going = same_doing before;
  tidied = λ steady. tidied_none (SettleSteps before) old.told old.told refl;
  later = later_same old;
  none = λ session from to. absurd (omega (arith, from, to));
  same = λ session past. refl;
  settled = λ steady session op from to. absurd (omega (arith, from, to));
}

-- and one more settles what it has left
pub tidied_more : (old now new : Outside) (before doing : AllDoing) (count : ℕ) → ((session : ℕ) → count < session → doing session ≡ before session) → (AreSteady before old → IsTidied (SettleSteps before) old.told now.told)
    → (AreSteady doing now → IsTidied (SettleStep (doing (count + 1))) now.told new.told) → Becomes old now before doing → AreSteady before old → IsTidied (SettleSteps before) old.told new.told
tidied_more old now new before doing count same first second becomes steady = tidied_then (SettleSteps before) old.told now.told new.told (first steady)
    (tidied_weaker (SettleStep (doing (count + 1))) (SettleSteps before) (λ image place change step. (count + 1, subst (λ d. SettleStep d image place change) (same (count + 1) (omega arith)) step)) now.told new.told (second (becomes.steady steady)))

pub settled_next : (old now new : Outside) (before doing next : AllDoing) (count : ℕ) → SettledSo old now before doing count → Becomes now new doing next → Waits now new doing next → SameGoing doing next → (AreSteady doing now → IsTidied (SettleStep (doing (count + 1))) now.told new.told)
    → IsLater now new → IsThen doing (count + 1) (without_left (doing (count + 1))) next → ((op : Op) → left_of (doing (count + 1)) ≡ Some op → AreSteady doing now → IfContents new.told (IsSettledOp op)) → SettledSo old new before next (count + 1)
settled_next old now new before doing next count s becomes waits going tidied later then settled = record {
  becomes = becomes_then old now new before doing next s.becomes becomes;
  waits = waits_then old now new before doing next s.becomes s.waits waits;
  going = going_then before doing next s.going going;
  tidied = λ steady. tidied_more old now new before doing count s.same s.tidied tidied s.becomes steady;
  later = later_then old now new s.later later;
  none = none;
  same = λ session past. then.others session (λ here. omega (arith, here, past)) ∙ s.same session (omega (arith, past));
  settled = settled_so;
}
  where
    last : (session : ℕ) → session ≤ count + 1 → (session < count + 1) ⊎ (count + 1 ≡ session)
    last session to = ⊎_elim (λ below. inl below) (λ past. inr (omega (arith, to, past))) (cases_lt session (count + 1))

    none : (session : ℕ) → 1 ≤ session → session ≤ count + 1 → left_of (next session) ≡ None
    none session from to = ⊎_elim
        (λ below. ap left_of (then.others session (λ here. omega (arith, here, below))) ∙ s.none session from (omega (arith, below)))
        (λ here. ap (λ t. left_of (next t)) (sym here) ∙ ap left_of then.here ∙ nothing_left_then (doing (count + 1)))
        (last session to)

    settled_so : AreSteady before old → (session : ℕ) (op : Op) → 1 ≤ session → session ≤ count + 1 → left_of (before session) ≡ Some op → IfContents new.told (IsSettledOp op)
    settled_so steady session op from to is = ⊎_elim
        (λ below. becomes.settled (s.becomes.steady steady) op (s.settled steady session op from (omega (arith, below)) is))
        (λ here. settled op (ap left_of (s.same (count + 1) (omega arith)) ∙ ap (λ t. left_of (before t)) here ∙ is) (s.becomes.steady steady))
        (last session to)
