-- A command that is going moves on: one step after another.
use Rattle.std.proofs.Common.{◌≡◌, ℕ, refl, sym, ap, ◌∙◌, subst, Some, None}
use Rattle.std.specs.Prelude.{Result, Err, IsOk}
use Rattle.cell_world.specs.Outside.{Outside}
use Rattle.cell_world.specs.declared.operations.Op.{Op}
use Rattle.cell_world.specs.declared.operations.StageName.{StageName}
use Rattle.cell_world.specs.declared.operations.StageName.TheVariants.{TargetDone, Committed}
use Rattle.global_tables.specs.Known.{Known}
use Rattle.global_tables.specs.declared.faults.StepFault.{StepFault}
use Rattle.global_tables.specs.declared.faults.StepFault.TheVariants as fault
use Rattle.plain_model.specs.declared.commands.Command.{Command}
use Rattle.plain_model.specs.declared.replies.Reply.{Reply}
use Rattle.plain_model.specs.Running.{text_of}
use Rattle.op_steps.specs.Advancing.{Advances}
use Rattle.op_steps.specs.Passing.{Passes, FailsByMemory}
use Rattle.op_steps.specs.Stages.{name_of, next_stage}
use Rattle.op_steps.specs.declared.stages.Stage.{Stage}
use Rattle.session_laws.specs.Doing.{Doing, Resting, Operating, AllDoing, Live, live_of, IsThen, doing_then}
use Rattle.session_laws.proofs.SessionLaws.{then_is}
use Rattle.operation_laws.specs.Forward.{IsForward, IsBeforeTarget}
use Rattle.operation_laws.specs.Leading.{with_entry}
use Rattle.manager_core.specs.Moving.{Moves, MovesOn, stopped_by}
use Rattle.manager_core.specs.Steady.{Becomes, Ends, seen_with}
use Rattle.manager_core.specs.declared.moving.Moved.{Moved}
use Rattle.manager_core.specs.declared.moving.Moved.TheVariants as moved
use Rattle.manager_core.proofs.NobodyEnds.{long_is_one}
use Rattle.manager_core.proofs.OperationCalls.{advance_becomes, done_ends, fault_ends, memory_ends}
use Rattle.manager_core.proofs.Steadiness.{leads_then}

-- a session that did another thing, and then this, did this
pub then_over : (before : AllDoing) (session : ℕ) (d e : Doing) (mid next : AllDoing) → IsThen before session d mid → IsThen before session e next → IsThen mid session e next
then_over before session d e mid next first then = record { here = then.here; others = λ other apart. then.others other apart ∙ sym (first.others other apart) }

pub then_then : (before : AllDoing) (session : ℕ) (d e : Doing) (mid next : AllDoing) → IsThen before session d mid → IsThen mid session e next → IsThen before session e next
then_then before session d e mid next first second = record { here = second.here; others = λ other apart. second.others other apart ∙ first.others other apart }

-- an entry comes after a part without one
pub ends_after : (session : ℕ) (c : Command) (r : Reply) (number : ℕ) (known fresh : Known) (a b d : Outside) (one two three : AllDoing) → Becomes a b one two → Ends session c r number known fresh b d two three → Ends session c r number known fresh a d one three
ends_after session c r number known fresh a b d one two three first second = record {
  steady = λ s k. second.steady (first.steady s) (first.copy known s k);
  settled = λ s k op is. second.settled (first.steady s) (first.copy known s k) op (first.settled s op is);
  copy = λ ok s k. second.copy ok (first.steady s) (first.copy known s k);
  leads = λ s k mode history e says now. leads_then mode a.told b.told d.told (seen_with history one) (seen_with history two) (with_entry (seen_with history one) e three) (text_of mode e)
      (first.leads s mode history) (second.leads (first.steady s) (first.copy known s k) mode history e says now);
}

becomes_after : (a b d : Outside) (one two three : AllDoing) → Becomes a b one two → Becomes b d two three → Becomes a d one three
becomes_after = Rattle.manager_core.proofs.Steadiness.becomes_then

pub moves_after : (a b d : Outside) (session : ℕ) (c : Command) (op : Op) (before mid : AllDoing) (x : Doing) → IsThen before session x mid → Becomes a b before mid → (result : Moved) → Moves session c op mid result b d → Moves session c op before result a d
moves_after a b d session c op before mid x first part (moved.On stage) m = (
  m.0,
  λ next then. becomes_after a b d before mid next part (m.1 next (then_over before session x (Operating c op (name_of stage)) mid next first then)),
)
moves_after a b d session c op before mid x first part (moved.Done stage) m = (
  m.0,
  λ known next then. ends_after session c Rattle.plain_model.specs.declared.replies.Reply.TheVariants.Ok op.number known known a b d before mid next part (m.1 known next (then_over before session x (Resting (Some op)) mid next first then)),
)
moves_after a b d session c op before mid x first part moved.Store m =
    λ known next then. ends_after session c Rattle.plain_model.specs.declared.replies.Reply.TheVariants.Fault op.number known known a b d before mid next part (m known next (then_over before session x (Resting None) mid next first then))
moves_after a b d session c op before mid x first part moved.Memory m =
    λ known next then. ends_after session c Rattle.plain_model.specs.declared.replies.Reply.TheVariants.Memory op.number known known a b d before mid next part (m known next (then_over before session x (Resting None) mid next first then))

-- ---- one step

module _ (old new : Outside) (op : Op) (name : StageName) (result : Result Stage StepFault) (passes : Passes (Advances op name (IsOk result) (FailsByMemory result)) old new) where
  abbrev live : Command → Live
  live c = record { command = c; op = op; stage = name }

  same_op : (o : Op) → Some op ≡ Some o → o ≡ op
  same_op o is = cc

  -- its commit
  pub done_moves : IsForward name → name ≡ TargetDone → IsOk result → (stage : Stage) → name_of stage ≡ Committed → MovesOn op name (moved.Done stage) old new
  done_moves forward target ok stage committed session c before long is = (
    committed,
    λ known next then. done_ends old new before session (live c) (ap live_of is) result passes (long_is_one c long) forward (Some op) next then known target ok same_op,
  )

  pub store_moves : IsForward name → MovesOn op name moved.Store old new
  store_moves forward session c before long is = λ known next then. fault_ends old new before session (live c) (ap live_of is) result passes (long_is_one c long) forward None next then known refl

  pub memory_moves : IsForward name → FailsByMemory result → MovesOn op name moved.Memory old new
  memory_moves forward fails session c before long is = λ known next then. memory_ends old new before session (live c) (ap live_of is) result passes (long_is_one c long) forward None next then known refl fails

  -- its local step
  module _ (forward : IsForward name) (early : IsBeforeTarget name) (ok : IsOk result) where
    pub on_moves : (stage : Stage) → name_of stage ≡ next_stage name → IsForward (next_stage name) → MovesOn op name (moved.On stage) old new
    on_moves stage at later session c before long is = (
      subst IsForward (sym at) later,
      λ next then. advance_becomes old new before session (live c) (ap live_of is) result passes forward early ok next (subst (λ n. IsThen before session (Operating c op n) next) at then),
    )

    -- and what comes of the next ones
    pub then_moves : (last : Outside) (moved : Moved) → MovesOn op (next_stage name) moved new last → MovesOn op name moved old last
    then_moves last moved more session c before long is =
        let next = doing_then before session (Operating c op (next_stage name)) in
        let then = then_is before session (Operating c op (next_stage name)) in
        moves_after old new last session c op before next (Operating c op (next_stage name)) then
        (advance_becomes old new before session (live c) (ap live_of is) result passes forward early ok next then) moved (more session c next long then.here)

-- it failed
abbrev failed : StepFault → Result Stage StepFault
failed f = Err f

pub stopped_moves : (old new : Outside) (op : Op) (name : StageName) → IsForward name → (f : StepFault) → Passes (Advances op name (IsOk (failed f)) (FailsByMemory (failed f))) old new → (to : Moved) → to ≡ stopped_by f → MovesOn op name to old new
stopped_moves old new op name forward fault.Store passes to is = subst (λ m. MovesOn op name m old new) (sym is) (store_moves old new op name (Err fault.Store) passes forward)
stopped_moves old new op name forward fault.Memory passes to is = subst (λ m. MovesOn op name m old new) (sym is) (memory_moves old new op name (Err fault.Memory) passes forward tt)
