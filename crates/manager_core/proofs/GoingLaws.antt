-- A command that is going goes on: its session has it live at a later stage, or its entry comes next.
use Rattle.std.proofs.Common.{◌≡◌, ℕ, true, refl, sym, ◌∙◌, subst, Some, None}
use Rattle.std.specs.Prelude.{Err}
use Rattle.cell_world.specs.Outside.{Outside, StoreRoseBy}
use Rattle.cell_world.specs.declared.operations.Op.{Op}
use Rattle.cell_world.specs.declared.operations.StageName.{StageName}
use Rattle.cell_world.specs.declared.operations.StageName.TheVariants.{Committed}
use Rattle.global_tables.specs.Known.{Known}
use Rattle.global_tables.specs.declared.faults.StepFault.TheVariants as fault
use Rattle.map_ops.specs.Planning.{is_long}
use Rattle.plain_model.specs.declared.commands.Command.{Command}
use Rattle.plain_model.specs.declared.replies.Reply.{Reply}
use Rattle.plain_model.specs.declared.replies.Reply.TheVariants as reply
use Rattle.op_steps.specs.Stages.{name_of}
use Rattle.op_steps.specs.declared.stages.Stage.{Stage}
use Rattle.op_steps.proofs.PassedStages.{nothing_tried}
use Rattle.session_laws.specs.Doing.{AllDoing, Doing, IsThen, Operating, Resting, Working}
use Rattle.operation_laws.specs.Forward.{IsForward}
use Rattle.manager_core.specs.declared.answers.Answer.{Answer}
use Rattle.manager_core.specs.declared.coming.Came.{Came}
use Rattle.manager_core.specs.declared.coming.Came.TheVariants.{Ended, Going}
use Rattle.manager_core.specs.declared.moving.Moved.TheVariants as moved
use Rattle.manager_core.specs.Coming.{ComesOfGoing, GoesOn, HappensGoing, IsEndOfGoing, left_after}
use Rattle.manager_core.specs.Moving.{GoesFrom, IsOnward, MovesOn, MovesOnce}
use Rattle.manager_core.specs.Steady.{AreSteady, Ends}
use Rattle.manager_core.proofs.MovingLaws.{memory_moves, then_then}

-- ---- what the session does is proper

-- some session may have it going
pub on_forward : (c : Command) (op : Op) (name : StageName) (next : Stage) (old new : Outside) → is_long c ≡ true → MovesOn op name (moved.On next) old new → IsForward (name_of next)
on_forward c op name next old new long moves = (moves 0 c (λ session. Operating c op name) long refl).0

pub done_committed : (c : Command) (op : Op) (name : StageName) (next : Stage) (old new : Outside) → is_long c ≡ true → MovesOn op name (moved.Done next) old new → name_of next ≡ Committed
done_committed c op name next old new long moves = (moves 0 c (λ session. Operating c op name) long refl).0

-- ---- what becomes of it

module _ (session : ℕ) (c : Command) (op : Op) (name : StageName) (long : is_long c ≡ true) (old new : Outside) where
  -- it goes on
  pub goes_to : (next : Stage) (rests after : AllDoing) → IsOnward name (moved.On next) → MovesOn op name (moved.On next) old new → MovesOnce op name (moved.On next) old new
      → IsThen rests session (Operating c op (name_of next)) after → GoesFrom session c op name (Going op.number) rests after old new
  goes_to next rests after onward moves once then before is first known = record {
    becomes = let gone = then_then before session (Resting None) (Operating c op (name_of next)) rests after first then in (refl, (name_of next, onward, gone), (moves session c before long is).1 after gone);
    happens = λ steady. once session c before long is steady;
  }

  -- it ends with this reply
  abbrev EndsWith : Reply → Known → AllDoing → AllDoing → Type 0
  EndsWith r known before after = IsEndOfGoing r × IsThen before session (Resting (left_after r op)) after × Ends session c r op.number known known old new before after × (r ≡ reply.Fault → StoreRoseBy 1 old new)

  ends_with : (answer : Answer) (r : Reply) → answer.reply ≡ r → (known : Known) (before after : AllDoing) → EndsWith r known before after → (AreSteady before old → HappensGoing op (Some r) old.told new.told)
      → ComesOfGoing session c op name (Ended c answer op.number) known before after old new
  ends_with answer r is known before after ends happens = record {
    becomes = let e = subst (λ x. EndsWith x known before after) (sym is) ends in (refl, refl, e.0, e.1, e.2, e.3);
    happens = λ steady. subst (λ x. HappensGoing op (Some x) old.told new.told) (sym is) (happens steady);
  }

  pub goes_done : (answer : Answer) → answer.reply ≡ reply.Ok → (next : Stage) (rests after : AllDoing) → MovesOn op name (moved.Done next) old new → MovesOnce op name (moved.Done next) old new
      → IsThen rests session (Resting (Some op)) after → GoesFrom session c op name (Ended c answer op.number) rests after old new
  goes_done answer ok next rests after moves once then before is first known =
      let gone = then_then before session (Resting None) (Resting (Some op)) rests after first then in
      ends_with answer reply.Ok ok known before after (tt, gone, (moves session c before long is).1 known after gone, λ e. absurd cc) (λ steady. once session c before long is steady)

  pub goes_faulty : (answer : Answer) → answer.reply ≡ reply.Fault → (rests : AllDoing) → MovesOn op name moved.Store old new → MovesOnce op name moved.Store old new → StoreRoseBy 1 old new
      → GoesFrom session c op name (Ended c answer op.number) rests rests old new
  goes_faulty answer faulty rests moves once cause before is first known =
      ends_with answer reply.Fault faulty known before rests (tt, first, moves session c before long is known rests first, λ e. cause) (λ steady. once session c before long is steady)

  pub goes_short : (answer : Answer) → answer.reply ≡ reply.Memory → (rests : AllDoing) → MovesOn op name moved.Memory old new → MovesOnce op name moved.Memory old new
      → GoesFrom session c op name (Ended c answer op.number) rests rests old new
  goes_short answer short rests moves once before is first known =
      ends_with answer reply.Memory short known before rests (tt, first, moves session c before long is known rests first, λ e. absurd cc) (λ steady. once session c before long is steady)

-- before any transaction
pub goes_nowhere : (session : ℕ) (c : Command) (op : Op) (name : StageName) → is_long c ≡ true → IsForward name → (here : Outside) (answer : Answer) → answer.reply ≡ reply.Memory → (rests : AllDoing)
    → GoesFrom session c op name (Ended c answer op.number) rests rests here here
goes_nowhere session c op name long forward here answer short rests =
    goes_short session c op name long here here answer short rests (memory_moves here here op name (Err fault.Memory) (nothing_tried op name here) forward tt) (λ s d before is at steady. refl)

-- ---- whatever the session has going

abbrev OfGoing : ℕ → Came → Known → AllDoing → AllDoing → Outside → Outside → Doing → Type 0
OfGoing session came known before after old new (Resting left) = Unit {0}
OfGoing session came known before after old new (Working c left) = Unit {0}
OfGoing session came known before after old new (Operating c op name) = ComesOfGoing session c op name came known before after old new

pub goes_on : (session : ℕ) (c : Command) (op : Op) (name : StageName) (came : Came) (before rests after : AllDoing) (old new : Outside) → Operating c op name ≡ before session → IsThen before session (Resting None) rests
    → GoesFrom session c op name came rests after old new → GoesOn session came before after old new
goes_on session c op name came before rests after old new is first goes d o n at known = subst (OfGoing session came known before after old new) (is ∙ at) (goes before (sym is) first known)
