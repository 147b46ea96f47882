-- The entry of a command by a connection follows by what the plain step says.
use Rattle.std.proofs.Common.{◌≡◌, ◌⊎◌, inl, inr, ℕ, ◌+◌, true, false, refl, sym, ap, subst, Some, None, [], length}
use Rattle.cell_world.specs.Images.{Image}
use Rattle.cell_world.specs.Plain.{PlainState, Connections, holds_nothing, with_connections}
use Rattle.plain_model.specs.declared.commands.Command.{Command}
use Rattle.plain_model.specs.declared.commands.Command.TheVariants as command
use Rattle.plain_model.specs.declared.history.Entry.{Entry}
use Rattle.plain_model.specs.declared.replies.Reply.{Reply}
use Rattle.plain_model.specs.declared.replies.Reply.TheVariants as reply
use Rattle.plain_model.specs.declared.replies.Refusal.{Refusal}
use Rattle.plain_model.specs.declared.replies.Refusal.TheVariants as refused
use Rattle.plain_model.specs.Refusing.{refusal}
use Rattle.plain_model.specs.Steps.{plain_step, refused_or_done}
use Rattle.plain_model.specs.JobSteps.{asked_number, asked_job}
use Rattle.plain_model.specs.Timelines.{Timeline, Past, image_of, facts_of, happened_of, past_of}
use Rattle.plain_model.specs.Follows.{Follows, FollowsPlainly, FollowsFault, FollowsMemory}
use Rattle.plain_model.specs.OnTrail.{OnTrail, HoldsThen, FaultOnTrail}
use Rattle.plain_model.specs.Legal.{AllGoing, IsPlanned, Promises, is_job_running}
use Rattle.plain_model.specs.ShortCommands.{is_short_refusal, short_entry, standing_with, FollowsShort}
use Rattle.session_laws.specs.Core.{Answers}
use Rattle.connection_laws.specs.Keeping.{is_by_connection}
use Rattle.row_laws.specs.Replies.{is_row_answer, is_row_reply}

-- no job is asked for
pub none_asked : (c : Command) → is_by_connection c ≡ true → asked_number c ≡ None
none_asked (command.Step number) by_it = absurd cc
none_asked (command.Run number) by_it = absurd cc
none_asked c by_it = refl

module _ (session : ℕ) (c : Command) (by_it : is_by_connection c ≡ true) (A B : PlainState) where
  -- ---- it is done

  holds_then : (c : Command) → is_by_connection c ≡ true → (start : Image) (past : Timeline) → HoldsThen start past A B c
  holds_then (command.Detach location) by_it start past = absurd cc
  holds_then (command.Attach location) by_it start past = absurd cc
  holds_then c by_it start past = tt

  plainly : (r : Reply) (moment : ℕ) → plain_step holds_nothing A session c ≡ (B, r) → FollowsPlainly A B (short_entry session c r moment) r
  plainly r moment step = record { held = holds_nothing; step = step }

  answer_follows : (r : Reply) → is_row_answer r ≡ true → plain_step holds_nothing A session c ≡ (B, r) → (past : Past) (moment : ℕ) → Follows past A (short_entry session c r moment) B (Some r)
  answer_follows reply.Ok is step past moment = plainly reply.Ok moment step
  answer_follows (reply.At location) is step past moment = plainly (reply.At location) moment step
  answer_follows (reply.Row bytes) is step past moment = plainly (reply.Row bytes) moment step
  answer_follows r is step past moment = absurd cc

  answer_on_trail : (r : Reply) → is_row_answer r ≡ true → (start : Image) (past : Timeline) (moment : ℕ) → OnTrail start past A (short_entry session c r moment) B (Some r)
  answer_on_trail reply.Ok is start past moment = holds_then c by_it start past
  answer_on_trail (reply.At location) is start past moment = tt
  answer_on_trail (reply.Row bytes) is start past moment = tt
  answer_on_trail r is start past moment = absurd cc

  pub done_follows : (r : Reply) → is_row_answer r ≡ true → plain_step holds_nothing A session c ≡ (B, r) → FollowsShort session c A B r
  done_follows r is step = record { follows = answer_follows r is step; on_trail = answer_on_trail r is }

  -- ---- a call failed: the old state, or that after the command

  fault_states : (c : Command) → is_by_connection c ≡ true → (e : Entry) → (B ≡ A) ⊎ (B ≡ (plain_step holds_nothing A e.session c).0) → FollowsFault A B e c None
  fault_states (command.Offline name key token) by_it e state = absurd cc
  fault_states (command.Attach location) by_it e state = absurd cc
  fault_states (command.Clear location) by_it e state = absurd cc
  fault_states (command.Detach location) by_it e state = absurd cc
  fault_states c by_it e (inl same) = inl same
  fault_states c by_it e (inr made) = inr (holds_nothing, made)

  fault_on_trail : (c : Command) → is_by_connection c ≡ true → (start : Image) (past : Timeline) (e : Entry) → FaultOnTrail start past e A B c None
  fault_on_trail (command.Offline name key token) by_it start past e = absurd cc
  fault_on_trail (command.Attach location) by_it start past e = absurd cc
  fault_on_trail c by_it start past e = tt

  no_job : asked_job A c ≡ None
  no_job = let none = none_asked c by_it in cc

  pub fault_follows : (B ≡ A) ⊎ (B ≡ (plain_step holds_nothing A session c).0) → FollowsShort session c A B reply.Fault
  fault_follows state = record {
    follows = λ past moment. subst (FollowsFault A B (short_entry session c reply.Fault moment) c) (sym no_job) (fault_states c by_it (short_entry session c reply.Fault moment) state);
    on_trail = λ start past moment. subst (FaultOnTrail start past (short_entry session c reply.Fault moment) A B c) (sym no_job) (fault_on_trail c by_it start past (short_entry session c reply.Fault moment));
  }

module _ (session : ℕ) (c : Command) (by_it : is_by_connection c ≡ true) (A : PlainState) where
  pub unmade_follows : FollowsShort session c A A reply.Fault
  unmade_follows = fault_follows session c by_it A A (inl refl)

  pub made_follows : (B : PlainState) (r : Reply) → plain_step holds_nothing A session c ≡ (B, r) → FollowsShort session c A B reply.Fault
  made_follows B r step = fault_follows session c by_it A B (inr (sym (ap (λ (s : PlainState × Reply). s.0) step)))

  -- ---- want of memory

  same_state : (c : Command) → is_by_connection c ≡ true → FollowsMemory c A A
  same_state (command.Attach location) by_it = absurd cc
  same_state (command.Clear location) by_it = absurd cc
  same_state c by_it = refl

  pub memory_follows : FollowsShort session c A A reply.Memory
  memory_follows = record { follows = λ past moment. same_state c by_it; on_trail = λ start past moment. tt }

  -- ---- it is refused

  refused_plainly : (r : Refusal) (moment : ℕ) → refusal A session c ≡ Some r → FollowsPlainly A A (short_entry session c (reply.Refused r) moment) (reply.Refused r)
  refused_plainly r moment is = record { held = holds_nothing; step = ap (refused_or_done holds_nothing A session c) is }

  refusal_states : (r : Refusal) → is_short_refusal r ≡ true → refusal A session c ≡ Some r → (past : Past) (moment : ℕ) → Follows past A (short_entry session c (reply.Refused r) moment) A (Some (reply.Refused r))
  refusal_states refused.JobRunning word is past moment = absurd cc
  refusal_states refused.Full word is past moment = inl (refused_plainly refused.Full moment is)
  refusal_states r word is past moment = refused_plainly r moment is

  refusal_on_trail : (r : Refusal) → refusal A session c ≡ Some r → (start : Image) (past : Timeline) (moment : ℕ) → OnTrail start past A (short_entry session c (reply.Refused r) moment) A (Some (reply.Refused r))
  refusal_on_trail refused.Full is start past moment = inl is
  refusal_on_trail r is start past moment = tt

  pub refused_follows : (r : Refusal) → is_short_refusal r ≡ true → refusal A session c ≡ Some r → FollowsShort session c A A (reply.Refused r)
  refused_follows r word is = record { follows = refusal_states r word is; on_trail = refusal_on_trail r is }

-- ---- what its reply says of other sessions: nothing

pub promises_none : (r : Reply) → is_row_reply r ≡ true → (going : AllGoing) (e : Entry) → Promises going e [] (Some r)
promises_none (reply.Refused refused.JobRunning) word going e = absurd cc
promises_none (reply.Pending number) word going e = absurd cc
promises_none r word going e = tt

pub pending_none : (r : Reply) → is_row_reply r ≡ true → Some r ≡ Some (reply.Pending 0) → ⊥
pending_none (reply.Pending number) word same = absurd cc
pending_none r word same = absurd cc

pub runs_none : (r : Reply) → is_row_reply r ≡ true → is_job_running (Some r) ≡ false
runs_none (reply.Refused refused.JobRunning) word = absurd cc
runs_none (reply.Refused r) word = refl
runs_none r word = refl

-- ---- what the entry brings of its own to the core

-- The entry comes now, and follows from the state after the latest entry.
pub answers_short : (session : ℕ) (c : Command) → is_by_connection c ≡ true → (r : Reply) (moment t0 : ℕ) (start : Image) (past : Timeline) (connected still : Connections)
    → FollowsShort session c (with_connections (facts_of start past) connected) (standing_with (image_of start past) still) r → moment ≡ t0 + length (happened_of past)
    → Answers t0 start past (short_entry session c r moment) connected still
answers_short session c by_it r moment t0 start past connected still follows now = record {
  moment = now;
  follows = follows.follows (past_of start past) moment;
  on_trail = follows.on_trail start past moment;
  planned = subst (IsPlanned start past (with_connections (facts_of start past) connected) (short_entry session c r moment) (standing_with (image_of start past) still)) (sym (no_job_of (facts_of start past))) tt;
}
  where
    no_job_of : (s : PlainState) → asked_job s c ≡ None
    no_job_of s = let none = none_asked c by_it in cc
