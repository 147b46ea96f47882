-- What an entry says of the states and of the trail, where it ends a command that is one operation.
use Rattle.std.proofs.Common.{◌≡◌, ◌⊎◌, ℕ, ◌+◌, refl, sym, ap, ◌∙◌, subst, Some, None, List, length}
use Rattle.cell_world.specs.Images.{Image, Happening, after_all}
use Rattle.cell_world.specs.Plain.{PlainState, Connections, Held, with_connections}
use Rattle.cell_world.specs.Marked.{committed_image}
use Rattle.cell_world.specs.Meaning.{meaning}
use Rattle.cell_world.specs.declared.operations.Op.{Op}
use Rattle.plain_model.specs.declared.commands.Command.{Command}
use Rattle.plain_model.specs.declared.commands.Command.TheVariants as command
use Rattle.plain_model.specs.declared.replies.Reply.TheVariants as reply
use Rattle.plain_model.specs.declared.history.Entry.{Entry}
use Rattle.plain_model.specs.Steps.{plain_step}
use Rattle.plain_model.specs.JobSteps.{asked_job}
use Rattle.plain_model.specs.Follows.{Follows, FollowsFault, FollowsMemory}
use Rattle.plain_model.specs.OnTrail.{OnTrail, HoldsThen, FaultOnTrail}
use Rattle.plain_model.specs.Timelines.{Timeline, Past, image_of, facts_of, happened_of, past_of}
use Rattle.plain_model.specs.Legal.{IsPlanned}
use Rattle.session_laws.specs.Core.{Answers}
use Rattle.operation_laws.specs.Courses.{happened_on}
use Rattle.operation_laws.specs.Entries.{EndsNone, IsOneOperation, FollowsAtCommit}
use Rattle.operation_laws.proofs.Timelines.{image_on, facts_on}

-- ---- by commands

pub one_of_none : (c : Command) → EndsNone c → IsOneOperation c
one_of_none (command.Add name low high location) e = tt
one_of_none (command.Addpoint name key location) e = tt
one_of_none (command.Delete name key token) e = tt
one_of_none (command.Online name key token) e = tt
one_of_none (command.Move name key location token) e = tt
one_of_none (command.Split name key token) e = tt
one_of_none (command.Merge name key token) e = tt
one_of_none other e = absurd e

-- it asks for no job
no_job : (s : PlainState) (c : Command) → IsOneOperation c → asked_job s c ≡ None
no_job s (command.Offline name key token) o = refl
no_job s (command.Add name low high location) o = refl
no_job s (command.Addpoint name key location) o = refl
no_job s (command.Delete name key token) o = refl
no_job s (command.Online name key token) o = refl
no_job s (command.Move name key location token) o = refl
no_job s (command.Split name key token) o = refl
no_job s (command.Merge name key token) o = refl
no_job s other o = absurd o

-- and moves no site
holds_then : (start : Image) (p : Timeline) (A B : PlainState) (c : Command) → IsOneOperation c → HoldsThen start p A B c
holds_then start p A B (command.Offline name key token) o = tt
holds_then start p A B (command.Add name low high location) o = tt
holds_then start p A B (command.Addpoint name key location) o = tt
holds_then start p A B (command.Delete name key token) o = tt
holds_then start p A B (command.Online name key token) o = tt
holds_then start p A B (command.Move name key location token) o = tt
holds_then start p A B (command.Split name key token) o = tt
holds_then start p A B (command.Merge name key token) o = tt
holds_then start p A B other o = absurd o

fault_follows : (A B : PlainState) (e : Entry) (c : Command) → EndsNone c → (B ≡ A) ⊎ ((held : Held) × (B ≡ (plain_step held A e.session c).0)) → FollowsFault A B e c None
fault_follows A B e (command.Add name low high location) n h = h
fault_follows A B e (command.Addpoint name key location) n h = h
fault_follows A B e (command.Delete name key token) n h = h
fault_follows A B e (command.Online name key token) n h = h
fault_follows A B e (command.Move name key location token) n h = h
fault_follows A B e (command.Split name key token) n h = h
fault_follows A B e (command.Merge name key token) n h = h
fault_follows A B e other n h = absurd n

fault_told : (start : Image) (p : Timeline) (e : Entry) (A B : PlainState) (c : Command) → EndsNone c → FaultOnTrail start p e A B c None
fault_told start p e A B (command.Add name low high location) n = tt
fault_told start p e A B (command.Addpoint name key location) n = tt
fault_told start p e A B (command.Delete name key token) n = tt
fault_told start p e A B (command.Online name key token) n = tt
fault_told start p e A B (command.Move name key location token) n = tt
fault_told start p e A B (command.Split name key token) n = tt
fault_told start p e A B (command.Merge name key token) n = tt
fault_told start p e A B other n = absurd n

memory_follows : (A B : PlainState) (c : Command) → IsOneOperation c → B ≡ A → FollowsMemory c A B
memory_follows A B (command.Offline name key token) o h = h
memory_follows A B (command.Add name low high location) o h = h
memory_follows A B (command.Addpoint name key location) o h = h
memory_follows A B (command.Delete name key token) o h = h
memory_follows A B (command.Online name key token) o h = h
memory_follows A B (command.Move name key location token) o h = h
memory_follows A B (command.Split name key token) o h = h
memory_follows A B (command.Merge name key token) o h = h
memory_follows A B other o h = absurd o

-- ---- of states

module _ (past : Past) (A B : PlainState) (e : Entry) where
  pub follows_ok : (held : Held) → plain_step held A e.session e.command ≡ (B, reply.Ok) → e.reply ≡ Some reply.Ok → Follows past A e B e.reply
  follows_ok held step is = subst (Follows past A e B) (sym is) (record { held = held; step = step })

  pub follows_fault : EndsNone e.command → (B ≡ A) ⊎ ((held : Held) × (B ≡ (plain_step held A e.session e.command).0)) → e.reply ≡ Some reply.Fault → Follows past A e B e.reply
  follows_fault none either is = subst (Follows past A e B) (sym is) (subst (FollowsFault A B e e.command) (sym (no_job A e.command (one_of_none e.command none))) (fault_follows A B e e.command none either))

  pub follows_memory : IsOneOperation e.command → B ≡ A → e.reply ≡ Some reply.Memory → Follows past A e B e.reply
  follows_memory one same is = subst (Follows past A e B) (sym is) (memory_follows A B e.command one same)

-- at the commit the plain step leads to the new state
pub at_commit : (session : ℕ) (c : Command) (image last : Image) (op : Op) (before after : Connections) (f : FollowsAtCommit session c image op before after) → last ≡ committed_image image op
    → plain_step f.held (with_connections (meaning image) before) session c ≡ (with_connections (meaning last) after, reply.Ok)
at_commit session c image last op before after f made = f.step ∙ ap (λ i. (with_connections (meaning i) after, reply.Ok)) (sym made)

-- ---- and of the trail

module _ (since : ℕ) (start : Image) (past : Timeline) (exact : meaning (image_of start past) ≡ facts_of start past) (hs : List Happening) (e : Entry) (before after : Connections) (moment : e.moment ≡ since + length (happened_of (happened_on past hs))) where
  abbrev p : Timeline
  p = happened_on past hs

  abbrev A : PlainState
  A = with_connections (meaning (image_of start past)) before

  abbrev B : PlainState
  B = with_connections (meaning (after_all (image_of start past) hs)) after

  abbrev A_p : PlainState
  A_p = with_connections (facts_of start p) before

  abbrev B_p : PlainState
  B_p = with_connections (meaning (image_of start p)) after

  a_is : A ≡ A_p
  a_is = ap (λ s. with_connections s before) (exact ∙ sym (facts_on start past hs))

  b_is : B ≡ B_p
  b_is = ap (λ i. with_connections (meaning i) after) (sym (image_on start past hs))

  -- what is said of the states is said of those of the timeline
  there : Follows (past_of start p) A e B e.reply → Follows (past_of start p) A_p e B_p e.reply
  there f = subst (λ s. Follows (past_of start p) A_p e s e.reply) b_is (subst (λ s. Follows (past_of start p) s e B e.reply) a_is f)

  planned : IsOneOperation e.command → IsPlanned start p A_p e B_p (asked_job (facts_of start p) e.command)
  planned one = subst (IsPlanned start p A_p e B_p) (sym (no_job (facts_of start p) e.command one)) tt

  pub answers_ok : IsOneOperation e.command → e.reply ≡ Some reply.Ok → Follows (past_of start p) A e B e.reply → Answers since start p e before after
  answers_ok one is follows = record {
    moment = moment;
    follows = there follows;
    on_trail = subst (OnTrail start p A_p e B_p) (sym is) (holds_then start p A_p B_p e.command one);
    planned = planned one;
  }

  pub answers_fault : EndsNone e.command → e.reply ≡ Some reply.Fault → Follows (past_of start p) A e B e.reply → Answers since start p e before after
  answers_fault none is follows = record {
    moment = moment;
    follows = there follows;
    on_trail = subst (OnTrail start p A_p e B_p) (sym is) (subst (FaultOnTrail start p e A_p B_p e.command) (sym (no_job A_p e.command (one_of_none e.command none))) (fault_told start p e A_p B_p e.command none));
    planned = planned (one_of_none e.command none);
  }

  pub answers_memory : IsOneOperation e.command → e.reply ≡ Some reply.Memory → Follows (past_of start p) A e B e.reply → Answers since start p e before after
  answers_memory one is follows = record {
    moment = moment;
    follows = there follows;
    on_trail = subst (OnTrail start p A_p e B_p) (sym is) tt;
    planned = planned one;
  }
