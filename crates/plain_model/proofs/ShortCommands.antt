-- The entry of a short command follows by what its plan says.
use Rattle.std.proofs.Common.{◌≡◌, inl, inr, ℕ, Bool, true, false, cond, refl, sym, ap, ◌∙◌, subst, Some, None, Option, List, [], ◌∷◌}
use Rattle.std.specs.List.{AllByRecursion}
use Rattle.cell_world.specs.Images.{Image}
use Rattle.cell_world.specs.Plain.{PlainState, holds_nothing}
use Rattle.plain_model.specs.declared.commands.Command.{Command}
use Rattle.plain_model.specs.declared.commands.Command.TheVariants as command
use Rattle.plain_model.specs.declared.history.Entry.{Entry}
use Rattle.plain_model.specs.declared.replies.Reply.{Reply}
use Rattle.plain_model.specs.declared.replies.Reply.TheVariants as reply
use Rattle.plain_model.specs.declared.replies.Refusal.{Refusal}
use Rattle.plain_model.specs.declared.replies.Refusal.TheVariants as refused
use Rattle.plain_model.specs.Refusing.{Check, checks, first_refusal, refusal}
use Rattle.plain_model.specs.Steps.{plain_step, accepted, refused_or_done}
use Rattle.plain_model.specs.JobSteps.{asked_number, asked_job}
use Rattle.plain_model.specs.Timelines.{Timeline, Past}
use Rattle.plain_model.specs.Follows.{Follows, FollowsPlainly, FollowsFault, FollowsMemory, Becomes}
use Rattle.plain_model.specs.OnTrail.{OnTrail, HoldsThen, FaultOnTrail}
use Rattle.plain_model.specs.Legal.{AllGoing, Promises}
use Rattle.plain_model.specs.ShortCommands.{is_short, is_short_answer, is_short_refusal, is_short_reply, short_entry, FollowsShort}

-- no job is asked for
pub no_job_asked : (c : Command) → is_short c ≡ true → asked_number c ≡ None
no_job_asked (command.Step number) short = absurd cc
no_job_asked (command.Run number) short = absurd cc
no_job_asked c short = refl

module _ (session : ℕ) (c : Command) (short : is_short c ≡ true) (A B : PlainState) where
  step_is : (r : Option Refusal) → refusal A session c ≡ r → plain_step holds_nothing A session c ≡ refused_or_done holds_nothing A session c r
  step_is r is = ap (refused_or_done holds_nothing A session c) is

  -- ---- it is done

  holds_then : (c : Command) → is_short c ≡ true → (start : Image) (past : Timeline) → HoldsThen start past A B c
  holds_then (command.Detach location) short start past = absurd cc
  holds_then (command.Attach location) short start past = absurd cc
  holds_then c short start past = tt

  plainly : (r : Reply) (moment : ℕ) → plain_step holds_nothing A session c ≡ (B, r) → FollowsPlainly A B (short_entry session c r moment) r
  plainly r moment step = record { held = holds_nothing; step = step }

  follows_answer : (r : Reply) → is_short_answer r ≡ true → plain_step holds_nothing A session c ≡ (B, r) → (past : Past) (moment : ℕ) → Follows past A (short_entry session c r moment) B (Some r)
  follows_answer reply.Ok is step past moment = plainly reply.Ok moment step
  follows_answer (reply.Mapping type piece) is step past moment = plainly (reply.Mapping type piece) moment step
  follows_answer (reply.Mappings type pieces) is step past moment = plainly (reply.Mappings type pieces) moment step
  follows_answer (reply.Shards locations) is step past moment = plainly (reply.Shards locations) moment step
  follows_answer r is step past moment = absurd cc

  on_trail_answer : (r : Reply) → is_short_answer r ≡ true → (start : Image) (past : Timeline) (moment : ℕ) → OnTrail start past A (short_entry session c r moment) B (Some r)
  on_trail_answer reply.Ok is start past moment = holds_then c short start past
  on_trail_answer (reply.Mapping type piece) is start past moment = tt
  on_trail_answer (reply.Mappings type pieces) is start past moment = tt
  on_trail_answer (reply.Shards locations) is start past moment = tt
  on_trail_answer r is start past moment = absurd cc

  pub short_done : (r : Reply) → is_short_answer r ≡ true → refusal A session c ≡ None → accepted holds_nothing A session c ≡ (B, r) → FollowsShort session c A B r
  short_done r is accepts becomes = let step : plain_step holds_nothing A session c ≡ (B, r) = step_is None accepts ∙ becomes in
      record { follows = follows_answer r is step; on_trail = on_trail_answer r is }

  -- ---- it is refused

  follows_refused : (r : Refusal) → is_short_refusal r ≡ true → plain_step holds_nothing A session c ≡ (B, reply.Refused r) → (past : Past) (moment : ℕ)
      → Follows past A (short_entry session c (reply.Refused r) moment) B (Some (reply.Refused r))
  follows_refused refused.JobRunning other step past moment = absurd cc
  follows_refused refused.Full other step past moment = inl (plainly (reply.Refused refused.Full) moment step)
  follows_refused r other step past moment = plainly (reply.Refused r) moment step

  on_trail_refused : (r : Refusal) → refusal A session c ≡ Some r → (start : Image) (past : Timeline) (moment : ℕ) → OnTrail start past A (short_entry session c (reply.Refused r) moment) B (Some (reply.Refused r))
  on_trail_refused refused.Full is start past moment = inl is
  on_trail_refused r is start past moment = tt

  pub short_refused : (r : Refusal) → is_short_refusal r ≡ true → refusal A session c ≡ Some r → B ≡ A → FollowsShort session c A B (reply.Refused r)
  short_refused r other is same =
      let step : plain_step holds_nothing A session c ≡ (B, reply.Refused r) = step_is (Some r) is ∙ ap (λ (s : PlainState). (s, reply.Refused r)) (sym same) in
      record { follows = follows_refused r other step; on_trail = on_trail_refused r is }

  -- ---- a call failed: the old state, or that after the command

  becomes_is : (c : Command) → is_short c ≡ true → (state : PlainState) → B ≡ state → Becomes c B state
  becomes_is (command.Attach location) short state same = absurd cc
  becomes_is (command.Clear location) short state same = absurd cc
  becomes_is (command.Detach location) short state same = absurd cc
  becomes_is c short state same = same

  fault_unmade : (c : Command) → is_short c ≡ true → B ≡ A → (e : Entry) → FollowsFault A B e c None
  fault_unmade (command.Offline name key token) short same e = absurd cc
  fault_unmade c short same e = inl (becomes_is c short A same)

  fault_made : (c : Command) → is_short c ≡ true → (e : Entry) → B ≡ (plain_step holds_nothing A e.session c).0 → FollowsFault A B e c None
  fault_made (command.Offline name key token) short e made = absurd cc
  fault_made c short e made = inr (holds_nothing, becomes_is c short (plain_step holds_nothing A e.session c).0 made)

  fault_on_trail : (c : Command) → is_short c ≡ true → (start : Image) (past : Timeline) (e : Entry) → FaultOnTrail start past e A B c None
  fault_on_trail (command.Offline name key token) short start past e = absurd cc
  fault_on_trail (command.Attach location) short start past e = absurd cc
  fault_on_trail c short start past e = tt

  no_job : asked_job A c ≡ None
  no_job = let none = no_job_asked c short in cc

  fault_by : ((moment : ℕ) → FollowsFault A B (short_entry session c reply.Fault moment) c None) → FollowsShort session c A B reply.Fault
  fault_by fault = record {
    follows = λ past moment. subst (FollowsFault A B (short_entry session c reply.Fault moment) c) (sym no_job) (fault moment);
    on_trail = λ start past moment. subst (FaultOnTrail start past (short_entry session c reply.Fault moment) A B c) (sym no_job) (fault_on_trail c short start past (short_entry session c reply.Fault moment));
  }

  pub short_unmade : B ≡ A → FollowsShort session c A B reply.Fault
  short_unmade same = fault_by (λ moment. fault_unmade c short same (short_entry session c reply.Fault moment))

  pub short_made : (r : Reply) → refusal A session c ≡ None → accepted holds_nothing A session c ≡ (B, r) → FollowsShort session c A B reply.Fault
  short_made r accepts becomes = fault_by (λ moment. fault_made c short (short_entry session c reply.Fault moment)
      (sym (ap (λ (s : PlainState × Reply). s.0) (step_is None accepts ∙ becomes))))

  -- ---- want of memory

  memory_is : (c : Command) → is_short c ≡ true → B ≡ A → FollowsMemory c A B
  memory_is (command.Attach location) short same = absurd cc
  memory_is (command.Clear location) short same = absurd cc
  memory_is c short same = same

  pub short_memory : B ≡ A → FollowsShort session c A B reply.Memory
  short_memory same = record { follows = λ past moment. memory_is c short same; on_trail = λ start past moment. tt }

-- ---- what its reply says of other sessions: nothing

pub answer_is_reply : (r : Reply) → is_short_answer r ≡ true → is_short_reply r ≡ true
answer_is_reply (reply.Refused r) is = absurd cc
answer_is_reply reply.Fault is = absurd cc
answer_is_reply reply.Memory is = absurd cc
answer_is_reply r is = is

pub promises_nothing : (r : Reply) → is_short_reply r ≡ true → (going : AllGoing) (e : Entry) → Promises going e [] (Some r)
promises_nothing (reply.Refused refused.JobRunning) is going e = absurd cc
promises_nothing (reply.Pending number) is going e = absurd cc
promises_nothing r is going e = tt

pub never_pending : (r : Reply) → is_short_reply r ≡ true → Some r ≡ Some (reply.Pending 0) → ⊥
never_pending (reply.Pending number) is same = absurd cc
never_pending r is same = absurd cc

-- ---- the refusals of a short command

short_first : (checks : List Check) → AllByRecursion (λ (check : Check). is_short_refusal check.1 ≡ true) checks → (r : Refusal) → first_refusal checks ≡ Some r → is_short_refusal r ≡ true
short_first [] all r is = absurd cc
short_first (check ∷ more) all r is = by check.0 is (short_first more all.1 r)
  where
    by : (b : Bool) → cond b (Some check.1) (first_refusal more) ≡ Some r → (first_refusal more ≡ Some r → is_short_refusal r ≡ true) → is_short_refusal r ≡ true
    by true is later = let same : check.1 ≡ r = cc in ap is_short_refusal (sym same) ∙ all.0
    by false is later = later is

short_checks : (s : PlainState) (session : ℕ) (c : Command) → is_short c ≡ true → AllByRecursion (λ (check : Check). is_short_refusal check.1 ≡ true) (checks s session c)
short_checks s session (command.Map name kind type) short = (refl, (refl, tt))
short_checks s session (command.Unmap name) short = (refl, (refl, tt))
short_checks s session (command.Shard name location) short = (refl, (refl, (refl, (refl, (refl, tt)))))
short_checks s session (command.Unshard name location) short = (refl, (refl, (refl, (refl, (refl, (refl, tt))))))
short_checks s session (command.Table name table) short = (refl, (refl, (refl, tt)))
short_checks s session (command.Lock name key token) short = (refl, (refl, (refl, (refl, (refl, (refl, tt))))))
short_checks s session (command.Unlock name key token) short = (refl, (refl, (refl, (refl, (refl, (refl, (refl, tt)))))))
short_checks s session (command.Find name key) short = (refl, (refl, (refl, tt)))
short_checks s session (command.List name) short = (refl, tt)
short_checks s session (command.Shards name) short = (refl, tt)
short_checks s session c short = absurd cc

pub refuses_shortly : (s : PlainState) (session : ℕ) (c : Command) → is_short c ≡ true → (r : Refusal) → refusal s session c ≡ Some r → is_short_refusal r ≡ true
unfolding refusal
refuses_shortly s session c short r is = short_first (checks s session c) (short_checks s session c short) r is
