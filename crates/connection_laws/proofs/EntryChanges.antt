-- What an entry says of the states before and after it: nothing changed, or what the plain step changes; more at a fault, and for want of memory, of a few commands alone.
use Rattle.std.proofs.Common.{◌≡◌, ◌⊎◌, inl, inr, ⊎_elim, ℕ, refl, sym, ap, subst, Some, None, Option}
use Rattle.cell_world.specs.Plain.{PlainState, Held}
use Rattle.plain_model.specs.declared.commands.Command.{Command}
use Rattle.plain_model.specs.declared.commands.Command.TheVariants as command
use Rattle.plain_model.specs.declared.history.Entry.{Entry}
use Rattle.plain_model.specs.declared.replies.Reply.{Reply}
use Rattle.plain_model.specs.declared.replies.Reply.TheVariants as reply
use Rattle.plain_model.specs.declared.replies.Refusal.{Refusal}
use Rattle.plain_model.specs.declared.replies.Refusal.TheVariants as refused
use Rattle.plain_model.specs.Steps.{plain_step}
use Rattle.plain_model.specs.JobSteps.{asked_number, asked_job}
use Rattle.plain_model.specs.Timelines.{Past}
use Rattle.plain_model.specs.Follows.{Follows, FollowsPlainly, FollowsFault, FollowsMemory}

-- nothing changes, or what the plain step changes
abbrev pub Changes : PlainState → PlainState → ℕ → Command → Type 0
Changes A B session c = (B ≡ A) ⊎ ((held : Held) × (B ≡ (plain_step held A session c).0))

-- the same, with what the answer says where it is none of the two
abbrev pub Tells : PlainState → PlainState → Entry → Reply → Type 0
Tells A B e r = (A ≡ B) ⊎ FollowsPlainly A B e r ⊎ ((r ≡ reply.Fault) × FollowsFault A B e e.command None) ⊎ ((r ≡ reply.Memory) × FollowsMemory e.command A B)

-- ---- of a command that asks for no job

no_job : (s : PlainState) (c : Command) → asked_number c ≡ None → asked_job s c ≡ None
no_job s c none = cc

module _ (past : Past) (A B : PlainState) (e : Entry) (none : asked_number e.command ≡ None) where
  told_refused : (r : Refusal) → Follows past A e B (Some (reply.Refused r)) → Tells A B e (reply.Refused r)
  told_refused refused.JobRunning f = inl f.same
  told_refused refused.Full f = ⊎_elim (λ plainly. inr (inl plainly)) (λ spent. inl spent.same) f
  told_refused r f = inr (inl f)

  told : (r : Reply) → Follows past A e B (Some r) → Tells A B e r
  told (reply.Cursor type key) f = inl f.same
  told (reply.Done number) f = inl f.same
  told (reply.Pending number) f = inl f.same
  told reply.Unknown f = inl f.same
  told (reply.Known type span location place) f = inl f.same
  told (reply.Refused r) f = told_refused r f
  told reply.Fault f = inr (inr (inl (refl, subst (λ job. FollowsFault A B e e.command job) (no_job A e.command none) f)))
  told reply.Memory f = inr (inr (inr (refl, f)))
  told r f = inr (inl f)

  pub entry_tells : (answer : Option Reply) → Follows past A e B answer → (r : Reply) × (answer ≡ Some r) × Tells A B e r
  entry_tells None f = let asked = f.asked in let not_asked = no_job A e.command none in absurd cc
  entry_tells (Some r) f = (r, refl, told r f)

-- ---- of those of which a fault and want of memory say no more

abbrev pub IsPlain : Command → Type 0
IsPlain (command.Offline name key token) = ⊥
IsPlain (command.Detach location) = ⊥
IsPlain (command.Attach location) = ⊥
IsPlain (command.Clear location) = ⊥
IsPlain (command.Step number) = ⊥
IsPlain (command.Run number) = ⊥
IsPlain other = Unit {0}

none_asked : (c : Command) → IsPlain c → asked_number c ≡ None
none_asked (command.Step number) plain = absurd plain
none_asked (command.Run number) plain = absurd plain
none_asked other plain = refl

plain_fault : (A B : PlainState) (e : Entry) (c : Command) → IsPlain c → FollowsFault A B e c None → Changes A B e.session c
plain_fault A B e (command.Offline name key token) plain f = absurd plain
plain_fault A B e (command.Detach location) plain f = absurd plain
plain_fault A B e (command.Attach location) plain f = absurd plain
plain_fault A B e (command.Clear location) plain f = absurd plain
plain_fault A B e other plain f = f

plain_memory : (A B : PlainState) (c : Command) → IsPlain c → FollowsMemory c A B → B ≡ A
plain_memory A B (command.Attach location) plain f = absurd plain
plain_memory A B (command.Clear location) plain f = absurd plain
plain_memory A B other plain f = f

-- what a plain step answers doesn't matter
pub by_step : (A B : PlainState) (e : Entry) (r : Reply) → FollowsPlainly A B e r → Changes A B e.session e.command
by_step A B e r f = inr (f.held, sym (ap (λ (x : PlainState × Reply). x.0) f.step))

pub plain_changes : (past : Past) (A B : PlainState) (e : Entry) (answer : Option Reply) → IsPlain e.command → Follows past A e B answer → Changes A B e.session e.command
plain_changes past A B e answer plain f = by told.0 told.2
  where
    told : (r : Reply) × (answer ≡ Some r) × Tells A B e r
    told = entry_tells past A B e (none_asked e.command plain) answer f

    by : (r : Reply) → Tells A B e r → Changes A B e.session e.command
    by r (inl same) = inl (sym same)
    by r (inr (inl plainly)) = by_step A B e r plainly
    by r (inr (inr (inl fault))) = plain_fault A B e e.command plain fault.1
    by r (inr (inr (inr memory))) = inl (plain_memory A B e.command plain memory.1)
