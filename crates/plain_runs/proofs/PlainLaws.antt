-- Where no call failed, memory sufficed and one session asked, the entries of plain commands are the plain step's.
use Rattle.std.proofs.Common.{◌≡◌, inl, inr, ℕ, Bool, true, false, List, [], ◌∷◌, Option, Some, None, map, refl, sym, ap, ◌∙◌, subst}
use Rattle.std.specs.Prelude.{IsTrue, IsSome}
use Rattle.cell_world.specs.Plain.{PlainState, Held, holds_nothing}
use Rattle.plain_model.specs.declared.commands.Asked.{Asked}
use Rattle.plain_model.specs.declared.commands.Command.{Command}
use Rattle.plain_model.specs.declared.commands.Command.TheVariants as command
use Rattle.plain_model.specs.declared.history.Entry.{Entry}
use Rattle.plain_model.specs.declared.replies.Reply.{Reply}
use Rattle.plain_model.specs.declared.replies.Reply.TheVariants as reply
use Rattle.plain_model.specs.declared.replies.Refusal.{Refusal}
use Rattle.plain_model.specs.declared.replies.Refusal.TheVariants as refused
use Rattle.plain_model.specs.Refusing.{refusal}
use Rattle.plain_model.specs.Steps.{plain_step, accepted, refused_or_done}
use Rattle.plain_model.specs.ShortCommands.{is_short}
use Rattle.plain_model.specs.JobSteps.{asked_number, asked_job}
use Rattle.plain_model.specs.Timelines.{Past}
use Rattle.plain_model.specs.Follows.{Follows, FollowsPlainly, takes_number}
use Rattle.plain_runs.specs.PlainRuns.{is_plain, plain_state, plain_replies}

-- ---- a plain command

-- what a site holds from then on doesn't matter
accepted_alike : (c : Command) → is_plain c ≡ true → (held : Held) (s : PlainState) (session : ℕ) → accepted held s session c ≡ accepted holds_nothing s session c
accepted_alike (command.Detach location) plain held s session = absurd cc
accepted_alike (command.Attach location) plain held s session = absurd cc
accepted_alike c plain held s session = refl

pub step_alike : (c : Command) → is_plain c ≡ true → (held : Held) (s : PlainState) (session : ℕ) → plain_step held s session c ≡ plain_step holds_nothing s session c
step_alike c plain held s session = by (refusal s session c)
  where
    by : (r : Option Refusal) → refused_or_done held s session c r ≡ refused_or_done holds_nothing s session c r
    by (Some r) = refl
    by None = accepted_alike c plain held s session

-- a short command is one
pub short_is_plain : (c : Command) → is_short c ≡ true → is_plain c ≡ true
short_is_plain (command.Peek name key) short = absurd cc
short_is_plain (command.Step number) short = absurd cc
short_is_plain (command.Run number) short = absurd cc
short_is_plain (command.Detach location) short = absurd cc
short_is_plain (command.Attach location) short = absurd cc
short_is_plain (command.Add name low high location) short = absurd cc
short_is_plain (command.Addpoint name key location) short = absurd cc
short_is_plain (command.Delete name key token) short = absurd cc
short_is_plain (command.Offline name key token) short = absurd cc
short_is_plain (command.Online name key token) short = absurd cc
short_is_plain (command.Move name key location token) short = absurd cc
short_is_plain (command.Split name key token) short = absurd cc
short_is_plain (command.Merge name key token) short = absurd cc
short_is_plain c short = refl

-- it asks for no job
no_job : (c : Command) → is_plain c ≡ true → (s : PlainState) → asked_job s c ≡ None
no_job (command.Step number) plain s = absurd cc
no_job (command.Run number) plain s = absurd cc
no_job c plain s = refl

no_number : (c : Command) → is_plain c ≡ true → asked_number c ≡ None
no_number (command.Step number) plain = absurd cc
no_number (command.Run number) plain = absurd cc
no_number c plain = refl

takes_none : (c : Command) → is_plain c ≡ true → takes_number c ≡ false
takes_none (command.Step number) plain = absurd cc
takes_none (command.Run number) plain = absurd cc
takes_none (command.Add name low high location) plain = absurd cc
takes_none (command.Addpoint name key location) plain = absurd cc
takes_none (command.Delete name key token) plain = absurd cc
takes_none (command.Offline name key token) plain = absurd cc
takes_none (command.Online name key token) plain = absurd cc
takes_none (command.Move name key location token) plain = absurd cc
takes_none (command.Split name key token) plain = absurd cc
takes_none (command.Merge name key token) plain = absurd cc
takes_none c plain = refl

not_peek : (c : Command) → is_plain c ≡ true → (name key : Rattle.cell_world.specs.Texts.Text) → c ≡ command.Peek name key → ⊥
not_peek c plain name key is = let no : true ≡ false = sym plain ∙ ap is_plain is in absurd cc

not_step : (c : Command) → is_plain c ≡ true → (number : ℕ) → c ≡ command.Step number → ⊥
not_step c plain number is = let no : true ≡ false = sym plain ∙ ap is_plain is in absurd cc

-- ---- its entry

-- a reply that tells of no failed call, of no want of memory and of no other session
abbrev pub is_calm : Reply → Bool
is_calm (reply.Pending number) = false
is_calm reply.Fault = false
is_calm reply.Memory = false
is_calm other = true

-- what the entry of a plain command with a calm reply says
module _ (past : Past) (A B : PlainState) (e : Entry) (plain : is_plain e.command ≡ true) where
  nothing_asked : IsSome (asked_job A e.command) → ⊥
  nothing_asked some = let no : false ≡ true = subst IsSome (no_job e.command plain A) some in absurd cc

  by_step : (r : Reply) → FollowsPlainly A B e r → plain_step holds_nothing A e.session e.command ≡ (B, r)
  by_step r follows = sym (step_alike e.command plain follows.held A e.session) ∙ follows.step

  pub follows_step : (r : Reply) → is_calm r ≡ true → Follows past A e B (Some r) → plain_step holds_nothing A e.session e.command ≡ (B, r)
  follows_step (reply.Cursor type key) calm follows = absurd (not_step e.command plain follows.number follows.asked)
  follows_step (reply.Done number) calm follows = let no : None ≡ Some number = sym (no_number e.command plain) ∙ follows.asked in absurd cc
  follows_step (reply.Pending number) calm follows = absurd cc
  follows_step reply.Fault calm follows = absurd cc
  follows_step reply.Memory calm follows = absurd cc
  follows_step reply.Unknown calm follows = absurd (not_peek e.command plain follows.name follows.text follows.asked)
  follows_step (reply.Known type span location place) calm follows = absurd (not_peek e.command plain _ follows.text follows.asked)
  follows_step (reply.Refused refused.JobRunning) calm follows = absurd (nothing_asked follows.stands)
  follows_step (reply.Refused refused.Full) calm (inl follows) = by_step (reply.Refused refused.Full) follows
  follows_step (reply.Refused refused.Full) calm (inr follows) = let no : false ≡ true = subst IsTrue (takes_none e.command plain) follows.takes in absurd cc
  follows_step r calm follows = by_step r follows

-- ---- a run of them

-- the entry answers a plain command, calmly
pub record AnswersCalmly (asked : Asked) (e : Entry) : Type 0 where
  pub session : e.session ≡ asked.session
  pub command : e.command ≡ asked.command
  pub plain : is_plain asked.command ≡ true
  pub answer : Reply
  pub reply : e.reply ≡ Some answer
  pub calm : is_calm answer ≡ true

abbrev pub AnswerCalmly : List Asked → List Entry → Type 0
AnswerCalmly [] [] = Unit {0}
AnswerCalmly [] (e ∷ es) = ⊥
AnswerCalmly (asked ∷ script) [] = ⊥
AnswerCalmly (asked ∷ script) (e ∷ es) = AnswersCalmly asked e × AnswerCalmly script es

-- from a state on, each entry follows from the state before it to its own, whatever came before
abbrev pub Chains : PlainState → List Entry → PlainState → Type 0
Chains A [] last = A ≡ last
Chains A (e ∷ es) last = (B : PlainState) × ((past : Past) × Follows past A e B e.reply) × Chains B es last

-- the replies and the last state are the plain step's
pub record RunsPlainly (A : PlainState) (script : List Asked) (history : List Entry) (last : PlainState) : Type 0 where
  pub replies : map (λ (e : Entry). e.reply) history ≡ map Some (plain_replies A script)
  pub state : last ≡ plain_state A script

pub chain_is_plain : (script : List Asked) (history : List Entry) (A last : PlainState) → AnswerCalmly script history → Chains A history last → RunsPlainly A script history last
chain_is_plain [] [] A last all chain = record { replies = refl; state = sym chain }
chain_is_plain [] (e ∷ history) A last all chain = absurd all
chain_is_plain (asked ∷ script) [] A last all chain = absurd all
chain_is_plain (asked ∷ script) (e ∷ history) A last all chain =
    let one = all.0 in
    let B : PlainState = chain.0 in
    let step : plain_step holds_nothing A asked.session asked.command ≡ (B, one.answer) =
    (λ i. plain_step holds_nothing A (sym one.session i) (sym one.command i))
    ∙ follows_step chain.1.0 A B e (ap is_plain one.command ∙ one.plain) one.answer one.calm (subst (Follows chain.1.0 A e B) one.reply chain.1.1) in
    let next : (plain_step holds_nothing A asked.session asked.command).0 ≡ B = ap (λ (s : PlainState × Reply). s.0) step in
    let said : (plain_step holds_nothing A asked.session asked.command).1 ≡ one.answer = ap (λ (s : PlainState × Reply). s.1) step in
    let more : RunsPlainly B script history last = chain_is_plain script history B last all.1 chain.2 in
    record {
      replies = (λ i. one.reply i ∷ more.replies i) ∙ (λ i. Some (sym said i) ∷ map Some (plain_replies (sym next i) script));
      state = more.state ∙ ap (λ s. plain_state s script) (sym next);
    }
