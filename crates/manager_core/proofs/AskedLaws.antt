-- A command that is asked is answered at once, or its operation is live: what its parts make of the event.
use Rattle.std.proofs.Common.{◌≡◌, ◌⊎◌, ⊎_elim, inl, ℕ, true, false, refl, sym, ap, ◌∙◌, subst, Some}
use Rattle.cell_world.specs.Images.{Image, global, image_at, end_of_trail}
use Rattle.cell_world.specs.Plain.{PlainState, nobody}
use Rattle.cell_world.specs.Meaning.{meaning}
use Rattle.cell_world.specs.Operations.{conflicts}
use Rattle.cell_world.specs.Outside.{Outside, Told, TellsNothing, TellsContents, TellsTrail, IfContents, StoreRoseBy}
use Rattle.cell_world.specs.Sound.{Sound}
use Rattle.cell_world.specs.declared.operations.Reach.{Reach}
use Rattle.cell_world.specs.declared.operations.Reach.TheVariants as reach
use Rattle.cell_world.proofs.ContentsLaws.{contents_all, contents_weaker}
use Rattle.global_tables.specs.Known.{Known, known_of}
use Rattle.map_ops.specs.Planning.{is_asked}
use Rattle.plain_model.specs.ShortCommands.{is_short, is_short_answer, is_short_refusal, standing_with, IsRefusedWith, IsShortAnswer}
use Rattle.plain_model.specs.declared.commands.Command.{Command}
use Rattle.plain_model.specs.declared.commands.Command.TheVariants as command
use Rattle.plain_model.specs.declared.replies.Reply.{Reply}
use Rattle.plain_model.specs.declared.replies.Reply.TheVariants as reply
use Rattle.plain_model.specs.declared.replies.Refusal.{Refusal}
use Rattle.plain_model.specs.OnTrail.{reach_of_command}
use Rattle.plain_model.specs.Refusing.{refusal}
use Rattle.session_laws.specs.Doing.{AllDoing}
use Rattle.manager_core.specs.Asking.{AnswersNow}
use Rattle.manager_core.specs.Coming.{AsksExactly, ClearStep, ClearsNone, HappensAsking, IsInWay, SettleStep, TriesFor}
use Rattle.manager_core.proofs.ExactAnswers.{exact_fault, exact_memory, exact_refused, exact_answer}
use Rattle.manager_core.proofs.QuietAnswers.{fault_quietly, memory_quietly, refused_quietly, answer_quietly, said_of}
use Rattle.manager_core.proofs.TidyLaws.{tidied_none}

-- ---- a command that changes nothing reaches nothing

-- of the short commands `unshard`, `lock` and `unlock` alone reach something, and each is answered `ok`
pub answer_reaches_nothing : (session : ℕ) (c : Command) (r : Reply) (image : Image) → is_short c ≡ true → (r ≡ reply.Ok → ⊥) → IsShortAnswer session c r image → reach_of_command (meaning image) c ≡ reach.Nothing
answer_reaches_nothing session (command.Map name kind type) r image planned other so = refl
answer_reaches_nothing session (command.Unmap name) r image planned other so = refl
answer_reaches_nothing session (command.Shard name location) r image planned other so = refl
answer_reaches_nothing session (command.Unshard name location) r image planned other so = absurd (other (sym (ap (λ (p : PlainState × Reply). p.1) (so nobody).1)))
answer_reaches_nothing session (command.Table name table) r image planned other so = refl
answer_reaches_nothing session (command.Lock name key token) r image planned other so = absurd (other (sym (ap (λ (p : PlainState × Reply). p.1) (so nobody).1)))
answer_reaches_nothing session (command.Unlock name key token) r image planned other so = absurd (other (sym (ap (λ (p : PlainState × Reply). p.1) (so nobody).1)))
answer_reaches_nothing session (command.Find name key) r image planned other so = refl
answer_reaches_nothing session (command.List name) r image planned other so = refl
answer_reaches_nothing session (command.Shards name) r image planned other so = refl
answer_reaches_nothing session c r image planned other so = absurd cc

-- and nothing is in the way of that
free_way : (before : AllDoing) (reached : Reach) → reached ≡ reach.Nothing → (number : ℕ) → IsInWay before reached number → ⊥
free_way before reached nothing number w = let both : false ≡ true = sym (ap (λ x. conflicts x w.live.op) nothing) ∙ w.conflict in cc

-- what a command reaches, where contents are told
abbrev pub reach_told : Told → Command → Reach
reach_told TellsNothing c = reach.Nothing
reach_told (TellsContents image) c = reach_of_command (meaning image) c
reach_told (TellsTrail trail) c = reach_of_command (meaning (image_at trail (end_of_trail trail))) c

reaches_told : (told : Told) (c : Command) → IfContents told (λ image. reach_told told c ≡ reach_of_command (meaning image) c)
reaches_told TellsNothing c = tt
reaches_told (TellsContents image) c = refl
reaches_told (TellsTrail trail) c = refl

clears_none : (r : Reply) (told : Told) → ClearsNone (Some r) told told
clears_none (reply.Refused x) told = refl
clears_none (reply.Pending number) told = refl
clears_none r told = tt

-- nothing was settled or undone, and this was tried
pub happens_only : (before : AllDoing) (session : ℕ) (c : Command) (r : Reply) (number : ℕ) (old new : Told) → TriesFor (Some r) number old new → HappensAsking before session c (Some r) number old new
happens_only before session c r number old new tries = record {
  reached = reach_told old c;
  reaches = reaches_told old c;
  settled = old;
  settles = tidied_none (SettleStep (before session)) old old refl;
  between = old;
  clears = tidied_none (ClearStep before (reach_told old c)) old old refl;
  none = clears_none r old;
  tries = tries;
}

no_ok : (r : Reply) → is_short_answer r ≡ true → (r ≡ reply.Ok → ⊥) → (told new : Told) → new ≡ told → TriesFor (Some r) 0 told new
no_ok reply.Ok answer other told new same = absurd (other refl)
no_ok (reply.Mapping type piece) answer other told new same = (refl, same)
no_ok (reply.Mappings type pieces) answer other told new same = (refl, same)
no_ok (reply.Shards locations) answer other told new same = (refl, same)
no_ok r answer other told new same = absurd cc

-- ---- nothing happens

module _ (c : Command) (asked : is_asked c ≡ true) (known : Known) (before : AllDoing) (old new : Outside) (same : new.told ≡ old.told) where
  pub now_fault : StoreRoseBy 1 old new → AnswersNow c reply.Fault known known before old new
  now_fault rose = record {
    ends = λ session rests. fault_quietly session c asked before rests old new same known;
    happens = λ session steady copy. happens_only before session c reply.Fault 0 old.told new.told (inl (refl, inl same));
    waits_for = λ other is. absurd cc;
    exact = λ session steady copy. contents_all old.told (AsksExactly before session c (Some reply.Fault)) (λ image. exact_fault before session c image);
    cause = λ is. rose;
  }

  pub now_memory : AnswersNow c reply.Memory known known before old new
  now_memory = record {
    ends = λ session rests. memory_quietly session c asked before rests old new same known;
    happens = λ session steady copy. happens_only before session c reply.Memory 0 old.told new.told (refl, same);
    waits_for = λ other is. absurd cc;
    exact = λ session steady copy. contents_all old.told (AsksExactly before session c (Some reply.Memory)) (λ image. exact_memory before session c image);
    cause = λ is. absurd cc;
  }

  -- what a plan says of sound stores with their copy
  abbrev PlanSays : (Image → Type 0) → Type 0
  PlanSays P = IfContents old.told (λ image. Sound image → known ≡ known_of (global image) → P image)

  pub now_refused : (x : Refusal) → is_short_refusal x ≡ true → PlanSays (λ image. (session : ℕ) → IsRefusedWith session c x image) → AnswersNow c (reply.Refused x) known known before old new
  now_refused x word says = record {
    ends = λ session rests. refused_quietly session c asked before rests old new same known x word
        (λ steady copy. contents_weaker old.told (λ image. (session : ℕ) → IsRefusedWith session c x image) (λ image. refusal (standing_with image nobody) session c ≡ Some x) (λ image so. so session nobody)
        (said_of old.told before known (λ image. (session : ℕ) → IsRefusedWith session c x image) steady copy says));
    happens = λ session steady copy. happens_only before session c (reply.Refused x) 0 old.told new.told (refl, same);
    waits_for = λ other is. absurd cc;
    exact = λ session steady copy. contents_weaker old.told (λ image. (session : ℕ) → IsRefusedWith session c x image) (AsksExactly before session c (Some (reply.Refused x))) (λ image so. exact_refused before session c image x (so session nobody))
        (said_of old.told before known (λ image. (session : ℕ) → IsRefusedWith session c x image) steady copy says);
    cause = λ is. absurd cc;
  }

  no_fault : (r : Reply) → is_short_answer r ≡ true → r ≡ reply.Fault → ⊥
  no_fault r answer is = let both : is_short_answer reply.Fault ≡ true = subst (λ s. is_short_answer s ≡ true) is answer in cc

  no_pending : (r : Reply) (number : ℕ) → is_short_answer r ≡ true → r ≡ reply.Pending number → ⊥
  no_pending r number answer is = let both : is_short_answer (reply.Pending number) ≡ true = subst (λ s. is_short_answer s ≡ true) is answer in cc

  pub now_answer : (r : Reply) → is_short_answer r ≡ true → (r ≡ reply.Ok → ⊥) → is_short c ≡ true → PlanSays (λ image. (session : ℕ) → IsShortAnswer session c r image) → AnswersNow c r known known before old new
  now_answer r answer other planned says = record {
    ends = λ session rests. answer_quietly session c asked before rests old new same known r answer planned
        (λ steady copy. contents_weaker old.told (λ image. (session : ℕ) → IsShortAnswer session c r image) (IsShortAnswer session c r) (λ image so. so session)
        (said_of old.told before known (λ image. (session : ℕ) → IsShortAnswer session c r image) steady copy says));
    happens = λ session steady copy. happens_only before session c r 0 old.told new.told (no_ok r answer other old.told new.told same);
    waits_for = λ number is. absurd (no_pending r number answer is);
    exact = λ session steady copy. contents_weaker old.told (λ image. (session : ℕ) → IsShortAnswer session c r image) (AsksExactly before session c (Some r))
        (λ image so. exact_answer before session c image r answer planned (so session nobody).0 (free_way before (reach_of_command (meaning image) c) (answer_reaches_nothing session c r image planned other (so session))))
        (said_of old.told before known (λ image. (session : ℕ) → IsShortAnswer session c r image) steady copy says);
    cause = λ is. absurd (no_fault r answer is);
  }

  -- the reply, or `memory` in its place
  pub now_either : (r s : Reply) → (s ≡ r) ⊎ (s ≡ reply.Memory) → AnswersNow c r known known before old new → AnswersNow c s known known before old new
  now_either r s which now = ⊎_elim (λ this. subst (λ x. AnswersNow c x known known before old new) (sym this) now) (λ memory. subst (λ x. AnswersNow c x known known before old new) (sym memory) now_memory) which
