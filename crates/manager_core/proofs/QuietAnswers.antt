-- A command that may be asked is answered at once, and nothing happens.
use Rattle.std.proofs.Common.{◌≡◌, ⊎_elim, ℕ, true, refl, sym, subst, Some, None}
use Rattle.std.proofs.lemmas.Bool.{cases_Bool}
use Rattle.cell_world.specs.Images.{Image, global}
use Rattle.cell_world.specs.Plain.{PlainState, nobody}
use Rattle.cell_world.specs.Outside.{Outside, IfContents}
use Rattle.cell_world.specs.Sound.{Sound}
use Rattle.cell_world.proofs.ContentsLaws.{contents_all, contents_both, contents_weaker}
use Rattle.global_tables.specs.Known.{Known, known_of}
use Rattle.map_ops.specs.Planning.{is_asked, is_long}
use Rattle.plain_model.specs.ShortCommands.{is_short, is_short_answer, is_short_refusal, is_short_reply, standing_with, FollowsShort, IsShortAnswer}
use Rattle.map_ops.proofs.PlannedLaws.{asked_is_short}
use Rattle.plain_model.specs.declared.commands.Command.{Command}
use Rattle.plain_model.specs.declared.commands.Command.TheVariants as command
use Rattle.plain_model.specs.declared.history.Entry.{Entry}
use Rattle.plain_model.specs.declared.replies.Reply.{Reply}
use Rattle.plain_model.specs.declared.replies.Reply.TheVariants as reply
use Rattle.plain_model.specs.declared.replies.Refusal.{Refusal}
use Rattle.plain_model.specs.Follows.{Follows}
use Rattle.plain_model.specs.JobSteps.{asked_number}
use Rattle.plain_model.specs.OnTrail.{OnTrail}
use Rattle.plain_model.specs.Refusing.{refusal}
use Rattle.plain_model.proofs.ShortCommands.{short_done, short_refused, short_unmade, short_memory, answer_is_reply}
use Rattle.session_laws.specs.Doing.{AllDoing, Resting}
use Rattle.manager_core.specs.Answering.{IsCopy}
use Rattle.manager_core.specs.Steady.{IsSteady, AreSteady, Ends}
use Rattle.manager_core.proofs.QuietEnds.{FitsAt, quiet_ends, refused_fits, fault_fits, memory_fits}
use Rattle.manager_core.proofs.ShortEnds.{entry_is}

-- no command that may be asked asks for a job
pub asks_no_job : (c : Command) → is_asked c ≡ true → asked_number c ≡ None
asks_no_job (command.Step number) asked = absurd cc
asks_no_job (command.Run number) asked = absurd cc
asks_no_job c asked = refl

-- each is a short one, or a long one
pub short_or_long : (c : Command) → is_asked c ≡ true → {P : Type 0} → (is_short c ≡ true → P) → (is_long c ≡ true → P) → P
short_or_long c asked short long = ⊎_elim long (λ none. short (asked_is_short c asked none)) (cases_Bool (is_long c))

-- what is promised where the stores are steady and the copy is one may be shown there
pub ends_where : (session : ℕ) (c : Command) (r : Reply) (number : ℕ) (known fresh : Known) (old new : Outside) (before after : AllDoing) → (AreSteady before old → IsCopy known old.told → Ends session c r number known fresh old new before after) → Ends session c r number known fresh old new before after
ends_where session c r number known fresh old new before after so = record {
  steady = λ s k. (so s k).steady s k;
  settled = λ s k. (so s k).settled s k;
  copy = λ ok s k. (so s k).copy ok s k;
  leads = λ s k. (so s k).leads s k;
}

-- so what a plan says of sound stores with their copy is so
pub said_of : (told : Rattle.cell_world.specs.Outside.Told) (before : AllDoing) (known : Known) (P : Image → Type 0) → IfContents told (IsSteady before) → IsCopy known told → IfContents told (λ image. Sound image → known ≡ known_of (global image) → P image) → IfContents told P
said_of told before known P steady copy says = contents_weaker told (λ image. (IsSteady before image × (known ≡ known_of (global image))) × (Sound image → known ≡ known_of (global image) → P image)) P
    (λ image all. all.1 all.0.0.sound all.0.1)
    (contents_both told (λ image. IsSteady before image × (known ≡ known_of (global image))) (λ image. Sound image → known ≡ known_of (global image) → P image) (contents_both told (IsSteady before) (λ image. known ≡ known_of (global image)) steady copy) says)

-- ---- the entry fits

module _ (session : ℕ) (c : Command) (image : Image) where
  abbrev A : PlainState
  A = standing_with image nobody

  fits_short : (r : Reply) → FollowsShort session c A A r → FitsAt session c r image
  fits_short r so = record {
    follows = λ past e says. subst (λ (x : Entry). Follows past A x A (Some r)) (sym (entry_is e session c r says)) (so.follows past e.moment);
    on_trail = λ start past at e says. subst (λ (x : Entry). OnTrail start past A x A (Some r)) (sym (entry_is e session c r says)) (so.on_trail start past e.moment);
  }

  module _ (asked : is_asked c ≡ true) where
    pub fits_fault : FitsAt session c reply.Fault image
    fits_fault = short_or_long c asked (λ planned. fits_short reply.Fault (short_unmade session c planned A A refl)) (λ long. fault_fits session c long image)

    pub fits_memory : FitsAt session c reply.Memory image
    fits_memory = short_or_long c asked (λ planned. fits_short reply.Memory (short_memory session c planned A A refl)) (λ long. memory_fits session c long image)

    pub fits_refused : (x : Refusal) → is_short_refusal x ≡ true → refusal A session c ≡ Some x → FitsAt session c (reply.Refused x) image
    fits_refused x word is = short_or_long c asked (λ planned. fits_short (reply.Refused x) (short_refused session c planned A A x word is refl)) (λ long. refused_fits session c long image x word is)

  pub fits_answer : (r : Reply) → is_short_answer r ≡ true → is_short c ≡ true → IsShortAnswer session c r image → FitsAt session c r image
  fits_answer r answer planned so = fits_short r (short_done session c planned A A r answer (so nobody).0 (so nobody).1)

-- ---- it ends

module _ (session : ℕ) (c : Command) (asked : is_asked c ≡ true) (before : AllDoing) (rests : before session ≡ Resting None) (old new : Outside) (same : new.told ≡ old.told) (known : Known) where
  ends_with : (r : Reply) → is_short_reply r ≡ true → (AreSteady before old → IsCopy known old.told → IfContents old.told (FitsAt session c r)) → Ends session c r 0 known known old new before before
  ends_with r word fits = ends_where session c r 0 known known old new before before
      (λ steady copy. quiet_ends session c (asks_no_job c asked) r word before None rests old new same (contents_weaker old.told (FitsAt session c r) (λ image. IsSteady before image → FitsAt session c r image) (λ image fit s. fit) (fits steady copy)) known)

  pub fault_quietly : Ends session c reply.Fault 0 known known old new before before
  fault_quietly = ends_with reply.Fault refl (λ steady copy. contents_all old.told (FitsAt session c reply.Fault) (λ image. fits_fault session c image asked))

  pub memory_quietly : Ends session c reply.Memory 0 known known old new before before
  memory_quietly = ends_with reply.Memory refl (λ steady copy. contents_all old.told (FitsAt session c reply.Memory) (λ image. fits_memory session c image asked))

  pub refused_quietly : (x : Refusal) → is_short_refusal x ≡ true → (AreSteady before old → IsCopy known old.told → IfContents old.told (λ image. refusal (standing_with image nobody) session c ≡ Some x)) → Ends session c (reply.Refused x) 0 known known old new before before
  refused_quietly x word is = ends_with (reply.Refused x) word
      (λ steady copy. contents_weaker old.told (λ image. refusal (standing_with image nobody) session c ≡ Some x) (FitsAt session c (reply.Refused x)) (λ image here. fits_refused session c image asked x word here) (is steady copy))

  pub answer_quietly : (r : Reply) → is_short_answer r ≡ true → is_short c ≡ true → (AreSteady before old → IsCopy known old.told → IfContents old.told (IsShortAnswer session c r)) → Ends session c r 0 known known old new before before
  answer_quietly r answer planned is = ends_with r (answer_is_reply r answer)
      (λ steady copy. contents_weaker old.told (IsShortAnswer session c r) (FitsAt session c r) (λ image here. fits_answer session c image r answer planned here) (is steady copy))
