-- The entry of a short command follows one transaction of the global store, beside live operations.
use Rattle.std.proofs.Common.{◌≡◌, ℕ, Bool, true, false, refl, sym, ap, ◌∙◌, subst, Some, None, List, [], ◌∷◌, arith}
use Rattle.std.proofs.lemmas.List.{length_push}
use Rattle.cell_world.specs.Images.{Image, Trail, Happening, image_at, end_of_trail, extended, after_one}
use Rattle.cell_world.specs.Plain.{PlainState, nobody, with_connections}
use Rattle.cell_world.specs.Meaning.{meaning, next_operation}
use Rattle.cell_world.specs.Outside.{Outside, Told, TellsTrail, IfContents, IfTrail, told_after}
use Rattle.cell_world.specs.Sound.{Sound}
use Rattle.cell_world.specs.declared.changes.Edit.{Edit}
use Rattle.cell_world.proofs.ContentsLaws.{contents_both}
use Rattle.global_tables.specs.Known.{Known}
use Rattle.plain_model.specs.declared.commands.Command.{Command}
use Rattle.plain_model.specs.declared.history.Entry.{Entry}
use Rattle.plain_model.specs.declared.replies.Reply.{Reply}
use Rattle.plain_model.specs.declared.replies.Reply.TheVariants as reply
use Rattle.plain_model.specs.declared.replies.Refusal.TheVariants as refused
use Rattle.plain_model.specs.JobSteps.{asked_number, asked_job}
use Rattle.plain_model.specs.Legal.{IsPlanned, KeepsCounter, TriesNumber, MayHappen, is_job_running}
use Rattle.plain_model.specs.OnTrail.{logs_put}
use Rattle.plain_model.specs.Running.{text_of}
use Rattle.plain_model.specs.ShortCommands.{is_short, is_short_reply, short_commit, short_entry, standing_with, FollowsShort}
use Rattle.plain_model.specs.Timelines.{Happened, image_of, facts_of, happened_of, past_of}
use Rattle.plain_model.specs.Written.{Mode}
use Rattle.plain_model.proofs.RunSoFar.{goes_on_same, goes_on_more, image_is, moment_is}
use Rattle.plain_model.proofs.ShortCommands.{no_job_asked, promises_nothing, never_pending}
use Rattle.session_laws.specs.Contract.{Seen, CoreOn}
use Rattle.session_laws.specs.Core.{Answers, AllStand}
use Rattle.session_laws.specs.Doing.{AllDoing, Resting}
use Rattle.session_laws.specs.Needs.{Needs}
use Rattle.session_laws.proofs.ContractLaws.{core_committed, core_entered_to}
use Rattle.operation_laws.specs.Leading.{Leads, with_entry}
use Rattle.operation_laws.specs.Left.{AreLeft}
use Rattle.manager_core.specs.Answering.{IsCopy}
use Rattle.manager_core.specs.Steady.{IsSteady, AreSteady, IsSettledOp, Ends, Says, seen_with}
use Rattle.manager_core.proofs.Copies.{contents_after}
use Rattle.manager_core.proofs.SettledStays.{StaysSettled}

-- the entry of a short command is no other than this
pub entry_is : (e : Entry) (session : ℕ) (c : Command) (r : Reply) → Says e session c r 0 → e ≡ short_entry session c r e.moment
entry_is e session c r says = λ i. record { session = says.of_session i; command = says.command i; reply = says.answered i; moment = e.moment; operation = says.operation i }

module _ (session : ℕ) (c : Command) (short : is_short c ≡ true) (r : Reply) (word : is_short_reply r ≡ true) (change : List Edit) (took : Bool) (no_log : logs_put change ≡ []) (before : AllDoing) (rests : before session ≡ Resting None) where
  abbrev h : Happening
  h = short_commit change took

  -- What the transaction leaves on an image, made or not.
  pub record CommitsAt (image : Image) : Type 0 where
    pub sound : Sound (after_one image h)
    pub numbers : next_operation (after_one image h) ≡ next_operation image
    pub follows : FollowsShort session c (standing_with image nobody) (standing_with (after_one image h) nobody) r
    pub stand : AllStand Needs before (after_one image h)
    pub left : AreLeft before (after_one image h)
    pub settled : StaysSettled image (after_one image h)

  steady_after : (image : Image) → IsSteady before image → CommitsAt image → IsSteady before (after_one image h)
  steady_after image s at = record { sound = at.sound; stand = at.stand; one = s.one; one_job = s.one_job; plain = s.plain; left = at.left }

  none_asked : asked_number c ≡ None
  none_asked = no_job_asked c short

  no_job : (s : PlainState) → asked_job s c ≡ None
  no_job s = let none = no_job_asked c short in cc

  runs : is_job_running (Some r) ≡ false
  runs = by r word
    where
      by : (r : Reply) → is_short_reply r ≡ true → is_job_running (Some r) ≡ false
      by (reply.Refused refused.JobRunning) is = absurd cc
      by (reply.Refused x) is = refl
      by x is = refl

  module _ (history : List Entry) (moment : ℕ) where
    abbrev entry : Entry
    entry = short_entry session c r moment

    abbrev seen : Seen
    seen = seen_with history before

    abbrev after : Seen
    after = with_entry seen entry before

    module _ (mode : Mode) (t0 : ℕ) (start : Image) (trail : Trail) (on : CoreOn mode t0 start trail seen []) (at : CommitsAt (image_at trail (end_of_trail trail))) (now : moment ≡ end_of_trail (extended trail h)) where
      image : image_of start on.past ≡ image_at trail (end_of_trail trail)
      image = image_is t0 start trail on.past on.since

      stands : meaning (image_of start on.past) ≡ facts_of start on.past
      stands = on.core.owing.run.exact

      here : CommitsAt (image_of start on.past)
      here = subst CommitsAt (sym image) at

      may_happen : (b : Bool) → (next_operation (after_one (image_of start on.past) (short_commit change b)) ≡ next_operation (image_of start on.past)) → MayHappen start on.past (short_commit change b)
      may_happen true numbers = subst (KeepsCounter _ _) (sym no_log) numbers
      may_happen false numbers = subst (TriesNumber _) (sym no_log) tt

      follows_here : FollowsShort session c (with_connections (facts_of start on.past) nobody) (standing_with (after_one (image_of start on.past) h) nobody) r
      follows_here = subst (λ (s : PlainState). FollowsShort session c (with_connections s nobody) (standing_with (after_one (image_of start on.past) h) nobody) r) stands here.follows

      answers : Answers t0 start (Happened h ∷ on.past) entry nobody nobody
      answers = record {
        moment = omega (arith, now, length_push trail.happened h, length_push (happened_of on.past) h, moment_is t0 start trail on.past on.since);
        follows = follows_here.follows (past_of start on.past) moment;
        on_trail = follows_here.on_trail start (Happened h ∷ on.past) moment;
        planned = subst (IsPlanned start (Happened h ∷ on.past) (with_connections (facts_of start on.past) nobody) entry (standing_with (after_one (image_of start on.past) h) nobody)) (sym (no_job (facts_of start on.past))) tt;
      }

      committed : CoreOn mode t0 start (extended trail h) after (text_of mode entry)
      committed = core_committed seen entry None rests none_asked r refl refl runs (λ going. promises_nothing r word going entry) (never_pending r word) nobody mode t0 start trail on h
          (record { silent = refl; tries = no_log; may = may_happen took here.numbers; sound = here.sound }) (λ other l apart live. here.stand other l live) answers

    module _ (old new : Told) (told : new ≡ told_after old h) (commits : IfContents old CommitsAt) (now : IfTrail new (λ trail. moment ≡ end_of_trail trail)) where
      leads : (mode : Mode) → Leads mode old new seen after (text_of mode entry)
      leads mode = record {
        keeps = λ t0 start trail is on.
            let told_is : new ≡ TellsTrail (extended trail h) = told ∙ ap (λ t. told_after t h) is in
            record {
              trail = extended trail h;
              told = told_is;
              goes_on = goes_on_more trail trail h (goes_on_same trail);
              core = committed mode t0 start trail on (subst (λ t. IfContents t CommitsAt) is commits) (subst (λ t. IfTrail t (λ trail. moment ≡ end_of_trail trail)) told_is now);
            };
        keeps_to = λ first image is to.
            let at : CommitsAt image = subst (λ t. IfContents t CommitsAt) is commits in
            record {
              image = after_one image h;
              told = told ∙ ap (λ t. told_after t h) is;
              core = core_entered_to seen entry None rests none_asked r refl refl runs (λ going. promises_nothing r word going entry) (never_pending r word) nobody first image (after_one image h) to at.sound
                  (λ other l apart live. at.stand other l live) (at.follows.follows to.past moment);
            };
      }

  module _ (old new : Outside) (told : new.told ≡ told_after old.told h) (known fresh : Known) where
    after_on : (P Q : Image → Type 0) → ((image : Image) → P image → Q (after_one image h)) → IfContents old.told P → IfContents new.told Q
    after_on P Q goes p = subst (λ t. IfContents t Q) (sym told) (contents_after old.told h P Q goes p)

    pub commit_ends : (AreSteady before old → IsCopy known old.told → IfContents old.told CommitsAt) → ((r ≡ reply.Fault → ⊥) → IsCopy known old.told → IsCopy fresh new.told) → Ends session c r 0 known fresh old new before before
    commit_ends commits copies = record {
      steady = λ steady copy. after_on (λ image. IsSteady before image × CommitsAt image) (IsSteady before) (λ image both. steady_after image both.0 both.1) (contents_both old.told (IsSteady before) CommitsAt steady (commits steady copy));
      settled = λ steady copy op is. after_on (λ image. IsSettledOp op image × CommitsAt image) (IsSettledOp op) (λ image both. both.1.settled op both.0) (contents_both old.told (IsSettledOp op) CommitsAt is (commits steady copy));
      copy = λ ok steady copy. copies ok copy;
      leads = λ steady copy mode history e says now. subst (λ (x : Entry). Leads mode old.told new.told (seen_with history before) (with_entry (seen_with history before) x before) (text_of mode x)) (sym (entry_is e session c r says))
          (leads history e.moment old.told new.told told (commits steady copy) now mode);
    }
