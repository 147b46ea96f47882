-- A command of one operation is answered where nothing of its operation was tried.
use Rattle.std.proofs.Common.{◌≡◌, inl, inr, ℕ, ◌^◌, true, false, refl, sym, ap, ◌∙◌, subst, Some, None, Option, List, []}
use Rattle.std.specs.Prelude.{IsTrue}
use Rattle.cell_world.specs.Images.{Image, Trail, image_at, end_of_trail}
use Rattle.cell_world.specs.Jobs.{table_row}
use Rattle.cell_world.specs.Plain.{PlainState, nobody, owner, with_connections, holds_nothing}
use Rattle.cell_world.specs.Meaning.{meaning, next_operation}
use Rattle.cell_world.specs.Outside.{Outside, Told, TellsContents, TellsTrail, IfContents, IfTrail}
use Rattle.cell_world.specs.declared.operations.JobRow.{JobRow}
use Rattle.cell_world.specs.declared.operations.Op.{Op}
use Rattle.cell_world.specs.declared.operations.Piece.{Piece}
use Rattle.cell_world.proofs.ContentsLaws.{contents_both}
use Rattle.global_tables.specs.Known.{Known}
use Rattle.map_ops.specs.Planning.{is_long}
use Rattle.plain_model.specs.declared.commands.Command.{Command}
use Rattle.plain_model.specs.declared.commands.Command.TheVariants as command
use Rattle.plain_model.specs.declared.history.Entry.{Entry}
use Rattle.plain_model.specs.declared.replies.Reply.{Reply}
use Rattle.plain_model.specs.declared.replies.Reply.TheVariants as reply
use Rattle.plain_model.specs.declared.replies.Refusal.{Refusal}
use Rattle.plain_model.specs.declared.replies.Refusal.TheVariants as refused
use Rattle.plain_model.specs.Follows.{Follows, FollowsFault, NumbersAreSpent, takes_number}
use Rattle.plain_model.specs.JobSteps.{asked_number, asked_job, is_finish, is_finish_step}
use Rattle.plain_model.specs.Legal.{AllGoing, IsPlanned, Promises, is_job_running}
use Rattle.plain_model.specs.OnTrail.{EndsIfTried, FaultOnTrail, OnTrail}
use Rattle.plain_model.specs.Refusing.{if_there, mapping_of, refusal}
use Rattle.plain_model.specs.Running.{text_of}
use Rattle.plain_model.specs.ShortCommands.{is_short_refusal, is_short_reply, standing_with}
use Rattle.plain_model.specs.Steps.{plain_step, refused_or_done}
use Rattle.plain_model.specs.Timelines.{Timeline, Past, image_of, facts_of, past_of}
use Rattle.plain_model.specs.Written.{Mode}
use Rattle.plain_model.proofs.RunSoFar.{goes_on_same, image_is, moment_is}
use Rattle.plain_model.proofs.ShortCommands.{promises_nothing, never_pending}
use Rattle.session_laws.specs.Contract.{CoreOn, CoreGoesOn, CoreTo, CoreGoesTo}
use Rattle.session_laws.specs.Core.{Answers}
use Rattle.session_laws.specs.Doing.{Resting, AllDoing}
use Rattle.session_laws.proofs.ContractLaws.{core_answered, core_entered_to}
use Rattle.operation_laws.specs.Entries.{IsOneOperation}
use Rattle.operation_laws.specs.Leading.{Leads, with_entry}
use Rattle.operation_laws.proofs.Entries.{follows_memory}
use Rattle.operation_laws.proofs.Reaches.{asks_none}
use Rattle.manager_core.specs.Answering.{IsCopy}
use Rattle.manager_core.specs.Steady.{IsSteady, AreSteady, IsSettledOp, Ends, Says, seen_with}
use Rattle.manager_core.proofs.NobodyEnds.{long_is_one, nobody_ends}

-- On this image the entry follows with nothing changed.
pub record FitsAt (session : ℕ) (c : Command) (r : Reply) (image : Image) : Type 0 where
  pub follows : (past : Past) (e : Entry) → Says e session c r 0 → Follows past (standing_with image nobody) e (standing_with image nobody) (Some r)
  pub on_trail : (start : Image) (past : Timeline) → image_of start past ≡ image → (e : Entry) → Says e session c r 0 → OnTrail start past (standing_with image nobody) e (standing_with image nobody) (Some r)

-- ---- a reply that promises nothing

module _ (session : ℕ) (c : Command) (no_job : asked_number c ≡ None) (r : Reply) (word : is_short_reply r ≡ true) (before : AllDoing) (left : Option Op) (rests : before session ≡ Resting left) (a b : Outside) (same : b.told ≡ a.told)
    (fits : IfContents a.told (λ image. IsSteady before image → FitsAt session c r image)) where
  runs : is_job_running (Some r) ≡ false
  runs = by r word
    where
      by : (r : Reply) → is_short_reply r ≡ true → is_job_running (Some r) ≡ false
      by (reply.Refused refused.JobRunning) is = absurd cc
      by (reply.Refused x) is = refl
      by x is = refl

  no_job_in : (s : PlainState) → asked_job s c ≡ None
  no_job_in s = let none = no_job in cc

  module _ (e : Entry) (says : Says e session c r 0) where
    rests_e : before e.session ≡ Resting left
    rests_e = ap before says.of_session ∙ rests

    none_e : asked_number e.command ≡ None
    none_e = ap asked_number says.command ∙ no_job

    promise_e : (going : AllGoing) → Promises going e [] e.reply
    promise_e going = subst (Promises going e []) (sym says.answered) (promises_nothing r word going e)

    some_e : e.reply ≡ Some (reply.Pending 0) → ⊥
    some_e is = never_pending r word (sym says.answered ∙ is)

    leads_quiet : AreSteady before a → (mode : Mode) (history : List Entry) → IfTrail b.told (λ trail. e.moment ≡ end_of_trail trail)
        → Leads mode a.told b.told (seen_with history before) (with_entry (seen_with history before) e before) (text_of mode e)
    leads_quiet steady mode history now = record { keeps = keeps; keeps_to = keeps_to }
      where
        here : (told : Told) → a.told ≡ told → IfContents told (λ image. FitsAt session c r image)
        here told is = subst (λ t. IfContents t (λ image. FitsAt session c r image)) is
            (Rattle.cell_world.proofs.ContentsLaws.contents_weaker a.told (λ image. IsSteady before image × (IsSteady before image → FitsAt session c r image)) (FitsAt session c r) (λ image both. both.1 both.0)
            (contents_both a.told (IsSteady before) (λ image. IsSteady before image → FitsAt session c r image) steady fits))

        keeps : (t0 : ℕ) (start : Image) (trail : Trail) → a.told ≡ TellsTrail trail → CoreOn mode t0 start trail (seen_with history before) [] → CoreGoesOn mode t0 start trail b.told (with_entry (seen_with history before) e before) (text_of mode e)
        keeps t0 start trail is on = record {
          trail = trail;
          told = same ∙ is;
          goes_on = goes_on_same trail;
          core = core_answered (seen_with history before) e left rests_e none_e r says.answered says.operation runs promise_e some_e nobody mode t0 start trail on answers;
        }
          where
            image : image_of start on.past ≡ image_at trail (end_of_trail trail)
            image = image_is t0 start trail on.past on.since

            fit : FitsAt session c r (image_of start on.past)
            fit = subst (FitsAt session c r) (sym image) (here (TellsTrail trail) is)

            exact : meaning (image_of start on.past) ≡ facts_of start on.past
            exact = on.core.owing.run.exact

            answers : Answers t0 start on.past e nobody nobody
            answers = record {
              moment = subst (λ t. IfTrail t (λ tr. e.moment ≡ end_of_trail tr)) (same ∙ is) now ∙ sym (moment_is t0 start trail on.past on.since);
              follows = subst (λ x. Follows (past_of start on.past) (with_connections (facts_of start on.past) nobody) e (standing_with (image_of start on.past) nobody) x) (sym says.answered)
                  (subst (λ (s : PlainState). Follows (past_of start on.past) (with_connections s nobody) e (standing_with (image_of start on.past) nobody) (Some r)) exact (fit.follows (past_of start on.past) e says));
              on_trail = subst (λ x. OnTrail start on.past (with_connections (facts_of start on.past) nobody) e (standing_with (image_of start on.past) nobody) x) (sym says.answered)
                  (subst (λ (s : PlainState). OnTrail start on.past (with_connections s nobody) e (standing_with (image_of start on.past) nobody) (Some r)) exact (fit.on_trail start on.past refl e says));
              planned = subst (IsPlanned start on.past (with_connections (facts_of start on.past) nobody) e (standing_with (image_of start on.past) nobody)) (sym (ap (asked_job (facts_of start on.past)) says.command ∙ no_job_in (facts_of start on.past))) tt;
            }

        keeps_to : (first image : Image) → a.told ≡ TellsContents image → CoreTo first image (seen_with history before) → CoreGoesTo first b.told (with_entry (seen_with history before) e before)
        keeps_to first image is to = record {
          image = image;
          told = same ∙ is;
          core = core_entered_to (seen_with history before) e left rests_e none_e r says.answered says.operation runs promise_e some_e nobody first image image to to.core.run.sound (λ other l apart at. to.core.stand other l at)
              (subst (Follows to.past (standing_with image nobody) e (standing_with image nobody)) (sym says.answered) ((here (TellsContents image) is).follows to.past e says));
        }

  pub quiet_ends : (known : Known) → Ends session c r 0 known known a b before before
  quiet_ends known = record {
    steady = λ steady copy. subst (λ t. IfContents t (IsSteady before)) (sym same) steady;
    settled = λ steady copy op is. subst (λ t. IfContents t (IsSettledOp op)) (sym same) is;
    copy = λ ok steady copy. subst (IsCopy known) (sym same) copy;
    leads = λ steady copy mode history e says now. leads_quiet e says steady mode history now;
  }

-- ---- by commands

-- a long command takes a number
takes_long : (c : Command) → is_long c ≡ true → IsTrue (takes_number c)
takes_long (command.Add name low high location) long = refl
takes_long (command.Addpoint name key location) long = refl
takes_long (command.Delete name key token) long = refl
takes_long (command.Offline name key token) long = refl
takes_long (command.Online name key token) long = refl
takes_long (command.Move name key location token) long = refl
takes_long (command.Split name key token) long = refl
takes_long (command.Merge name key token) long = refl
takes_long other long = absurd cc

-- its fault may leave all as it was
fault_leaves : (A : PlainState) (e : Entry) (c : Command) → is_long c ≡ true → FollowsFault A A e c None
fault_leaves A e (command.Offline name key token) long = inr (inl refl)
fault_leaves A e (command.Attach location) long = absurd cc
fault_leaves A e (command.Clear location) long = absurd cc
fault_leaves A e (command.Detach location) long = absurd cc
fault_leaves A e c long = inl refl

-- where nobody is connected no connection has to end
none_to_end : (start : Image) (past : Timeline) (e : Entry) (s : PlainState) (m : Option Piece) → EndsIfTried start past e (with_connections s nobody) (with_connections s nobody) m
none_to_end start past e s None = tt
none_to_end start past e s (Some p) = λ tried. sym (nobody_ends (Some p))

fault_told : (start : Image) (past : Timeline) (e : Entry) (s : PlainState) (c : Command) → is_long c ≡ true → FaultOnTrail start past e (with_connections s nobody) (with_connections s nobody) c None
fault_told start past e s (command.Offline name key token) long = none_to_end start past e s (mapping_of (with_connections s nobody) name key)
fault_told start past e s (command.Attach location) long = absurd cc
fault_told start past e s c long = tt

-- ---- the replies of a command that is planned as an operation

module _ (session : ℕ) (c : Command) (long : is_long c ≡ true) (image : Image) where
  abbrev A : PlainState
  A = standing_with image nobody

  -- it is refused
  step_is : (r : Refusal) → refusal A session c ≡ Some r → plain_step holds_nothing A session c ≡ (A, reply.Refused r)
  step_is r is = ap (refused_or_done holds_nothing A session c) is

  refused_follows : (r : Refusal) → is_short_refusal r ≡ true → refusal A session c ≡ Some r → (past : Past) (e : Entry) → Says e session c (reply.Refused r) 0 → Follows past A e A (Some (reply.Refused r))
  refused_follows refused.JobRunning word is past e says = absurd cc
  refused_follows refused.Full word is past e says = inl (record { held = holds_nothing; step = at_entry })
    where
      at_entry : plain_step holds_nothing A e.session e.command ≡ (A, reply.Refused refused.Full)
      at_entry = ap (λ s. plain_step holds_nothing A s e.command) says.of_session ∙ ap (plain_step holds_nothing A session) says.command ∙ step_is refused.Full is
  refused_follows r word is past e says = record { held = holds_nothing; step = at_entry }
    where
      at_entry : plain_step holds_nothing A e.session e.command ≡ (A, reply.Refused r)
      at_entry = ap (λ s. plain_step holds_nothing A s e.command) says.of_session ∙ ap (plain_step holds_nothing A session) says.command ∙ step_is r is

  refused_on_trail : (r : Refusal) → refusal A session c ≡ Some r → (start : Image) (past : Timeline) (e : Entry) → Says e session c (reply.Refused r) 0 → OnTrail start past A e A (Some (reply.Refused r))
  refused_on_trail refused.Full is start past e says = inl (ap (λ s. refusal A s e.command) says.of_session ∙ ap (refusal A session) says.command ∙ is)
  refused_on_trail r is start past e says = tt

  pub refused_fits : (r : Refusal) → is_short_refusal r ≡ true → refusal A session c ≡ Some r → FitsAt session c (reply.Refused r) image
  refused_fits r word is = record { follows = refused_follows r word is; on_trail = λ start past at e says. refused_on_trail r is start past e says }

  -- it asks for no job
  no_job_of : asked_job A c ≡ None
  no_job_of = let none = asks_none c (long_is_one c long) in cc

  -- no number is left
  spent : (e : Entry) → e.command ≡ c → refusal A e.session e.command ≡ None → NumbersAreSpent A A e
  spent e at accepted = record {
    same = refl;
    accepted = accepted;
    takes = subst (λ x. IsTrue (takes_number x)) (sym at) (takes_long c long);
    no_finish = ap (is_finish_step A) at ∙ ap (if_there (λ (job : JobRow). is_finish (table_row (owner A) A.mappings job))) no_job_of;
  }

  pub full_fits : refusal A session c ≡ None → next_operation image ≡ 2 ^ 63 → FitsAt session c (reply.Refused refused.Full) image
  full_fits accepted last = record {
    follows = λ past e says. inr (spent e says.command (ap (λ s. refusal A s e.command) says.of_session ∙ ap (refusal A session) says.command ∙ accepted));
    on_trail = λ start past at e says. inr (ap next_operation at ∙ last);
  }

  -- a call failed, or memory is short
  pub fault_fits : FitsAt session c reply.Fault image
  fault_fits = record {
    follows = λ past e says. subst (λ x. FollowsFault A A e x (asked_job A x)) (sym says.command) (subst (FollowsFault A A e c) (sym no_job_of) (fault_leaves A e c long));
    on_trail = λ start past at e says. subst (λ x. FaultOnTrail start past e A A x (asked_job A x)) (sym says.command) (subst (FaultOnTrail start past e A A c) (sym no_job_of) (fault_told start past e (meaning image) c long));
  }

  pub memory_fits : FitsAt session c reply.Memory image
  memory_fits = record {
    follows = λ past e says. subst (Follows past A e A) says.answered (follows_memory past A A e (subst IsOneOperation (sym says.command) (long_is_one c long)) refl says.answered);
    on_trail = λ start past at e says. tt;
  }
