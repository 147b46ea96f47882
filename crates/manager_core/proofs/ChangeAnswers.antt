-- The way of a short command is cleared, and its change is made; or it is answered before that.
use Rattle.std.proofs.Common.{◌≡◌, ◌⊎◌, ⊎_elim, inl, ℕ, true, refl, sym, subst, Some, None, List}
use Rattle.std.specs.Prelude.{Ok}
use Rattle.cell_world.specs.Images.{Image, after_one, global}
use Rattle.cell_world.specs.Meaning.{meaning, next_operation}
use Rattle.cell_world.specs.Plain.{nobody}
use Rattle.cell_world.specs.Outside.{Outside, IfContents, IsLater, StoreRoseBy}
use Rattle.cell_world.specs.Sound.{Sound}
use Rattle.cell_world.specs.declared.changes.Edit.{Edit}
use Rattle.cell_world.specs.declared.operations.Reach.{Reach}
use Rattle.cell_world.proofs.ContentsLaws.{contents_all, contents_both, contents_weaker}
use Rattle.global_tables.specs.Known.{Known, known_of}
use Rattle.map_ops.specs.Planning.{NoneInWay, PlansChange}
use Rattle.plain_model.specs.ShortCommands.{is_short, short_commit}
use Rattle.map_ops.proofs.PlannedLaws.{never_both, short_is_asked}
use Rattle.op_steps.proofs.Rises.{rose_after}
use Rattle.operation_laws.specs.LiveNumbers.{AreTheLive, HasLive}
use Rattle.plain_model.specs.declared.commands.Command.{Command}
use Rattle.plain_model.specs.declared.replies.Reply.{Reply}
use Rattle.plain_model.specs.declared.replies.Reply.TheVariants as reply
use Rattle.plain_model.specs.OnTrail.{reach_of_command}
use Rattle.session_laws.specs.Doing.{AllDoing}
use Rattle.manager_core.specs.Answering.{IsCopy}
use Rattle.manager_core.specs.Asking.{AnswersNow, FindsWay, MakesChange, MayMake}
use Rattle.manager_core.specs.Coming.{AsksExactly, ClearStep, ClearsNone, HappensAsking, IsFirstInWay, IsInWay, IsTidied, OrStops, SettleStep, TriesFor}
use Rattle.manager_core.specs.Steady.{IsSteady, AreSteady, Becomes}
use Rattle.manager_core.proofs.ExactAnswers.{exact_fault, exact_memory, exact_answer, exact_pending}
use Rattle.manager_core.proofs.MovingLaws.{ends_after}
use Rattle.manager_core.proofs.PendingEnds.{Waits, pending_ends}
use Rattle.manager_core.proofs.QuietAnswers.{asks_no_job, ends_where, fault_quietly, memory_quietly, said_of}
use Rattle.manager_core.proofs.TidyLaws.{tidied_none, tidied_on}

not_pending : (number : ℕ) → OrStops (Some (reply.Pending number)) reply.Ok → ⊥
not_pending number stops = ⊎_elim (λ is. let e : Some (reply.Pending number) ≡ Some reply.Ok = is in cc) (λ more. ⊎_elim (λ is. let e : Some (reply.Pending number) ≡ Some reply.Fault = is in cc) (λ is. let e : Some (reply.Pending number) ≡ Some reply.Memory = is in cc) more) stops

pending_is : (n m : ℕ) → reply.Pending n ≡ reply.Pending m → n ≡ m
pending_is n m is = cc

-- the one answer or the other
pub now_or : (c : Command) (known fresh : Known) (before : AllDoing) (old new : Outside) (r s t : Reply) → (t ≡ r) ⊎ (t ≡ s) → AnswersNow c r known fresh before old new → AnswersNow c s known fresh before old new → AnswersNow c t known fresh before old new
now_or c known fresh before old new r s t which one two = ⊎_elim (λ this. subst (λ x. AnswersNow c x known fresh before old new) (sym this) one) (λ that. subst (λ x. AnswersNow c x known fresh before old new) (sym that) two) which

module _ (c : Command) (planned : is_short c ≡ true) (known : Known) (before : AllDoing) (reached : Reach) (change : List Edit) (old mid : Outside) (becomes : Becomes old mid before before) (tidied : AreSteady before old → IsTidied (ClearStep before reached) old.told mid.told) (later : IsLater old mid) where
  module _ (plans : IfContents old.told (λ image. Sound image → known ≡ known_of (global image) → PlansChange c reached change reply.Ok image)) where
    planned_here : AreSteady before old → IsCopy known old.told → IfContents old.told (PlansChange c reached change reply.Ok)
    planned_here steady copy = said_of old.told before known (PlansChange c reached change reply.Ok) steady copy plans

    -- what happened before something was tried
    happened_so : (r : Reply) (session : ℕ) (last : Outside) → ClearsNone (Some r) old.told mid.told → TriesFor (Some r) 0 mid.told last.told → AreSteady before old → IsCopy known old.told → HappensAsking before session c (Some r) 0 old.told last.told
    happened_so r session last none tries steady copy = record {
      reached = reached;
      reaches = contents_weaker old.told (PlansChange c reached change reply.Ok) (λ image. reached ≡ reach_of_command (meaning image) c) (λ image p. p.reaches) (planned_here steady copy);
      settled = old.told;
      settles = tidied_none (SettleStep (before session)) old.told old.told refl;
      between = mid.told;
      clears = tidied steady;
      none = none;
      tries = tries;
    }

    -- ---- it is answered once its way was cleared, in part or whole

    pub fault_after : StoreRoseBy 1 old mid → AnswersNow c reply.Fault known known before old mid
    fault_after rose = record {
      ends = λ session rests. ends_after session c reply.Fault 0 known known old mid mid before before before becomes (fault_quietly session c (short_is_asked c planned) before rests mid mid refl known);
      happens = λ session. happened_so reply.Fault session mid tt (inl (refl, inl refl));
      waits_for = λ other is. absurd cc;
      exact = λ session steady copy. contents_all old.told (AsksExactly before session c (Some reply.Fault)) (λ image. exact_fault before session c image);
      cause = λ is. rose;
    }

    pub memory_after : AnswersNow c reply.Memory known known before old mid
    memory_after = record {
      ends = λ session rests. ends_after session c reply.Memory 0 known known old mid mid before before before becomes (memory_quietly session c (short_is_asked c planned) before rests mid mid refl known);
      happens = λ session. happened_so reply.Memory session mid tt (refl, refl);
      waits_for = λ other is. absurd cc;
      exact = λ session steady copy. contents_all old.told (AsksExactly before session c (Some reply.Memory)) (λ image. exact_memory before session c image);
      cause = λ is. absurd cc;
    }

    -- ---- a live operation is in the way

    module _ (number : ℕ) (has : HasLive before number) (way : AreSteady before old → FindsWay before reached (Ok (Some number)) old mid) (live : List ℕ) (are : AreTheLive live before) where
      -- what the plan and the way say together
      abbrev InWay : Image → Type 0
      InWay image = PlansChange c reached change reply.Ok image × IsFirstInWay before reached number

      in_way : AreSteady before old → IsCopy known old.told → IfContents old.told InWay
      in_way steady copy = contents_both old.told (PlansChange c reached change reply.Ok) (λ image. IsFirstInWay before reached number) (planned_here steady copy) (way steady).1

      pub waits_now : AnswersNow c (reply.Pending number) known known before old mid
      waits_now = record {
        ends = λ session rests. ends_where session c (reply.Pending number) 0 known known old mid before before
            (λ steady copy. pending_ends session c (asks_no_job c (short_is_asked c planned)) before None rests live are reached number old mid (way steady).0 later known
            (λ s k. contents_weaker old.told InWay (Waits session c (asks_no_job c (short_is_asked c planned)) before None rests live are reached number old mid (way steady).0 later)
            (λ image both. record { accepted = both.0.accepts session nobody; reaches = sym both.0.reaches; first = both.1 }) (in_way s k)));
        happens = λ session steady copy. happened_so (reply.Pending number) session mid (way steady).0 (refl, refl) steady copy;
        waits_for = λ other is. subst (HasLive before) (pending_is number other is) has;
        exact = λ session steady copy. contents_weaker old.told InWay (AsksExactly before session c (Some (reply.Pending number)))
            (λ image both. exact_pending before session c image number (record { accepted = both.0.accepts session nobody; number = λ long. absurd (never_both c planned long) }) (subst (λ x. IsFirstInWay before x number) both.0.reaches both.1))
            (in_way steady copy);
        cause = λ is. absurd cc;
      }

    -- ---- the change is tried

    module _ (way : AreSteady before old → FindsWay before reached (Ok None) old mid) (fresh : Known) (new : Outside) (s : Reply) (makes : MakesChange change s known fresh mid new) where
      may_make : AreSteady before old → IsCopy known old.told → IfContents mid.told (λ image. IsSteady before image → known ≡ known_of (global image) → MayMake c change image)
      may_make steady copy = contents_weaker mid.told (λ image. (Sound image → NoneInWay image reached → MayMake c change image) × NoneInWay image reached) (λ image. IsSteady before image → known ≡ known_of (global image) → MayMake c change image)
          (λ image both s k. both.0 s.sound both.1)
          (contents_both mid.told (λ image. Sound image → NoneInWay image reached → MayMake c change image) (λ image. NoneInWay image reached)
          (tidied_on (ClearStep before reached) old.told mid.told (tidied steady) (PlansChange c reached change reply.Ok) (λ image. Sound image → NoneInWay image reached → MayMake c change image)
          (λ image now p means next sound none. record { changes = p.changes now sound means none; reached = reached; short = p.short now sound means none; none = none }) (planned_here steady copy)) (way steady).1)

      numbers : AreSteady before old → IsCopy known old.told → (session : ℕ) → IfContents mid.told (λ image. next_operation (after_one image (short_commit change true)) ≡ next_operation image)
      numbers steady copy session = contents_weaker mid.told (λ image. (IsSteady before image × (known ≡ known_of (global image))) × (IsSteady before image → known ≡ known_of (global image) → MayMake c change image)) (λ image. next_operation (after_one image (short_commit change true)) ≡ next_operation image)
          (λ image all. ((all.1 all.0.0 all.0.1).changes session).numbers)
          (contents_both mid.told (λ image. IsSteady before image × (known ≡ known_of (global image))) (λ image. IsSteady before image → known ≡ known_of (global image) → MayMake c change image)
          (contents_both mid.told (IsSteady before) (λ image. known ≡ known_of (global image)) (becomes.steady steady) (becomes.copy known steady copy)) (may_make steady copy))

      -- it is no refusal, and doesn't wait
      clears_for : OrStops (Some s) reply.Ok → ClearsNone (Some s) old.told mid.told
      clears_for which = by s which
        where
          by : (x : Reply) → OrStops (Some x) reply.Ok → ClearsNone (Some x) old.told mid.told
          by (reply.Refused y) stops = absurd (⊎_elim (λ is. let e : Some (reply.Refused y) ≡ Some reply.Ok = is in cc) (λ more. ⊎_elim (λ is. let e : Some (reply.Refused y) ≡ Some reply.Fault = is in cc) (λ is. let e : Some (reply.Refused y) ≡ Some reply.Memory = is in cc) more) stops)
          by (reply.Pending y) stops = absurd (not_pending y stops)
          by x stops = tt

      -- on the image before it
      exact_here : (session : ℕ) (image : Image) → PlansChange c reached change reply.Ok image → ((number : ℕ) → IsInWay before reached number → ⊥) → OrStops (Some s) reply.Ok → AsksExactly before session c (Some s) image
      exact_here session image p free which = ⊎_elim
          (λ is. subst (λ x. AsksExactly before session c x image) (sym is) (exact_answer before session c image reply.Ok refl planned (p.accepts session nobody) (subst (λ x. (number : ℕ) → IsInWay before x number → ⊥) p.reaches free)))
          (λ stops. ⊎_elim (λ is. subst (λ x. AsksExactly before session c x image) (sym is) (exact_fault before session c image)) (λ is. subst (λ x. AsksExactly before session c x image) (sym is) (exact_memory before session c image)) stops)
          which

      pub made_now : AnswersNow c s known fresh before old new
      made_now = record {
        ends = λ session rests. ends_where session c s 0 known fresh old new before before
            (λ steady copy. ends_after session c s 0 known fresh old mid new before before before becomes (makes.ends session c before planned rests (may_make steady copy)));
        happens = λ session steady copy. happened_so s session new (clears_for makes.answers) (makes.tries (numbers steady copy session)) steady copy;
        waits_for = λ other is. absurd (not_pending other (subst (λ x. OrStops (Some x) reply.Ok) is makes.answers));
        exact = λ session steady copy. contents_weaker old.told (λ image. PlansChange c reached change reply.Ok image × ((number : ℕ) → IsInWay before reached number → ⊥)) (AsksExactly before session c (Some s))
            (λ image both. exact_here session image both.0 both.1 makes.answers)
            (contents_both old.told (PlansChange c reached change reply.Ok) (λ image. (number : ℕ) → IsInWay before reached number → ⊥) (planned_here steady copy) (way steady).0);
        cause = λ is. rose_after old mid new later (makes.cause is);
      }
