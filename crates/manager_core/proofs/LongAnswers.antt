-- A command whose operation is planned is taken up: its session has it live, or it is answered.
use Rattle.std.proofs.Common.{◌≡◌, ◌⊎◌, ⊎_elim, ℕ, ◌<◌, ◌^◌, true, false, refl, sym, ap, ◌∙◌, subst, arith, Some, None, Option, List}
use Rattle.cell_world.specs.Images.{Image, global}
use Rattle.cell_world.specs.Plain.{nobody}
use Rattle.cell_world.specs.Meaning.{meaning, next_operation}
use Rattle.cell_world.specs.Operations.{reach_of}
use Rattle.cell_world.specs.Outside.{Outside, IfContents, StoreRoseBy}
use Rattle.cell_world.specs.Sound.{Sound}
use Rattle.cell_world.specs.declared.operations.Op.{Op}
use Rattle.cell_world.specs.declared.operations.Reach.{Reach}
use Rattle.cell_world.proofs.ContentsLaws.{contents_all, contents_both, contents_weaker}
use Rattle.global_tables.specs.Known.{Known, known_of}
use Rattle.map_ops.specs.Planning.{PlansLong, is_long}
use Rattle.map_ops.proofs.PlannedLaws.{long_is_asked}
use Rattle.op_steps.specs.declared.stages.Stage.{Stage}
use Rattle.operation_laws.specs.Left.{left_of}
use Rattle.operation_laws.specs.LiveNumbers.{AreTheLive, HasLive}
use Rattle.plain_model.specs.declared.commands.Command.{Command}
use Rattle.plain_model.specs.declared.replies.Reply.{Reply}
use Rattle.plain_model.specs.declared.replies.Reply.TheVariants as reply
use Rattle.plain_model.specs.declared.replies.Refusal.TheVariants as refused
use Rattle.plain_model.specs.OnTrail.{reach_of_command}
use Rattle.session_laws.specs.Doing.{AllDoing, Resting, Operating, IsThen}
use Rattle.manager_core.specs.declared.answers.Answer.{Answer}
use Rattle.manager_core.specs.declared.beginning.Taken.{Taken}
use Rattle.manager_core.specs.declared.beginning.Taken.TheVariants as taken
use Rattle.manager_core.specs.declared.coming.Came.TheVariants.{Going, Ended}
use Rattle.manager_core.specs.declared.doings.Doing.TheVariants as seat
use Rattle.manager_core.specs.Answering.{IsCopy}
use Rattle.manager_core.specs.Beginnings.{IsFullAt, TakesExactly, TakesUp, WaitsExactly, answer_of, number_in}
use Rattle.manager_core.specs.Coming.{AsksExactly, ClearStep, ComesOfAsking, HappensAsking, IsAdmitted, IsFirstInWay, IsInWay, SettleStep}
use Rattle.manager_core.specs.Doings.{doing_of}
use Rattle.manager_core.specs.Steady.{IsSteady, AreSteady, Ends}
use Rattle.manager_core.proofs.BeginningLaws.{reach_planned}
use Rattle.manager_core.proofs.ExactAnswers.{exact_fault, exact_full, exact_going, exact_memory, exact_pending}
use Rattle.manager_core.proofs.QuietAnswers.{ends_where, memory_quietly, said_of}
use Rattle.manager_core.proofs.TidyLaws.{tidied_none}

none_some : {A : Type 0} (a : A) → None ≡ Some a → ⊥
none_some a is = cc

pending_is : (n m : ℕ) → reply.Pending n ≡ reply.Pending m → n ≡ m
pending_is n m is = cc

module _ (session : ℕ) (c : Command) (long : is_long c ≡ true) (known : Known) (before : AllDoing) (rests : before session ≡ Resting None) (live : List ℕ) (are : AreTheLive live before) (op : Op) (old new : Outside)
    (plans : IfContents old.told (λ image. Sound image → known ≡ known_of (global image) → PlansLong c op image)) where
  -- what the plan says of sound stores
  plans_sound : IsCopy known old.told → IfContents old.told (λ image. Sound image → PlansLong c op image)
  plans_sound copy = contents_weaker old.told (λ image. (known ≡ known_of (global image)) × (Sound image → known ≡ known_of (global image) → PlansLong c op image)) (λ image. Sound image → PlansLong c op image)
      (λ image both sound. both.1 sound both.0) (contents_both old.told (λ image. known ≡ known_of (global image)) (λ image. Sound image → known ≡ known_of (global image) → PlansLong c op image) copy plans)

  -- and of steady ones
  abbrev Planned : Image → Type 0
  Planned image = IsSteady before image × PlansLong c op image

  planned_here : AreSteady before old → IsCopy known old.told → IfContents old.told Planned
  planned_here steady copy = contents_both old.told (IsSteady before) (PlansLong c op) steady (said_of old.told before known (PlansLong c op) steady copy plans)

  -- ---- it is answered

  module _ (answer : Answer) (number : ℕ) (r : Reply) (is : answer.reply ≡ r) where
    ended : Ends session c r number known known old new before before → ((other : ℕ) → r ≡ reply.Pending other → HasLive before other) → (r ≡ reply.Fault → StoreRoseBy 1 old new)
        → (AreSteady before old → IsCopy known old.told → HappensAsking before session c (Some r) number old.told new.told) → (AreSteady before old → IsCopy known old.told → IfContents old.told (AsksExactly before session c (Some r)))
        → ComesOfAsking session c (Ended c answer number) known known before before old new
    ended ends waits fault happens exact = record {
      becomes = (
        refl,
        record {
          rests = record { here = rests; others = λ other apart. refl };
          ends = subst (λ x. Ends session c x number known known old new before before) (sym is) ends;
          names = λ short. let both : false ≡ true = sym short ∙ long in absurd cc;
          waits_for = λ other here. waits other (sym is ∙ here);
          fault = λ here. fault (sym is ∙ here);
        },
      );
      so = record {
        happens = λ steady copy. subst (λ x. HappensAsking before session c (Some x) number old.told new.told) (sym is) (happens steady copy);
        exact = λ steady copy. subst (λ x. IfContents old.told (AsksExactly before session c (Some x))) (sym is) (exact steady copy);
        settles = λ steady copy o left. absurd (none_some o (sym (ap left_of rests) ∙ left));
      };
    }

  module _ (result : Taken) (t : TakesUp live op result old new) where
    exactly : AreSteady before old → IsCopy known old.told → TakesExactly op before result old new
    exactly steady copy = t.exact c before are steady (plans_sound copy)

    reaches : AreSteady before old → IsCopy known old.told → IfContents old.told (λ image. reach_of op ≡ reach_of_command (meaning image) c)
    reaches steady copy = contents_weaker old.told Planned (λ image. reach_of op ≡ reach_of_command (meaning image) c) (λ image p. reach_planned c long op image p.1) (planned_here steady copy)

    -- what happened
    happens_so : AreSteady before old → IsCopy known old.told → HappensAsking before session c (answer_of result) (number_in result) old.told new.told
    happens_so steady copy = let h = exactly steady copy in record {
      reached = reach_of op;
      reaches = reaches steady copy;
      settled = old.told;
      settles = tidied_none (SettleStep (before session)) old.told old.told refl;
      between = h.between;
      clears = h.clears;
      none = h.none;
      tries = h.tries;
    }

    -- what is so on the image before it
    abbrev Here : Image → Type 0
    Here image = Planned image × (IsFullAt result image × WaitsExactly result before (reach_of op))

    here : AreSteady before old → IsCopy known old.told → IfContents old.told Here
    here steady copy = contents_both old.told Planned (λ image. IsFullAt result image × WaitsExactly result before (reach_of op)) (planned_here steady copy)
        (contents_both old.told (IsFullAt result) (λ image. WaitsExactly result before (reach_of op)) t.full (exactly steady copy).waits)

    exact_so : (came : Option Reply) → ((image : Image) → Here image → AsksExactly before session c came image) → AreSteady before old → IsCopy known old.told → IfContents old.told (AsksExactly before session c came)
    exact_so came by steady copy = contents_weaker old.told Here (AsksExactly before session c came) by (here steady copy)

  admitted : (image : Image) → Planned image → next_operation image < 2 ^ 63 → IsAdmitted session c image
  admitted image p below = record { accepted = p.1.accepts session nobody; number = λ is last. omega (arith, below, last) }

  way_as : (P : Reach → Type 0) (image : Image) → Planned image → P (reach_of op) → P (reach_of_command (meaning image) c)
  way_as P image p way = subst P (reach_planned c long op image p.1) way

  -- its session has it live
  pub going_comes : (made : Op) (stage : Stage) (t : TakesUp live op (taken.Going made stage) old new) (next : AllDoing) → IsThen before session (doing_of (seat.Operating c made stage)) next → ComesOfAsking session c (Going made.number) known known before next old new
  going_comes made stage t next then =
      let logged = subst (λ name. IsThen before session (Operating c made name) next) t.begins.name then in
      record {
        becomes = record { op = made; named = refl; next = logged; copy = refl; becomes = λ copy. (t.takes session c before None long are rests (plans_sound copy)).1 next logged };
        so = record {
          happens = happens_so (taken.Going made stage) t;
          exact = exact_so (taken.Going made stage) t None (λ image h. exact_going before session c image long (admitted image h.0 h.1.0) (way_as (λ reached. (number : ℕ) → IsInWay before reached number → ⊥) image h.0 h.1.1));
          settles = λ steady copy o left. absurd (none_some o (sym (ap left_of rests) ∙ left));
        };
      }

  -- no number is left
  full_ended : (answer : Answer) → answer.reply ≡ reply.Refused refused.Full → TakesUp live op taken.Full old new → ComesOfAsking session c (Ended c answer 0) known known before before old new
  full_ended answer is t = ended answer 0 (reply.Refused refused.Full) is
      (ends_where session c (reply.Refused refused.Full) 0 known known old new before before (λ steady copy. t.takes session c before None long are rests (plans_sound copy) known))
      (λ other h. absurd cc) (λ h. absurd cc) (happens_so taken.Full t)
      (exact_so taken.Full t (Some (reply.Refused refused.Full))
      (λ image h. exact_full before session c image (record { long = long; accepted = h.0.1.accepts session nobody; last = let most = h.0.0.sound.globals.operations.1 in let least = h.1.0 in omega (arith, most, least) })))

  -- another's operation is in the way
  pending_ended : (answer : Answer) (number : ℕ) → answer.reply ≡ reply.Pending number → TakesUp live op (taken.Pending number) old new → ComesOfAsking session c (Ended c answer 0) known known before before old new
  pending_ended answer number is t = ended answer 0 (reply.Pending number) is
      (ends_where session c (reply.Pending number) 0 known known old new before before (λ steady copy. t.takes session c before None long are rests (plans_sound copy) known))
      (λ other h. subst (HasLive before) (pending_is number other h) (t.names before are)) (λ h. absurd cc) (happens_so (taken.Pending number) t)
      (exact_so (taken.Pending number) t (Some (reply.Pending number)) (λ image h. exact_pending before session c image number (admitted image h.0 h.1.0) (way_as (λ reached. IsFirstInWay before reached number) image h.0 h.1.1)))

  -- there was no memory for the lines of a reply where nothing happened
  module _ (result : Taken) (t : TakesUp live op result old new) (quiet : TakesExactly op before result old new → new.told ≡ old.told) where
    unlined_ended : (answer : Answer) → answer.reply ≡ reply.Memory → ComesOfAsking session c (Ended c answer 0) known known before before old new
    unlined_ended answer is = ended answer 0 reply.Memory is
        (ends_where session c reply.Memory 0 known known old new before before (λ steady copy. memory_quietly session c (long_is_asked c long) before rests old new (quiet (exactly result t steady copy)) known))
        (λ other h. absurd cc) (λ h. absurd cc)
        (λ steady copy. record {
          reached = reach_of op;
          reaches = reaches result t steady copy;
          settled = old.told;
          settles = tidied_none (SettleStep (before session)) old.told old.told refl;
          between = old.told;
          clears = tidied_none (ClearStep before (reach_of op)) old.told old.told refl;
          none = tt;
          tries = (refl, quiet (exactly result t steady copy));
        })
        (λ steady copy. contents_all old.told (AsksExactly before session c (Some reply.Memory)) (λ image. exact_memory before session c image))

  pub full_comes : (answer : Answer) → (answer.reply ≡ reply.Refused refused.Full) ⊎ (answer.reply ≡ reply.Memory) → TakesUp live op taken.Full old new → ComesOfAsking session c (Ended c answer 0) known known before before old new
  full_comes answer which t = ⊎_elim (λ is. full_ended answer is t) (unlined_ended taken.Full t (λ h. h.tries.1 ∙ h.none) answer) which

  pub pending_comes : (answer : Answer) (number : ℕ) → (answer.reply ≡ reply.Pending number) ⊎ (answer.reply ≡ reply.Memory) → TakesUp live op (taken.Pending number) old new → ComesOfAsking session c (Ended c answer 0) known known before before old new
  pending_comes answer number which t = ⊎_elim (λ is. pending_ended answer number is t) (unlined_ended (taken.Pending number) t (λ h. h.tries.1 ∙ h.none) answer) which

  -- a store refused
  module _ (answer : Answer) (is : answer.reply ≡ reply.Fault) (rose : StoreRoseBy 1 old new) where
    faults : AreSteady before old → IsCopy known old.told → IfContents old.told (AsksExactly before session c (Some reply.Fault))
    faults steady copy = contents_all old.told (AsksExactly before session c (Some reply.Fault)) (λ image. exact_fault before session c image)

    pub tried_comes : (number : ℕ) → TakesUp live op (taken.Tried number) old new → ComesOfAsking session c (Ended c answer number) known known before before old new
    tried_comes number t = ended answer number reply.Fault is
        (ends_where session c reply.Fault number known known old new before before (λ steady copy. t.takes session c before None long are rests (plans_sound copy) known))
        (λ other h. absurd cc) (λ h. rose) (happens_so (taken.Tried number) t) faults

    pub store_comes : TakesUp live op taken.Store old new → ComesOfAsking session c (Ended c answer 0) known known before before old new
    store_comes t = ended answer 0 reply.Fault is
        (ends_where session c reply.Fault 0 known known old new before before (λ steady copy. t.takes session c before None long are rests (plans_sound copy) known))
        (λ other h. absurd cc) (λ h. rose) (happens_so taken.Store t) faults

  -- memory was short
  pub memory_comes : (answer : Answer) → answer.reply ≡ reply.Memory → TakesUp live op taken.Memory old new → ComesOfAsking session c (Ended c answer 0) known known before before old new
  memory_comes answer is t = ended answer 0 reply.Memory is
      (ends_where session c reply.Memory 0 known known old new before before (λ steady copy. t.takes session c before None long are rests (plans_sound copy) known))
      (λ other h. absurd cc) (λ h. absurd cc) (happens_so taken.Memory t)
      (λ steady copy. contents_all old.told (AsksExactly before session c (Some reply.Memory)) (λ image. exact_memory before session c image))
