-- A command whose operation is planned begins, or is answered at once.
use Rattle.std.proofs.Common.{◌≡◌, ℕ, ◌<◌, ◌≤◌, ◌^◌, true, refl, sym, ◌∙◌, subst, arith, Some, None, Option, List, [], ◌∷◌}
use Rattle.std.specs.Prelude.{Ok, Err}
use Rattle.cell_world.specs.Images.{Image, Happening, after_all, global}
use Rattle.cell_world.specs.Plain.{nobody}
use Rattle.cell_world.specs.Meaning.{meaning, next_operation}
use Rattle.cell_world.specs.Operations.{reach_of}
use Rattle.cell_world.specs.Outside.{Outside, IfContents}
use Rattle.cell_world.specs.Sound.{Sound}
use Rattle.cell_world.specs.declared.operations.Op.{Op}
use Rattle.cell_world.specs.declared.operations.StageName.TheVariants.{Logged}
use Rattle.cell_world.proofs.ContentsLaws.{contents_all, contents_both, contents_weaker}
use Rattle.global_tables.specs.Known.{Known, known_of}
use Rattle.map_ops.specs.Planning.{PlansLong, is_long}
use Rattle.plain_model.specs.declared.commands.Command.{Command}
use Rattle.plain_model.specs.declared.history.Entry.{Entry}
use Rattle.plain_model.specs.declared.replies.Reply.TheVariants as reply
use Rattle.plain_model.specs.declared.replies.Refusal.TheVariants as refused
use Rattle.plain_model.specs.JobSteps.{asked_number}
use Rattle.plain_model.specs.Refusing.{given_token}
use Rattle.plain_model.specs.Timelines.{Past}
use Rattle.op_steps.specs.Beginning.{Begins, BeginStep, HasBegun, numbered}
use Rattle.op_steps.specs.Clearing.{IsAbandonedInWay}
use Rattle.op_steps.specs.Passing.{Passes, IsCourse}
use Rattle.plain_model.specs.OnTrail.{reach_of_command}
use Rattle.op_steps.specs.Undoing.{UndoStepOf, AnyUndoStep}
use Rattle.op_steps.specs.declared.beginning.BeginFault.TheVariants as begin
use Rattle.op_steps.specs.declared.beginning.Begun.TheVariants.{Going, Pending}
use Rattle.op_steps.specs.declared.stages.Stage.{Stage}
use Rattle.op_steps.proofs.BeginLaws.{begun_course}
use Rattle.op_steps.proofs.Courses.{course_weaker}
use Rattle.op_steps.proofs.Passes.{passes_weaker}
use Rattle.session_laws.specs.Core.{CoreAlone, IsTriedFor}
use Rattle.session_laws.specs.Doing.{Doing, Resting, Working, Operating, AllDoing, Live, IsThen, doing_then}
use Rattle.session_laws.specs.Needs.{Needs}
use Rattle.session_laws.proofs.SessionLaws.{then_is}
use Rattle.operation_laws.specs.LiveNumbers.{AreTheLive}
use Rattle.operation_laws.specs.Opening.{Opens}
use Rattle.operation_laws.specs.Planned.{IsOpFor}
use Rattle.operation_laws.proofs.Beginnings.{begins_alone}
use Rattle.operation_laws.proofs.CoreCourses.{abandoned_calm, core_course, alone_course}
use Rattle.operation_laws.proofs.Left.{left_undo, left_begin}
use Rattle.operation_laws.proofs.Pending.{begun_numbered}
use Rattle.operation_laws.proofs.Reaches.{asks_none, reach_is}
use Rattle.operation_laws.proofs.ToldLaws.{begin_leads}
use Rattle.manager_core.specs.Coming.{IsFirstInWay}
use Rattle.manager_core.specs.Steady.{IsPlainOp, IsSteady, AreSteady, Becomes, Ends, seen_with}
use Rattle.manager_core.proofs.LogRowFaults.{RowTried, log_row_alone, log_row_leads}
use Rattle.manager_core.proofs.MovingLaws.{ends_after}
use Rattle.manager_core.proofs.NobodyEnds.{long_is_one}
use Rattle.manager_core.proofs.OperationCalls.{plain_next, left_next}
use Rattle.manager_core.proofs.QuietAnswers.{ends_where}
use Rattle.manager_core.proofs.QuietEnds.{FitsAt, quiet_ends, full_fits, fault_fits, memory_fits}
use Rattle.manager_core.proofs.ExactTaking.{pending_first, pending_same}
use Rattle.manager_core.proofs.PendingEnds as pending
use Rattle.manager_core.proofs.PlannedTokens.{opens_planned}
use Rattle.manager_core.proofs.TakingUp as taking
use Rattle.manager_core.proofs.SettledStays.{means_begun, means_undone, settled_begun, settled_undone}
use Rattle.manager_core.proofs.Steadiness.{becomes_by, copy_undone, copy_begun, core_here, keeps_meaning, keeps_settled, steady_of, passes_on, passes_with}

none_some : {A : Type 0} (a : A) → None ≡ Some a → ⊥
none_some a is = cc

some_is : (a b : Live) → Some a ≡ Some b → a ≡ b
some_is a b is = cc

-- what is planned is the command's
is_op_for : (c : Command) (op : Op) (image : Image) → asked_number c ≡ None → PlansLong c op image → IsOpFor c image op
is_op_for c op image none plans = record {
  lawful = plans.lawful;
  tried = subst (λ number. IsTriedFor number image op) (sym none) tt;
  exchange = λ connections asks. plans.own connections;
}

-- and reaches what the command reaches
pub reach_planned : (c : Command) → is_long c ≡ true → (op : Op) (image : Image) → PlansLong c op image → reach_of op ≡ reach_of_command (meaning image) c
reach_planned c long op image plans = sym (reach_is image nobody c (long_is_one c long) op (is_op_for c op image (asks_none c (long_is_one c long)) plans))

-- ---- abandoned operations in the way are undone

module _ (live : List ℕ) (before : AllDoing) (are : AreTheLive live before) (op : Op) (old new : Outside) where
  abbrev Undone : Image → List Happening → Type 0
  Undone image hs = Sound image → IsCourse (UndoStepOf (IsAbandonedInWay live (reach_of op))) image hs

  pub undo_becomes : Passes Undone old new → Becomes old new before before
  undo_becomes passes = becomes_by Undone old new passes before before
      (λ t0 start mode past s p core. core_course t0 start mode nobody [] before (UndoStepOf (IsAbandonedInWay live (reach_of op))) (abandoned_calm before live (reach_of op) are) past core passes.happened (p s.sound))
      (λ first past image s p core. alone_course first past nobody image before (UndoStepOf (IsAbandonedInWay live (reach_of op))) (abandoned_calm before live (reach_of op) are) core passes.happened (p s.sound))
      (λ image s p. (
        s.plain,
        left_undo before image s.sound s.left passes.happened (course_weaker (UndoStepOf (IsAbandonedInWay live (reach_of op))) AnyUndoStep (λ i place change step. (step.0, tt, step.2)) image passes.happened (p s.sound)),
      ))
      (λ image s p. (means_undone (IsAbandonedInWay live (reach_of op)) image passes.happened (p s.sound), settled_undone (IsAbandonedInWay live (reach_of op)) image s.sound passes.happened (p s.sound)))
      (λ known image s p copy. copy_undone known image copy passes.happened (IsAbandonedInWay live (reach_of op)) (p s.sound))

-- ---- a session that rests takes up the command

module _ (session : ℕ) (c : Command) (long : is_long c ≡ true) (before : AllDoing) (left : Option Op) (rests : before session ≡ Resting left) (live : List ℕ) (are : AreTheLive live before) (op : Op) (old new : Outside) where
  no_job : asked_number c ≡ None
  no_job = asks_none c (long_is_one c long)

  abbrev working : AllDoing
  working = doing_then before session (Working c left)

  takes : IsThen before session (Working c left) working
  takes = then_is before session (Working c left)

  taken_alone : (first : Image) (past : Past) (image : Image) → CoreAlone Needs first past nobody image before → CoreAlone Needs first past nobody image working
  taken_alone = taking.taken_alone session c no_job before left rests

  live_works : AreTheLive live working
  live_works = taking.live_works session c no_job before left rests live are

  then_working : (d : Doing) (next : AllDoing) → IsThen before session d next → IsThen working session d next
  then_working d next then = record { here = then.here; others = λ other apart. then.others other apart ∙ sym (takes.others other apart) }

  stays : IsThen before session (Resting left) before
  stays = record { here = rests; others = λ other apart. refl }

  -- what is known of the stores where it is planned, with a number left
  abbrev MayBegin : Image → Type 0
  MayBegin image = (Sound image → PlansLong c op image) × (next_operation image < 2 ^ 63)

  -- ---- it begins

  module _ (may : IfContents old.told MayBegin) (made : Op) (stage : Stage) (passes : Passes (Begins live op (Ok (Going made stage))) old new) (next : AllDoing) (then : IsThen before session (Operating c made Logged) next) where
    abbrev HasGone : Image → List Happening → Type 0
    HasGone image hs = MayBegin image × Begins live op (Ok (Going made stage)) image hs

    abbrev begun : Passes HasGone old new
    begun = passes_with (Begins live op (Ok (Going made stage))) old new passes MayBegin may

    has_begun : (image : Image) → IsSteady before image → HasGone image passes.happened → HasBegun live op made image passes.happened
    has_begun image s p = p.1 s.sound (p.0.0 s.sound).lawful p.0.1

    course : (image : Image) → IsSteady before image → HasGone image passes.happened → IsCourse (BeginStep live op) image passes.happened
    course image s p = begun_course live op made true image passes.happened (has_begun image s p).tried

    made_plain : (image : Image) → IsSteady before image → HasGone image passes.happened → IsPlainOp (record { command = c; op = made; stage = Logged })
    made_plain image s p = (
      subst (Opens (given_token c)) (sym (has_begun image s p).tried.named) (opens_planned c op image (p.0.0 s.sound) (next_operation image)),
      begun_numbered live op made stage image passes.happened p.1 s.sound (p.0.0 s.sound).lawful p.0.1,
    )

    steady_begun : AreSteady before old → AreSteady next new
    steady_begun = passes_on HasGone old new begun (IsSteady before) (IsSteady next)
        (λ image s p. steady_of next image [] nobody (after_all image passes.happened)
        (begins_alone image [] nobody image working (taken_alone image [] image (core_here before image s)) session c left takes.here live live_works op (is_op_for c op image no_job (p.0.0 s.sound)) p.0.1 made stage passes.happened p.1 next (then_working (Operating c made Logged) next then))
        (plain_next before session (Operating c made Logged) next then s.plain (λ m h. subst IsPlainOp (some_is (record { command = c; op = made; stage = Logged }) m h) (made_plain image s p)))
        (left_next before session (Operating c made Logged) next then (after_all image passes.happened) (left_begin before image s.sound s.left live op passes.happened (course image s p)) (λ o h. absurd (none_some o h))))

    pub going_becomes : Becomes old new before next
    going_becomes = record {
      steady = steady_begun;
      same = keeps_meaning HasGone old new begun before (λ image s p. means_begun live op image passes.happened (course image s p));
      settled = keeps_settled HasGone old new begun before (λ image s p. settled_begun live op image s.sound passes.happened (course image s p));
      copy = λ known steady copy. passes_on HasGone old new begun (λ image. IsSteady before image × (known ≡ known_of (global image))) (λ image. known ≡ known_of (global image))
          (λ image s p. copy_begun known image s.1 passes.happened live op (course image s.0 p)) (contents_both old.told (IsSteady before) (λ image. known ≡ known_of (global image)) steady copy);
      leads = λ steady mode history. begin_leads (seen_with history before) session c no_job left rests mode old new live are op made stage
          (passes_weaker HasGone (λ image hs. Sound image → IsOpFor c image op × (next_operation image < 2 ^ 63) × Begins live op (Ok (Going made stage)) image hs) old new
          (λ image hs p sound. (is_op_for c op image no_job (p.0.0 sound), p.0.1, p.1)) begun) next then;
    }

  -- ---- its log row is refused

  module _ (may : IfContents old.told MayBegin) (number : ℕ) (passes : Passes (Begins live op (Err (begin.Tried number))) old new) (known : Known) where
    abbrev Tried : Image → List Happening → Type 0
    Tried image hs = MayBegin image × Begins live op (Err (begin.Tried number)) image hs

    abbrev tried : Passes Tried old new
    tried = passes_with (Begins live op (Err (begin.Tried number))) old new passes MayBegin may

    abbrev entry : Entry
    entry = record { session = session; command = c; reply = Some reply.Fault; moment = 0; operation = number }

    tried_course : (image : Image) → IsSteady before image → Tried image passes.happened → IsCourse (BeginStep live op) image passes.happened
    tried_course image s p = let t = p.1 s.sound (p.0.0 s.sound).lawful p.0.1 in begun_course live op (numbered op number) t.0 image passes.happened t.1

    pub tried_ends : Ends session c reply.Fault number known known old new before before
    tried_ends = record {
      steady = λ steady copy. passes_on Tried old new tried (IsSteady before) (IsSteady before)
          (λ image s p. steady_of before image (record { entry = entry; before = meaning image } ∷ []) nobody (after_all image passes.happened)
          (log_row_alone working entry left takes.here (long_is_one c long) live live_works op passes.happened refl before (then_working (Resting left) before stays) image [] image (taken_alone image [] image (core_here before image s))
          (is_op_for c op image no_job (p.0.0 s.sound)) p.0.1 p.1)
          s.plain (left_begin before image s.sound s.left live op passes.happened (tried_course image s p))) steady;
      settled = λ steady copy. keeps_settled Tried old new tried before (λ image s p. settled_begun live op image s.sound passes.happened (tried_course image s p)) steady;
      copy = λ ok. absurd (ok refl);
      leads = λ steady copy mode history e says now. log_row_leads session c no_job (long_is_one c long) before left rests live are op number old new
          (passes_weaker Tried (RowTried session c no_job (long_is_one c long) before left rests live are op number old new) old new (λ image hs p. (λ sound. (is_op_for c op image no_job (p.0.0 sound), p.0.1), p.1)) tried)
          e says mode history now;
    }

  -- ---- nothing of it is tried

  module _ (known : Known) where
    pub store_ends : Passes (Undone live before are op old new) old new → Ends session c reply.Fault 0 known known old new before before
    store_ends passes = ends_after session c reply.Fault 0 known known old new new before before before (undo_becomes live before are op old new passes)
        (quiet_ends session c no_job reply.Fault refl before left rests new new refl (contents_all new.told (λ image. IsSteady before image → FitsAt session c reply.Fault image) (λ image s. fault_fits session c long image)) known)

    pub memory_ends_before : Passes (Undone live before are op old new) old new → Ends session c reply.Memory 0 known known old new before before
    memory_ends_before passes = ends_after session c reply.Memory 0 known known old new new before before before (undo_becomes live before are op old new passes)
        (quiet_ends session c no_job reply.Memory refl before left rests new new refl (contents_all new.told (λ image. IsSteady before image → FitsAt session c reply.Memory image) (λ image s. memory_fits session c long image)) known)

    pub full_ends : new.told ≡ old.told → IfContents old.told (λ image. (Sound image → PlansLong c op image) × (2 ^ 63 ≤ next_operation image)) → Ends session c (reply.Refused refused.Full) 0 known known old new before before
    full_ends same full = quiet_ends session c no_job (reply.Refused refused.Full) refl before left rests old new same
        (contents_weaker old.told (λ image. (Sound image → PlansLong c op image) × (2 ^ 63 ≤ next_operation image)) (λ image. IsSteady before image → FitsAt session c (reply.Refused refused.Full) image)
        (λ image h s. full_fits session c long image ((h.0 s.sound).accepts session nobody) (let most = s.sound.globals.operations.1 in let least = h.1 in omega (arith, most, least))) full) known

  -- ---- another's operation is in the way

  module _ (plans : IfContents old.told (λ image. Sound image → PlansLong c op image)) (other : Op) (passes : Passes (Begins live op (Ok (Pending other))) old new) (known : Known) where
    -- of steady stores, of which nothing changed
    pending_steady : AreSteady before old → Ends session c (reply.Pending other.number) 0 known known old new before before
    pending_steady steady = pending.pending_ends session c no_job before left rests live are (reach_of op) other.number old new same passes.later known
        (λ s k. contents_weaker old.told (λ image. IsSteady before image × ((Sound image → PlansLong c op image) × IsFirstInWay before (reach_of op) other.number)) (pending.Waits session c no_job before left rests live are (reach_of op) other.number old new same passes.later)
        (λ image h. record { accepted = (h.1.0 h.0.sound).accepts session nobody; reaches = sym (reach_planned c long op image (h.1.0 h.0.sound)); first = h.1.1 })
        (contents_both old.told (IsSteady before) (λ image. (Sound image → PlansLong c op image) × IsFirstInWay before (reach_of op) other.number) steady
        (contents_both old.told (λ image. Sound image → PlansLong c op image) (λ image. IsFirstInWay before (reach_of op) other.number) plans (pending_first live op before old new steady other passes are))))
      where
        same : new.told ≡ old.told
        same = pending_same live op before old new steady other passes

    pub pending_ends : Ends session c (reply.Pending other.number) 0 known known old new before before
    pending_ends = ends_where session c (reply.Pending other.number) 0 known known old new before before (λ steady copy. pending_steady steady)
