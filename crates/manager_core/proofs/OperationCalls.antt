-- What the calls of the steps make of a core: what is left is settled, an operation goes on, and it ends.
use Rattle.std.proofs.Common.{◌≡◌, ◌⊎◌, ⊎_elim, inl, inr, ℕ, refl, sym, ap, ◌∙◌, subst, Some, None, Option, List, [], ◌∷◌}
use Rattle.std.specs.Prelude.{Result, IsOk}
use Rattle.cell_world.specs.Images.{Image, Happening, after_all, global, end_of_trail}
use Rattle.cell_world.specs.Plain.{nobody}
use Rattle.cell_world.specs.Meaning.{meaning}
use Rattle.cell_world.specs.Outside.{Outside, IfContents, IfTrail}
use Rattle.cell_world.specs.Sound.{Sound}
use Rattle.cell_world.specs.declared.operations.Op.{Op}
use Rattle.cell_world.specs.declared.operations.StageName.TheVariants.{TargetDone, Committed}
use Rattle.cell_world.proofs.ContentsLaws.{contents_both}
use Rattle.global_tables.specs.Known.{Known, known_of}
use Rattle.global_tables.specs.declared.faults.StepFault.{StepFault}
use Rattle.plain_model.specs.declared.history.Entry.{Entry}
use Rattle.plain_model.specs.declared.replies.Reply.{Reply}
use Rattle.plain_model.specs.declared.replies.Reply.TheVariants as reply
use Rattle.plain_model.specs.Running.{text_of}
use Rattle.plain_model.specs.Written.{Mode}
use Rattle.op_steps.specs.Advancing.{Advances, AtStage, SettlesAt}
use Rattle.op_steps.specs.Passing.{Passes, FailsByMemory}
use Rattle.op_steps.specs.Stages.{next_stage}
use Rattle.op_steps.specs.declared.stages.Stage.{Stage}
use Rattle.op_steps.proofs.AdvanceMeaning.{course_from}
use Rattle.op_steps.proofs.Passes.{passes_weaker}
use Rattle.session_laws.specs.Core.{CoreAlone, Stands}
use Rattle.session_laws.specs.Doing.{Doing, Resting, Operating, AllDoing, Live, live_of, IsThen}
use Rattle.session_laws.specs.Needs.{Needs}
use Rattle.session_laws.proofs.SessionLaws.{this_or_other}
use Rattle.operation_laws.specs.Entries.{IsOneOperation, Names, FollowsAtCommit}
use Rattle.operation_laws.specs.Forward.{IsForward, IsBeforeTarget}
use Rattle.operation_laws.specs.Leading.{Leads, with_entry}
use Rattle.operation_laws.specs.Left.{AreLeft, left_of, without_left}
use Rattle.operation_laws.proofs.Done.{done_alone, memory_alone}
use Rattle.operation_laws.proofs.Left.{left_advance, settled_clean}
use Rattle.operation_laws.proofs.OwnSteps.{advances_on_trail, advances_alone, stage_alone, step_leaves}
use Rattle.operation_laws.proofs.Settled.{settled_on_trail, settled_alone}
use Rattle.operation_laws.proofs.ToldLaws.{done_leads, memory_leads}
use Rattle.manager_core.specs.Coming.{IsTidied, SettleStep}
use Rattle.manager_core.specs.Cores.{Waits}
use Rattle.manager_core.specs.Steady.{IsPlainOp, IsSteady, AreSteady, Becomes, Ends, IsSettledOp, Says, seen_with}
use Rattle.manager_core.proofs.LiveFaults.{fault_named_alone, follows_at_commit, named_leads}
use Rattle.manager_core.proofs.SettledStays.{StaysSettled, means_settled, settled_advanced, settled_settled}
use Rattle.manager_core.proofs.Steadiness.{becomes_by, copy_advanced, copy_settled, core_here, keeps_settled, passes_on, passes_with, steady_of}
use Rattle.manager_core.proofs.TidyLaws.{settle_leaves_each, settle_step, tidied_by, tidied_weaker}
use Rattle.manager_core.proofs.Waiting.{waits_by}

-- ---- one session does another thing

module _ (before : AllDoing) (session : ℕ) (d : Doing) (next : AllDoing) (then : IsThen before session d next) where
  -- what it has live, or another has
  live_next : (t : ℕ) (l : Live) → live_of (next t) ≡ Some l → (live_of d ≡ Some l) ⊎ (live_of (before t) ≡ Some l)
  live_next t l is = ⊎_elim
      (λ same. inl (sym (ap live_of then.here) ∙ ap (λ i. live_of (next i)) same ∙ is))
      (λ other. inr (sym (ap live_of (then.others t other)) ∙ is))
      (this_or_other before session d next then t)

  pub plain_next : ((t : ℕ) (l : Live) → live_of (before t) ≡ Some l → IsPlainOp l) → ((l : Live) → live_of d ≡ Some l → IsPlainOp l) → (t : ℕ) (l : Live) → live_of (next t) ≡ Some l → IsPlainOp l
  plain_next none own t l is = ⊎_elim (own l) (none t l) (live_next t l is)

  pub left_next : (image : Image) → AreLeft before image → ((op : Op) → left_of d ≡ Some op → AtStage op Committed image) → AreLeft next image
  left_next image left own t op is = ⊎_elim
      (λ same. own op (sym (ap left_of then.here) ∙ ap (λ i. left_of (next i)) same ∙ is))
      (λ other. left t op (sym (ap left_of (then.others t other)) ∙ is))
      (this_or_other before session d next then t)

none_some : {A : Type 0} (a : A) → None ≡ Some a → ⊥
none_some a is = cc

some_is : (a b : Live) → Some a ≡ Some b → a ≡ b
some_is a b is = cc

-- ---- what is left is settled

module _ (old new : Outside) (op : Op) (result : Result Stage StepFault) (passes : Passes (Advances op Committed (IsOk result) (FailsByMemory result)) old new) (before : AllDoing) (session : ℕ) (is : left_of (before session) ≡ Some op) where
  live_without : (d : Doing) (l : Live) → live_of (without_left d) ≡ Some l → live_of d ≡ Some l
  live_without (Rattle.session_laws.specs.Doing.Resting left) l h = h
  live_without (Rattle.session_laws.specs.Doing.Working command left) l h = h
  live_without (Rattle.session_laws.specs.Doing.Operating command o stage) l h = h

  pub settle_becomes : (next : AllDoing) → IsThen before session (without_left (before session)) next → Becomes old new before next
  settle_becomes next then = becomes_by (Advances op Committed (IsOk result) (FailsByMemory result)) old new passes before next
      (λ t0 start mode past s p core. (settled_on_trail t0 start mode past nobody [] before core s.left session op is result passes.happened p next then).0)
      (λ first past image s p core. (settled_alone first past nobody image before core s.left session op is result passes.happened p next then).0)
      (λ image s p. (
        plain_next before session (without_left (before session)) next then s.plain (λ l h. s.plain session l (live_without (before session) l h)),
        (settled_alone image [] nobody image before (core_here before image s) s.left session op is result passes.happened p next then).1,
      ))
      (λ image s p. let c = (p s.sound (s.left session op is)).course in (means_settled op image passes.happened c, settled_settled op image s.sound passes.happened c))
      (λ known image s p copy. copy_settled known image copy passes.happened op (p s.sound (s.left session op is)).course)

  -- whatever lines are still to be written
  pub settle_waits : (next : AllDoing) → IsThen before session (without_left (before session)) next → Waits old new before next
  settle_waits next then = waits_by (Advances op Committed (IsOk result) (FailsByMemory result)) old new passes before next
      (λ rest t0 start mode past s p core. (settled_on_trail t0 start mode past nobody rest before core s.left session op is result passes.happened p next then).0)

  -- nothing else was tried
  pub settle_tidies : AreSteady before old → IsTidied (SettleStep (before session)) old.told new.told
  settle_tidies steady = tidied_weaker (SettlesAt op) (SettleStep (before session)) (settle_step op (before session) is) old.told new.told
      (tidied_by (SettlesAt op) (settle_leaves_each op) (Advances op Committed (IsOk result) (FailsByMemory result)) before old new passes (λ image s p. (p s.sound (s.left session op is)).course) steady)

  pub settle_settles : IsOk result → AreSteady before old → IfContents new.told (IsSettledOp op)
  settle_settles ok = passes_on (Advances op Committed (IsOk result) (FailsByMemory result)) old new passes (IsSteady before) (IsSettledOp op)
      (λ image s p. let at = (p s.sound (s.left session op is)).reached ok in record { out = at.0.out; clean = settled_clean op (after_all image passes.happened) at })

-- ---- an operation goes on

module _ (old new : Outside) (before : AllDoing) (session : ℕ) (l : Live) (is : live_of (before session) ≡ Some l) (result : Result Stage StepFault) (passes : Passes (Advances l.op l.stage (IsOk result) (FailsByMemory result)) old new) where
  abbrev P : Image → List Happening → Type 0
  P = Advances l.op l.stage (IsOk result) (FailsByMemory result)

  -- its stage
  stage_here : IsForward l.stage → (image : Image) → IsSteady before image → AtStage l.op l.stage image
  stage_here forward image s = stage_alone image [] nobody image before (core_here before image s) session l is forward

  copy_here : IsForward l.stage → (known : Known) (image : Image) → IsSteady before image → P image passes.happened → known ≡ known_of (global image) → known ≡ known_of (global (after_all image passes.happened))
  copy_here forward known image s p copy = copy_advanced known image copy passes.happened l.op (s.plain session l is).0.no_job (course_from l.op l.stage image passes.happened (p s.sound (stage_here forward image s)).course)

  left_here : IsForward l.stage → (image : Image) → IsSteady before image → P image passes.happened → AreLeft before (after_all image passes.happened)
  left_here forward image s p = left_advance before image s.sound s.left l.op passes.happened (course_from l.op l.stage image passes.happened (p s.sound (stage_here forward image s)).course)

  settled_here : IsForward l.stage → (image : Image) → IsSteady before image → P image passes.happened → StaysSettled image (after_all image passes.happened)
  settled_here forward image s p = settled_advanced l.op image s.sound passes.happened (course_from l.op l.stage image passes.happened (p s.sound (stage_here forward image s)).course)

  pub advance_becomes : IsForward l.stage → IsBeforeTarget l.stage → IsOk result → (next : AllDoing) → IsThen before session (Operating l.command l.op (next_stage l.stage)) next → Becomes old new before next
  advance_becomes forward early ok next then = becomes_by P old new passes before next
      (λ t0 start mode past s p core. advances_on_trail t0 start mode past nobody [] before core session l is early result ok passes.happened p next then)
      (λ first past image s p core. advances_alone first past nobody image before core session l is early result ok passes.happened p next then)
      (λ image s p. (
        plain_next before session (Operating l.command l.op (next_stage l.stage)) next then s.plain (λ m h. subst IsPlainOp (some_is (record { command = l.command; op = l.op; stage = next_stage l.stage }) m h) (s.plain session l is)),
        left_next before session (Operating l.command l.op (next_stage l.stage)) next then (after_all image passes.happened) (left_here forward image s p) (λ op h. absurd (none_some op h)),
      ))
      (λ image s p. (step_leaves image s.sound l.op l.stage early (stage_here forward image s) result passes.happened p, settled_here forward image s p))
      (λ known image s p copy. copy_here forward known image s p copy)

  -- ---- it ends

  names : (e : Entry) (r : Reply) → Says e session l.command r l.op.number → Names e l.command l.op.number r
  names e r says = record { command = says.command; operation = says.operation; reply = says.answered }

  abbrev On : Entry → Image → List Happening → Type 0
  On e image hs = P image hs × (Sound image → Stands Needs e.session l image → FollowsAtCommit e.session l.command image l.op nobody nobody)

  -- the token opens what is replaced wherever the stores are steady
  on : AreSteady before old → IsOneOperation l.command → (e : Entry) → Passes (On e) old new
  on steady one e = passes_weaker (λ image hs. IsSteady before image × P image hs) (On e) old new (λ image hs p. (p.1, λ sound stands. follows_at_commit e.session l image sound stands one (p.0.plain session l is).0))
      (passes_with P old new passes (IsSteady before) steady)

  abbrev some_entry : Reply → Entry
  some_entry r = record { session = session; command = l.command; reply = Some r; moment = 0; operation = l.op.number }

  says_so : (r : Reply) → Says (some_entry r) session l.command r l.op.number
  says_so r = record { of_session = refl; command = refl; answered = refl; operation = refl }

  at_commit : IsOneOperation l.command → (image : Image) → IsSteady before image → FollowsAtCommit session l.command image l.op nobody nobody
  at_commit one image s = follows_at_commit session l image s.sound (s.stand session l is) one (s.plain session l is).0

  module _ (one : IsOneOperation l.command) (forward : IsForward l.stage) (left : Option Op) (next : AllDoing) (then : IsThen before session (Resting left) next) (known : Known) where
    -- what an entry that ends it makes of the stores, by a law of cores by contents
    ends_by : (r : Reply)
        → ((image : Image) → IsSteady before image → P image passes.happened → CoreAlone Needs image (record { entry = some_entry r; before = meaning image } ∷ []) nobody (after_all image passes.happened) next)
        → ((image : Image) → IsSteady before image → P image passes.happened → (op : Op) → left ≡ Some op → AtStage op Committed (after_all image passes.happened))
        → (AreSteady before old → (mode : Mode) (history : List Entry) (e : Entry) → Says e session l.command r l.op.number → e.session ≡ session → IfTrail new.told (λ trail. e.moment ≡ end_of_trail trail)
        → Leads mode old.told new.told (seen_with history before) (with_entry (seen_with history before) e next) (text_of mode e))
        → Ends session l.command r l.op.number known known old new before next
    ends_by r alone own leads = record {
      steady = λ steady copy. passes_on P old new passes (IsSteady before) (IsSteady next)
          (λ image s p. steady_of next image (record { entry = some_entry r; before = meaning image } ∷ []) nobody (after_all image passes.happened) (alone image s p)
          (plain_next before session (Resting left) next then s.plain (λ m h. absurd (none_some m h)))
          (left_next before session (Resting left) next then (after_all image passes.happened) (left_here forward image s p) (own image s p))) steady;
      settled = λ steady copy. keeps_settled P old new passes before (settled_here forward) steady;
      copy = λ ok steady copy. passes_on P old new passes (λ image. IsSteady before image × (known ≡ known_of (global image))) (λ image. known ≡ known_of (global image))
          (λ image s p. copy_here forward known image s.0 p s.1) (contents_both old.told (IsSteady before) (λ image. known ≡ known_of (global image)) steady copy);
      leads = λ steady copy mode history e says now. leads steady mode history e says says.of_session now;
    }

    -- the session is that of the entry
    rests_then : (e : Entry) → e.session ≡ session → IsThen before e.session (Resting left) next
    rests_then e same = subst (λ s. IsThen before s (Resting left) next) (sym same) then

    live_then : (e : Entry) → e.session ≡ session → live_of (before e.session) ≡ Some l
    live_then e same = subst (λ s. live_of (before s) ≡ Some l) (sym same) is

    pub done_ends : l.stage ≡ TargetDone → IsOk result → ((op : Op) → left ≡ Some op → op ≡ l.op) → Ends session l.command reply.Ok l.op.number known known old new before next
    done_ends target ok own = ends_by reply.Ok
        (λ image s p. done_alone image [] nobody image before (core_here before image s) (some_entry reply.Ok) l is target result ok passes.happened p (names (some_entry reply.Ok) reply.Ok (says_so reply.Ok)) nobody (at_commit one image s) left next then)
        (λ image s p op here. let a = p s.sound (stage_here forward image s) in
        subst (λ o. AtStage o Committed (after_all image passes.happened)) (sym (own op here)) (subst (λ name. AtStage l.op (next_stage name) (after_all image passes.happened)) target (a.reached ok)))
        (λ steady mode history e says same now. done_leads mode old new (seen_with history before) e now left next (rests_then e same) l (live_then e same) result target one ok (names e reply.Ok says) (on steady one e))

    pub fault_ends : left ≡ None → Ends session l.command reply.Fault l.op.number known known old new before next
    fault_ends none = ends_by reply.Fault
        (λ image s p. fault_named_alone image [] image before (core_here before image s) (some_entry reply.Fault) l is forward result passes.happened p (names (some_entry reply.Fault) reply.Fault (says_so reply.Fault)) (at_commit one image s) left next then one)
        (λ image s p op here. absurd (none_some op (sym none ∙ here)))
        (λ steady mode history e says same now. named_leads mode old new history before e now left next (rests_then e same) l (live_then e same) result forward one (names e reply.Fault says) (on steady one e))

    pub memory_ends : left ≡ None → FailsByMemory result → Ends session l.command reply.Memory l.op.number known known old new before next
    memory_ends none fails = ends_by reply.Memory
        (λ image s p. memory_alone image [] nobody image before (core_here before image s) (some_entry reply.Memory) l is forward one result fails passes.happened p (names (some_entry reply.Memory) reply.Memory (says_so reply.Memory)) left next then)
        (λ image s p op here. absurd (none_some op (sym none ∙ here)))
        (λ steady mode history e says same now. memory_leads mode old new (seen_with history before) e now left next (rests_then e same) l (live_then e same) result forward one fails (names e reply.Memory says) passes)
