-- A command that is going moves on by just one transaction.
use Rattle.std.proofs.Common.{◌≡◌, ◌≤◌, ℕ, true, false, inl, inr, refl, sym, ap, ◌∙◌, subst, List, [], ◌∷◌, length}
use Rattle.std.specs.Prelude.{Result, Ok, Err, IsOk}
use Rattle.cell_world.specs.Images.{Image, Place, Global, Happening, Committed, image_at, end_of_trail}
use Rattle.cell_world.specs.Outside.{Outside, Told, TellsNothing, TellsContents, TellsTrail, IfContents, told_after}
use Rattle.cell_world.specs.Plain.{nobody}
use Rattle.cell_world.specs.Sound.{Sound}
use Rattle.cell_world.specs.declared.changes.Edit.{Edit}
use Rattle.cell_world.specs.declared.operations.Op.{Op}
use Rattle.cell_world.specs.declared.operations.StageName.{StageName}
use Rattle.cell_world.specs.declared.operations.StageName.TheVariants as stage
use Rattle.cell_world.proofs.ContentsLaws.{contents_weaker, contents_both}
use Rattle.global_tables.specs.declared.faults.StepFault.{StepFault}
use Rattle.global_tables.specs.declared.faults.StepFault.TheVariants as fault
use Rattle.image_laws.specs.CommitEdits.{commit_edits}
use Rattle.plain_model.specs.declared.commands.Command.{Command}
use Rattle.op_steps.specs.Advancing.{AdvanceStep, Advances, AtStage, CommitsOp, HasAdvanced, StepsAt, most_tries}
use Rattle.op_steps.specs.Passing.{FailsByMemory, IsCourse, Passes, told_after_all}
use Rattle.op_steps.specs.PassingOver.{MakesOne, has_step}
use Rattle.op_steps.specs.Stages.{next_stage}
use Rattle.op_steps.specs.declared.stages.Stage.{Stage}
use Rattle.op_steps.proofs.AdvanceMeaning.{course_from}
use Rattle.op_steps.proofs.PassedStages.{commit_makes, logged_makes, passed_over, source_makes}
use Rattle.session_laws.specs.Doing.{AllDoing, Live, Operating, doing_then, live_of}
use Rattle.session_laws.proofs.SessionLaws.{then_is}
use Rattle.operation_laws.specs.Forward.{IsBeforeTarget, IsForward}
use Rattle.operation_laws.proofs.OwnSteps.{IsOne, Nothing, Tried, is_one, stage_alone}
use Rattle.manager_core.specs.Coming.{MakesStep, TriesOnce}
use Rattle.manager_core.specs.Moving.{MovesOn, MovesOnce, stopped_by}
use Rattle.manager_core.specs.Steady.{AreSteady, IsSteady}
use Rattle.manager_core.specs.declared.moving.Moved.{Moved}
use Rattle.manager_core.specs.declared.moving.Moved.TheVariants as moved
use Rattle.manager_core.proofs.MovingLaws.{then_moves}
use Rattle.manager_core.proofs.OperationCalls.{advance_becomes}
use Rattle.manager_core.proofs.Steadiness.{core_here}

-- ---- what is told of one transaction

nothing_told : (hs : List Happening) → told_after_all TellsNothing hs ≡ TellsNothing
nothing_told [] = refl
nothing_told (h ∷ hs) = nothing_told hs

makes_step : (op : Op) (old new : Told) (hs : List Happening) → new ≡ told_after_all old hs → IfContents old (λ image. MakesOne (StepsAt op) image hs) → MakesStep op old new
makes_step op TellsNothing new hs told one = record { place = Global; change = []; told = told ∙ nothing_told hs; step = tt }
makes_step op (TellsContents image) new hs told one = record { place = one.place; change = one.change; told = told ∙ ap (told_after_all (TellsContents image)) one.is; step = one.step }
makes_step op (TellsTrail trail) new hs told one = record { place = one.place; change = one.change; told = told ∙ ap (told_after_all (TellsTrail trail)) one.is; step = one.step }

-- the change of the commit, in the global store
commit_is : (op : Op) (image : Image) (hs : List Happening) → MakesOne (CommitsOp op) image hs → hs ≡ Committed Global (commit_edits op) true ∷ []
commit_is op image hs one = one.is ∙ (λ i. Committed (one.step.place_is i) (one.step.edits i) true ∷ [])

makes_commit : (op : Op) (old new : Told) (hs : List Happening) → new ≡ told_after_all old hs → IfContents old (λ image. MakesOne (CommitsOp op) image hs) → new ≡ told_after old (Committed Global (commit_edits op) true)
makes_commit op TellsNothing new hs told one = told ∙ nothing_told hs
makes_commit op (TellsContents image) new hs told one = told ∙ ap (told_after_all (TellsContents image)) (commit_is op image hs one)
makes_commit op (TellsTrail trail) new hs told one = told ∙ ap (told_after_all (TellsTrail trail)) (commit_is op (image_at trail (end_of_trail trail)) hs one)

-- at most one was tried
abbrev AtMostOne : (Image → Place → List Edit → Type 0) → List Happening → Image → Type 0
AtMostOne Step hs image = IsCourse Step image hs × (length hs ≤ 1)

one_told : (Step : Image → Place → List Edit → Type 0) (image : Image) (old new : Told) (hs : List Happening) → new ≡ told_after_all old hs → ((place : Place) (change : List Edit) → Step image place change → IfContents old (λ i. Step i place change))
    → IsOne Step image hs → TriesOnce Step old new
one_told Step image old new hs told says (Nothing is) = inl (told ∙ ap (told_after_all old) is)
one_told Step image old new hs told says (Tried place change took step is) = inr (record { place = place; change = change; took = took; told = told ∙ ap (told_after_all old) is; step = says place change step })

tries_once : (Step : Image → Place → List Edit → Type 0) (old new : Told) (hs : List Happening) → new ≡ told_after_all old hs → IfContents old (AtMostOne Step hs) → TriesOnce Step old new
tries_once Step TellsNothing new hs told one = inl (told ∙ nothing_told hs)
tries_once Step (TellsContents image) new hs told one = one_told Step image (TellsContents image) new hs told (λ place change step. step) (is_one Step image hs one.0 one.1)
tries_once Step (TellsTrail trail) new hs told one = one_told Step (image_at trail (end_of_trail trail)) (TellsTrail trail) new hs told (λ place change step. step) (is_one Step (image_at trail (end_of_trail trail)) hs one.0 one.1)

-- where nothing was tried
none_told : (old new : Told) (hs : List Happening) → new ≡ told_after_all old hs → IfContents old (λ image. hs ≡ []) → new ≡ old
none_told TellsNothing new hs told none = told ∙ nothing_told hs
none_told (TellsContents image) new hs told none = told ∙ ap (told_after_all (TellsContents image)) none
none_told (TellsTrail trail) new hs told none = told ∙ ap (told_after_all (TellsTrail trail)) none

-- ---- a stage before the commit from which something leads on

-- just one local step is made: it marks the old mappings, or it makes the new rows at another site
step_makes : (op : Op) (image : Image) → Sound image → (name : StageName) → IsBeforeTarget name → has_step op name ≡ true → AtStage op name image → (ok memory : Type 0) → ok
    → (hs : List Happening) → Advances op name ok memory image hs → MakesOne (StepsAt op) image hs
step_makes op image sound stage.Logged early step at ok memory done hs advances = logged_makes op image sound at step ok memory done hs advances
step_makes op image sound stage.SourceDone early step at ok memory done hs advances = source_makes op image sound at step ok memory done hs advances
step_makes op image sound stage.TargetDone early step at ok memory done hs advances = absurd early
step_makes op image sound stage.Committed early step at ok memory done hs advances = absurd early
step_makes op image sound stage.Settled early step at ok memory done hs advances = absurd early

-- ---- a live operation goes on

few_from : (name : StageName) → IsForward name → (n : ℕ) → n ≤ most_tries name → n ≤ 1
few_from stage.Logged forward n few = few
few_from stage.SourceDone forward n few = few
few_from stage.TargetDone forward n few = few
few_from stage.Committed forward n few = absurd forward
few_from stage.Settled forward n few = absurd forward

-- for want of memory nothing was tried
none_for_memory : (op : Op) (ok memory : Type 0) → memory → (image : Image) (hs : List Happening) (name : StageName) → IsForward name → HasAdvanced op name ok memory image hs → hs ≡ []
none_for_memory op ok memory fails image hs stage.Logged forward a = a.untried refl fails
none_for_memory op ok memory fails image hs stage.SourceDone forward a = a.untried refl fails
none_for_memory op ok memory fails image hs stage.TargetDone forward a = a.untried refl fails
none_for_memory op ok memory fails image hs stage.Committed forward a = absurd forward
none_for_memory op ok memory fails image hs stage.Settled forward a = absurd forward

pub early_forward : (name : StageName) → IsBeforeTarget name → IsForward name
early_forward stage.Logged early = tt
early_forward stage.SourceDone early = tt
early_forward stage.TargetDone early = absurd early
early_forward stage.Committed early = absurd early
early_forward stage.Settled early = absurd early

module _ (old new : Outside) (op : Op) (name : StageName) (result : Result Stage StepFault) (passes : Passes (Advances op name (IsOk result) (FailsByMemory result)) old new) where
  abbrev P : Image → Type 0
  P image = Advances op name (IsOk result) (FailsByMemory result) image passes.happened

  module _ (forward : IsForward name) (session : ℕ) (c : Command) (before : AllDoing) (is : before session ≡ Operating c op name) (steady : AreSteady before old) where
    abbrev live : Live
    live = record { command = c; op = op; stage = name }

    at_stage : (image : Image) → IsSteady before image → AtStage op name image
    at_stage image s = stage_alone image [] nobody image before (core_here before image s) session live (ap live_of is) forward

    -- what is so of each steady image on which it is at the stage
    each : (Q : Image → Type 0) → ((image : Image) → IsSteady before image → AtStage op name image → P image → Q image) → IfContents old.told Q
    each Q so = contents_weaker old.told (λ image. IsSteady before image × P image) Q (λ image both. so image both.0 (at_stage image both.0) both.1) (contents_both old.told (IsSteady before) P steady passes.each)

    step_once : IsBeforeTarget name → has_step op name ≡ true → IsOk result → MakesStep op old.told new.told
    step_once early step ok = makes_step op old.told new.told passes.happened passes.told (each (λ image. MakesOne (StepsAt op) image passes.happened)
        (λ image s at p. step_makes op image s.sound name early step at (IsOk result) (FailsByMemory result) ok passes.happened p))

    commit_once : name ≡ stage.TargetDone → IsOk result → new.told ≡ told_after old.told (Committed Global (commit_edits op) true)
    commit_once target ok = makes_commit op old.told new.told passes.happened passes.told (each (λ image. MakesOne (CommitsOp op) image passes.happened)
        (λ image s at p. commit_makes op image s.sound (subst (λ n. AtStage op n image) target at) (IsOk result) (FailsByMemory result) ok passes.happened
        (subst (λ n. Advances op n (IsOk result) (FailsByMemory result) image passes.happened) target p)))

    fault_once : TriesOnce (AdvanceStep op) old.told new.told
    fault_once = tries_once (AdvanceStep op) old.told new.told passes.happened passes.told (each (AtMostOne (AdvanceStep op) passes.happened)
        (λ image s at p. let a = p s.sound at in (course_from op name image passes.happened a.course, few_from name forward (length passes.happened) a.few)))

    memory_once : FailsByMemory result → new.told ≡ old.told
    memory_once fails = none_told old.told new.told passes.happened passes.told (each (λ image. passes.happened ≡ [])
        (λ image s at p. none_for_memory op (IsOk result) (FailsByMemory result) fails image passes.happened name forward (p s.sound at)))

  pub steps_once : IsBeforeTarget name → has_step op name ≡ true → IsOk result → (next : Stage) → MovesOnce op name (moved.On next) old new
  steps_once early step ok next session c before long is steady = step_once (early_forward name early) session c before is steady early step ok

  pub commits_once : IsForward name → name ≡ stage.TargetDone → IsOk result → (next : Stage) → MovesOnce op name (moved.Done next) old new
  commits_once forward target ok next session c before long is steady = commit_once forward session c before is steady target ok

  pub faults_once : IsForward name → MovesOnce op name moved.Store old new
  faults_once forward session c before long is steady = fault_once forward session c before is steady

  pub memories_once : IsForward name → FailsByMemory result → MovesOnce op name moved.Memory old new
  memories_once forward fails session c before long is steady = memory_once forward session c before is steady fails

-- it failed
abbrev failed : StepFault → Result Stage StepFault
failed f = Err f

pub stops_once : (old new : Outside) (op : Op) (name : StageName) → IsForward name → (f : StepFault) → Passes (Advances op name (IsOk (failed f)) (FailsByMemory (failed f))) old new → (to : Moved) → to ≡ stopped_by f → MovesOnce op name to old new
stops_once old new op name forward fault.Store passes to is = subst (λ m. MovesOnce op name m old new) (sym is) (faults_once old new op name (Err fault.Store) passes forward)
stops_once old new op name forward fault.Memory passes to is = subst (λ m. MovesOnce op name m old new) (sym is) (memories_once old new op name (Err fault.Memory) passes forward tt)

-- ---- a stage is passed over

module _ (op : Op) (name : StageName) (early : IsBeforeTarget name) (none : has_step op name ≡ false) (stage : Stage) (old new : Outside) (to : Moved) where
  abbrev gone : Result Stage StepFault
  gone = Ok stage

  pub over_moves : MovesOn op (next_stage name) to old new → MovesOn op name to old new
  over_moves more = then_moves old old op name gone (passed_over op name none old) (early_forward name early) early refl new to more

  pub over_once : MovesOnce op (next_stage name) to old new → MovesOnce op name to old new
  over_once more session c before long is steady =
      let next = doing_then before session (Operating c op (next_stage name)) in
      let then = then_is before session (Operating c op (next_stage name)) in
      more session c next long then.here
      ((advance_becomes old old before session (record { command = c; op = op; stage = name }) (ap live_of is) gone (passed_over op name none old) (early_forward name early) early refl next then).steady steady)

-- ---- stages come one after the other

pub next_forward : (name : StageName) → IsBeforeTarget name → IsForward (next_stage name)
next_forward stage.Logged early = tt
next_forward stage.SourceDone early = tt
next_forward stage.TargetDone early = absurd early
next_forward stage.Committed early = absurd early
next_forward stage.Settled early = absurd early
