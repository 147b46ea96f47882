-- The way of a short command is cleared beside live operations.
use Rattle.std.proofs.Common.{◌≡◌, ℕ, true, false, refl, sym, ap, ◌∙◌, subst, Some, None, Option, List, [], ◌∷◌}
use Rattle.std.specs.Prelude.{Result, Ok, Err}
use Rattle.cell_world.specs.Images.{Image, Happening}
use Rattle.cell_world.specs.Operations.{conflicts}
use Rattle.cell_world.specs.Outside.{Outside, Told, TellsNothing, TellsContents, TellsTrail, IfContents}
use Rattle.cell_world.specs.Plain.{nobody}
use Rattle.cell_world.specs.Sound.{Sound}
use Rattle.cell_world.specs.declared.operations.Op.{Op}
use Rattle.cell_world.specs.declared.operations.Reach.{Reach}
use Rattle.cell_world.specs.declared.operations.Reach.TheVariants as reach
use Rattle.cell_world.proofs.ContentsLaws.{contents_all, contents_both, contents_weaker}
use Rattle.global_tables.specs.declared.faults.StepFault.{StepFault}
use Rattle.map_ops.specs.Planning.{NoneInWay}
use Rattle.op_steps.specs.Clearing.{Clears, IsAbandonedInWay, is_in_way}
use Rattle.op_steps.specs.Live.{is_live}
use Rattle.op_steps.specs.Passing.{IsCourse, Passes, told_after_all}
use Rattle.op_steps.specs.Undoing.{UndoStepOf, AnyUndoStep}
use Rattle.op_steps.proofs.Courses.{course_weaker}
use Rattle.op_steps.proofs.Passes.{passes_weaker}
use Rattle.operation_laws.specs.LiveNumbers.{AreTheLive}
use Rattle.operation_laws.proofs.CoreCourses.{abandoned_calm, core_course, alone_course}
use Rattle.operation_laws.proofs.Left.{left_undo}
use Rattle.session_laws.specs.Doing.{AllDoing}
use Rattle.manager_core.specs.Asking.{ClearsFor}
use Rattle.manager_core.specs.Coming.{ClearStep, IsFirstInWay, IsInWay}
use Rattle.manager_core.specs.Steady.{IsSteady, AreSteady, Becomes}
use Rattle.manager_core.proofs.SettledStays.{means_undone, settled_undone}
use Rattle.manager_core.proofs.Steadiness.{becomes_by, becomes_same, copy_undone, passes_on}
use Rattle.manager_core.proofs.TidyLaws.{tidied_none, tidied_cleared}
use Rattle.manager_core.proofs.WayLaws.{first_in_way, none_in_way, second_true}

told_nothing : (hs : List Happening) → told_after_all TellsNothing hs ≡ TellsNothing
told_nothing [] = refl
told_nothing (h ∷ hs) = told_nothing hs

-- what is reached is nothing, and nothing is done
pub nothing_clears : (before : AllDoing) (reached : Reach) (old : Outside) → reached ≡ reach.Nothing → ClearsFor before reached (Ok None) old old
nothing_clears before reached old nothing = record {
  becomes = becomes_same old old before refl;
  tidied = λ steady. tidied_none (ClearStep before reached) old.told old.told refl;
  live = tt;
  way = λ steady. (
    contents_all old.told (λ image. (number : ℕ) → IsInWay before reached number → ⊥) (λ image number w. clash w.live.op w.conflict),
    contents_all old.told (λ image. NoneInWay image reached) (λ image op logged. none op),
  );
}
  where
    none : (op : Op) → conflicts reached op ≡ false
    none op = ap (λ x. conflicts x op) nothing

    clash : (op : Op) → conflicts reached op ≡ true → ⊥
    clash op is = let both : false ≡ true = sym (none op) ∙ is in cc

module _ (live : List ℕ) (before : AllDoing) (are : AreTheLive live before) (reached : Reach) (old new : Outside) where
  abbrev These : Op → Type 0
  These = IsAbandonedInWay live reached

  abbrev Undone : Image → List Happening → Type 0
  Undone image hs = Sound image → IsCourse (UndoStepOf These) image hs

  -- abandoned operations are undone
  undone_becomes : Passes Undone old new → Becomes old new before before
  undone_becomes passes = becomes_by Undone old new passes before before
      (λ t0 start mode past s p core. core_course t0 start mode nobody [] before (UndoStepOf These) (abandoned_calm before live reached are) past core passes.happened (p s.sound))
      (λ first past image s p core. alone_course first past nobody image before (UndoStepOf These) (abandoned_calm before live reached are) core passes.happened (p s.sound))
      (λ image s p. (s.plain, left_undo before image s.sound s.left passes.happened (course_weaker (UndoStepOf These) AnyUndoStep (λ i place change step. (step.0, tt, step.2)) image passes.happened (p s.sound))))
      (λ image s p. (means_undone These image passes.happened (p s.sound), settled_undone These image s.sound passes.happened (p s.sound)))
      (λ known image s p copy. copy_undone known image copy passes.happened These (p s.sound))

  -- nothing but that was tried
  course_of : (result : Result (Option Op) StepFault) (image : Image) (hs : List Happening) → Clears live reached result image hs → Undone image hs
  course_of (Ok (Some op)) image hs clears sound = subst (IsCourse (UndoStepOf These) image) (sym (clears sound).0) tt
  course_of (Ok None) image hs clears sound = (clears sound).course
  course_of (Err fault) image hs clears sound = clears sound

  module _ (result : Result (Option Op) StepFault) (passes : Passes (Clears live reached result) old new) where
    undone : Passes Undone old new
    undone = passes_weaker (Clears live reached result) Undone old new (course_of result) passes

  -- ---- by the answer

  -- over steady stores
  steady_and : (result : Result (Option Op) StepFault) (passes : Passes (Clears live reached result) old new) → AreSteady before old → IfContents old.told (λ image. IsSteady before image × Clears live reached result image passes.happened)
  steady_and result passes steady = contents_both old.told (IsSteady before) (λ image. Clears live reached result image passes.happened) steady passes.each

  pub free_clears : Passes (Clears live reached (Ok None)) old new → ClearsFor before reached (Ok None) old new
  free_clears passes = record {
    becomes = undone_becomes (undone (Ok None) passes);
    tidied = tidied_cleared live before are reached old new (undone (Ok None) passes);
    live = tt;
    way = λ steady. (
      contents_weaker old.told (λ image. IsSteady before image × Clears live reached (Ok None) image passes.happened) (λ image. (number : ℕ) → IsInWay before reached number → ⊥)
          (λ image both. none_in_way live before are reached image both.0 (both.1 both.0.sound).none) (steady_and (Ok None) passes steady),
      passes_on (Clears live reached (Ok None)) old new passes (IsSteady before) (λ image. NoneInWay image reached) (λ image s p op logged. ((p s.sound).clear op logged).1) steady,
    );
  }

  pub fault_clears : (fault : StepFault) → Passes (Clears live reached (Err fault)) old new → ClearsFor before reached (Err fault) old new
  fault_clears fault passes = record { becomes = undone_becomes (undone (Err fault) passes); tidied = tidied_cleared live before are reached old new (undone (Err fault) passes); live = tt; way = λ steady. tt }

  -- over steady stores nothing happened
  same_told : (op : Op) (passes : Passes (Clears live reached (Ok (Some op))) old new) → AreSteady before old → new.told ≡ old.told
  same_told op passes steady = passes.told ∙ by old.told (steady_and (Ok (Some op)) passes steady)
    where
      by : (told : Told) → IfContents told (λ image. IsSteady before image × Clears live reached (Ok (Some op)) image passes.happened) → told_after_all told passes.happened ≡ told
      by TellsNothing both = told_nothing passes.happened
      by (TellsContents image) both = ap (told_after_all (TellsContents image)) (both.1 both.0.sound).0
      by (TellsTrail trail) both = ap (told_after_all (TellsTrail trail)) (both.1 both.0.sound).0

  pub found_clears : (op : Op) → is_in_way live reached op ≡ true → Passes (Clears live reached (Ok (Some op))) old new → ClearsFor before reached (Ok (Some op.number)) old new
  found_clears op in_way passes = record {
    becomes = undone_becomes (undone (Ok (Some op)) passes);
    tidied = tidied_cleared live before are reached old new (undone (Ok (Some op)) passes);
    live = are.had op.number (second_true (conflicts reached op) (is_live live op.number) in_way);
    way = λ steady. (
      same_told op passes steady,
      contents_weaker old.told (λ image. IsSteady before image × Clears live reached (Ok (Some op)) image passes.happened) (λ image. IsFirstInWay before reached op.number)
          (λ image both. first_in_way live before are reached image both.0 op (both.1 both.0.sound).1) (steady_and (Ok (Some op)) passes steady),
    );
  }
