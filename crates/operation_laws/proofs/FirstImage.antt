-- A core starts: it undoes what is logged.
use Rattle.std.proofs.Common.{◌≡◌, ℕ, refl, Some, None, Option, List, []}
use Rattle.std.specs.Prelude.{Result, IsOk}
use Rattle.std.specs.FinMap as map
use Rattle.cell_world.specs.Images.{Image, Happening, global, after_all}
use Rattle.cell_world.specs.Meaning.{meaning}
use Rattle.cell_world.specs.Plain.{nobody}
use Rattle.cell_world.specs.Sound.{Sound}
use Rattle.global_tables.specs.declared.faults.StepFault.{StepFault}
use Rattle.plain_model.specs.Written.{Mode}
use Rattle.session_laws.specs.Doing.{Resting, AllDoing, Live, live_of, going_of}
use Rattle.session_laws.specs.Core.{Core, CoreAlone}
use Rattle.session_laws.specs.Needs.{Needs}
use Rattle.session_laws.proofs.AloneCore.{alone_core_begins}
use Rattle.session_laws.proofs.CoreLaws.{core_begins}
use Rattle.session_laws.proofs.SessionLaws.{none_going}
use Rattle.op_steps.specs.Undoing.{AnyUndoStep, Recovers}
use Rattle.operation_laws.specs.Courses.{happened_on}
use Rattle.operation_laws.proofs.CoreCourses.{recovery_calm, course_goes, recovery_on_trail, recovery_alone}

none_live : (doing : AllDoing) → ((session : ℕ) → going_of (doing session) ≡ None) → (t : ℕ) (l : Live) → live_of (doing t) ≡ Some l → ⊥
none_live doing rests t l is = none_some (live_of (doing t)) (none_going (doing t) (rests t)).1 is
  where
    none_some : (x : Option Live) → x ≡ None → x ≡ Some l → ⊥
    none_some x a b = cc

module _ (image : Image) (sound : Sound image) (result : Result (Unit {0}) StepFault) (hs : List Happening) (recovers : Recovers (IsOk result) image hs) where
  pub recovery_leaves : Sound (after_all image hs) × (meaning (after_all image hs) ≡ meaning image) × (IsOk result → (global (after_all image hs)).log ≡ map.empty)
  recovery_leaves =
      let r = recovers sound in
      let rest : AllDoing = λ session. Resting None in
      let g = course_goes rest AnyUndoStep (recovery_calm rest (λ t l is. none_live rest (λ session. refl) t l is)) image sound (λ t l is. absurd (none_live rest (λ session. refl) t l is)) hs r.course in
      (g.sound, g.means, r.empty)

  module _ (doing : AllDoing) (rests : (session : ℕ) → going_of (doing session) ≡ None) where
    pub core_recovers_first : (since : ℕ) (mode : Mode) → Core Needs since image mode (happened_on [] hs) nobody [] doing
    core_recovers_first since mode = recovery_on_trail since image mode [] nobody [] doing (core_begins Needs since image mode doing sound rests) (none_live doing rests) hs (recovers sound).course

    pub alone_recovers_first : CoreAlone Needs image [] nobody (after_all image hs) doing
    alone_recovers_first = recovery_alone image [] nobody image doing (alone_core_begins Needs image doing sound rests) (none_live doing rests) hs (recovers sound).course
