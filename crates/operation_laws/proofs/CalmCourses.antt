-- A core goes on over a course of calm transactions, over what its world tells.
use Rattle.std.proofs.Common.{refl, subst, ap, sym, ◌≡◌, ◌∙◌, List, []}
use Rattle.cell_world.specs.Images.{Image, Place, Happening}
use Rattle.cell_world.specs.Outside.{Outside}
use Rattle.cell_world.specs.Sound.{Sound}
use Rattle.cell_world.specs.declared.changes.Edit.{Edit}
use Rattle.plain_model.specs.Written.{Mode}
use Rattle.op_steps.specs.Passing.{IsCourse, Passes}
use Rattle.session_laws.specs.Contract.{Seen, KeepsCore, KeepsCoreTo}
use Rattle.operation_laws.proofs.CoreCourses.{AreCalmFor, core_course, alone_course}
use Rattle.operation_laws.proofs.Lifts.{lifts, lifts_to}

module _ (mode : Mode) (seen : Seen) (Step : Image → Place → List Edit → Type 0) (calm : AreCalmFor seen.doing Step) (old new : Outside) (passes : Passes (λ image hs. Sound image → IsCourse Step image hs) old new) where
  pub course_keeps_core : KeepsCore mode old.told seen new.told seen []
  course_keeps_core = lifts mode (λ image hs. Sound image → IsCourse Step image hs) old new passes seen seen refl
      (λ t0 start past course core. core_course t0 start mode seen.connections [] seen.doing Step calm past core passes.happened (course core.sessions.sound))

  pub course_keeps_core_to : KeepsCoreTo old.told seen new.told seen
  course_keeps_core_to = lifts_to mode (λ image hs. Sound image → IsCourse Step image hs) old new passes seen seen refl
      (λ first past image course core. alone_course first past seen.connections image seen.doing Step calm core passes.happened (course core.run.sound))
