-- The opening: from sound stores on, operations that were logged are undone, and a core begins.
use Rattle.std.proofs.Common.{◌≡◌, inl, inr, ⊎_elim, ℕ, ◌+◌, ◌≤◌, false, refl, sym, ap, ◌∙◌, subst, Some, None, List, [], ◌∷◌, length, arith}
use Rattle.std.specs.FinMap as map
use Rattle.cell_world.specs.Images.{Image, Happening, Trail, after_all, global, image_at, end_of_trail}
use Rattle.cell_world.specs.Outside.{Outside, Told, TellsNothing, TellsContents, TellsTrail, IfContents, IsLater, StoreRoseBy}
use Rattle.cell_world.specs.Meaning.{next_operation}
use Rattle.cell_world.specs.Sound.{Sound}
use Rattle.std.proofs.Common.{nat_cmp}
use Rattle.cell_world.specs.Counts.{Rose, NeverFall, StoreRose, store_count}
use Rattle.cell_world.proofs.OutsideLaws.{store_rose_one}
use Rattle.op_steps.specs.Passing.{IsCourse, Passes, told_after_all}
use Rattle.op_steps.specs.Undoing.{AnyUndoStep, Recovers}
use Rattle.op_steps.proofs.Courses.{course_keeps}
use Rattle.op_steps.proofs.NumberLaws.{undo_leaves_numbers}
use Rattle.op_steps.proofs.Passes.{passes_weaker}
use Rattle.plain_model.specs.declared.commands.Command.{Command}
use Rattle.cell_world.specs.declared.operations.Op.{Op}
use Rattle.cell_world.proofs.ContentsLaws.{contents_weaker}
use Rattle.session_laws.specs.Contract.{at_rest}
use Rattle.session_laws.specs.Doing.{AllDoing, Resting, Live, live_of, command_of}
use Rattle.operation_laws.specs.Left.{left_of}
use Rattle.manager_core.specs.Steady.{IsSteady, AreSteady}
use Rattle.manager_core.proofs.Steadiness.{passes_on}
use Rattle.session_laws.proofs.ContractLaws.{core_begins_on, core_begins_to}
use Rattle.operation_laws.proofs.CoreCourses.{AreCalmFor, recovery_calm, course_goes}
use Rattle.global_tables.specs.declared.faults.StepFault.{StepFault}
use Rattle.global_tables.specs.declared.faults.StepFault.TheVariants as step
use Rattle.manager_core.specs.declared.opening.StartFault.{StartFault}
use Rattle.manager_core.specs.declared.opening.StartFault.TheVariants as start
use Rattle.manager_core.specs.Cores.{FaultHasCause, Opens, IsRecovered, AreRecovered}
use Rattle.operation_laws.proofs.CalmCourses.{course_keeps_core, course_keeps_core_to}
use Rattle.operation_laws.proofs.Lifts.{told_all, told_contents, extended_all}

-- a core that rests has no live operation
undo_is_calm : AreCalmFor (at_rest []).doing AnyUndoStep
undo_is_calm = recovery_calm (at_rest []).doing (λ t l is. absurd cc)

module _ (ok : Type 0) (old new : Outside) (passes : Passes (Recovers ok) old new) where
  course : Passes (λ image hs. Sound image → IsCourse AnyUndoStep image hs) old new
  course = passes_weaker (Recovers ok) (λ image hs. Sound image → IsCourse AnyUndoStep image hs) old new (λ image hs r sound. (r sound).course) passes

  pub opens : Opens old.told new.told
  opens = record {
    on_trail = λ mode before told sound. course_keeps_core mode (at_rest []) AnyUndoStep undo_is_calm old new course (end_of_trail before) (image_at before (end_of_trail before)) before told (core_begins_on mode before sound);
    by_states = λ first told sound. course_keeps_core_to (Rattle.plain_model.specs.Written.EachReply false) (at_rest []) AnyUndoStep undo_is_calm old new course first first told (core_begins_to first sound);
  }

  -- the stores stay sound
  pub stays_sound : IfContents old.told Sound → IfContents new.told Sound
  stays_sound = passes_on (Recovers ok) old new passes Sound Sound
      (λ image sound r. (course_goes (at_rest []).doing AnyUndoStep undo_is_calm image sound (λ t l is. absurd cc) passes.happened (r sound).course).sound)

  pub recovered : ok → AreRecovered old.told new.told
  recovered done = subst (λ t. IfContents old.told (λ first. Sound first → IfContents t (λ last. IsRecovered first last))) (sym passes.told) (by old.told passes.each)
    where
      of : (image : Image) → Recovers ok image passes.happened → Sound image → IsRecovered image (after_all image passes.happened)
      of image r sound = record {
        same = (course_goes (at_rest []).doing AnyUndoStep undo_is_calm image sound (λ t l is. absurd cc) passes.happened (r sound).course).means;
        number = course_keeps AnyUndoStep (λ i. next_operation i ≡ next_operation image) (λ i place change is step. (undo_leaves_numbers step.0 i place change step.2).1 ∙ is) image passes.happened refl (r sound).course;
        no_log = λ number. ap (λ log. map.get log number) ((r sound).empty done) ∙ map.get-empty nat_cmp number;
      }

      by : (told : Told) → IfContents told (λ image. Recovers ok image passes.happened) → IfContents told (λ first. Sound first → IfContents (told_after_all told passes.happened) (λ last. IsRecovered first last))
      by TellsNothing each = tt
      by (TellsContents image) each = λ sound. subst (λ t. IfContents t (IsRecovered image)) (sym (told_contents image passes.happened)) (of image each sound)
      by (TellsTrail trail) each = λ sound. subst (λ t. IfContents t (IsRecovered (image_at trail (end_of_trail trail)))) (sym (told_all trail passes.happened))
          (subst (IsRecovered (image_at trail (end_of_trail trail))) (sym (image_all trail passes.happened)) (of (image_at trail (end_of_trail trail)) each sound))
        where
          image_all : (trail : Trail) (hs : List Happening) → image_at (extended_all trail hs) (end_of_trail (extended_all trail hs)) ≡ after_all (image_at trail (end_of_trail trail)) hs
          image_all trail [] = refl
          image_all trail (h ∷ hs) = image_all (Rattle.cell_world.specs.Images.extended trail h) hs ∙ ap (λ i. after_all i hs) (Rattle.manager_core.proofs.Copies.image_extended trail h)

-- nothing happened
pub opens_untouched : (old new : Outside) → new.told ≡ old.told → IsLater old new → Opens old.told new.told
opens_untouched old new same later = opens ⊥ old new (Rattle.op_steps.proofs.Passes.passes_none (Recovers ⊥) old new same later
    (Rattle.cell_world.proofs.ContentsLaws.contents_all old.told (λ image. Recovers ⊥ image []) (λ image sound. record { course = tt; empty = λ never. absurd never })))

-- and one opening goes on from another in which nothing happened
pub opens_then : (a b c : Told) → b ≡ a → Opens b c → Opens a c
opens_then a b c same later = subst (λ t. Opens t c) same later

pub recovered_then : (a b c : Told) → b ≡ a → AreRecovered b c → AreRecovered a c
recovered_then a b c same later = subst (λ t. AreRecovered t c) same later

-- ---- a core that rests

-- sound stores are steady beside sessions that rest
pub steady_at_rest : (doing : AllDoing) → ((session : ℕ) → doing session ≡ Resting None) → (image : Image) → Sound image → IsSteady doing image
steady_at_rest doing rests image sound = record {
  sound = sound;
  stand = λ session l is. absurd (no_live session l is);
  one = λ s t l m here there same. absurd (no_live s l here);
  one_job = λ s t c d number here there one two. absurd (no_command s c here);
  plain = λ session l is. absurd (no_live session l is);
  left = λ session op is. absurd (none_left session op is);
}
  where
    no_live : (session : ℕ) (l : Live) → live_of (doing session) ≡ Some l → ⊥
    no_live session l is = let both : None ≡ Some l = sym (ap live_of (rests session)) ∙ is in absurd cc

    no_command : (session : ℕ) (c : Command) → command_of (doing session) ≡ Some c → ⊥
    no_command session c is = let both : None ≡ Some c = sym (ap command_of (rests session)) ∙ is in absurd cc

    none_left : (session : ℕ) (op : Op) → left_of (doing session) ≡ Some op → ⊥
    none_left session op is = let both : None ≡ Some op = sym (ap left_of (rests session)) ∙ is in absurd cc

-- where contents are told
pub are_steady_at_rest : (doing : AllDoing) → ((session : ℕ) → doing session ≡ Resting None) → (outside : Outside) → IfContents outside.told Sound → AreSteady doing outside
are_steady_at_rest doing rests outside = contents_weaker outside.told Sound (IsSteady doing) (steady_at_rest doing rests)

-- ---- causes

-- a rise after a while in which no count fell
sums_up : (n : ℕ) (old new : ℕ → ℕ) → NeverFall old new → store_count n old ≤ store_count n new
sums_up Rattle.std.proofs.Common.zero old new up = omega arith
sums_up (Rattle.std.proofs.Common.suc n) old new up = omega (arith, sums_up n old new up, up n)

store_rose_before : (n by : ℕ) (a b c : ℕ → ℕ) → NeverFall a b → StoreRose n by b c → StoreRose n by a c
store_rose_before n by a b c up rose = ⊎_elim (λ last. inl last) (λ more. inr (omega (arith, more, sums_up n a b up))) rose

-- and before one
pub rose_by_then : (by : ℕ) (a b c : Outside) → IsLater b c → StoreRoseBy by a b → StoreRoseBy by a c
rose_by_then by a b c later rose = ⊎_elim (λ last. inl (last.0, last.1, omega (arith, last.2, later.faults last.0))) (λ more. inr (omega (arith, more, sums_up (length a.locations + 1) b.faults_at c.faults_at later.faults))) rose

pub rose_by_before : (by : ℕ) (a b c : Outside) → IsLater a b → StoreRoseBy by b c → StoreRoseBy by a c
rose_by_before by a b c later rose = store_rose_before (length a.locations + 1) by a.faults_at b.faults_at c.faults_at later.faults (subst (λ l. StoreRose (length l + 1) by b.faults_at c.faults_at) later.locations rose)

-- the global store's count rose
pub rose_at_global : (old mid new : Outside) → IsLater old mid → IsLater mid new → Rose (mid.faults_at 0) (new.faults_at 0) → StoreRoseBy 1 old new
rose_at_global old mid new before later rose = rose_by_before 1 old mid new before (store_rose_one mid new later.faults rose)

pub fault_of : (old new : Outside) (fault : StepFault) (to : StartFault) → (fault ≡ step.Store → to ≡ start.Store) × (fault ≡ step.Memory → to ≡ start.Memory) → (fault ≡ step.Store → StoreRoseBy 1 old new) → FaultHasCause old new to
fault_of old new step.Store to gives rose = subst (FaultHasCause old new) (sym (gives.0 refl)) (rose refl)
fault_of old new step.Memory to gives rose = subst (FaultHasCause old new) (sym (gives.1 refl)) tt
