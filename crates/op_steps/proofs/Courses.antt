-- Courses, one after another.
use Rattle.std.proofs.Common.{◌≡◌, ◌≤◌, true, false, refl, sym, subst, List, [], ◌∷◌, ◌++◌, length, arith}
use Rattle.std.specs.Prelude.{Result, Ok, Err, IsOk}
use Rattle.cell_world.specs.Images.{Image, Place, Happening, Committed, Wrote, Reopened, after_one, after_all}
use Rattle.cell_world.specs.declared.changes.Edit.{Edit}
use Rattle.global_tables.specs.declared.faults.StepFault.{StepFault}
use Rattle.global_tables.specs.declared.faults.StepFault.TheVariants as fault
use Rattle.op_steps.specs.Passing.{Tries, IsCourse, AtEach, IsTryOf, FailsByMemory, changed_at}

pub after_then : (image : Image) (hs gs : List Happening) → after_all (after_all image hs) gs ≡ after_all image (hs ++ gs)
after_then image [] gs = refl
after_then image (h ∷ hs) gs = after_then (after_one image h) hs gs

module _ (Step : Image → Place → List Edit → Type 0) where
  pub course_then : (image : Image) (hs gs : List Happening) → IsCourse Step image hs → IsCourse Step (after_all image hs) gs → IsCourse Step image (hs ++ gs)
  course_then image [] gs c d = d
  course_then image (h ∷ hs) gs c d = (c.0, course_then (after_one image h) hs gs c.1 d)

  -- what each step keeps, where it is made
  abbrev pub Keeps : (Image → Type 0) → Type 0
  Keeps P = (image : Image) (place : Place) (change : List Edit) → P image → Step image place change → P (changed_at image place change)

  -- one that was tried keeps it, made or not
  tried_keeps : (P : Image → Type 0) → Keeps P → (image : Image) (h : Happening) → P image → Tries Step image h → P (after_one image h)
  tried_keeps P keeps image (Committed place change true) p s = keeps image place change p s
  tried_keeps P keeps image (Committed place change false) p s = p
  tried_keeps P keeps image (Wrote bytes) p s = absurd s
  tried_keeps P keeps image (Reopened place cells) p s = absurd s

  -- What each step keeps a course keeps.
  pub course_keeps : (P : Image → Type 0) → Keeps P → (image : Image) (hs : List Happening) → P image → IsCourse Step image hs → P (after_all image hs)
  course_keeps P keeps image [] p c = p
  course_keeps P keeps image (h ∷ hs) p c = course_keeps P keeps (after_one image h) hs (tried_keeps P keeps image h p c.0) c.1

  -- And so it is at each image between.
  pub course_each : (P : Image → Type 0) → Keeps P → (image : Image) (hs : List Happening) → P image → IsCourse Step image hs → AtEach P image hs
  course_each P keeps image [] p c = p
  course_each P keeps image (h ∷ hs) p c = (p, course_each P keeps (after_one image h) hs (tried_keeps P keeps image h p c.0) c.1)

pub course_weaker : (Step Other : Image → Place → List Edit → Type 0) → ((image : Image) (place : Place) (change : List Edit) → Step image place change → Other image place change) → (image : Image) (hs : List Happening) → IsCourse Step image hs → IsCourse Other image hs
course_weaker Step Other weaker image [] c = tt
course_weaker Step Other weaker image (h ∷ hs) c = (by h c.0, course_weaker Step Other weaker (after_one image h) hs c.1)
  where
    by : (h : Happening) → Tries Step image h → Tries Other image h
    by (Committed place change took) s = weaker image place change s
    by (Wrote bytes) s = absurd s
    by (Reopened place cells) s = absurd s

-- ---- one step

-- A step was tried at most once; where all went well it is made, and for want of memory it wasn't tried.
pub record TriedOnce (Step : Image → Place → List Edit → Type 0) (ok memory : Type 0) (image : Image) (place : Place) (change : List Edit) (hs : List Happening) : Type 0 where
  pub course : IsCourse Step image hs
  pub few : length hs ≤ 1
  pub made : ok → after_all image hs ≡ changed_at image place change
  pub untried : memory → hs ≡ []

pub tried_once : (Step : Image → Place → List Edit → Type 0) (image : Image) (place : Place) (change : List Edit) → Step image place change → (result : Result (Unit {0}) StepFault) (hs : List Happening) → IsTryOf place change result hs
    → TriedOnce Step (IsOk result) (FailsByMemory result) image place change hs
tried_once Step image place change s (Ok done) hs h = subst (TriedOnce Step (true ≡ true) ⊥ image place change) (sym h) (record { course = (s, tt); few = omega arith; made = λ k. refl; untried = λ k. absurd k })
tried_once Step image place change s (Err fault.Store) hs h = subst (TriedOnce Step (false ≡ true) ⊥ image place change) (sym h.1) (record { course = (s, tt); few = omega arith; made = λ k. cc; untried = λ k. absurd k })
tried_once Step image place change s (Err fault.Memory) hs h = subst (TriedOnce Step (false ≡ true) (Unit {0}) image place change) (sym h) (record { course = tt; few = omega arith; made = λ k. cc; untried = λ k. refl })
