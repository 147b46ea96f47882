-- Checks of the command table, and what follows where none of them holds.
use Rattle.std.proofs.Common.{◌≡◌, Bool, true, false, not, ◌||◌, cond, List, [], ◌∷◌, ◌++◌, Option, Some, None, is_some, refl, sym, ◌∙◌}
use Rattle.cell_world.specs.Plain.{is_attached}
use Rattle.cell_world.specs.declared.cells.Away.{Away}
use Rattle.cell_world.specs.declared.cells.Away.TheVariants as away
use Rattle.plain_model.specs.Refusing.{Check, first_refusal, is_detached, is_suspect}

-- ---- none of them holds

abbrev pub NoneHolds : List Check → Type 0
NoneHolds [] = Unit {0}
NoneHolds (check ∷ more) = (check.0 ≡ false) × NoneHolds more

pub none_holds : (tests : List Check) → first_refusal tests ≡ None → NoneHolds tests
none_holds [] h = tt
none_holds (check ∷ more) h = by check.0 refl h (none_holds more)
  where
    by : (b : Bool) → check.0 ≡ b → cond b (Some check.1) (first_refusal more) ≡ None → (first_refusal more ≡ None → NoneHolds more) → NoneHolds (check ∷ more)
    by true is g later = cc
    by false is g later = (is, later g)

pub of_not : (b : Bool) → not b ≡ false → b ≡ true
of_not true e = refl
of_not false e = cc

pub none_of : {A : Type 0} (o : Option A) → is_some o ≡ false → o ≡ None
none_of None e = refl
none_of (Some a) e = let wrong : true ≡ false = e in cc

pub never : (b : Bool) → b ≡ false → b ≡ true → ⊥
never b f t = let wrong : true ≡ false = sym t ∙ f in absurd cc

pub neither : (a b : Bool) → (a || b) ≡ false → (a ≡ false) × (b ≡ false)
neither true b e = let wrong : true ≡ false = e in cc
neither false b e = (refl, e)

pub attached : (state : Option Away) → is_detached state ≡ false → is_suspect state ≡ false → is_attached state ≡ true
attached None d s = refl
attached (Some away.Detached) d s = let wrong : true ≡ false = d in cc
attached (Some away.Suspect) d s = let wrong : true ≡ false = s in cc

-- ---- two lists of checks

-- Of two lists of checks the first one decides where some check of it holds, and else the second.
pub first_then : (checks more : List Check) → is_some (first_refusal checks) ≡ true → first_refusal (checks ++ more) ≡ first_refusal checks
first_then [] more e = let wrong : false ≡ true = e in cc
first_then (check ∷ checks) more e = by check.0 e (first_then checks more)
  where
    by : (b : Bool) → is_some (cond b (Some check.1) (first_refusal checks)) ≡ true → (is_some (first_refusal checks) ≡ true → first_refusal (checks ++ more) ≡ first_refusal checks)
        → cond b (Some check.1) (first_refusal (checks ++ more)) ≡ cond b (Some check.1) (first_refusal checks)
    by true e later = refl
    by false e later = later e

pub first_else : (checks more : List Check) → is_some (first_refusal checks) ≡ false → first_refusal (checks ++ more) ≡ first_refusal more
first_else [] more e = refl
first_else (check ∷ checks) more e = by check.0 e (first_else checks more)
  where
    by : (b : Bool) → is_some (cond b (Some check.1) (first_refusal checks)) ≡ false → (is_some (first_refusal checks) ≡ false → first_refusal (checks ++ more) ≡ first_refusal more)
        → cond b (Some check.1) (first_refusal (checks ++ more)) ≡ first_refusal more
    by true e later = let wrong : true ≡ false = e in cc
    by false e later = later e
