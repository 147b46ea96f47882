-- A pass that leaves.
use Rattle.std.proofs.Common.{◌≡◌, ℕ, true, List, [], ◌∷◌, ap, ◌∙◌, Option as Opt, Some}
use Rattle.atomic_table.specs.Table.{Me, rest}
use Rattle.turnstile.specs.declared.view.View.{View}
use Rattle.turnstile.specs.Steps.{Sits, slots_held}

-- what is so once the pass has put the value into its slot, before it counts
pub record Filled {S E : Type 0} (value : S) (was me : Me (Opt S) (View E)) : Type 0 where
  pub same : me.0 ≡ was.0
  pub slots : me.1 ≡ (0, Some value) ∷ []
  pub live : me.0.live ≡ true
  pub holds : me.0.holds ≡ true

pub filled : {S E : Type 0} (value : S) (was me : Me (Opt S) (View E)) (entered : ℕ) → Sits was entered → was.0.holds ≡ true
    → me ≡ (was.0, (0, Some value) ∷ rest was.1) → Filled value was me
filled {S = S} {E = E} value was me entered sits holds e =
    let same : me.0 ≡ was.0 = ap (λ (m : Me (Opt S) (View E)). m.0) e in record {
      same = same;
      slots = ap (λ (m : Me (Opt S) (View E)). m.1) e ∙ ap (λ (r : List (ℕ × Opt S)). (0, Some value) ∷ rest r) (sits.slots ∙ ap slots_held holds);
      live = ap (λ (v : View E). v.live) same ∙ sits.live;
      holds = ap (λ (v : View E). v.holds) same ∙ holds;
    }
