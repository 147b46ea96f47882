-- What a call does by the plan is what the calls of a world do.
use Rattle.std.proofs.Common.{◌≡◌, ℕ, ◌≤◌, ◌==◌, Bool, true, false, if◌then◌else◌, List, refl, sym, ap, ◌∙◌, subst, Some, None, Option, option_map, unwrap_or, IsSome, Result, Ok, Err, arith}
use Rattle.std.specs.Option.{is_some}
use Rattle.cell_world.specs.Texts.{Text}
use Rattle.cell_world.specs.Counts.{last_count, one_more, Rose}
use Rattle.cell_world.specs.Stores.{Store, IsStore}
use Rattle.cell_world.specs.Images.{Place, Happening, Committed, Wrote, Reopened, Trail, end_of_trail}
use Rattle.cell_world.specs.Outside.{Outside, TellsTrail, TellsCells, IsWorld, SameButFaults, FailsWithRise, Commits, Writes, happens, happens_at, place_at}
use Rattle.cell_world.specs.declared.cells.Site.{Site}
use Rattle.cell_world.specs.declared.changes.Edit.{Edit}
use Rattle.cell_world.specs.declared.outside.WorldError.{WorldError}
use Rattle.cell_world.specs.declared.outside.WorldError.TheVariants.{Failed, Memory}
use Rattle.world_memory.specs.declared.faults.PlannedFault.{PlannedFault}
use Rattle.world_memory.specs.Faults.{GoesByPlan, fails_at, failed_by, sink_failed_by, takes, front, held, commit_by, write_by}

-- ---- counts

-- no count of a site is above the last value
abbrev AreCounts : Outside → Type 0
AreCounts o = (n : ℕ) → o.faults_at n ≤ last_count

same_self : (o : Outside) → SameButFaults o o
same_self o = record { same = refl; faults = λ site. omega arith; sink = omega arith }

pub same_as : (a b : Outside) → b ≡ a → SameButFaults a b
same_as a b is = subst (SameButFaults a) (sym is) (same_self a)

not_less : (n : ℕ) → n ≤ last_count → n ≤ one_more n
not_less n few = grind (arith, few)

fails_later : (o : Outside) (site : Site) → AreCounts o → SameButFaults o (fails_at o site)
fails_later o site few = record { same = refl; faults = λ n. by n (n == site.0); sink = omega arith }
  where
    by : (n : ℕ) (b : Bool) → o.faults_at n ≤ (if b then one_more (o.faults_at n) else o.faults_at n)
    by n true = not_less (o.faults_at n) (few n)
    by n false = omega arith

sink_later : (o : Outside) → o.sink_faults ≤ last_count → SameButFaults o (record o { sink_faults = one_more o.sink_faults })
sink_later o few = record { same = refl; faults = λ n. omega arith; sink = not_less o.sink_faults few }

-- a failed call at a site raises the site's count
rises : (o : Outside) (site : Site) → Rose (o.faults_at site.0) ((fails_at o site).faults_at site.0)
rises o site = by (site.0 == site.0) refl
  where
    by : (b : Bool) → (site.0 == site.0) ≡ b → one_more (o.faults_at site.0) ≤ (if b then one_more (o.faults_at site.0) else o.faults_at site.0)
    by true e = omega arith
    by false e = absurd (grind (arith, e))

-- what happens leaves the counts of faults
happened_faults : (o : Outside) (site : Site) (h : Place → Happening) → (happens_at o site h).faults_at ≡ o.faults_at
happened_faults o site h = by (place_at o.locations site.0)
  where
    by : (p : Option Place) → (unwrap_or (option_map (λ place. happens o (h place)) p) o).faults_at ≡ o.faults_at
    by None = refl
    by (Some p) = refl

-- ---- from the plan to the clauses of a world

module _ (named : Option PlannedFault) (o new : Outside) (site : Site) (change : List Edit) where
  pub commit_made : (r : Result (Unit {0}) WorldError) → AreCounts o → GoesByPlan r named (commit_by o site change) o new → Commits o new site change r
  commit_made (Ok done) few g = same_as (happens_at o site (λ place. Committed place change true)) new g.1
  commit_made (Err Failed) few g =
      let h : Place → Happening = λ place. Committed place change (takes (Some g.0)) in
      (takes (Some g.0), subst (SameButFaults (happens_at o site h)) (sym g.2) (fails_later (happens_at o site h) site (subst (λ f. (n : ℕ) → f n ≤ last_count) (sym (happened_faults o site h)) few)))
  commit_made (Err Memory) few g = same_as o new g

  pub commit_cause : (r : Result (Unit {0}) WorldError) → GoesByPlan r named (commit_by o site change) o new → FailsWithRise r (o.faults_at site.0) (new.faults_at site.0)
  commit_cause (Ok done) g e = cc
  commit_cause (Err Failed) g e =
      let h : Place → Happening = λ place. Committed place change (takes (Some g.0)) in
      subst (λ (f : ℕ → ℕ). Rose (f site.0) (new.faults_at site.0)) (happened_faults o site h) (subst (λ (p : Outside). Rose ((happens_at o site h).faults_at site.0) (p.faults_at site.0)) (sym g.2) (rises (happens_at o site h) site))
  commit_cause (Err Memory) g e = cc

module _ (named : Option PlannedFault) (o new : Outside) (bytes : Text) where
  pub write_made : (r : Result (Unit {0}) WorldError) → o.sink_faults ≤ last_count → GoesByPlan r named (write_by o bytes) o new → Writes o new bytes r
  write_made (Ok done) few g = same_as (happens o (Wrote bytes)) new g.1
  write_made (Err Failed) few g = (g.0.prefix, subst (SameButFaults (happens o (Wrote (front (Some g.0) bytes)))) (sym g.2) (sink_later (happens o (Wrote (front (Some g.0) bytes))) few))
  write_made (Err Memory) few g = same_as o new g

  pub write_cause : (r : Result (Unit {0}) WorldError) → GoesByPlan r named (write_by o bytes) o new → FailsWithRise r o.sink_faults new.sink_faults
  write_cause (Ok done) g e = cc
  write_cause (Err Failed) g e = subst (λ (p : Outside). Rose o.sink_faults p.sink_faults) (sym g.2) (omega arith)
  write_cause (Err Memory) g e = cc

-- a site was opened again, and holds what stood there
pub reopened : (o new : Outside) (trail : Trail) (site : Site) → o.told ≡ TellsTrail trail → IsSome (place_at o.locations site.0) → IsWorld o → new ≡ happens_at o site (λ place. Reopened place (held o.told place))
    → (cells : Store) × IsStore cells × SameButFaults (happens_at o site (λ place. Reopened place cells)) new
reopened o new trail site told known laws is = by (place_at o.locations site.0) refl known
  where
    by : (p : Option Place) → place_at o.locations site.0 ≡ p → IsSome p → (cells : Store) × IsStore cells × SameButFaults (happens_at o site (λ place. Reopened place cells)) new
    by None e h = cc
    by (Some place) e h = (
      held o.told place,
      subst (λ t. IsStore (held t place)) (sym told) (subst TellsCells told laws.cells (end_of_trail trail) place),
      same_as _ _ (is ∙ ap (λ p. unwrap_or (option_map (λ x. happens o (Reopened x (held o.told x))) p) o) e ∙ sym (ap (λ p. unwrap_or (option_map (λ x. happens o (Reopened x (held o.told place))) p) o) e)),
    )

-- ---- steps of a call

pub not_named : (named : Option PlannedFault) → false ≡ is_some named → named ≡ None
not_named None e = refl
not_named (Some fault) e = cc

-- after what a commit is kept as, the answer by the plan
pub commit_answered : {T : Type 0} (named : Option PlannedFault) (o tried new : Outside) (site : Site) (change : List Edit) → tried ≡ happens_at o site (λ place. Committed place change (takes named)) → (r : Result T WorldError) → GoesByPlan r named (failed_by tried site) tried new → (r ≡ Err Memory → ⊥)
    → GoesByPlan r named (commit_by o site change) o new
commit_answered named o tried new site change is (Ok value) g never = (g.0, g.1 ∙ is ∙ ap (λ n. happens_at o site (λ place. Committed place change (takes n))) g.0)
commit_answered named o tried new site change is (Err Failed) g never = (g.0, g.1, g.2 ∙ ap (λ p. fails_at p site) (is ∙ ap (λ n. happens_at o site (λ place. Committed place change (takes n))) g.1))
commit_answered named o tried new site change is (Err Memory) g never = absurd (never refl)

-- and after what a write is kept as
pub write_answered : {T : Type 0} (named : Option PlannedFault) (o tried new : Outside) (bytes : Text) → tried ≡ happens o (Wrote (front named bytes)) → (r : Result T WorldError) → GoesByPlan r named (sink_failed_by tried) tried new → (r ≡ Err Memory → ⊥)
    → GoesByPlan r named (write_by o bytes) o new
write_answered named o tried new bytes is (Ok value) g never = (g.0, g.1 ∙ is ∙ ap (λ n. happens o (Wrote (front n bytes))) g.0)
write_answered named o tried new bytes is (Err Failed) g never = (g.0, g.1, g.2 ∙ ap (λ (p : Outside). record p { sink_faults = one_more p.sink_faults }) (is ∙ ap (λ n. happens o (Wrote (front n bytes))) g.1))
write_answered named o tried new bytes is (Err Memory) g never = absurd (never refl)
