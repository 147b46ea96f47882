use Rattle.std.proofs.Common.{◌≡◌, ℕ, Bool, true, false, true≢false, cond, refl, sym, ap, ◌∙◌, Some, None, Option, [], ◌∷◌}
use Rattle.std.specs.Ordering.{nat_cmp, eq_by_cmp}
use Rattle.std.specs.FinMap as fin
use Rattle.std.proofs.lemmas.Cmp.{nat_cmp_total}
use Rattle.std.proofs.lemmas.Map.Lookups.{exact_unsigned}
use Rattle.cell_world.specs.declared.operations.JobRow.{JobRow}
use Rattle.cell_world.specs.declared.operations.Phase.{Phase}
use Rattle.cell_world.specs.declared.operations.Phase.TheVariants.{Idle, Copying, Moved}
use Rattle.cell_world.specs.declared.spans.High.TheVariants.{At}
use Rattle.world_examples.specs.Examples.{int_key, job_at, jobs_of, keyed_jobs}
use Rattle.world_examples.proofs.Tables.{get_of}
use Rattle.world_examples.proofs.stages.job_as_its_step_commits.Goals as goal

abbrev idle : JobRow
idle = job_at 0 Idle

abbrev copying : JobRow
copying = job_at 0 (Copying (At (int_key 10)))

-- a lookup in what the jobs become
looked_up : (q : ℕ) → fin.get (fin.insert (jobs_of (idle ∷ [])) 1 copying) q ≡ cond (eq_by_cmp nat_cmp q 1) (Some copying) (fin.find nat_cmp q (keyed_jobs (idle ∷ [])))
looked_up q = fin.get-insert nat_cmp_total (jobs_of (idle ∷ [])) 1 copying q ∙ ap (cond (eq_by_cmp nat_cmp q 1) (Some copying)) (get_of nat_cmp (keyed_jobs (idle ∷ [])) tt q)

by : (b : Bool) → cond b (Some copying) (cond b (Some idle) None) ≡ cond b (Some copying) None
by true = refl
by false = refl

pub returns-clause-accepted : goal.returns-clause-accepted
returns-clause-accepted c = fin.same_map nat_cmp_total exact_unsigned _ _ (λ q. looked_up q ∙ by (eq_by_cmp nat_cmp q 1) ∙ sym (get_of nat_cmp (keyed_jobs (copying ∷ [])) tt q))

abbrev is_idle : Phase → Bool
is_idle Idle = true
is_idle (Copying end) = false
is_idle (Moved end) = false

abbrev idle_in : Option JobRow → Bool
idle_in None = false
idle_in (Some job) = is_idle job.phase

pub returns-clause-not_put : goal.returns-clause-not_put
returns-clause-not_put c = λ h. true≢false (ap idle_in (sym (get_of nat_cmp (keyed_jobs (idle ∷ [])) tt 1) ∙ ap (λ s. fin.get s.jobs 1) h ∙ looked_up 1))
