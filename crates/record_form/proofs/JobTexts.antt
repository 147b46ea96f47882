-- Jobs, and what operations do to them, are read exactly.
use Rattle.std.proofs.Common.{◌≡◌, ℕ, zero, suc, ◌+◌, ◌^◌, ◌<◌, ◌≤◌, true, List, [], ◌∷◌, ◌++◌, refl, arith}
use Rattle.std.specs.Prelude.{IsTrue}
use Rattle.std.specs.Int.{w32, to_be_bytes}
use Rattle.cell_world.specs.Texts.{is_location}
use Rattle.cell_world.specs.Spelled.{IsEnd, IsPhase, IsJob, IsExtra}
use Rattle.cell_world.specs.declared.spans.High.{High}
use Rattle.cell_world.specs.declared.operations.Phase.{Phase}
use Rattle.cell_world.specs.declared.operations.Phase.TheVariants as phase
use Rattle.cell_world.specs.declared.operations.JobRow.{JobRow}
use Rattle.cell_world.specs.declared.operations.Extra.{Extra}
use Rattle.cell_world.specs.declared.operations.Extra.TheVariants as extra
use Rattle.record_form.specs.Reading.{is_from}
use Rattle.record_form.specs.Layout.{text_bytes, end_bytes, phase_bytes, job_bytes, extra_bytes}
use Rattle.record_form.specs.Kinds.{phase_body_at, phase_at, course_at, job_at, extra_body_at, extra_at}
use Rattle.record_form.specs.declared.jobs.JobCourse.{JobCourse}
use Rattle.record_form.proofs.Readers.{IsReader, Tagged, tag, body, pair_reader, made_reader, nothing_reader, tagged_reader}
use Rattle.record_form.proofs.Widths.{number_4_reader}
use Rattle.record_form.proofs.NameTexts.{name_reader}
use Rattle.record_form.proofs.LocationTexts.{location_reader}
use Rattle.record_form.proofs.SpanTexts.{past, key_reader, end_reader}

-- ---- phases

at_idle : (p : Phase) → Tagged phase_bytes IsPhase 0 p → (u : Unit {0}) × Unit {0} × (phase.Idle ≡ p)
at_idle phase.Idle h = (tt, tt, refl)
at_idle (phase.Copying end) h = let e = h.1 in absurd (omega arith)
at_idle (phase.Moved end) h = let e = h.1 in absurd (omega arith)

at_copying : (p : Phase) → Tagged phase_bytes IsPhase 1 p → (end : High) × IsEnd end × (phase.Copying end ≡ p)
at_copying phase.Idle h = let e = h.1 in absurd (omega arith)
at_copying (phase.Copying end) h = (end, h.0, refl)
at_copying (phase.Moved end) h = let e = h.1 in absurd (omega arith)

at_moved : (p : Phase) → Tagged phase_bytes IsPhase 2 p → (end : High) × IsEnd end × (phase.Moved end ≡ p)
at_moved phase.Idle h = let e = h.1 in absurd (omega arith)
at_moved (phase.Copying end) h = let e = h.1 in absurd (omega arith)
at_moved (phase.Moved end) h = (end, h.0, refl)

phase_begun : (p : Phase) → IsPhase p → (is_from 0 2 (tag phase_bytes p) ≡ true) × (phase_bytes p ≡ tag phase_bytes p ∷ body phase_bytes p)
phase_begun phase.Idle h = (refl, refl)
phase_begun (phase.Copying end) h = (refl, refl)
phase_begun (phase.Moved end) h = (refl, refl)

phase_cases : (t : ℕ) → is_from 0 2 t ≡ true → IsReader (phase_body_at t) (body phase_bytes) (Tagged phase_bytes IsPhase t)
phase_cases zero h = made_reader nothing_reader (record { same = λ u f. refl; fits = λ u f. (f, refl); from = at_idle })
phase_cases (suc zero) h = made_reader end_reader (record { same = λ end f. refl; fits = λ end f. (f, refl); from = at_copying })
phase_cases (suc (suc zero)) h = made_reader end_reader (record { same = λ end f. refl; fits = λ end f. (f, refl); from = at_moved })
phase_cases (suc (suc (suc t))) h = past 2 (suc (suc (suc t))) h (omega arith)

phase_reader : IsReader phase_at phase_bytes IsPhase
unfolding phase_at
phase_reader = tagged_reader (is_from 0 2) phase_body_at phase_bytes IsPhase 0 refl phase_begun phase_cases

-- ---- jobs

abbrev course_bytes : JobCourse → List ℕ
course_bytes c = text_bytes c.source ++ (text_bytes c.target ++ (to_be_bytes w32 c.batch ++ (end_bytes c.cursor ++ phase_bytes c.phase)))

record IsCourse (c : JobCourse) : Type 0 where
  source : IsTrue (is_location c.source)
  target : IsTrue (is_location c.target)
  batch : c.batch < 2 ^ 32
  cursor : IsEnd c.cursor
  phase : IsPhase c.phase

course_reader : IsReader course_at course_bytes IsCourse
unfolding course_at
course_reader = made_reader (pair_reader location_reader (pair_reader location_reader (pair_reader number_4_reader (pair_reader end_reader phase_reader)))) (record {
  same = λ p h. refl;
  fits = λ p h. record { source = h.0; target = h.1.0; batch = h.1.1.0; cursor = h.1.1.1.0; phase = h.1.1.1.1 };
  from = λ c h. ((c.source, (c.target, (c.batch, (c.cursor, c.phase)))), (h.source, (h.target, (h.batch, (h.cursor, h.phase)))), refl);
})

pub job_reader : IsReader job_at job_bytes IsJob
unfolding job_at
job_reader = made_reader (pair_reader number_4_reader (pair_reader name_reader (pair_reader key_reader (pair_reader end_reader course_reader)))) (record {
  same = λ p h. refl;
  fits = λ p h. let c = h.1.1.1.1 in record { number = h.0; map = h.1.0; low = h.1.1.0; high = h.1.1.1.0; source = c.source; target = c.target; batch = c.batch; cursor = c.cursor; phase = c.phase };
  from = λ job h. (
    (job.number, (job.map, (job.low, (job.high, record { source = job.source; target = job.target; batch = job.batch; cursor = job.cursor; phase = job.phase })))),
    (h.number, (h.map, (h.low, (h.high, record { source = h.source; target = h.target; batch = h.batch; cursor = h.cursor; phase = h.phase })))),
    refl,
  );
})

-- ---- what an operation does to a job

at_nothing : (x : Extra) → Tagged extra_bytes IsExtra 0 x → (u : Unit {0}) × Unit {0} × (extra.None ≡ x)
at_nothing extra.None h = (tt, tt, refl)
at_nothing (extra.JobPut job) h = let e = h.1 in absurd (omega arith)
at_nothing (extra.JobDrop number) h = let e = h.1 in absurd (omega arith)

at_put : (x : Extra) → Tagged extra_bytes IsExtra 1 x → (job : JobRow) × IsJob job × (extra.JobPut job ≡ x)
at_put extra.None h = let e = h.1 in absurd (omega arith)
at_put (extra.JobPut job) h = (job, h.0, refl)
at_put (extra.JobDrop number) h = let e = h.1 in absurd (omega arith)

at_drop : (x : Extra) → Tagged extra_bytes IsExtra 2 x → (number : ℕ) × (number < 2 ^ 32) × (extra.JobDrop number ≡ x)
at_drop extra.None h = let e = h.1 in absurd (omega arith)
at_drop (extra.JobPut job) h = let e = h.1 in absurd (omega arith)
at_drop (extra.JobDrop number) h = (number, h.0, refl)

extra_begun : (x : Extra) → IsExtra x → (is_from 0 2 (tag extra_bytes x) ≡ true) × (extra_bytes x ≡ tag extra_bytes x ∷ body extra_bytes x)
extra_begun extra.None h = (refl, refl)
extra_begun (extra.JobPut job) h = (refl, refl)
extra_begun (extra.JobDrop number) h = (refl, refl)

extra_cases : (t : ℕ) → is_from 0 2 t ≡ true → IsReader (extra_body_at t) (body extra_bytes) (Tagged extra_bytes IsExtra t)
extra_cases zero h = made_reader nothing_reader (record { same = λ u f. refl; fits = λ u f. (f, refl); from = at_nothing })
extra_cases (suc zero) h = made_reader job_reader (record { same = λ job f. refl; fits = λ job f. (f, refl); from = at_put })
extra_cases (suc (suc zero)) h = made_reader number_4_reader (record { same = λ number f. refl; fits = λ number f. (f, refl); from = at_drop })
extra_cases (suc (suc (suc t))) h = past 2 (suc (suc (suc t))) h (omega arith)

pub extra_reader : IsReader extra_at extra_bytes IsExtra
unfolding extra_at
extra_reader = tagged_reader (is_from 0 2) extra_body_at extra_bytes IsExtra 0 refl extra_begun extra_cases
