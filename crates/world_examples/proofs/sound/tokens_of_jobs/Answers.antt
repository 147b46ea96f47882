use Rattle.std.proofs.Common.{◌≡◌, ℕ, ◌<◌, ◌^◌, true≢false, refl, ap, Some, [], ◌∷◌, arith}
use Rattle.std.specs.Prelude.{IfSome}
use Rattle.std.proofs.lemmas.Map.Lookups.{exact_unsigned}
use Rattle.cell_world.specs.Keys.{same}
use Rattle.cell_world.specs.Stores.{piece_key}
use Rattle.cell_world.specs.Sound.{HasJob}
use Rattle.cell_world.specs.declared.cells.Status.TheVariants.{Online}
use Rattle.cell_world.specs.declared.operations.JobRow.{JobRow}
use Rattle.cell_world.specs.declared.operations.Phase.TheVariants.{Idle}
use Rattle.cell_world.specs.declared.operations.Piece.{Piece}
use Rattle.cell_world.proofs.OrderLaws.{exact_text_pairs}
use Rattle.world_examples.specs.Examples.{map_m, map_n, site_a, free_piece, job_piece, job_at, keyed_pieces, jobs_of, keyed_jobs}
use Rattle.world_examples.proofs.Standing.{standing}
use Rattle.world_examples.proofs.ShortTables.{piece_in, job_in}
use Rattle.world_examples.proofs.sound.tokens_of_jobs.Goals as goal

pub returns-clause-of_a_job : goal.returns-clause-of_a_job
returns-clause-of_a_job c = λ p. standing exact_text_pairs (λ k q. IfSome q.token (λ token. token.0 < 2 ^ 64 → (job : JobRow) × HasJob (jobs_of (job_at 0 Idle ∷ [])) job × (job.number ≡ token.0) × (job.map ≡ q.map))) (keyed_pieces (job_piece 0 10 site_a Online ∷ [])) tt ((λ h. (job_at 0 Idle, job_in (job_at 0 Idle ∷ []) tt (job_at 0 Idle) refl, refl, refl)), tt) (piece_key p) p

pub returns-clause-free : goal.returns-clause-free
returns-clause-free c = λ p. standing exact_text_pairs (λ k q. IfSome q.token (λ token. token.0 < 2 ^ 64 → (job : JobRow) × HasJob (jobs_of ([])) job × (job.number ≡ token.0) × (job.map ≡ q.map))) (keyed_pieces (free_piece 0 10 site_a Online ∷ [])) tt (tt, tt) (piece_key p) p

pub returns-clause-of_no_job : goal.returns-clause-of_no_job
returns-clause-of_no_job c = λ p. standing exact_text_pairs (λ k q. IfSome q.token (λ token. token.0 < 2 ^ 64 → (job : JobRow) × HasJob (jobs_of ([])) job × (job.number ≡ token.0) × (job.map ≡ q.map))) (keyed_pieces (record (free_piece 0 10 site_a Online) { token = Some (record { 0 = 2 ^ 64 }) } ∷ [])) tt ((λ h. let below : 2 ^ 64 < 2 ^ 64 = h in absurd (omega arith)), tt) (piece_key p) p

pub returns-clause-no_job : goal.returns-clause-no_job
returns-clause-no_job c = λ h.
    let token = h (job_piece 0 10 site_a Online) (piece_in (job_piece 0 10 site_a Online ∷ []) tt (job_piece 0 10 site_a Online) refl) (omega arith) in
    standing exact_unsigned (λ k (job : JobRow). job.number ≡ 1 → job.map ≡ map_m → ⊥) (keyed_jobs ([])) tt tt token.0.number token.0 token.1 token.2 token.3

pub returns-clause-other_job : goal.returns-clause-other_job
returns-clause-other_job c = λ h.
    let token = h (job_piece 0 10 site_a Online) (piece_in (job_piece 0 10 site_a Online ∷ []) tt (job_piece 0 10 site_a Online) refl) (omega arith) in
    standing exact_unsigned (λ k (job : JobRow). job.number ≡ 1 → job.map ≡ map_m → ⊥) (keyed_jobs (record (job_at 0 Idle) { number = 2 } ∷ [])) tt ((λ n m. let number : ◌≡◌ {A = ℕ} 2 1 = n in omega arith), tt) token.0.number token.0 token.1 token.2 token.3

pub returns-clause-other_map : goal.returns-clause-other_map
returns-clause-other_map c = λ h.
    let token = h (job_piece 0 10 site_a Online) (piece_in (job_piece 0 10 site_a Online ∷ []) tt (job_piece 0 10 site_a Online) refl) (omega arith) in
    standing exact_unsigned (λ k (job : JobRow). job.number ≡ 1 → job.map ≡ map_m → ⊥) (keyed_jobs (record (job_at 0 Idle) { map = map_n } ∷ [])) tt ((λ n m. true≢false (ap (λ name. same name map_n) m)), tt) token.0.number token.0 token.1 token.2 token.3

pub returns-clause-greatest : goal.returns-clause-greatest
returns-clause-greatest c = λ h.
    let last : Piece = record (free_piece 0 10 site_a Online) { token = Some (record { 0 = 18446744073709551615 }) } in
    let token = h last (piece_in (last ∷ []) tt last refl) (omega arith) in
    standing exact_unsigned (λ k (job : JobRow). ⊥) (keyed_jobs []) tt tt token.0.number token.0 token.1
