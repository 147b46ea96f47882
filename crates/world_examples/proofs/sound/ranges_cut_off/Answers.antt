use Rattle.std.proofs.Common.{◌≡◌, true≢false, refl, sym, ap, [], ◌∷◌}
use Rattle.std.specs.Prelude.{IsTrue}
use Rattle.cell_world.specs.Keys.{same, low_of}
use Rattle.cell_world.specs.Jobs.{ends_at}
use Rattle.cell_world.specs.declared.cells.Status.TheVariants.{Online}
use Rattle.cell_world.specs.declared.spans.High.TheVariants.{At}
use Rattle.world_examples.specs.Examples.{int_key, site_a, site_b, job_piece, map_m, map_n}
use Rattle.world_examples.proofs.ShortTables.{piece_in, no_piece}
use Rattle.world_examples.proofs.sound.ranges_cut_off.Goals as goal

pub returns-clause-cut : goal.returns-clause-cut
returns-clause-cut c = record { begins = (job_piece 0 3 site_b Online, piece_in (job_piece 0 3 site_b Online ∷ job_piece 3 10 site_a Online ∷ []) tt (job_piece 0 3 site_b Online) refl, refl, refl); ends = (job_piece 0 3 site_b Online, piece_in (job_piece 0 3 site_b Online ∷ job_piece 3 10 site_a Online ∷ []) tt (job_piece 0 3 site_b Online) refl, refl, refl) }

pub returns-clause-two_parts : goal.returns-clause-two_parts
returns-clause-two_parts c = record { begins = (job_piece 0 2 site_b Online, piece_in (job_piece 0 2 site_b Online ∷ job_piece 2 3 site_b Online ∷ job_piece 3 10 site_a Online ∷ []) tt (job_piece 0 2 site_b Online) refl, refl, refl); ends = (job_piece 2 3 site_b Online, piece_in (job_piece 0 2 site_b Online ∷ job_piece 2 3 site_b Online ∷ job_piece 3 10 site_a Online ∷ []) tt (job_piece 2 3 site_b Online) refl, refl, refl) }

pub returns-clause-begins_before : goal.returns-clause-begins_before
returns-clause-begins_before c = λ h. no_piece (job_piece 0 3 site_b Online ∷ job_piece 3 10 site_a Online ∷ []) tt (λ p. low_of p.span ≡ int_key 2) ((λ e. true≢false (ap (λ k. same k (int_key 2)) (sym e))), ((λ e. true≢false (ap (λ k. same k (int_key 2)) (sym e))), tt)) h.begins.0 h.begins.1 h.begins.3

pub returns-clause-ends_after : goal.returns-clause-ends_after
returns-clause-ends_after c = λ h. no_piece (job_piece 0 5 site_b Online ∷ job_piece 5 10 site_a Online ∷ []) tt (λ p. IsTrue (ends_at (At (int_key 3)) p.span)) ((λ e. true≢false (sym e)), ((λ e. true≢false (sym e)), tt)) h.ends.0 h.ends.1 h.ends.3

pub returns-clause-begins_before_in_a_job : goal.returns-clause-begins_before_in_a_job
returns-clause-begins_before_in_a_job c = λ h. let cut = h.cut_off refl in no_piece (job_piece 0 3 site_b Online ∷ job_piece 3 10 site_a Online ∷ []) tt (λ p. low_of p.span ≡ int_key 2) ((λ e. true≢false (ap (λ k. same k (int_key 2)) (sym e))), ((λ e. true≢false (ap (λ k. same k (int_key 2)) (sym e))), tt)) cut.begins.0 cut.begins.1 cut.begins.3

pub returns-clause-ends_after_in_a_job : goal.returns-clause-ends_after_in_a_job
returns-clause-ends_after_in_a_job c = λ h. let cut = h.cut_off refl in no_piece (job_piece 0 12 site_b Online ∷ []) tt (λ p. IsTrue (ends_at (At (int_key 10)) p.span)) ((λ e. true≢false (sym e)), tt) cut.ends.0 cut.ends.1 cut.ends.3

pub returns-clause-other_map : goal.returns-clause-other_map
returns-clause-other_map c = λ h. no_piece (record (job_piece 0 3 site_b Online) { map = map_n } ∷ []) tt (λ p. p.map ≡ map_m) ((λ e. true≢false (ap (λ name. same name map_n) e)), tt) h.begins.0 h.begins.1 h.begins.2
