use Rattle.std.proofs.Common.{◌≡◌, true≢false, refl, sym, [], ◌∷◌}
use Rattle.cell_world.specs.declared.cells.Status.TheVariants.{Online, Offline}
use Rattle.world_examples.proofs.Accepting.{b_not_a}
use Rattle.world_examples.specs.Examples.{int_key, site_a, site_b, job_piece}
use Rattle.world_examples.proofs.ImageParts.{offline_not_online}
use Rattle.world_examples.proofs.ShortTables.{no_owner, key_of_job}
use Rattle.world_examples.proofs.sound.refused_owners_of_a_range.Goals as goal

pub returns-clause-done_at_source : goal.returns-clause-done_at_source
returns-clause-done_at_source c = λ h.
    let owned = h.done (int_key 1) (key_of_job h.type h.range_map (int_key 1) refl) refl in
    no_owner (job_piece 0 3 site_a Online ∷ job_piece 3 10 site_a Online ∷ []) tt (int_key 1) (λ p. p.location ≡ site_b) ((λ holds e. b_not_a (sym e)), ((λ holds e. true≢false (sym holds)), tt)) owned.0 owned.1 owned.2

pub returns-clause-done_offline : goal.returns-clause-done_offline
returns-clause-done_offline c = λ h.
    let owned = h.done (int_key 1) (key_of_job h.type h.range_map (int_key 1) refl) refl in
    no_owner (job_piece 0 3 site_b Offline ∷ job_piece 3 10 site_a Online ∷ []) tt (int_key 1) (λ p. p.status ≡ Online) ((λ holds e. offline_not_online e), ((λ holds e. true≢false (sym holds)), tt)) owned.0 owned.1 owned.3

pub returns-clause-left_at_target : goal.returns-clause-left_at_target
returns-clause-left_at_target c = λ h.
    let owned = h.left (int_key 7) (key_of_job h.type h.range_map (int_key 7) refl) refl refl in
    no_owner (job_piece 0 10 site_b Online ∷ []) tt (int_key 7) (λ p. p.location ≡ site_a) ((λ holds e. b_not_a e), tt) owned.0 owned.1 owned.2

pub returns-clause-left_offline : goal.returns-clause-left_offline
returns-clause-left_offline c = λ h.
    let owned = h.left (int_key 7) (key_of_job h.type h.range_map (int_key 7) refl) refl refl in
    no_owner (job_piece 0 10 site_a Offline ∷ []) tt (int_key 7) (λ p. p.status ≡ Online) ((λ holds e. offline_not_online e), tt) owned.0 owned.1 owned.3

pub returns-clause-behind_the_batch : goal.returns-clause-behind_the_batch
returns-clause-behind_the_batch c = λ h.
    let owned = h.left (int_key 7) (key_of_job h.type h.range_map (int_key 7) refl) refl refl in
    no_owner (job_piece 0 3 site_a Offline ∷ job_piece 3 10 site_a Offline ∷ []) tt (int_key 7) (λ p. p.status ≡ Online) ((λ holds e. offline_not_online e), ((λ holds e. offline_not_online e), tt)) owned.0 owned.1 owned.3
