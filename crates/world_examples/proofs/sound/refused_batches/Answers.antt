use Rattle.std.proofs.Common.{Bool, true, false, true≢false, refl, sym, ap, [], ◌∷◌}
use Rattle.cell_world.specs.Keys.{same, contains}
use Rattle.cell_world.specs.declared.cells.Status.TheVariants.{Online, Offline}
use Rattle.cell_world.specs.declared.operations.Phase.TheVariants.{Copying, Moved}
use Rattle.cell_world.specs.declared.spans.High.{High}
use Rattle.cell_world.specs.declared.spans.High.TheVariants.{At, Max}
use Rattle.world_examples.proofs.Accepting.{b_not_a}
use Rattle.world_examples.specs.Examples.{int_key, map_n, site_a, site_b, job_piece, job_at}
use Rattle.world_examples.proofs.ImageParts.{offline_not_online}
use Rattle.world_examples.proofs.ShortTables.{no_batch}
use Rattle.world_examples.proofs.sound.refused_batches.Goals as goal

abbrev is_max : High → Bool
is_max Max = true
is_max (At key) = false

pub returns-clause-empty : goal.returns-clause-empty
returns-clause-empty c = λ h. true≢false (sym h.0.above)

pub returns-clause-past_the_end : goal.returns-clause-past_the_end
returns-clause-past_the_end c = λ h. true≢false (sym h.0.within)

pub returns-clause-at_no_key : goal.returns-clause-at_no_key
returns-clause-at_no_key c = λ h. true≢false (ap (λ end. is_max end) h.0.at_cursor)

pub returns-clause-no_mapping : goal.returns-clause-no_mapping
returns-clause-no_mapping c = λ h. no_batch ([]) tt (job_at 3 (Copying (At (int_key 6)))) (int_key 3) (At (int_key 6)) site_a refl tt h.0

pub returns-clause-other_map : goal.returns-clause-other_map
returns-clause-other_map c = λ h. no_batch (record (job_piece 3 6 site_a Offline) { map = map_n } ∷ []) tt (job_at 3 (Copying (At (int_key 6)))) (int_key 3) (At (int_key 6)) site_a refl ((λ m s o l. true≢false (ap (λ name. same name map_n) m)), tt) h.0

pub returns-clause-begins_before : goal.returns-clause-begins_before
returns-clause-begins_before c = λ h. no_batch (job_piece 2 6 site_a Offline ∷ []) tt (job_at 3 (Copying (At (int_key 6)))) (int_key 3) (At (int_key 6)) site_a refl ((λ m s o l. true≢false (ap (λ span. contains span (int_key 2)) s)), tt) h.0

pub returns-clause-ends_after : goal.returns-clause-ends_after
returns-clause-ends_after c = λ h. no_batch (job_piece 3 7 site_a Offline ∷ []) tt (job_at 3 (Copying (At (int_key 6)))) (int_key 3) (At (int_key 6)) site_a refl ((λ m s o l. true≢false (ap (λ span. contains span (int_key 6)) s)), tt) h.0

pub returns-clause-online : goal.returns-clause-online
returns-clause-online c = λ h. no_batch (job_piece 3 6 site_a Online ∷ []) tt (job_at 3 (Copying (At (int_key 6)))) (int_key 3) (At (int_key 6)) site_a refl ((λ m s o l. offline_not_online (sym o)), tt) h.0

pub returns-clause-copied_at_target : goal.returns-clause-copied_at_target
returns-clause-copied_at_target c = λ h. no_batch (job_piece 3 6 site_b Offline ∷ []) tt (job_at 3 (Copying (At (int_key 6)))) (int_key 3) (At (int_key 6)) site_a refl ((λ m s o l. b_not_a l), tt) h.0

pub returns-clause-moved_at_source : goal.returns-clause-moved_at_source
returns-clause-moved_at_source c = λ h. no_batch (job_piece 3 6 site_a Offline ∷ []) tt (job_at 3 (Moved (At (int_key 6)))) (int_key 3) (At (int_key 6)) site_b refl ((λ m s o l. b_not_a (sym l)), tt) h.0
