use Rattle.std.proofs.Common.{refl, sym, inl, inr, true≢false, [], ◌∷◌}
use Rattle.std.specs.Ordering.{nat_cmp}
use Rattle.cell_world.specs.ByteOrder.{byte_cmp}
use Rattle.cell_world.specs.Orders.{pair_cmp}
use Rattle.cell_world.specs.declared.cells.KeyType.TheVariants.{Int}
use Rattle.cell_world.specs.declared.cells.MapKind.TheVariants as kind
use Rattle.cell_world.specs.declared.cells.Status.TheVariants.{Online, Offline}
use Rattle.cell_world.specs.declared.operations.Phase.TheVariants.{Idle, Copying, Moved}
use Rattle.cell_world.specs.declared.operations.Extra.TheVariants.{None, JobPut}
use Rattle.cell_world.specs.declared.spans.High.TheVariants.{At}
use Rattle.world_examples.specs.Examples.{int_key, range, map_m, site_a, site_b, job_piece, job_at, one_piece, two_pieces, op_on, entries_m, keyed_pieces, keyed_jobs, numbered_rows}
use Rattle.world_examples.proofs.Tables.{get_of, entries_of, none_under, same_under}
use Rattle.world_examples.proofs.Accepting.{accepted, b_not_a}
use Rattle.world_examples.proofs.lawful.lawful_steps_of_a_batch.Goals as goal

pub returns-clause-split : goal.returns-clause-split
returns-clause-split c = accepted (kind.Range, Int) (job_piece 0 10 site_a Online ∷ []) (job_at 0 Idle ∷ []) (1 ∷ 2 ∷ 3 ∷ []) [] tt (op_on 1 (range 0 10) (one_piece (job_piece 0 10 site_a Online)) (two_pieces (job_piece 0 3 site_a Online) (job_piece 3 10 site_a Online)) None)
    (record { on_m = refl; olds_stand = (refl, tt); of_map = (refl, (refl, (refl, tt))); olds_in_order = refl; news_in_order = refl; known = (refl, (refl, (refl, tt))); on_shards = (refl, (refl, tt)); spans = (refl, (refl, tt)); disjoint = refl; free = (λ h. inl refl, tt); hull = refl; no_drop = λ n e. cc })
    (record { key = int_key 3; from = int_key 0; to = At (int_key 10); range = refl; lower = refl; upper = refl })
    (rw (get_of nat_cmp (keyed_jobs (job_at 0 Idle ∷ [])) tt 1) (record { row = rw (entries_of pair_cmp (keyed_pieces (job_piece 0 10 site_a Online ∷ [])) tt, entries_of pair_cmp (keyed_pieces (job_piece 0 10 site_a Online ∷ [])) tt, get_of byte_cmp entries_m tt map_m) (At (int_key 3), record { above = refl; piece = job_piece 0 10 site_a Online; owned = rw (get_of byte_cmp entries_m tt map_m, entries_of pair_cmp (keyed_pieces (job_piece 0 10 site_a Online ∷ [])) tt) refl; within = refl }, refl); emptied = tt }))

pub returns-clause-offline : goal.returns-clause-offline
returns-clause-offline c = accepted (kind.Range, Int) (job_piece 0 3 site_a Online ∷ job_piece 3 10 site_a Online ∷ []) (job_at 0 Idle ∷ []) (1 ∷ 2 ∷ 3 ∷ []) [] tt (op_on 1 (range 0 3) (one_piece (job_piece 0 3 site_a Online)) (one_piece (job_piece 0 3 site_a Offline)) (JobPut (job_at 0 (Copying (At (int_key 3))))))
    (record { on_m = refl; olds_stand = (refl, tt); of_map = (refl, (refl, tt)); olds_in_order = refl; news_in_order = refl; known = (refl, (refl, (refl, (refl, tt)))); on_shards = (refl, tt); spans = (refl, tt); disjoint = tt; free = (λ h. inl refl, (λ h. absurd (true≢false (sym h)), tt)); hull = refl; no_drop = λ n e. cc })
    (inl (record { other = λ e. cc; rest = refl }))
    (rw (get_of nat_cmp (keyed_jobs (job_at 0 Idle ∷ [])) tt 1) (record { row = rw (entries_of pair_cmp (keyed_pieces (job_piece 0 3 site_a Online ∷ job_piece 3 10 site_a Online ∷ [])) tt, entries_of pair_cmp (keyed_pieces (job_piece 0 3 site_a Online ∷ job_piece 3 10 site_a Online ∷ [])) tt, get_of byte_cmp entries_m tt map_m) (At (int_key 3), record { above = refl; piece = job_piece 0 3 site_a Online; owned = rw (get_of byte_cmp entries_m tt map_m, entries_of pair_cmp (keyed_pieces (job_piece 0 3 site_a Online ∷ job_piece 3 10 site_a Online ∷ [])) tt) refl; within = refl }, refl); emptied = tt }))

pub returns-clause-moved : goal.returns-clause-moved
returns-clause-moved c = accepted (kind.Range, Int) (job_piece 0 3 site_a Offline ∷ job_piece 3 10 site_a Online ∷ []) (job_at 0 (Copying (At (int_key 3))) ∷ []) (1 ∷ 2 ∷ 3 ∷ []) (1 ∷ 2 ∷ []) tt (op_on 1 (range 0 3) (one_piece (job_piece 0 3 site_a Offline)) (one_piece (job_piece 0 3 site_b Offline)) (JobPut (job_at 0 (Moved (At (int_key 3))))))
    (record { on_m = refl; olds_stand = (refl, tt); of_map = (refl, (refl, tt)); olds_in_order = refl; news_in_order = refl; known = (refl, (refl, (refl, (refl, tt)))); on_shards = (refl, tt); spans = (refl, tt); disjoint = tt; free = (λ h. inl refl, (λ h. absurd (true≢false (sym h)), tt)); hull = refl; no_drop = λ n e. cc })
    (inr (record { offline = refl; elsewhere = b_not_a; rest = refl; same_rows = same_under map_m (range 0 3) (numbered_rows 1 (1 ∷ 2 ∷ [])) (numbered_rows 1 (1 ∷ 2 ∷ 3 ∷ [])) tt tt refl }))
    (rw (get_of nat_cmp (keyed_jobs (job_at 0 (Copying (At (int_key 3))) ∷ [])) tt 1) (record { row = rw (get_of byte_cmp entries_m tt map_m, entries_of pair_cmp (keyed_pieces (job_piece 0 3 site_a Offline ∷ job_piece 3 10 site_a Online ∷ [])) tt) refl; emptied = tt }))

pub returns-clause-online : goal.returns-clause-online
returns-clause-online c = accepted (kind.Range, Int) (job_piece 0 3 site_b Offline ∷ job_piece 3 10 site_a Online ∷ []) (job_at 0 (Moved (At (int_key 3))) ∷ []) (3 ∷ []) (1 ∷ 2 ∷ []) tt (op_on 1 (range 0 3) (one_piece (job_piece 0 3 site_b Offline)) (one_piece (job_piece 0 3 site_b Online)) (JobPut (job_at 3 Idle)))
    (record { on_m = refl; olds_stand = (refl, tt); of_map = (refl, (refl, tt)); olds_in_order = refl; news_in_order = refl; known = (refl, (refl, (refl, (refl, tt)))); on_shards = (refl, tt); spans = (refl, tt); disjoint = tt; free = (λ h. inl refl, (λ h. absurd (true≢false (sym h)), tt)); hull = refl; no_drop = λ n e. cc })
    (inl (record { other = λ e. cc; rest = refl }))
    (rw (get_of nat_cmp (keyed_jobs (job_at 0 (Moved (At (int_key 3))) ∷ [])) tt 1) (record { row = rw (get_of byte_cmp entries_m tt map_m, entries_of pair_cmp (keyed_pieces (job_piece 0 3 site_b Offline ∷ job_piece 3 10 site_a Online ∷ [])) tt) refl; emptied = (none_under map_m (range 0 3) (numbered_rows 1 (3 ∷ [])) tt refl, tt) }))
