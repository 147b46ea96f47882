use Rattle.std.proofs.Common.{refl, inl, inr, [], ◌∷◌}
use Rattle.std.specs.Ordering.{nat_cmp}
use Rattle.cell_world.specs.Orders.{pair_cmp}
use Rattle.cell_world.specs.declared.cells.KeyType.TheVariants.{Int}
use Rattle.cell_world.specs.declared.cells.MapKind.TheVariants as kind
use Rattle.cell_world.specs.declared.cells.Status.TheVariants.{Online}
use Rattle.cell_world.specs.declared.operations.Phase.TheVariants.{Idle}
use Rattle.cell_world.specs.declared.operations.Extra.TheVariants.{None}
use Rattle.cell_world.specs.declared.spans.High.TheVariants.{At}
use Rattle.world_examples.specs.Examples.{int_key, range, site_b, job_piece, job_at, one_piece, two_pieces, op_on, keyed_pieces, keyed_jobs}
use Rattle.world_examples.proofs.Tables.{get_of, entries_of}
use Rattle.world_examples.proofs.Accepting.{accepted}
use Rattle.world_examples.proofs.lawful.lawful_last_merge.Goals as goal

pub returns : goal.returns
returns c = accepted (kind.Range, Int) (job_piece 0 5 site_b Online ∷ job_piece 5 10 site_b Online ∷ []) (job_at 10 Idle ∷ []) [] (1 ∷ 7 ∷ []) tt (op_on 1 (range 0 10) (two_pieces (job_piece 0 5 site_b Online) (job_piece 5 10 site_b Online)) (one_piece (job_piece 0 10 site_b Online)) None)
    (record { on_m = refl; olds_stand = (refl, (refl, tt)); of_map = (refl, (refl, (refl, tt))); olds_in_order = refl; news_in_order = refl; known = (refl, (refl, (refl, tt))); on_shards = (refl, tt); spans = (refl, tt); disjoint = tt; free = (λ h. inl refl, (λ h. inr (inl refl), tt)); hull = refl; no_drop = λ n e. cc })
    (record { key = int_key 5; from = int_key 0; to = At (int_key 10); range = refl; lower = refl; upper = refl })
    (rw (get_of nat_cmp (keyed_jobs (job_at 10 Idle ∷ [])) tt 1) (record { row = rw (entries_of pair_cmp (keyed_pieces (job_piece 0 5 site_b Online ∷ job_piece 5 10 site_b Online ∷ [])) tt) refl; emptied = tt }))
