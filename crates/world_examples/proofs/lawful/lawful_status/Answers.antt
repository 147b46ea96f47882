use Rattle.std.proofs.Common.{refl, inl, [], ◌∷◌}
use Rattle.cell_world.specs.declared.cells.KeyType.TheVariants.{Int}
use Rattle.cell_world.specs.declared.cells.MapKind.TheVariants as kind
use Rattle.cell_world.specs.declared.cells.Status.TheVariants.{Online, Offline}
use Rattle.cell_world.specs.declared.operations.Extra.TheVariants.{None}
use Rattle.world_examples.specs.Examples.{range, site_a, free_piece, one_piece, op_on}
use Rattle.world_examples.proofs.Accepting.{accepted}
use Rattle.world_examples.proofs.lawful.lawful_status.Goals as goal

pub returns-clause-offline : goal.returns-clause-offline
returns-clause-offline c = accepted (kind.Range, Int) (free_piece 0 5 site_a Online ∷ []) [] (1 ∷ []) [] tt (op_on 1 (range 0 5) (one_piece (free_piece 0 5 site_a Online)) (one_piece (free_piece 0 5 site_a Offline)) None)
    (record { on_m = refl; olds_stand = (refl, tt); of_map = (refl, (refl, tt)); olds_in_order = refl; news_in_order = refl; known = (refl, (refl, tt)); on_shards = (refl, tt); spans = (refl, tt); disjoint = tt; free = (λ h. inl refl, tt); hull = refl; no_drop = λ n e. cc })
    (inl (record { other = λ e. cc; rest = refl }))
    (refl)

pub returns-clause-online : goal.returns-clause-online
returns-clause-online c = accepted (kind.Range, Int) (free_piece 0 5 site_a Offline ∷ []) [] (1 ∷ []) [] tt (op_on 1 (range 0 5) (one_piece (free_piece 0 5 site_a Offline)) (one_piece (free_piece 0 5 site_a Online)) None)
    (record { on_m = refl; olds_stand = (refl, tt); of_map = (refl, (refl, tt)); olds_in_order = refl; news_in_order = refl; known = (refl, (refl, tt)); on_shards = (refl, tt); spans = (refl, tt); disjoint = tt; free = (λ h. inl refl, tt); hull = refl; no_drop = λ n e. cc })
    (inl (record { other = λ e. cc; rest = refl }))
    (refl)
