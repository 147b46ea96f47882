use Rattle.std.proofs.Common.{refl, inl, inr, [], ◌∷◌}
use Rattle.cell_world.specs.declared.cells.KeyType.TheVariants.{Int}
use Rattle.cell_world.specs.declared.cells.MapKind.TheVariants as kind
use Rattle.cell_world.specs.declared.cells.Status.TheVariants.{Offline}
use Rattle.cell_world.specs.declared.operations.Extra.TheVariants.{None}
use Rattle.world_examples.specs.Examples.{range, map_m, site_a, site_b, free_piece, one_piece, op_on, numbered_rows}
use Rattle.world_examples.proofs.Tables.{same_under}
use Rattle.world_examples.proofs.Accepting.{accepted, b_not_a}
use Rattle.world_examples.proofs.lawful.lawful_move.Goals as goal

pub returns : goal.returns
returns c = accepted (kind.Range, Int) (free_piece 0 5 site_a Offline ∷ []) [] (1 ∷ 2 ∷ 7 ∷ []) (1 ∷ 2 ∷ []) tt (op_on 1 (range 0 5) (one_piece (free_piece 0 5 site_a Offline)) (one_piece (free_piece 0 5 site_b Offline)) None)
    (record { on_m = refl; olds_stand = (refl, tt); of_map = (refl, (refl, tt)); olds_in_order = refl; news_in_order = refl; known = (refl, (refl, tt)); on_shards = (refl, tt); spans = (refl, tt); disjoint = tt; free = (λ h. inl refl, tt); hull = refl; no_drop = λ n e. cc })
    (inr (record { offline = refl; elsewhere = b_not_a; rest = refl; same_rows = same_under map_m (range 0 5) (numbered_rows 1 (1 ∷ 2 ∷ [])) (numbered_rows 1 (1 ∷ 2 ∷ 7 ∷ [])) tt tt refl }))
    (refl)
