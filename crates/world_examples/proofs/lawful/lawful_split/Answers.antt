use Rattle.std.proofs.Common.{refl, inl, [], ◌∷◌}
use Rattle.cell_world.specs.declared.cells.KeyType.TheVariants.{Int}
use Rattle.cell_world.specs.declared.cells.MapKind.TheVariants as kind
use Rattle.cell_world.specs.declared.cells.Status.TheVariants.{Online}
use Rattle.cell_world.specs.declared.operations.Extra.TheVariants.{None}
use Rattle.cell_world.specs.declared.spans.High.TheVariants.{At}
use Rattle.world_examples.specs.Examples.{int_key, range, site_a, free_piece, one_piece, two_pieces, op_on}
use Rattle.world_examples.proofs.Accepting.{accepted}
use Rattle.world_examples.proofs.lawful.lawful_split.Goals as goal

pub returns : goal.returns
returns c = accepted (kind.Range, Int) (free_piece 0 9 site_a Online ∷ []) [] [] [] tt (op_on 1 (range 0 9) (one_piece (free_piece 0 9 site_a Online)) (two_pieces (free_piece 0 4 site_a Online) (free_piece 4 9 site_a Online)) None)
    (record { on_m = refl; olds_stand = (refl, tt); of_map = (refl, (refl, (refl, tt))); olds_in_order = refl; news_in_order = refl; known = (refl, (refl, (refl, tt))); on_shards = (refl, (refl, tt)); spans = (refl, (refl, tt)); disjoint = refl; free = (λ h. inl refl, tt); hull = refl; no_drop = λ n e. cc })
    (record { key = int_key 4; from = int_key 0; to = At (int_key 9); range = refl; lower = refl; upper = refl })
    (refl)
