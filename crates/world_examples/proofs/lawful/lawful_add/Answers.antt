use Rattle.std.proofs.Common.{refl, sym, true≢false, [], ◌∷◌}
use Rattle.cell_world.specs.declared.cells.KeyType.TheVariants.{Int}
use Rattle.cell_world.specs.declared.cells.MapKind.TheVariants as kind
use Rattle.cell_world.specs.declared.cells.Status.TheVariants.{Online, Offline}
use Rattle.cell_world.specs.declared.operations.Extra.TheVariants.{None}
use Rattle.world_examples.specs.Examples.{range, site_a, site_b, free_piece, no_pieces, one_piece, op_on}
use Rattle.world_examples.proofs.Accepting.{accepted}
use Rattle.world_examples.proofs.lawful.lawful_add.Goals as goal

pub returns : goal.returns
returns c = accepted (kind.Range, Int) (free_piece 5 10 site_b Offline ∷ []) [] [] [] tt (op_on 1 (range 0 5) no_pieces (one_piece (free_piece 0 5 site_a Online)) None)
    (record { on_m = refl; olds_stand = tt; of_map = (refl, tt); olds_in_order = refl; news_in_order = refl; known = (refl, tt); on_shards = (refl, tt); spans = (refl, tt); disjoint = tt; free = (λ h. absurd (true≢false (sym h)), tt); hull = refl; no_drop = λ n e. cc })
    (refl, refl)
    (refl)
