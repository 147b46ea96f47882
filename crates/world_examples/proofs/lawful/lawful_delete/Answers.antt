use Rattle.std.proofs.Common.{refl, sym, inl, true≢false, [], ◌∷◌}
use Rattle.cell_world.specs.declared.cells.KeyType.TheVariants.{Int}
use Rattle.cell_world.specs.declared.cells.MapKind.TheVariants as kind
use Rattle.cell_world.specs.declared.cells.Status.TheVariants.{Online, Offline}
use Rattle.cell_world.specs.declared.operations.Extra.TheVariants.{None}
use Rattle.world_examples.specs.Examples.{range, map_m, site_a, free_piece, no_pieces, one_piece, op_on, numbered_rows}
use Rattle.world_examples.proofs.Tables.{none_under}
use Rattle.world_examples.proofs.Accepting.{accepted}
use Rattle.world_examples.proofs.lawful.lawful_delete.Goals as goal

pub returns : goal.returns
returns c = accepted (kind.Range, Int) (free_piece 0 5 site_a Offline ∷ free_piece 5 10 site_a Online ∷ []) [] (5 ∷ 6 ∷ []) (1 ∷ []) tt (op_on 1 (range 0 5) (one_piece (free_piece 0 5 site_a Offline)) no_pieces None)
    (record { on_m = refl; olds_stand = (refl, tt); of_map = (refl, tt); olds_in_order = refl; news_in_order = refl; known = (refl, tt); on_shards = tt; spans = tt; disjoint = tt; free = (λ h. inl refl, (λ h. absurd (true≢false (sym h)), tt)); hull = refl; no_drop = λ n e. cc })
    (refl, none_under map_m (range 0 5) (numbered_rows 1 (5 ∷ 6 ∷ [])) tt refl)
    (refl)
