use Rattle.std.proofs.Common.{refl, sym, true≢false, inl, [], ◌∷◌}
use Rattle.cell_world.specs.declared.cells.KeyType.TheVariants.{Int}
use Rattle.cell_world.specs.declared.cells.MapKind.TheVariants as kind
use Rattle.cell_world.specs.declared.cells.Status.TheVariants.{Online, Offline}
use Rattle.cell_world.specs.declared.spans.Span.TheVariants.{Point}
use Rattle.world_examples.specs.Examples.{int_key, map_m, site_a, site_b, point_piece, add_of, delete_of, numbered_rows}
use Rattle.world_examples.proofs.Tables.{none_under}
use Rattle.world_examples.proofs.Accepting.{accepted}
use Rattle.world_examples.proofs.lawful.lawful_points.Goals as goal

pub returns-clause-add : goal.returns-clause-add
returns-clause-add c = accepted (kind.List, Int) (point_piece 5 site_b Online ∷ []) [] [] [] tt (add_of (point_piece 4 site_a Online))
    (record { on_m = refl; olds_stand = tt; of_map = (refl, tt); olds_in_order = refl; news_in_order = refl; known = (refl, tt); on_shards = (refl, tt); spans = (refl, tt); disjoint = tt; free = (λ h. absurd (true≢false (sym h)), tt); hull = refl; no_drop = λ n e. cc })
    (refl, refl)
    refl

pub returns-clause-delete : goal.returns-clause-delete
returns-clause-delete c = accepted (kind.List, Int) (point_piece 5 site_b Offline ∷ []) [] [] (4 ∷ 6 ∷ []) tt (delete_of (point_piece 5 site_b Offline))
    (record { on_m = refl; olds_stand = (refl, tt); of_map = (refl, tt); olds_in_order = refl; news_in_order = refl; known = (refl, tt); on_shards = tt; spans = tt; disjoint = tt; free = (λ h. inl refl, tt); hull = refl; no_drop = λ n e. cc })
    (refl, none_under map_m (Point (int_key 5)) (numbered_rows 1 (4 ∷ 6 ∷ [])) tt refl)
    refl
