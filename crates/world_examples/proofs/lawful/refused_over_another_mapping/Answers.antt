use Rattle.std.proofs.Common.{refl, [], ◌∷◌}
use Rattle.cell_world.specs.Orders.{pair_cmp}
use Rattle.cell_world.specs.declared.cells.Status.TheVariants.{Online}
use Rattle.world_examples.specs.Examples.{point_piece, int_key, map_m, site_a, site_b, free_piece, keyed_pieces}
use Rattle.world_examples.proofs.Tables.{get_of}
use Rattle.world_examples.proofs.lawful.refused_over_another_mapping.Goals as goal

pub returns-clause-beside : goal.returns-clause-beside
returns-clause-beside c h = h.free (free_piece 9 20 site_b Online) (get_of pair_cmp (keyed_pieces (free_piece 9 20 site_b Online ∷ [])) tt (map_m, int_key 9)) refl refl

pub returns-clause-same : goal.returns-clause-same
returns-clause-same c h = h.free (free_piece 0 10 site_a Online) (get_of pair_cmp (keyed_pieces (free_piece 0 10 site_a Online ∷ [])) tt (map_m, int_key 0)) refl refl

pub returns-clause-point : goal.returns-clause-point
returns-clause-point c h = h.free (point_piece 5 site_b Online) (get_of pair_cmp (keyed_pieces (point_piece 5 site_b Online ∷ [])) tt (map_m, int_key 5)) refl refl
