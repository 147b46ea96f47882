use Rattle.std.proofs.Common.{false, true≢false, refl, sym, ap, List, [], ◌∷◌}
use Rattle.cell_world.specs.declared.cells.Status.TheVariants.{Online, Offline}
use Rattle.cell_world.specs.declared.operations.Piece.{Piece}
use Rattle.cell_world.specs.declared.spans.Span.TheVariants.{Point}
use Rattle.world_examples.proofs.Accepting.{b_not_a}
use Rattle.world_examples.specs.Examples.{int_key, range, map_m, site_a, site_b, free_piece}
use Rattle.world_examples.specs.Sounds.{pieces_at_rest}
use Rattle.world_examples.proofs.Standing.{not_both}
use Rattle.world_examples.proofs.ShortTables.{piece_in, set_has, span_of_m}
use Rattle.world_examples.proofs.sound.refused_mappings.Goals as goal

pub returns-clause-empty_span : goal.returns-clause-empty_span
returns-clause-empty_span c = λ h. true≢false (sym (span_of_m (range 5 5) (h.spans (free_piece 5 5 site_a Online) (piece_in (free_piece 5 5 site_a Online ∷ []) tt (free_piece 5 5 site_a Online) refl))))

pub returns-clause-point : goal.returns-clause-point
returns-clause-point c = λ h. true≢false (sym (span_of_m (Point (int_key 0)) (h.spans (record (free_piece 0 5 site_a Online) { span = Point (int_key 0) }) (piece_in (record (free_piece 0 5 site_a Online) { span = Point (int_key 0) } ∷ []) tt (record (free_piece 0 5 site_a Online) { span = Point (int_key 0) }) refl))))

pub returns-clause-on_shards : goal.returns-clause-on_shards
returns-clause-on_shards c = λ h. not_both _ (set_has ((map_m, site_a) ∷ []) (map_m, site_b) false refl) (h.on_shards (free_piece 5 10 site_b Offline) (piece_in pieces_at_rest tt (free_piece 5 10 site_b Offline) refl))

pub returns-clause-disjoint : goal.returns-clause-disjoint
returns-clause-disjoint c = λ h.
    let pieces : List Piece = free_piece 0 6 site_a Online ∷ free_piece 5 10 site_b Online ∷ [] in
    let same = h.disjoint (free_piece 0 6 site_a Online) (free_piece 5 10 site_b Online) (piece_in pieces tt (free_piece 0 6 site_a Online) refl) (piece_in pieces tt (free_piece 5 10 site_b Online) refl) refl refl in
    b_not_a (sym (ap (λ (p : Piece). p.location) same))
