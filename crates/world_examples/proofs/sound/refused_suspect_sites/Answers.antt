use Rattle.std.proofs.Common.{◌≡◌, ℕ, Bool, true, false, true≢false, refl, sym, ap, ◌∙◌, List, [], ◌∷◌, arith}
use Rattle.cell_world.specs.Keys.{contains}
use Rattle.cell_world.specs.declared.cells.LocalRow.{LocalRow}
use Rattle.cell_world.specs.declared.cells.Mark.{Mark}
use Rattle.cell_world.specs.declared.cells.Mark.TheVariants.{Plain, Old, New}
use Rattle.cell_world.specs.declared.cells.Status.TheVariants.{Online}
use Rattle.world_examples.specs.Examples.{int_key, range, map_m, site_a, site_b, local_row}
use Rattle.world_examples.proofs.Standing.{not_both}
use Rattle.world_examples.proofs.ShortTables.{local_in, set_has, span_of_m}
use Rattle.world_examples.proofs.sound.refused_suspect_sites.Goals as goal

abbrev is_plain : Mark → Bool
is_plain Plain = true
is_plain (Old p) = false
is_plain New = false

pub returns-clause-marked : goal.returns-clause-marked
returns-clause-marked c = λ h. true≢false (sym (ap is_plain (h.plain (local_row 0 5 0 Online (Old 1)) (local_in (local_row 0 5 0 Online (Old 1) ∷ []) tt (local_row 0 5 0 Online (Old 1)) refl)).0))

pub returns-clause-numbered : goal.returns-clause-numbered
returns-clause-numbered c = λ h. let number : ◌≡◌ {A = ℕ} 1 0 = (h.plain (local_row 0 5 1 Online Plain) (local_in (local_row 0 5 1 Online Plain ∷ []) tt (local_row 0 5 1 Online Plain) refl)).1 in omega arith

pub returns-clause-on_shards : goal.returns-clause-on_shards
returns-clause-on_shards c = λ h. not_both _ (set_has ((map_m, site_a) ∷ []) (map_m, site_b) false refl) (h.on_shards (local_row 0 5 0 Online Plain) (local_in (local_row 0 5 0 Online Plain ∷ []) tt (local_row 0 5 0 Online Plain) refl))

pub returns-clause-empty_span : goal.returns-clause-empty_span
returns-clause-empty_span c = λ h. true≢false (sym (span_of_m (range 5 5) (h.spans (local_row 5 5 0 Online Plain) (local_in (local_row 5 5 0 Online Plain ∷ []) tt (local_row 5 5 0 Online Plain) refl))))

pub returns-clause-disjoint : goal.returns-clause-disjoint
returns-clause-disjoint c = λ h.
    let rows : List LocalRow = local_row 0 6 0 Online Plain ∷ local_row 5 10 0 Online Plain ∷ [] in
    let same = h.disjoint (local_row 0 6 0 Online Plain) (local_row 5 10 0 Online Plain) (local_in rows tt (local_row 0 6 0 Online Plain) refl) (local_in rows tt (local_row 5 10 0 Online Plain) refl) refl refl in
    true≢false (sym (ap (λ (row : LocalRow). contains row.span (int_key 9)) same) ∙ refl)
