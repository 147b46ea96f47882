-- What plans are made of.
use Rattle.std.specs.Prelude.{Bool, ◌&&◌, ◌||◌, List, [], ◌∷◌, Some, if◌then◌else◌}
use Rattle.std.specs.FinMap as map
use Rattle.std.specs.List.{list_any}
use Rattle.cell_world.specs.Texts.{Text}
use Rattle.cell_world.specs.Keys.{same}
use Rattle.cell_world.specs.Plain.{PlainState}
use Rattle.cell_world.specs.Stores.{Store, Mappings}
use Rattle.global_tables.specs.declared.rows.TableRow.{TableRow}
use Rattle.plain_model.specs.Refusing.{Check, no_map, no_location, not_a_shard, detached, unresolved}

-- the tables of the map, in order
abbrev pub tables_named : Text → List TableRow → List Text
tables_named name [] = []
tables_named name (row ∷ rows) = if same name row.map then row.table ∷ tables_named name rows else tables_named name rows

-- a mapping of the map is at the location
abbrev pub has_mapping_at : Mappings → Text → Text → Bool
has_mapping_at mappings name location = list_any (λ p. same name p.map && same p.location location) (map.values mappings)

-- a mapping of the map is on it, or a standing job of the map has it as target
abbrev pub is_in_use : Store → Text → Text → Bool
is_in_use s name location = has_mapping_at s.mappings name location || list_any (λ j. same name j.map && same j.target location) (map.values s.jobs)

-- the checks of `unshard` but for the last, whether the shard is in use
abbrev pub unshard_checks : PlainState → Text → Text → List Check
unshard_checks s name location = no_map s name ∷ no_location s location ∷ not_a_shard s name location ∷ detached s (Some location) ∷ unresolved s (Some location) ∷ []
