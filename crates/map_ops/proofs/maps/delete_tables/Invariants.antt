use Rattle.std.proofs.Common.{◌≡◌, ◌++◌, drop}
use Rattle.image_laws.specs.Catalogs.{table_deletes}
use Rattle.map_ops.specs.Changes.{tables_named}
use Rattle.map_ops.proofs.maps.delete_tables.Given as goal

abbrev pub invariant-loop-row : goal.invariant-loop-row
invariant-loop-row l = l.initial.change ++ table_deletes l.name (tables_named l.name l.tables) ≡ l.change ++ table_deletes l.name (tables_named l.name (drop l.row-index l.tables))
