use Rattle.std.proofs.Common.{refl}
use Rattle.cell_world.specs.Images.{global}
use Rattle.map_ops.proofs.ShortChanges.{unmap_planned_by}
use Rattle.map_ops.proofs.UnmapLaws.{tables_there, unmap_logs}
use Rattle.map_ops.specs.Changes.{tables_named}
use Rattle.map_ops.proofs.maps.plan_unmap.Goals as goal

pub returns-in_ok-change-in-None-clause-plans : goal.returns-in_ok-change-in-None-clause-plans
returns-in_ok-change-in-None-clause-plans c image sound copy =
    unmap_planned_by image c.args.name (tables_named c.args.name c.args.known.now.tables) (tables_there c.args.known.now (global image) c.args.name copy)
    c.in_ok-change-in-None.change c.in_ok-change-in-None.ensures c.unmap_refusal.result c.in-None.is (c.unmap_refusal.ensures.refuses image copy)

pub returns-in_ok-change-in-None-clause-short : goal.returns-in_ok-change-in-None-clause-short
returns-in_ok-change-in-None-clause-short c = (unmap_logs c.args.name _ c.in_ok-change-in-None.change c.in_ok-change-in-None.ensures, refl)
