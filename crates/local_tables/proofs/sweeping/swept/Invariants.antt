use Rattle.std.proofs.Common.{◌≡◌, ◌≤◌, ◌+◌, true, take, length, filter}
use Rattle.cell_world.specs.Images.{global}
use Rattle.cell_world.specs.Meaning.{is_logged}
use Rattle.cell_world.specs.Outside.{IfContents, IsLater}
use Rattle.cell_world.specs.Sweep.{sweep}
use Rattle.image_laws.specs.RowEdits.{edits_by}
use Rattle.local_tables.specs.Altering.{is_foreign}
use Rattle.local_tables.specs.Sweeping.{AllReach}
use Rattle.local_tables.proofs.sweeping.swept.Given as goal

abbrev pub invariant-loop-row : goal.invariant-loop-row
invariant-loop-row g l = record {
  edits : IfContents (g.W.World.outside l.fn.world).told (λ image. is_logged (global image).log l.op.number ≡ true → AllReach l.op l.rows → l.change ≡ edits_by (sweep (global image).log l.op l.mark) (take l.row-index l.rows));
  reads : (g.W.World.outside l.world).global_reads ≤ (g.W.World.outside l.fn.world).global_reads + length (filter (is_foreign l.op.number) (take l.row-index l.rows));
  told : (g.W.World.outside l.world).told ≡ (g.W.World.outside l.fn.world).told;
  later : IsLater (g.W.World.outside l.fn.world) (g.W.World.outside l.world);
}
