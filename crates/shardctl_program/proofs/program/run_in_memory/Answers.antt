use Rattle.std.proofs.Common.{ap, inr}
use Rattle.cell_world.specs.Outside.{TellsContents}
use Rattle.shardctl_program.proofs.program.run_in_memory.Goals as goal

pub returns-in-Ok : goal.returns-in-Ok
returns-in-Ok g c = inr (_, record { new = c.in-Ok.ensures.new.2; over = c.in-Ok.ensures.new.0; told = ap TellsContents c.in-Ok.ensures.empty }, c.run_over.ensures)
