use Rattle.world_memory.proofs.Following.{at_start}
use Rattle.world_memory.proofs.contents.Contents.new.Goals as goal

pub returns : goal.returns
returns c = at_start _ c.new.ensures.empty
