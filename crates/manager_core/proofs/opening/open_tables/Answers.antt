use Rattle.std.proofs.Common.{refl, sym, subst}
use Rattle.cell_world.specs.Outside.{IfContents}
use Rattle.cell_world.specs.Sound.{Sound}
use Rattle.manager_core.specs.Cores.{Opens, AreRecovered}
use Rattle.manager_core.proofs.OpeningLaws.{opens, recovered, stays_sound, rose_at_global}
use Rattle.manager_core.proofs.opening.open_tables.Goals as goal

pub returns-in-Ok-clause-opens : goal.returns-in-Ok-clause-opens
returns-in-Ok-clause-opens g c = subst (Opens (g.W.World.outside c.args.world.now).told) (sym c.read.ensures.told) (opens _ (g.W.World.outside c.args.world.now) (g.W.World.outside c.recover.new.world) c.recover.ensures.passes)

pub returns-in-Ok-clause-sound : goal.returns-in-Ok-clause-sound
returns-in-Ok-clause-sound g c = λ sound. subst (λ t. IfContents t Sound) (sym c.read.ensures.told) (stays_sound _ (g.W.World.outside c.args.world.now) (g.W.World.outside c.recover.new.world) c.recover.ensures.passes sound)

pub returns-in-Ok-clause-recovers : goal.returns-in-Ok-clause-recovers
returns-in-Ok-clause-recovers g c = λ ok. subst (AreRecovered (g.W.World.outside c.args.world.now).told) (sym c.read.ensures.told) (recovered _ (g.W.World.outside c.args.world.now) (g.W.World.outside c.recover.new.world) c.in-Ok.ensures.passes refl)

pub returns-in-Ok-clause-cause : goal.returns-in-Ok-clause-cause
returns-in-Ok-clause-cause g c = λ is. rose_at_global (g.W.World.outside c.args.world.now) (g.W.World.outside c.recover.new.world) (g.W.World.outside c.read.new.world) c.recover.ensures.passes.later c.read.ensures.later (c.read.ensures.cause is)

pub returns-in-Err-clause-opens : goal.returns-in-Err-clause-opens
returns-in-Err-clause-opens g c = opens _ (g.W.World.outside c.args.world.now) (g.W.World.outside c.recover.new.world) c.recover.ensures.passes

pub returns-in-Err-clause-sound : goal.returns-in-Err-clause-sound
returns-in-Err-clause-sound g c = stays_sound _ (g.W.World.outside c.args.world.now) (g.W.World.outside c.recover.new.world) c.recover.ensures.passes
