use Rattle.std.proofs.Common.{refl}
use Rattle.world_sqlite.proofs.CountLaws.{all_zero}
use Rattle.world_sqlite.proofs.TellLaws.{new_told}
use Rattle.sqlite_site.specs.Kept.{store_of}
use Rattle.world_sqlite.proofs.world.SqliteWorld.over.Goals as goal

pub returns-clause-new : goal.returns-clause-new
returns-clause-new g c = record { faults = all_zero c.args.sites.items (λ s. s.faults) c.requires.fresh; sink = refl; reads = refl }

pub returns-clause-empty : goal.returns-clause-empty
returns-clause-empty g c t all = new_told g.S.Keeping.tells c.args.locations.items c.args.sites.items (λ s. store_of g.S.Store s.conn) t all
