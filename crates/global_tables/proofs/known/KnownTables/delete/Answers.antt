use Rattle.std.proofs.Common.{◌∙◌}
use Rattle.global_tables.proofs.CopyEdits.{map_deleted, shard_deleted, table_deleted, away_deleted, job_deleted}
use Rattle.global_tables.proofs.known.KnownTables.delete.Goals as goal

pub returns-in-Map : goal.returns-in-Map
returns-in-Map c = λ s keyed is. map_deleted _ s keyed (c.self.view_is ∙ is) c.in-Map.field-0 c.args.key.now c.in-Map.is c.remove_key.new.rows.items c.remove_key.ensures

pub returns-in-Shard : goal.returns-in-Shard
returns-in-Shard c = λ s keyed is. shard_deleted _ s keyed (c.self.view_is ∙ is) c.in-Shard.field-0 c.in-Shard.field-1 c.args.key.now c.in-Shard.is c.remove_key-in-Shard.new.rows.items c.remove_key-in-Shard.ensures

pub returns-in-Table : goal.returns-in-Table
returns-in-Table c = λ s keyed is. table_deleted _ s keyed (c.self.view_is ∙ is) c.in-Table.field-0 c.in-Table.field-1 c.args.key.now c.in-Table.is c.remove_key-in-Table.new.rows.items c.remove_key-in-Table.ensures

pub returns-in-Job : goal.returns-in-Job
returns-in-Job c = λ s keyed is. job_deleted _ s keyed (c.self.view_is ∙ is) c.in-Job.field-0 c.args.key.now c.in-Job.is c.remove_key-in-Job.new.rows.items c.remove_key-in-Job.ensures

pub returns-in-SiteState : goal.returns-in-SiteState
returns-in-SiteState c = λ s keyed is. away_deleted _ s keyed (c.self.view_is ∙ is) c.in-SiteState.field-0 c.args.key.now c.in-SiteState.is c.remove_key-in-SiteState.new.rows.items c.remove_key-in-SiteState.ensures
