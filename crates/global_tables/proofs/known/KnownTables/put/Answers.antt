use Rattle.std.proofs.Common.{◌∙◌}
use Rattle.global_tables.proofs.CopyEdits.{on_ok, map_put, shard_put, table_put, away_put, job_put}
use Rattle.global_tables.proofs.known.KnownTables.put.Goals as goal

pub returns-in-Map : goal.returns-in-Map
returns-in-Map c = on_ok c.put_cell.result (λ puts s keyed is. map_put _ s keyed (c.self.view_is ∙ is) c.in-Map.field-0 c.in-Map.field-1 c.in-Map.field-2 c.args.cell.now c.in-Map.is c.put_cell.new.rows.items puts) c.put_cell.ensures

pub returns-in-Shard : goal.returns-in-Shard
returns-in-Shard c = on_ok c.put_cell-in-Shard.result (λ puts s keyed is. shard_put _ s keyed (c.self.view_is ∙ is) c.in-Shard.field-0 c.in-Shard.field-1 c.args.cell.now c.in-Shard.is c.put_cell-in-Shard.new.rows.items puts) c.put_cell-in-Shard.ensures

pub returns-in-Table : goal.returns-in-Table
returns-in-Table c = on_ok c.put_cell-in-Table.result (λ puts s keyed is. table_put _ s keyed (c.self.view_is ∙ is) c.in-Table.field-0 c.in-Table.field-1 c.args.cell.now c.in-Table.is c.put_cell-in-Table.new.rows.items puts) c.put_cell-in-Table.ensures

pub returns-in-Job : goal.returns-in-Job
returns-in-Job c = on_ok c.put_cell-in-Job.result (λ puts s keyed is. job_put _ s keyed (c.self.view_is ∙ is) c.in-Job.field-0 c.args.cell.now c.in-Job.is c.put_cell-in-Job.new.rows.items puts) c.put_cell-in-Job.ensures

pub returns-in-SiteState : goal.returns-in-SiteState
returns-in-SiteState c = on_ok c.put_cell-in-SiteState.result (λ puts s keyed is. away_put _ s keyed (c.self.view_is ∙ is) c.in-SiteState.field-0 c.in-SiteState.field-1 c.args.cell.now c.in-SiteState.is c.put_cell-in-SiteState.new.rows.items puts) c.put_cell-in-SiteState.ensures
