use Rattle.plain_tables.specs.State.{state_of}
use Rattle.plain_map.proofs.RowLaws.{refusal_at}
use Rattle.plain_map.proofs.asking.refusal.Goals as goal

pub returns-in-Map : goal.returns-in-Map
returns-in-Map c = refusal_at (state_of c.args.plain.now) c.args.session c.in-Map.is c.map_refusal.result (c.map_refusal.ensures c.args.session c.in-Map.field-1 c.in-Map.field-2)

pub returns-in-Unmap : goal.returns-in-Unmap
returns-in-Unmap c = refusal_at (state_of c.args.plain.now) c.args.session c.in-Unmap.is c.unmap_refusal.result (c.unmap_refusal.ensures c.args.session)

pub returns-in-Shard : goal.returns-in-Shard
returns-in-Shard c = refusal_at (state_of c.args.plain.now) c.args.session c.in-Shard.is c.shard_refusal.result (c.shard_refusal.ensures c.args.session)

pub returns-in-Unshard : goal.returns-in-Unshard
returns-in-Unshard c = refusal_at (state_of c.args.plain.now) c.args.session c.in-Unshard.is c.unshard_refusal.result (c.unshard_refusal.ensures c.args.session)

pub returns-in-Table : goal.returns-in-Table
returns-in-Table c = refusal_at (state_of c.args.plain.now) c.args.session c.in-Table.is c.table_refusal.result (c.table_refusal.ensures c.args.session)

pub returns-in-Add : goal.returns-in-Add
returns-in-Add c = refusal_at (state_of c.args.plain.now) c.args.session c.in-Add.is c.add_refusal.result (c.add_refusal.ensures c.args.session)

pub returns-in-Addpoint : goal.returns-in-Addpoint
returns-in-Addpoint c = refusal_at (state_of c.args.plain.now) c.args.session c.in-Addpoint.is c.addpoint_refusal.result (c.addpoint_refusal.ensures c.args.session)

pub returns-in-Delete : goal.returns-in-Delete
returns-in-Delete c = refusal_at (state_of c.args.plain.now) c.args.session c.in-Delete.is c.delete_refusal.result (c.delete_refusal.ensures c.args.session)

pub returns-in-Offline : goal.returns-in-Offline
returns-in-Offline c = refusal_at (state_of c.args.plain.now) c.args.session c.in-Offline.is c.offline_refusal.result (c.offline_refusal.ensures c.args.session)

pub returns-in-Online : goal.returns-in-Online
returns-in-Online c = refusal_at (state_of c.args.plain.now) c.args.session c.in-Online.is c.online_refusal.result (c.online_refusal.ensures c.args.session)

pub returns-in-Move : goal.returns-in-Move
returns-in-Move c = refusal_at (state_of c.args.plain.now) c.args.session c.in-Move.is c.move_refusal.result (c.move_refusal.ensures c.args.session)

pub returns-in-Split : goal.returns-in-Split
returns-in-Split c = refusal_at (state_of c.args.plain.now) c.args.session c.in-Split.is c.split_refusal.result (c.split_refusal.ensures c.args.session)

pub returns-in-Merge : goal.returns-in-Merge
returns-in-Merge c = refusal_at (state_of c.args.plain.now) c.args.session c.in-Merge.is c.merge_refusal.result (c.merge_refusal.ensures c.args.session)

pub returns-in-Lock : goal.returns-in-Lock
returns-in-Lock c = refusal_at (state_of c.args.plain.now) c.args.session c.in-Lock.is c.lock_refusal.result (c.lock_refusal.ensures c.args.session c.in-Lock.field-2)

pub returns-in-Unlock : goal.returns-in-Unlock
returns-in-Unlock c = refusal_at (state_of c.args.plain.now) c.args.session c.in-Unlock.is c.unlock_refusal.result (c.unlock_refusal.ensures c.args.session)

pub returns-in-Find : goal.returns-in-Find
returns-in-Find c = refusal_at (state_of c.args.plain.now) c.args.session c.in-Find.is c.find_refusal.result (c.find_refusal.ensures c.args.session)

pub returns-in-List : goal.returns-in-List
returns-in-List c = refusal_at (state_of c.args.plain.now) c.args.session c.in-List.is c.list_refusal.result (c.list_refusal.ensures c.args.session)

pub returns-in-Shards : goal.returns-in-Shards
returns-in-Shards c = refusal_at (state_of c.args.plain.now) c.args.session c.in-Shards.is c.shards_refusal.result (c.shards_refusal.ensures c.args.session)

pub returns-in-Put : goal.returns-in-Put
returns-in-Put c = refusal_at (state_of c.args.plain.now) c.args.session c.in-Put.is c.put_refusal.result (c.put_refusal.ensures c.in-Put.field-2 c.in-Put.field-3)
