use Rattle.plain_tables.specs.State.{state_of}
use Rattle.plain_map.proofs.RowLaws.{accepts_at}
use Rattle.plain_map.proofs.asking.accept.Goals as goal

pub returns-in-Map : goal.returns-in-Map
returns-in-Map c = accepts_at (state_of c.args.plain.now) c.args.session c.in-Map.is (state_of c.do_map.new.plain) c.do_map.result (c.do_map.ensures c.args.session)

pub returns-in-Unmap : goal.returns-in-Unmap
returns-in-Unmap c = accepts_at (state_of c.args.plain.now) c.args.session c.in-Unmap.is (state_of c.do_unmap.new.plain) c.do_unmap.result (c.do_unmap.ensures c.args.session)

pub returns-in-Shard : goal.returns-in-Shard
returns-in-Shard c = accepts_at (state_of c.args.plain.now) c.args.session c.in-Shard.is (state_of c.do_shard.new.plain) c.do_shard.result (c.do_shard.ensures c.args.session)

pub returns-in-Unshard : goal.returns-in-Unshard
returns-in-Unshard c = accepts_at (state_of c.args.plain.now) c.args.session c.in-Unshard.is (state_of c.do_unshard.new.plain) c.do_unshard.result (c.do_unshard.ensures c.args.session)

pub returns-in-Table : goal.returns-in-Table
returns-in-Table c = accepts_at (state_of c.args.plain.now) c.args.session c.in-Table.is (state_of c.do_table.new.plain) c.do_table.result (c.do_table.ensures c.args.session)

pub returns-in-Add : goal.returns-in-Add
returns-in-Add c = accepts_at (state_of c.args.plain.now) c.args.session c.in-Add.is (state_of c.do_add.new.plain) c.do_add.result (c.do_add.ensures c.args.session)

pub returns-in-Addpoint : goal.returns-in-Addpoint
returns-in-Addpoint c = accepts_at (state_of c.args.plain.now) c.args.session c.in-Addpoint.is (state_of c.do_addpoint.new.plain) c.do_addpoint.result (c.do_addpoint.ensures c.args.session)

pub returns-in-Delete : goal.returns-in-Delete
returns-in-Delete c = accepts_at (state_of c.args.plain.now) c.args.session c.in-Delete.is (state_of c.do_delete.new.plain) c.do_delete.result (c.do_delete.ensures c.args.session c.in-Delete.field-2)

pub returns-in-Offline : goal.returns-in-Offline
returns-in-Offline c = accepts_at (state_of c.args.plain.now) c.args.session c.in-Offline.is (state_of c.do_offline.new.plain) c.do_offline.result (c.do_offline.ensures c.args.session c.in-Offline.field-2)

pub returns-in-Online : goal.returns-in-Online
returns-in-Online c = accepts_at (state_of c.args.plain.now) c.args.session c.in-Online.is (state_of c.do_online.new.plain) c.do_online.result (c.do_online.ensures c.args.session c.in-Online.field-2)

pub returns-in-Move : goal.returns-in-Move
returns-in-Move c = accepts_at (state_of c.args.plain.now) c.args.session c.in-Move.is (state_of c.do_move.new.plain) c.do_move.result (c.do_move.ensures c.args.session c.in-Move.field-3)

pub returns-in-Split : goal.returns-in-Split
returns-in-Split c = accepts_at (state_of c.args.plain.now) c.args.session c.in-Split.is (state_of c.do_split.new.plain) c.do_split.result (c.do_split.ensures c.args.session c.in-Split.field-2)

pub returns-in-Merge : goal.returns-in-Merge
returns-in-Merge c = accepts_at (state_of c.args.plain.now) c.args.session c.in-Merge.is (state_of c.do_merge.new.plain) c.do_merge.result (c.do_merge.ensures c.args.session c.in-Merge.field-2)

pub returns-in-Lock : goal.returns-in-Lock
returns-in-Lock c = accepts_at (state_of c.args.plain.now) c.args.session c.in-Lock.is (state_of c.do_lock.new.plain) c.do_lock.result (c.do_lock.ensures c.args.session)

pub returns-in-Unlock : goal.returns-in-Unlock
returns-in-Unlock c = accepts_at (state_of c.args.plain.now) c.args.session c.in-Unlock.is (state_of c.do_unlock.new.plain) c.do_unlock.result (c.do_unlock.ensures c.args.session c.in-Unlock.field-2)

pub returns-in-Find : goal.returns-in-Find
returns-in-Find c = accepts_at (state_of c.args.plain.now) c.args.session c.in-Find.is (state_of c.args.plain.now) c.do_find.result (c.do_find.ensures c.args.session)

pub returns-in-List : goal.returns-in-List
returns-in-List c = accepts_at (state_of c.args.plain.now) c.args.session c.in-List.is (state_of c.args.plain.now) c.do_list.result (c.do_list.ensures c.args.session)

pub returns-in-Shards : goal.returns-in-Shards
returns-in-Shards c = accepts_at (state_of c.args.plain.now) c.args.session c.in-Shards.is (state_of c.args.plain.now) c.do_shards.result (c.do_shards.ensures c.args.session)
