use Rattle.world_memory.proofs.Table.{put_holds, delete_holds, of_ok}
use Rattle.world_memory.proofs.contents.make.Goals as goal

pub returns-else-is_err-clause-ok : goal.returns-else-is_err-clause-ok
returns-else-is_err-clause-ok c = put_holds c.args.cells.now c.insert.new.self c.args.site c.args.edit.now c.in-Put.cell c.in_ok-copy-in-Put.copy c.key_of.result c.in-Put.is c.in_ok-copy-in-Put.ensures c.key_of.ensures (of_ok c.insert.result c.if-is_err.ensures.value c.insert.ensures.updates).0

pub returns-in-Delete-clause-ok : goal.returns-in-Delete-clause-ok
returns-in-Delete-clause-ok c = delete_holds c.args.cells.now c.remove.new.self c.args.site c.args.edit.now c.in-Delete.key c.in-Delete.is c.remove.ensures.updates.0
