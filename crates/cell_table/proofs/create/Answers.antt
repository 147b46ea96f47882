use Rattle.sqlite.specs.Held.{state}
use Rattle.cell_table.proofs.CreateLemmas.{creates, creates_mode}
use Rattle.cell_table.proofs.create.Goals as goal

pub returns-clause-empty : goal.returns-clause-empty
returns-clause-empty g c clean = creates (state g.S.Store c.args.conn.now) (state g.S.Store c.execute.new.self) c.execute.result c.requires (c.execute.ensures.runs clean)

pub returns-clause-mode : goal.returns-clause-mode
returns-clause-mode g c clean = creates_mode (state g.S.Store c.args.conn.now) (state g.S.Store c.execute.new.self) c.execute.result c.requires (c.execute.ensures.runs clean)
