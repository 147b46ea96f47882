use Rattle.manager_core.proofs.manager.Core.finish.Goals as goal

pub returns-clause-finishes : goal.returns-clause-finishes
returns-clause-finishes g c = c.settle_rest-tail.ensures.finishes c.args.self.journal.entries c.args.self.known c.args.self.stop
