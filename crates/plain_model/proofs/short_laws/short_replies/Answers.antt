use Rattle.plain_model.proofs.ShortCommands.{refuses_shortly, promises_nothing, never_pending}
use Rattle.plain_model.proofs.short_laws.short_replies.Goals as goal

pub returns-clause-refusals : goal.returns-clause-refusals
returns-clause-refusals c = refuses_shortly

pub returns-clause-promises : goal.returns-clause-promises
returns-clause-promises c = promises_nothing

pub returns-clause-never_pending : goal.returns-clause-never_pending
returns-clause-never_pending c = never_pending
