use Rattle.plain_model.proofs.PromiseLaws.{promises_more, promises_stay}
use Rattle.plain_model.proofs.run_laws.promises_are_kept.Goals as goal

pub returns-clause-entered : goal.returns-clause-entered
returns-clause-entered c = λ before after e history on keeps promise. promises_more before after e on history keeps promise

pub returns-clause-taken_up : goal.returns-clause-taken_up
returns-clause-taken_up c = λ before after session g history takes some keeps. promises_stay before after session g takes history some keeps
