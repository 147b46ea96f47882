use Rattle.manager_core.proofs.answers.answer_with.Goals as goal

pub returns-in-Err-clause-lines : goal.returns-in-Err-clause-lines
returns-in-Err-clause-lines c = c.no_memory.ensures.lines c.args.tag
