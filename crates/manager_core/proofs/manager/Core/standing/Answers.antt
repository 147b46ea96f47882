use Rattle.std.proofs.Common.{◌∙◌, ap, length}
use Rattle.plain_model.specs.Headline.{answered_by}
use Rattle.manager_core.proofs.Counting.{answered_are}
use Rattle.manager_core.proofs.manager.Core.standing.Goals as goal

pub returns-clause-answered : goal.returns-clause-answered
returns-clause-answered g c = c.answered.ensures ∙ answered_are c.args.session _ ∙ ap (λ es. length (answered_by c.args.session es)) c.as_slice.ensures
