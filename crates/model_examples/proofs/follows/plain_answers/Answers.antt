use Rattle.std.proofs.Common.{◌≡◌, sym, ap, ◌∙◌}
use Rattle.cell_world.specs.Plain.{holds_nothing}
use Rattle.model_examples.proofs.Maps.{makes_m, makes_m_once, m_is_more, m_is_not_n}
use Rattle.plain_model.specs.declared.replies.Reply.TheVariants as reply
use Rattle.plain_model.specs.declared.replies.Refusal.TheVariants as refused
use Rattle.model_examples.proofs.follows.plain_answers.Goals as goal

pub returns-clause-done : goal.returns-clause-done
returns-clause-done c = record { held = holds_nothing; step = makes_m holds_nothing }

pub returns-clause-refused : goal.returns-clause-refused
returns-clause-refused c = record { held = holds_nothing; step = makes_m_once holds_nothing }

pub returns-clause-never_without_a_change : goal.returns-clause-never_without_a_change
returns-clause-never_without_a_change c f = m_is_more (ap (λ r. r.0) (sym (makes_m f.held) ∙ f.step))

pub returns-clause-never_with_another_change : goal.returns-clause-never_with_another_change
returns-clause-never_with_another_change c f = m_is_not_n (ap (λ r. r.0) (sym (makes_m f.held) ∙ f.step))

pub returns-clause-never_where_it_is_refused : goal.returns-clause-never_where_it_is_refused
returns-clause-never_where_it_is_refused c f = let e : reply.Refused refused.MapExists ≡ reply.Ok = ap (λ r. r.1) (sym (makes_m_once f.held) ∙ f.step) in cc

pub returns-clause-never_refused_where_it_is_done : goal.returns-clause-never_refused_where_it_is_done
returns-clause-never_refused_where_it_is_done c f = let e : reply.Ok ≡ reply.Refused refused.MapExists = ap (λ r. r.1) (sym (makes_m f.held) ∙ f.step) in cc

pub returns-clause-never_refused_otherwise : goal.returns-clause-never_refused_otherwise
returns-clause-never_refused_otherwise c f = let e : reply.Refused refused.MapExists ≡ reply.Refused refused.NoMap = ap (λ r. r.1) (sym (makes_m_once f.held) ∙ f.step) in cc

pub returns-clause-never_refused_with_a_change : goal.returns-clause-never_refused_with_a_change
returns-clause-never_refused_with_a_change c f = m_is_more (ap (λ r. r.0) (sym (makes_m_once f.held) ∙ f.step))
