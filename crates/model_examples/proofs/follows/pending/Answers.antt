use Rattle.std.proofs.Common.{◌≡◌, ℕ, refl, sym, ◌∙◌, Some, None, Option}
use Rattle.plain_model.specs.declared.replies.Refusal.TheVariants as refused
use Rattle.model_examples.proofs.Maps.{m_accepted, m_refused, m_is_more}
use Rattle.model_examples.proofs.follows.pending.Goals as goal

pub returns-clause-accepted : goal.returns-clause-accepted
returns-clause-accepted c = record { same = refl; accepted = m_accepted; no_job = refl }

pub returns-clause-never_where_it_is_refused : goal.returns-clause-never_where_it_is_refused
returns-clause-never_where_it_is_refused c f = let e : Some refused.MapExists ≡ None = sym m_refused ∙ f.accepted in cc

pub returns-clause-never_to_a_step : goal.returns-clause-never_to_a_step
returns-clause-never_to_a_step c f = let e : ◌≡◌ {A = Option ℕ} (Some 1) None = f.no_job in cc

pub returns-clause-never_with_a_change : goal.returns-clause-never_with_a_change
returns-clause-never_with_a_change c f = m_is_more (sym f.same)
