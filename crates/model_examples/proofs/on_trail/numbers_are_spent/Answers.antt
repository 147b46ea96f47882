use Rattle.std.proofs.Common.{◌≡◌, ℕ, arith, sym, ◌∙◌, Some, None, ⊎_elim}
use Rattle.plain_model.specs.declared.replies.Refusal.TheVariants as refused
use Rattle.model_examples.proofs.Maps.{m_accepted}
use Rattle.model_examples.proofs.on_trail.numbers_are_spent.Goals as goal

pub returns-clause-never_before : goal.returns-clause-never_before
returns-clause-never_before c = ⊎_elim
    (λ full. let e : None ≡ Some refused.Full = sym m_accepted ∙ full in cc)
    (λ last. let e : ◌≡◌ {A = ℕ} 1 9223372036854775808 = last in omega arith)
