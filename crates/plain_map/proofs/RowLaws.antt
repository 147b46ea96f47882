-- The row of a command that is one of a variant.
use Rattle.std.proofs.Common.{◌≡◌, ℕ, Option, Result, sym, subst, ap, ◌∙◌}
use Rattle.cell_world.specs.Plain.{PlainState}
use Rattle.cell_world.specs.declared.memory.Memory.{Memory}
use Rattle.plain_model.specs.declared.commands.Command.{Command}
use Rattle.plain_model.specs.declared.replies.Reply.{Reply}
use Rattle.plain_model.specs.declared.replies.Refusal.{Refusal}
use Rattle.plain_model.specs.Refusing.{checks, first_refusal, refusal}
use Rattle.plain_map.specs.Asking.{Accepts}

module _ (s : PlainState) (i : ℕ) {c d : Command} (is : c ≡ d) where
  pub accepts_at : (t : PlainState) (r : Result Reply Memory) → Accepts s i d t r → Accepts s i c t r
  accepts_at t r h = subst (λ k. Accepts s i k t r) (sym is) h

  pub refusal_at : (r : Option Refusal) → r ≡ first_refusal (checks s i d) → r ≡ refusal s i c
  unfolding refusal
  refusal_at r h = h ∙ ap (λ k. first_refusal (checks s i k)) (sym is)
