use Rattle.std.proofs.Common.{ap, sym, ◌∙◌, arith, Some}
use Rattle.turnstile.proofs.Moves.{takes_at, one_slot}
use Rattle.turnstile.proofs.turns.Turnstile.take.Goals as goal

pub compare_exchange-found-requires : goal.compare_exchange-found-requires
compare_exchange-found-requires g c = let i = c.loop.invariant.me in (
  c.loop.invariant.table ∙ (c.requires.table ∙ sym (ap (λ t. t.table) c.self.view_is)),
  omega arith,
  takes_at _ _ _ _ _ _ (ap (λ m. m.0.live) i ∙ c.requires.idle.0) (ap (λ m. m.1) i ∙ c.requires.idle.2),
)

pub exchange-requires : goal.exchange-requires
exchange-requires g c = let t = c.compare_exchange-found.ensures.2.0 c.if-found-eq-FREE.true in (
  c.compare_exchange-found.ensures.0 ∙ (c.loop.invariant.table ∙ (c.requires.table ∙ sym (ap (λ z. z.table) c.self.view_is))),
  (Some t.0, one_slot _ _ (ap (λ m. m.1) t.1)),
)
