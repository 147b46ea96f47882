use Rattle.std.proofs.Common.{◌≡◌, ◌+◌, suc, length, ap, sym, ◌∙◌, arith}
use Rattle.turnstile.specs.Steps.{slots_held}
use Rattle.turnstile.proofs.Ends.{joins}
use Rattle.turnstile.proofs.turns.Turnstile.absorb.Goals as goal

pub join_seat-requires : goal.join_seat-requires
join_seat-requires g c =
    let first = c.args.first.now in
    let p = c.pass.inside in
    let v = c.pass.view_is in
    let here = sym (ap (λ t. t.table) c.self.view_is) in
    let holds = ap (λ s. s.holds) v ∙ c.requires.pass.2 in
    let number : p.seat.me.0.number ≡ length first.seat.me.0.known + 1 = ap (λ s. s.number) v ∙ c.requires.pass.1 in
    let n : p.seat.me.0.number ≡ suc (length first.seat.me.0.known) = omega arith in (
      c.requires.table ∙ here,
      ap (λ s. s.table) v ∙ (c.requires.pass.0 ∙ here),
      c.pass.invariant.slots ∙ ap slots_held holds,
      omega arith,
      joins _ _ _ _ _ _ _ first.idle.0 first.idle.2 first.idle.1 c.pass.invariant.live holds n,
    )
