use Rattle.std.proofs.Common.{◌≡◌, suc, ap, ◌∙◌, arith}
use Rattle.turnstile.proofs.Places.{each_end}
use Rattle.turnstile.proofs.turns.Turnstile.fill.Goals as goal

pub loop-preserved : goal.loop-preserved
loop-preserved g c =
    let i = c.loop.invariant in
    let e = c.another-pass.ensures.first.1 in
    let n = c.another-pass.ensures.new in
    let next : c.another-pass.new.first.seat.me.0.next ≡ suc c.loop.first.seat.me.0.next = ap (λ v. v.next) e in record {
      table = c.another-pass.ensures.first.0 ∙ i.table;
      first = (ap (λ v. v.mine) e ∙ i.first.0, ap (λ v. v.known) e ∙ i.first.1, ap (λ v. v.list) e ∙ i.first.2);
      next = omega arith;
      len = omega arith;
      capacity = c.push_reserved.ensures.capacity ∙ i.capacity;
      each = rw c.push_reserved.ensures.items (each_end _ 1 _ _ c.loop.counter (omega arith) i.each
          (ap (λ s. s.table) n ∙ i.table, ap (λ s. s.number) n ∙ i.next, ap (λ s. s.holds) n, ap (λ s. s.mine) n, ap (λ s. s.list) n ∙ i.first.2));
    }
