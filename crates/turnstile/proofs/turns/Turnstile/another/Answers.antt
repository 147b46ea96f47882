use Rattle.std.proofs.Common.{ap, sym, ◌∙◌, subst, ◌<◌, arith}
use Rattle.turnstile.proofs.Ends.{splits}
use Rattle.turnstile.proofs.turns.Turnstile.another.Goals as goal

pub split_seat-seat-requires : goal.split_seat-seat-requires
split_seat-seat-requires g c =
    let first = c.args.first.now in
    let view = c.self.view_is in (
      c.requires.table ∙ sym (ap (λ t. t.table) view),
      omega arith,
      splits _ _ _ _ _ first.idle.0 first.idle.2 first.idle.1 (subst (λ n. first.seat.me.0.next < n) (sym (ap (λ t. t.seats) view)) c.requires.room),
    )
