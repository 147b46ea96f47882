use Rattle.std.proofs.Common.{◌≡◌, ◌+◌, ◌-◌, ◌<◌, ◌^◌, true, length, ap, sym, subst, ◌∙◌, arith}
use Rattle.turnstile.specs.Entries.{StartsWith}
use Rattle.turnstile.proofs.Leaving.{filled}
use Rattle.turnstile.proofs.Logs.{starts_long}
use Rattle.turnstile.proofs.Moves.{counts_at, gives_at}
use Rattle.turnstile.proofs.turns.Turnstile.leave.Goals as goal

pub fetch_add-count-requires : goal.fetch_add-count-requires
fetch_add-count-requires g c =
    let e = c.exchange-found.ensures in
    let x = c.args.value in
    let list = g.V.Historied.list in
    let was = c.pass.inside.seat.me in
    let view = c.pass.view_is in
    let holds : was.0.holds ≡ true = ap (λ s. s.holds) view ∙ c.requires.holds in
    let now = filled x was c.exchange-found.new.seat.me _ c.pass.invariant holds e.3 in
    let me = c.exchange-found.new.seat.me in
    let longer : StartsWith (list x) was.0.list = subst (λ l. StartsWith (list x) l) (sym (ap (λ s. s.list) view)) c.requires.longer in
    let starts : StartsWith (list x) me.0.list = subst (λ v. StartsWith (list x) v.list) (sym now.same) longer in
    let far = starts_long (list x) was.0.list longer in
    let len : c.length.result ≡ length (list x) = c.length.ensures in
    let entered : c.pass.inside.entered ≡ length was.0.list = c.pass.invariant.remembers holds in
    let same : length me.0.list ≡ length was.0.list = ap (λ v. length v.list) now.same in
    let there : length was.0.list + far.0 ≡ length (list x) = far.1 in
    let adds : length me.0.list + (c.length.result - c.pass.inside.entered) ≡ length (list x) = omega arith in
    let low : length (list x) < 2 ^ 64 = subst (λ n. n < 2 ^ 64) len c.length.type_inv in (
      e.0 ∙ (ap (λ s. s.table) view ∙ (c.requires.table ∙ sym (ap (λ t. t.table) c.self.view_is))),
      omega arith,
      counts_at _ _ _ _ _ _ x _ now.live now.holds now.slots starts adds low,
    )

pub swap-requires : goal.swap-requires
swap-requires g c =
    let e = c.exchange-found.ensures in
    let x = c.args.value in
    let view = c.pass.view_is in
    let now = filled x c.pass.inside.seat.me c.exchange-found.new.seat.me _ c.pass.invariant (ap (λ s. s.holds) view ∙ c.requires.holds) e.3 in
    let w = (c.fetch_add-count.ensures.2 x now.slots).1 in (
      c.fetch_add-count.ensures.0 ∙ (e.0 ∙ (ap (λ s. s.table) view ∙ (c.requires.table ∙ sym (ap (λ t. t.table) c.self.view_is)))),
      omega arith,
      gives_at _ _ _ _ _ _ x (ap (λ m. m.0.live) w ∙ now.live) (ap (λ m. m.0.holds) w ∙ now.holds) (ap (λ m. m.1) w ∙ now.slots) (ap (λ m. m.0.list) w),
    )
