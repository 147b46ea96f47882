use Rattle.std.proofs.Common.{◌≡◌, suc, length, ◌∷◌, Some, ap, sym, subst, ◌∙◌, arith}
use mathlib.Core.Option.{some-injective}
use Rattle.turnstile.specs.Rule.{Woven}
use Rattle.turnstile.proofs.Ends.{ends}
use Rattle.turnstile.proofs.turns.Turnstile.end.Goals as goal

pub unreachable-requires : goal.unreachable-requires
unreachable-requires g c =
    let first = c.args.first in
    let seats = ap (λ t. t.seats) c.self.view_is in
    let all : c.self.inside.table.shared.key.1 ≡ suc (length first.seat.me.0.known) = omega arith in
    let e = ends g.V.Historied.list _ _ _ first.seat.me.0 _ _ first.idle.0 first.idle.2 first.idle.1 all c.close_with-closed.ensures.values.2 in
    c.in_default.not-Some e.0 (some-injective _ _ (sym c.take-found.ensures.value ∙ e.1))

pub returns : goal.returns
returns g c =
    let first = c.args.first in
    let list = g.V.Historied.list in
    let seats = ap (λ t. t.seats) c.self.view_is in
    let all : c.self.inside.table.shared.key.1 ≡ suc (length first.seat.me.0.known) = omega arith in
    let e = ends list _ _ _ first.seat.me.0 _ _ first.idle.0 first.idle.2 first.idle.1 all c.close_with-closed.ensures.values.2 in
    let is : Some c.in-Some.value ≡ Some e.0 = sym c.in-Some.is ∙ some-injective _ _ (sym c.take-found.ensures.value ∙ e.1) in
    let same : c.in-Some.value ≡ e.0 = cc is in
    let parts = (first.seat.me.0.mine, first.seat.me.0.list) ∷ first.seat.me.0.known in
    subst (λ x. Woven c.args.self.first parts (list x)) (sym same) (subst (λ l. Woven l parts (list e.0)) (ap (λ t. t.first) c.self.view_is) e.2)
