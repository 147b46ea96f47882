use Rattle.std.proofs.Common.{refl, ap, subst, sym, ◌≤◌}
use Rattle.std.specs.Prelude.{Err}
use Rattle.manager_core.specs.declared.opening.Tail.TheVariants as tail
use Rattle.manager_core.proofs.EndingLaws.{finishes}
use Rattle.manager_core.proofs.ending.settle_rest.Goals as goal

pub returns-in-Ok-clause-finishes : goal.returns-in-Ok-clause-finishes
returns-in-Ok-clause-finishes g c = λ history known stop. finishes (g.W.World.outside c.args.world.now) (g.W.World.outside c.settle_all.new.world) history c.args.doings.now c.settle_all.new.doings known stop tail.Settled
    c.settle_all.ensures.becomes c.settle_all.ensures.waits c.settle_all.ensures.going c.settle_all.ensures.tidied c.settle_all.ensures.sessions
    (λ is session one few. c.in-Ok.ensures.none refl session one (subst (λ n. session ≤ n) (sym c.sessions.ensures) few))
    (λ is steady session op one few left. c.in-Ok.ensures.settled refl steady session op one (subst (λ n. session ≤ n) (sym c.sessions.ensures) few) left)
    (λ is. absurd cc)

pub returns-in-Err-Store-clause-finishes : goal.returns-in-Err-Store-clause-finishes
returns-in-Err-Store-clause-finishes g c = λ history known stop. finishes (g.W.World.outside c.args.world.now) (g.W.World.outside c.settle_all.new.world) history c.args.doings.now c.settle_all.new.doings known stop tail.Store
    c.settle_all.ensures.becomes c.settle_all.ensures.waits c.settle_all.ensures.going c.settle_all.ensures.tidied c.settle_all.ensures.sessions
    (λ is. absurd cc) (λ is. absurd cc) (λ is. c.in-Err-Store.ensures.cause (ap Err c.in-Err-Store.field-0-is))

pub returns-in-Err-Memory-clause-finishes : goal.returns-in-Err-Memory-clause-finishes
returns-in-Err-Memory-clause-finishes g c = λ history known stop. finishes (g.W.World.outside c.args.world.now) (g.W.World.outside c.settle_all.new.world) history c.args.doings.now c.settle_all.new.doings known stop tail.Memory
    c.settle_all.ensures.becomes c.settle_all.ensures.waits c.settle_all.ensures.going c.settle_all.ensures.tidied c.settle_all.ensures.sessions
    (λ is. absurd cc) (λ is. absurd cc) (λ is. absurd cc)
