use Rattle.manager_core.specs.Doings.{all_doing}
use Rattle.manager_core.proofs.OpeningLaws.{are_steady_at_rest}
use Rattle.manager_core.proofs.manager.Core.start.Goals as goal

pub returns-in-Ok-Ok-clause-ready : goal.returns-in-Ok-Ok-clause-ready
returns-in-Ok-Ok-clause-ready g c = λ sound. record {
  steady = are_steady_at_rest (all_doing c.in-Ok-Ok.doings) c.in-Ok-Ok.ensures'.rest (g.W.World.outside c.open_stores.new.world) (c.open_stores.ensures.sound sound);
  copy = λ on. c.in-Ok.ensures.copy;
}
