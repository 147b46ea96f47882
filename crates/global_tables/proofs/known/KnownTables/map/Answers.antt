use Rattle.std.proofs.Common.{Some, None, ap, ◌∙◌}
use Rattle.global_tables.specs.Known.{Known}
use Rattle.global_tables.proofs.CopyLaws.{map_found}
use Rattle.global_tables.proofs.known.KnownTables.map.Goals as goal

pub returns-in-None : goal.returns-in-None
returns-in-None c = λ s is. map_found c.args.self.now s is c.deref.result.now c.args.name.now None (c.deref.ensures.value ∙ ap (λ (k : Known). k.maps) c.self.view_is) c.in-None.ensures

pub returns-in-Some : goal.returns-in-Some
returns-in-Some c = λ s is. map_found c.args.self.now s is c.deref.result.now c.args.name.now (Some c.in-Some.row) (c.deref.ensures.value ∙ ap (λ (k : Known). k.maps) c.self.view_is) c.in-Some.ensures
