use Rattle.std.proofs.Common.{Some, None, sym, ap, ◌∙◌}
use Rattle.cell_world.specs.Plain.{state_of}
use Rattle.global_tables.specs.Known.{Known}
use Rattle.global_tables.proofs.CopyLaws.{away_found}
use Rattle.global_tables.proofs.known.KnownTables.site_state.Goals as goal

pub returns-in-None : goal.returns-in-None
returns-in-None c = λ s is. ap state_of (away_found c.args.self.now s is c.deref.result.now c.args.location.now None (c.deref.ensures.value ∙ ap (λ (k : Known). k.away) c.self.view_is) c.in-None.ensures)

pub returns-in-Detached : goal.returns-in-Detached
returns-in-Detached c = λ s is.
    ap (λ a. state_of (Some a)) (sym c.in-Detached.is)
    ∙ ap state_of (away_found c.args.self.now s is c.deref.result.now c.args.location.now (Some c.in-Some.row) (c.deref.ensures.value ∙ ap (λ (k : Known). k.away) c.self.view_is) c.in-Some.ensures)

pub returns-in-Suspect : goal.returns-in-Suspect
returns-in-Suspect c = λ s is.
    ap (λ a. state_of (Some a)) (sym c.in-Suspect.is)
    ∙ ap state_of (away_found c.args.self.now s is c.deref.result.now c.args.location.now (Some c.in-Some.row) (c.deref.ensures.value ∙ ap (λ (k : Known). k.away) c.self.view_is) c.in-Some.ensures)
