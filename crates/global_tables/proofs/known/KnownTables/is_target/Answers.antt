use Rattle.std.proofs.Common.{◌≡◌, ◌&&◌, ap, ◌∙◌, rules, tests}
use Rattle.std.specs.List.{list_any}
use Rattle.std.proofs.lemmas.Iterator.{YieldsList-from_slice}
use Rattle.std.proofs.lemmas.Iterator.Search.{any_from_yields_List}
use Rattle.cell_world.specs.Keys.{same}
use Rattle.cell_world.specs.declared.operations.JobRow.{JobRow}
use Rattle.global_tables.specs.Known.{Known}
use Rattle.global_tables.proofs.known.KnownTables.is_target.Goals as goal

pub returns : goal.returns
returns c = λ s is.
    any_from_yields_List (λ (job : JobRow). same c.args.map.now job.map && same job.target c.args.location.now) _ _ c.any.result c.any.ensures.ran (YieldsList-from_slice c.deref.result.now cc) (λ x b q k. search (rules, tests))
    ∙ ap (list_any (λ (job : JobRow). same c.args.map.now job.map && same job.target c.args.location.now)) (c.deref.ensures.value ∙ ap (λ (k : Known). k.jobs) c.self.view_is ∙ ap (λ (k : Known). k.jobs) is)
