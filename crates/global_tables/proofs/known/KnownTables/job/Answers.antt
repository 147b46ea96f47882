use Rattle.std.proofs.Common.{ap, ◌∙◌}
use Rattle.global_tables.specs.Known.{Known}
use Rattle.global_tables.proofs.CopyLaws.{job_found}
use Rattle.global_tables.proofs.known.KnownTables.job.Goals as goal

pub returns : goal.returns
returns c = λ s keyed is. job_found c.args.self.now s is keyed c.deref.result.now c.args.number c.find_row.result (c.deref.ensures.value ∙ ap (λ (k : Known). k.jobs) c.self.view_is) c.find_row.ensures
