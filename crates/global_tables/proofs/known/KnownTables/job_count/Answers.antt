use Rattle.std.proofs.Common.{◌≡◌, length, ap, ◌∙◌, arith}
use Rattle.std.specs.Prelude.{vec_len}
use Rattle.global_tables.specs.Known.{Known}
use Rattle.global_tables.proofs.CopyLaws.{jobs_counted}
use Rattle.global_tables.proofs.known.KnownTables.job_count.Goals as goal

pub returns : goal.returns
returns c = λ s is.
    let long : vec_len c.self.inside.jobs ≡ length c.self.inside.jobs.items = omega (arith, c.self.inside.jobs.ok.0) in
    c.len.ensures ∙ long ∙ ap (λ (k : Known). length k.jobs) c.self.view_is ∙ jobs_counted c.args.self.now s is
