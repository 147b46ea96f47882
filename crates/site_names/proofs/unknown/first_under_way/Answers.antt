use Rattle.std.proofs.Common.{[], ◌∷◌, sym, ◌∙◌}
use Rattle.global_tables.specs.declared.groups.Group.TheVariants as group
use Rattle.site_names.proofs.FirstNamed.{ok_then, here_tells, later_tells, last_tells}
use Rattle.site_names.proofs.unknown.first_under_way.Goals as goal

pub returns-then-is_some-clause-found : goal.returns-then-is_some-clause-found
returns-then-is_some-clause-found g c =
    here_tells (g.W.World.outside c.args.world.now).locations (g.W.World.outside c.args.world.now).told group.Log (group.Jobs ∷ group.Away ∷ []) c.in_ok-of_log.of_log (sym c.is_some.ensures ∙ c.if-is_some.true) c.in_ok-of_log.ensures.found

pub returns-then-is_some-2-clause-found : goal.returns-then-is_some-2-clause-found
returns-then-is_some-2-clause-found g c =
    later_tells (g.W.World.outside c.args.world.now).locations _ (g.W.World.outside c.args.world.now).told _ group.Log (group.Jobs ∷ group.Away ∷ []) c.in_ok-of_log.of_log c.in_ok-of_jobs.of_jobs
    c.in_ok-of_log.ensures.later.locations c.in_ok-of_log.ensures.told (sym c.is_some.ensures ∙ c.if-is_some.false) c.in_ok-of_log.ensures.found
    (here_tells _ _ group.Jobs (group.Away ∷ []) c.in_ok-of_jobs.of_jobs (sym c.is_some-2.ensures ∙ c.if-is_some-2.true) c.in_ok-of_jobs.ensures.found)

pub returns-clause-found : goal.returns-clause-found
returns-clause-found g c =
    ok_then c.first_of-3.result _ _ c.first_of-3.ensures.found (λ found h.
    later_tells (g.W.World.outside c.args.world.now).locations _ (g.W.World.outside c.args.world.now).told _ group.Log (group.Jobs ∷ group.Away ∷ []) c.in_ok-of_log.of_log found
    c.in_ok-of_log.ensures.later.locations c.in_ok-of_log.ensures.told (sym c.is_some.ensures ∙ c.if-is_some.false) c.in_ok-of_log.ensures.found
    (later_tells _ _ _ _ group.Jobs (group.Away ∷ []) c.in_ok-of_jobs.of_jobs found
    c.in_ok-of_jobs.ensures.later.locations c.in_ok-of_jobs.ensures.told (sym c.is_some-2.ensures ∙ c.if-is_some-2.false) c.in_ok-of_jobs.ensures.found
    (last_tells _ _ group.Away found h)))
