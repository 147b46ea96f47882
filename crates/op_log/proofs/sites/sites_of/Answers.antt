use Rattle.std.proofs.Common.{◌≡◌, ◌∙◌, ap, subst, sym, ◌++◌}
use Rattle.cell_world.specs.Lists.{IsOneOf}
use Rattle.cell_world.specs.Operations.{locations_of, sites_of, sites_of_extra}
use Rattle.cell_world.specs.Spelled.{listed}
use Rattle.cell_world.specs.declared.operations.Op.{Op}
use Rattle.op_log.specs.Sites.{AreInOrder, locations_in, with_sites}
use Rattle.op_log.specs.declared.sites.Sites.{Sites}
use Rattle.op_log.proofs.SiteLists.{nowhere, with_sites-append, gathered_order, gathered_back, gathered_forth}
use Rattle.op_log.proofs.sites.sites_of.Goals as goal

-- they are gathered one after another
gathered : (op : Op) (one both all : Sites) → one ≡ with_sites nowhere (locations_of (listed op.olds)) → both ≡ with_sites one (locations_of (listed op.news)) → all ≡ with_sites both (sites_of_extra op.extra) → all ≡ with_sites nowhere (sites_of op)
gathered op one both all e f g =
    g
    ∙ ap (λ s. with_sites s (sites_of_extra op.extra)) (f ∙ ap (λ s. with_sites s (locations_of (listed op.news))) e ∙ with_sites-append nowhere (locations_of (listed op.olds)) (locations_of (listed op.news)))
    ∙ with_sites-append nowhere (locations_of (listed op.olds) ++ locations_of (listed op.news)) (sites_of_extra op.extra)

pub returns-clause-all : goal.returns-clause-all
returns-clause-all c most location =
    let e = gathered c.args.op.now c.with_pieces-olds.result c.with_pieces-both.result c.with_extra.result c.with_pieces-olds.ensures c.with_pieces-both.ensures c.with_extra.ensures in
    (λ h. gathered_back (sites_of c.args.op.now) most location (subst (λ (s : Sites). IsOneOf (locations_in s) location) e h), λ h. subst (λ (s : Sites). IsOneOf (locations_in s) location) (sym e) (gathered_forth (sites_of c.args.op.now) most location h))

pub returns-clause-once : goal.returns-clause-once
returns-clause-once c most =
    let e = gathered c.args.op.now c.with_pieces-olds.result c.with_pieces-both.result c.with_extra.result c.with_pieces-olds.ensures c.with_pieces-both.ensures c.with_extra.ensures in
    subst AreInOrder (sym e) (gathered_order (sites_of c.args.op.now) most)
