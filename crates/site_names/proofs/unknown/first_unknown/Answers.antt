use Rattle.std.proofs.Common.{◌∷◌, sym, ◌∙◌}
use Rattle.global_tables.specs.declared.groups.Group.TheVariants as group
use Rattle.site_names.specs.Named.{groups_under_way}
use Rattle.site_names.proofs.FirstNamed.{ok_then, here_tells, later_tells, contents_tell}
use Rattle.site_names.proofs.unknown.first_unknown.Goals as goal

pub returns-then-is_some-clause-found : goal.returns-then-is_some-clause-found
returns-then-is_some-clause-found g c =
    contents_tell (g.W.World.outside c.args.world.now).locations (g.W.World.outside c.args.world.now).told c.in_ok-of_shards.of_shards (g.W.World.laws c.args.world.now).cells
    (here_tells (g.W.World.outside c.args.world.now).locations (g.W.World.outside c.args.world.now).told group.Shards (group.Pieces ∷ groups_under_way) c.in_ok-of_shards.of_shards (sym c.is_some.ensures ∙ c.if-is_some.true) c.in_ok-of_shards.ensures.found)

pub returns-then-is_some-2-clause-found : goal.returns-then-is_some-2-clause-found
returns-then-is_some-2-clause-found g c =
    contents_tell (g.W.World.outside c.args.world.now).locations (g.W.World.outside c.args.world.now).told c.in_ok-of_pieces.of_pieces (g.W.World.laws c.args.world.now).cells
    (later_tells (g.W.World.outside c.args.world.now).locations _ (g.W.World.outside c.args.world.now).told _ group.Shards (group.Pieces ∷ groups_under_way) c.in_ok-of_shards.of_shards c.in_ok-of_pieces.of_pieces
    c.in_ok-of_shards.ensures.later.locations c.in_ok-of_shards.ensures.told (sym c.is_some.ensures ∙ c.if-is_some.false) c.in_ok-of_shards.ensures.found
    (here_tells _ _ group.Pieces groups_under_way c.in_ok-of_pieces.of_pieces (sym c.is_some-2.ensures ∙ c.if-is_some-2.true) c.in_ok-of_pieces.ensures.found))

pub returns-clause-found : goal.returns-clause-found
returns-clause-found g c =
    ok_then c.first_under_way.result _ _ c.first_under_way.ensures.found (λ found h.
    contents_tell (g.W.World.outside c.args.world.now).locations (g.W.World.outside c.args.world.now).told found (g.W.World.laws c.args.world.now).cells
    (later_tells (g.W.World.outside c.args.world.now).locations _ (g.W.World.outside c.args.world.now).told _ group.Shards (group.Pieces ∷ groups_under_way) c.in_ok-of_shards.of_shards found
    c.in_ok-of_shards.ensures.later.locations c.in_ok-of_shards.ensures.told (sym c.is_some.ensures ∙ c.if-is_some.false) c.in_ok-of_shards.ensures.found
    (later_tells _ _ _ _ group.Pieces groups_under_way c.in_ok-of_pieces.of_pieces found
    c.in_ok-of_pieces.ensures.later.locations c.in_ok-of_pieces.ensures.told (sym c.is_some-2.ensures ∙ c.if-is_some-2.false) c.in_ok-of_pieces.ensures.found h)))
