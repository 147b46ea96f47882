use Rattle.mapping_plans.proofs.MovePlans.{move_first}
use Rattle.mapping_plans.proofs.moves.move_refusal.Goals as goal

pub returns-clause-first : goal.returns-clause-first
returns-clause-first g c =
    move_first _ c.args.known.now c.args.name.now c.args.at.now c.args.token.now c.args.piece.now c.is_locked.result c.is_location.result c.is_shard.result c.is_detached.result c.is_suspect.result c.is_at.result c.is_online.result
    c.first_of.result c.first_of.ensures.first c.is_locked.ensures c.is_location.ensures c.is_shard.ensures c.is_detached.ensures c.is_suspect.ensures c.is_at.ensures c.is_online.ensures
