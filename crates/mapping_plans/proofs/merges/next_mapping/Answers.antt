use Rattle.mapping_plans.proofs.NextMappings.{none_told, next_told, next_of_map}
use Rattle.mapping_plans.proofs.merges.next_mapping.Goals as goal

pub returns-in_default-clause-found : goal.returns-in_default-clause-found
returns-in_default-clause-found g c = none_told _ c.args.piece.now c.end_key.result c.end_key.ensures c.in_default.is

pub returns-clause-found : goal.returns-clause-found
returns-clause-found g c =
    next_told _ c.args.piece.now c.end_key.result c.end_key.ensures c.in-Some.end c.in-Some.is c.in_ok-found.found c.in_ok-found.ensures.found c.if_agrees.result c.if_agrees.ensures

pub returns-clause-of_map : goal.returns-clause-of_map
returns-clause-of_map g c = next_of_map c.args.piece.now c.in_ok-found.found c.if_agrees.result c.if_agrees.ensures
