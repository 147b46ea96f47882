use Rattle.map_ops.proofs.AskingLaws.{no_map_of_list, answers_list}
use Rattle.map_ops.proofs.mappings.plan_list.Goals as goal

pub returns-in_default-clause-plans : goal.returns-in_default-clause-plans
returns-in_default-clause-plans g c = no_map_of_list _ c.args.known.now c.args.name c.key_type_of.result c.key_type_of.ensures c.in_default.is

pub returns-in-Ok-clause-plans : goal.returns-in-Ok-clause-plans
returns-in-Ok-clause-plans g c =
    answers_list _ c.args.known.now c.args.name c.key_type_of.result c.key_type_of.ensures c.in-Some.key_type c.in-Some.is
    c.in-Ok.pieces.items c.from_vec.result c.from_vec.ensures c.in-Ok.ensures.found
