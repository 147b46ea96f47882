use Rattle.map_ops.proofs.AskingLaws.{no_map_of_find, bad_key_of_find, no_mapping_of_find, answers_find}
use Rattle.map_ops.proofs.mappings.plan_find.Goals as goal

pub returns-in_default-clause-plans : goal.returns-in_default-clause-plans
returns-in_default-clause-plans g c = no_map_of_find _ c.args.known.now c.args.name c.key_type_of.result c.key_type_of.ensures c.in_default.is c.args.text.now

pub returns-in_default-key_in-clause-plans : goal.returns-in_default-key_in-clause-plans
returns-in_default-key_in-clause-plans g c =
    bad_key_of_find _ c.args.known.now c.args.name c.key_type_of.result c.key_type_of.ensures c.in-Some.key_type c.in-Some.is
    c.args.text.now c.key_in.result c.key_in.ensures.key c.in_default-key_in.is

pub returns-in-Ok-None-clause-plans : goal.returns-in-Ok-None-clause-plans
returns-in-Ok-None-clause-plans g c =
    no_mapping_of_find _ c.args.known.now c.args.name c.key_type_of.result c.key_type_of.ensures c.in-Some.key_type c.in-Some.is
    c.args.text.now c.key_in.result c.key_in.ensures.key c.in-Some-key_in.key c.in-Some-key_in.is c.in-Some-key_in.ensures.normal
    c.in-Ok-None.field-0 c.in-Ok-None.ensures.found c.in-Ok-None.field-0-is

pub returns-in-Ok-Some-clause-plans : goal.returns-in-Ok-Some-clause-plans
returns-in-Ok-Some-clause-plans g c =
    answers_find _ c.args.known.now c.args.name c.key_type_of.result c.key_type_of.ensures c.in-Some.key_type c.in-Some.is
    c.args.text.now c.key_in.result c.key_in.ensures.key c.in-Some-key_in.key c.in-Some-key_in.is c.in-Some-key_in.ensures.normal
    c.in-Ok-Some.field-0 c.in-Ok-Some.ensures.found c.in-Ok-Some.piece c.in-Ok-Some.field-0-is
