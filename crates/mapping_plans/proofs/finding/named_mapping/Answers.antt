use Rattle.mapping_plans.proofs.NamedMappings.{none_named, away_named, here_named}
use Rattle.mapping_plans.proofs.finding.named_mapping.Goals as goal

pub returns-in-Some-clause-finds : goal.returns-in-Some-clause-finds
returns-in-Some-clause-finds g c =
    away_named _ c.args.known.now c.args.wanted c.args.name.now c.args.text.now c.in-Ok.key c.in-Ok.ensures.reads c.in-Ok.ensures.normal c.in-Ok-Some.field-0 c.in-Ok-Some.ensures.found
    c.in-Ok-Some.piece c.in-Ok-Some.field-0-is c.away_refusal.result c.away_refusal.ensures.first c.in-Some.refusal c.in-Some.is

pub returns-in-None-clause-finds : goal.returns-in-None-clause-finds
returns-in-None-clause-finds g c =
    here_named _ c.args.known.now c.args.wanted c.args.name.now c.args.text.now c.in-Ok.key c.in-Ok.ensures.reads c.in-Ok.ensures.normal c.in-Ok-Some.field-0 c.in-Ok-Some.ensures.found
    c.in-Ok-Some.piece c.in-Ok-Some.field-0-is c.away_refusal.result c.away_refusal.ensures.first c.in-None.is

pub returns-in-Ok-None-clause-finds : goal.returns-in-Ok-None-clause-finds
returns-in-Ok-None-clause-finds g c =
    none_named _ c.args.known.now c.args.wanted c.args.name.now c.args.text.now c.in-Ok.key c.in-Ok.ensures.reads c.in-Ok.ensures.normal c.in-Ok-None.field-0 c.in-Ok-None.ensures.found
    c.in-Ok-None.field-0-is
