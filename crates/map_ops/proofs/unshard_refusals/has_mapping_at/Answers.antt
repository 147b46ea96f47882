use Rattle.std.proofs.Common.{◌∙◌, ap}
use Rattle.std.specs.List.{list_any}
use Rattle.map_ops.proofs.RefusalLaws.{mapping_found}
use Rattle.map_ops.proofs.unshard_refusals.has_mapping_at.Goals as goal

pub returns-clause-found : goal.returns-clause-found
returns-clause-found g c =
    mapping_found _ c.args.name.now c.args.at.now c.in_ok-pieces.pieces.items c.is_any_at.result (c.is_any_at.ensures ∙ ap (list_any _) c.deref.ensures.value) c.in_ok-pieces.ensures.found
