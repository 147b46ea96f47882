use Rattle.std.proofs.Common.{◌∙◌}
use Rattle.script_lang.proofs.GuidLaws.{guid_tested}
use Rattle.script_lang.proofs.values.is_guid.Goals as goal

pub returns : goal.returns
returns c = c.is_ok.ensures.value ∙ guid_tested c.read_key.result c.args.word.now c.read_key.ensures.exact
