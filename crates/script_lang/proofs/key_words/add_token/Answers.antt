use Rattle.std.proofs.Common.{◌++◌, ap}
use Rattle.cell_world.specs.KeyPrinting.{guid_text}
use Rattle.script_lang.proofs.WritingLaws.{as_told}
use Rattle.script_lang.proofs.key_words.add_token.Goals as goal

pub returns : goal.returns
returns c = as_told c.add_guid.result _ _ _ (ap (λ t. c.args.line.now.items ++ guid_text t) c.to_be_bytes.ensures) c.add_guid.ensures
