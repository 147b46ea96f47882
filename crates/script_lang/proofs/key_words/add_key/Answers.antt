use Rattle.std.proofs.Common.{◌++◌, sym, ap, ◌∙◌}
use Rattle.cell_world.specs.KeyPrinting.{key_text, guid_text, guid_unformed}
use Rattle.script_lang.proofs.WritingLaws.{as_told, guid_key}
use Rattle.script_lang.proofs.key_words.add_key.Goals as goal

pub returns-in-Guid : goal.returns-in-Guid
returns-in-Guid c =
    let key = c.args.key.now in
    let text = ap guid_text (c.unformed.ensures ∙ ap guid_unformed c.as_slice-form.ensures) ∙ (guid_key key ∙ ap (λ t. key_text t key) (sym c.in-Guid.is)) in
    as_told c.add_guid.result _ _ _ (ap (λ t. c.args.line.now.items ++ t) text) c.add_guid.ensures
