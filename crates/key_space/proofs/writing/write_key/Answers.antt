use Rattle.std.proofs.Common.{◌≡◌, Some, sym, subst, ◌∙◌}
use Rattle.cell_world.specs.KeyForms.{normal_of}
use Rattle.key_space.specs.Values.{type_of, form_of}
use Rattle.key_space.proofs.Printed.{printed_key, read_again}
use Rattle.key_space.proofs.writing.write_key.Goals as goal

pub returns-clause-text : goal.returns-clause-text
returns-clause-text c = c.in_ok-text_of.ensures ∙ printed_key c.args.key.now c.kind-kind.ensures.known

pub returns-clause-again : goal.returns-clause-again
returns-clause-again c =
    let key = c.args.key.now in
    subst (λ t. normal_of (type_of key) t ≡ Some (form_of key)) (sym c.in_ok-text_of.ensures) (read_again key c.kind-kind.ensures.known)
