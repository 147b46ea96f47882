use Rattle.std.proofs.Common.{◌≡◌, length, ap, sym, subst, ◌∙◌, refl, Some}
use Rattle.key_space.proofs.KeyForms.{formed, one_guid}
use Rattle.cell_world.specs.KeyPrinting.{guid_unformed}
use Rattle.cell_world.specs.KeyForms.{guid_form}
use Rattle.key_space.specs.declared.keys.Key.TheVariants.{Guid}
use Rattle.key_space.proofs.keys.key_of.Goals as goal

pub returns-in_ok-guid_of-in-Guid-clause-value : goal.returns-in_ok-guid_of-in-Guid-clause-value
returns-in_ok-guid_of-in-Guid-clause-value c =
    let form = c.args.form.now in
    let slice : c.as_slice-in-Guid.result.now ≡ form = c.as_slice-in-Guid.ensures in
    let count : length form ≡ 16 = subst (λ t. length t ≡ 16) slice (c.in_ok-guid_of-in-Guid.ensures.some.0 refl) in
    let bytes = c.in_ok-guid_of-in-Guid.ensures.value ∙ ap guid_unformed slice in
    (sym c.in-Guid.is, ap guid_form bytes ∙ formed form count)

pub returns-in_ok-guid_of-in-Guid-clause-back : goal.returns-in_ok-guid_of-in-Guid-clause-back
returns-in_ok-guid_of-in-Guid-clause-back c =
    let bytes = c.in_ok-guid_of-in-Guid.ensures.value ∙ ap guid_unformed c.as_slice-in-Guid.ensures in
    λ key is type same. ap (λ b. Some (Guid b)) bytes ∙ one_guid key c.args.form.now is (type ∙ c.in-Guid.is) same
