use Rattle.std.proofs.Common.{true≢false, sym, inl, inr, ◌∙◌}
use Rattle.script_lang.proofs.HexLaws.{decoded, not_decoded}
use Rattle.script_lang.proofs.values.hex_value.Goals as goal

pub returns-in-Ok : goal.returns-in-Ok
returns-in-Ok c = sym (decoded c.args.digits.now _ c.in-Ok.ensures.ok)

pub returns-else-eq : goal.returns-else-eq
returns-else-eq c =
    elim c.in-Err.ensures.err [
      | inl memory ↦ let same = rw memory at c.eq.ensures in absurd (true≢false (sym same ∙ c.if-eq.false))
      | inr fault ↦ sym (not_decoded c.args.digits.now c.in-Err.error fault)
    ]
