use Rattle.std.proofs.Common.{arith, ◌∙◌}
use Rattle.script_lang.proofs.NumberLaws.{longer_number}
use Rattle.script_lang.proofs.numbers.is_number.Goals as goal

pub returns-then-first-ne48 : goal.returns-then-first-ne48
returns-then-first-ne48 c = c.all_digits.ensures ∙ longer_number c.args.word.now (omega arith) (λ e. omega (arith, e))
