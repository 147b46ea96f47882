use Rattle.std.proofs.Common.{sym, ◌∙◌}
use Rattle.key_space.proofs.HexDigits.{none_some}
use Rattle.key_space.proofs.Readings.{keys_are_texts, no_key, one_fault}
use Rattle.key_space.proofs.laws.a_text_has_one_fault.Goals as goal

pub returns-clause-grammar : goal.returns-clause-grammar
returns-clause-grammar c = keys_are_texts

pub returns-clause-no_key : goal.returns-clause-no_key
returns-clause-no_key c = λ type text form fault is e. none_some form (sym (no_key type text fault is) ∙ e)

pub returns-clause-alone : goal.returns-clause-alone
returns-clause-alone c = one_fault
