use Rattle.std.proofs.Common.{Bool, subst}
use Rattle.std.specs.Prelude.{IsTrue, OnOk, IfErr}
use Rattle.cell_world.specs.Texts.{Text}
use Rattle.key_space.specs.Texts.{IsAtPlace}
use Rattle.key_space.proofs.GuidTexts.{guid_texts}
use Rattle.key_space.proofs.guid_texts.check.Goals as goal

pub returns-clause-ok : goal.returns-clause-ok
returns-clause-ok c = subst {A = Text → Bool} (λ g. OnOk c.in_grammar.result (IsTrue (g c.args.text.now))) (λ i t. guid_texts t i) c.in_grammar.ensures.ok

pub returns-clause-err : goal.returns-clause-err
returns-clause-err c = subst {A = Text → Bool} (λ g. IfErr c.in_grammar.result (IsAtPlace g c.args.text.now)) (λ i t. guid_texts t i) c.in_grammar.ensures.err
