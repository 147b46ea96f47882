use Rattle.std.proofs.Common.{◌≡◌, length, take, drop, sym, ap, ◌∙◌, arith, rules, length-drop, ◌∷◌, ◌+◌, ◌-◌, []}
use Rattle.std.specs.Str.Lines.{lines}
use Rattle.std.proofs.lemmas.List.{take_all, drop_all}
use Rattle.script_lang.proofs.LineLaws.{first_of_lines, last_of_lines}
use Rattle.script_lang.proofs.words.first_line.Goals as goal

pub returns-in-Some-clause-first : goal.returns-in-Some-clause-first
returns-in-Some-clause-first c =
    let bytes = c.args.bytes.now in
    let at = c.in-Some.at in
    let all : take (length bytes - (at + 1)) (drop (at + 1) bytes) ≡ drop (at + 1) bytes = take_all _ _ (omega (arith, length-drop (at + 1) bytes)) in
    first_of_lines bytes at (search rules) ∙ ((λ i. sym c.without_return.ensures i ∷ lines (drop (at + 1) bytes)) ∙ ap (λ b. c.without_return.result.now ∷ lines b) (sym all))

pub returns-in-None-clause-first : goal.returns-in-None-clause-first
returns-in-None-clause-first c =
    let bytes = c.args.bytes.now in
    let none : take (length bytes - length bytes) (drop (length bytes) bytes) ≡ [] = ap (take (length bytes - length bytes)) (drop_all (length bytes) bytes (omega arith)) ∙ search rules in
    last_of_lines bytes (search rules) c.requires ∙ ap (λ b. bytes ∷ lines b) (sym none)
