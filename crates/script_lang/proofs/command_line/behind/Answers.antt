use Rattle.std.proofs.Common.{map, ap, sym, ◌∙◌, arith, length-drop}
use Rattle.std.proofs.lemmas.List.{take_all, drop-map}
use Rattle.script_lang.proofs.command_line.behind.Goals as goal

pub returns-then-count-words : goal.returns-then-count-words
returns-then-count-words c =
    ap (map (λ w. w.now)) (take_all _ _ (omega (arith, length-drop c.args.count c.args.words.now))) ∙ sym (drop-map (λ w. w.now) c.args.count c.args.words.now)
