use Rattle.std.proofs.Common.{◌≡◌, ◌+◌, ◌-◌, map, length, take, drop, ap, sym, subst, arith, rules, length-drop}
use Rattle.std.proofs.lemmas.List.{take_all}
use Rattle.script_lang.specs.Words.{is_blank, words}
use Rattle.script_lang.proofs.LineLaws.{cut, one_more, last_word, and_words}
use Rattle.script_lang.proofs.words.words_in.Goals as goal

pub overflow_add-rest : goal.overflow_add-rest
overflow_add-rest c = let within = (cut is_blank c.loop-at.rest.now c.in-Some.at (search rules)).within in omega (arith, within, c.loop-at.invariant.within)

pub loop-at-preserved : goal.loop-at-preserved
loop-at-preserved c =
    let rest = c.loop-at.rest.now in
    let at = c.in-Some.at in
    let found = map (λ w. w.now) c.loop-at.found.items in
    let more = map (λ w. w.now) c.add_word.new.words.items in
    let all : take (length rest - (at + 1)) (drop (at + 1) rest) ≡ drop (at + 1) rest = take_all _ _ (omega (arith, length-drop (at + 1) rest)) in
    record {
      within = omega (arith, c.loop-at.invariant.within, length-drop (at + 1) rest, ap length all);
      read = subst (λ r. and_words more r ≡ words c.args.line.now) (sym all) (one_more found more (words c.args.line.now) rest at (search rules) c.in_ok-add_word.ensures c.loop-at.invariant.read);
    }

pub returns : goal.returns
returns c = last_word _ _ _ c.loop-at.rest.now (search rules) c.in_ok-add_word-2.ensures c.loop-at.invariant.read
