use Rattle.std.proofs.Common.{◌≡◌, drop}
use Rattle.script_lang.specs.Scripts.{verb_in}
use Rattle.script_lang.proofs.verbs.verb_in.Given as goal

abbrev pub invariant-loop-verb : goal.invariant-loop-verb
invariant-loop-verb l = verb_in (drop l.verb-index l.in_force) l.word ≡ verb_in l.in_force l.word
