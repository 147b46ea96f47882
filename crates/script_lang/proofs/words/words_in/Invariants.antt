use Rattle.std.proofs.Common.{◌≡◌, ◌≤◌, map, length}
use Rattle.script_lang.specs.Words.{words}
use Rattle.script_lang.proofs.LineLaws.{and_words}
use Rattle.script_lang.proofs.words.words_in.Given as goal

abbrev pub invariant-loop-at : goal.invariant-loop-at
invariant-loop-at l = record {
  within : length l.rest ≤ length l.line;
  read : and_words (map (λ w. w.now) l.found.items) l.rest ≡ words l.line;
}

abbrev pub decreases-loop-at : goal.decreases-loop-at
decreases-loop-at l = length l.rest
