use Rattle.script_lang.proofs.LocationLaws.{Taken}
use Rattle.script_lang.proofs.command_line.read_locations.Given as goal

abbrev pub invariant-loop-word : goal.invariant-loop-word
invariant-loop-word l = Taken l.words l.word-index l.found
