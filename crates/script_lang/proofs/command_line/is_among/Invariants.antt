use Rattle.std.proofs.Common.{◌≡◌, drop}
use Rattle.cell_world.specs.Keys.{is_among}
use Rattle.script_lang.proofs.command_line.is_among.Given as goal

abbrev pub invariant-loop-location : goal.invariant-loop-location
invariant-loop-location l = is_among (drop l.location-index l.locations) l.word ≡ is_among l.locations l.word
