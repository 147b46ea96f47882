use Rattle.std.proofs.Common.{◌≡◌, ◌++◌, take}
use Rattle.std.specs.List.{flat_map}
use Rattle.plain_model.specs.Lines.{whole_line}
use Rattle.script_lang.proofs.replies.add_locations.Given as goal

abbrev pub invariant-loop-location : goal.invariant-loop-location
invariant-loop-location l = l.lines.items ≡ l.initial.lines.items ++ flat_map (whole_line l.tag) (take l.location-index l.locations)
