use Rattle.std.proofs.Common.{◌≡◌, ◌++◌, map, take}
use Rattle.std.specs.List.{flat_map}
use Rattle.plain_model.specs.Lines.{whole_line, difference_line}
use Rattle.script_lang.proofs.replies.add_differences.Given as goal

abbrev pub invariant-loop-difference : goal.invariant-loop-difference
invariant-loop-difference l = l.lines.items ≡ l.initial.lines.items ++ flat_map (whole_line l.tag) (map (difference_line l.keys) (take l.difference-index l.differences))
