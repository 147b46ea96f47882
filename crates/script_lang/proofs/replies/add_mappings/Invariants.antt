use Rattle.std.proofs.Common.{◌≡◌, ◌++◌, map, take}
use Rattle.std.specs.List.{flat_map}
use Rattle.plain_model.specs.Lines.{whole_line, mapping_line}
use Rattle.script_lang.proofs.replies.add_mappings.Given as goal

abbrev pub invariant-loop-piece : goal.invariant-loop-piece
invariant-loop-piece l = l.lines.items ≡ l.initial.lines.items ++ flat_map (whole_line l.tag) (map (mapping_line l.keys) (take l.piece-index l.pieces))
