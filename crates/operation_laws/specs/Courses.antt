-- What came of a call, on a timeline.
use Rattle.std.specs.Prelude.{List, [], ◌∷◌}
use Rattle.cell_world.specs.Images.{Happening}
use Rattle.plain_model.specs.Timelines.{Timeline, Happened}

-- these things happened, one after another
abbrev pub happened_on : Timeline → List Happening → Timeline
happened_on past [] = past
happened_on past (h ∷ hs) = happened_on (Happened h ∷ past) hs
