-- What is seen of a core where somebody is connected.
use Rattle.std.specs.Prelude.{List, [], ◌∷◌, ◌++◌}
use Rattle.cell_world.specs.Plain.{Connections}
use Rattle.plain_model.specs.declared.history.Entry.{Entry}
use Rattle.session_laws.specs.Doing.{AllDoing}
use Rattle.session_laws.specs.Contract.{Seen}

-- these entries came, the sessions do this, and these are connected
abbrev pub seen_of : List Entry → AllDoing → Connections → Seen
seen_of history doing connections = record { history = history; doing = doing; connections = connections }

-- an entry came, the sessions do this next, and these are connected then
abbrev pub answered_with : Seen → Entry → AllDoing → Connections → Seen
answered_with seen e next still = record { history = seen.history ++ e ∷ []; doing = next; connections = still }
