-- A core goes on over what its world tells.
use Rattle.std.specs.Prelude.{List, [], ◌∷◌, ◌++◌}
use Rattle.cell_world.specs.Texts.{Text}
use Rattle.cell_world.specs.Outside.{Told}
use Rattle.plain_model.specs.Written.{Mode}
use Rattle.plain_model.specs.declared.history.Entry.{Entry}
use Rattle.session_laws.specs.Doing.{AllDoing}
use Rattle.session_laws.specs.Contract.{Seen, KeepsCore, KeepsCoreTo}

-- the sessions do this next, and no entry came
abbrev pub with_doing : Seen → AllDoing → Seen
with_doing seen next = record { history = seen.history; doing = next; connections = seen.connections }

-- an entry came
abbrev pub with_entry : Seen → Entry → AllDoing → Seen
with_entry seen e next = record { history = seen.history ++ e ∷ []; doing = next; connections = seen.connections }

-- Whatever the core was with these parts, on its trail or by its contents, it goes on with those, and these lines are still to be written.
pub record Leads (mode : Mode) (old new : Told) (before after : Seen) (rest : Text) : Type 0 where
  -- on its trail
  pub keeps : KeepsCore mode old before new after rest
  -- by its contents
  pub keeps_to : KeepsCoreTo old before new after
