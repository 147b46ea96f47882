-- What a call does, and which commands are built.
use Rattle.std.specs.Prelude.{◌≡◌, ℕ, Bool, true, false, Result, Ok, Err}
use Rattle.cell_world.specs.Plain.{PlainState, Held}
use Rattle.cell_world.specs.declared.memory.Memory.{Memory}
use Rattle.plain_model.specs.declared.commands.Command.{Command}
use Rattle.plain_model.specs.declared.commands.Command.TheVariants as command
use Rattle.plain_model.specs.declared.replies.Reply.{Reply}
use Rattle.plain_model.specs.Steps.{plain_step, accepted}

-- The command makes the plain step and gets its reply, or for want of memory nothing changes.
abbrev pub Asks : PlainState → ℕ → Command → PlainState → Result Reply Memory → Type 0
Asks s session command t (Ok reply) = (held_then : Held) → plain_step held_then s session command ≡ (t, reply)
Asks s session command t (Err memory) = t ≡ s

-- The command, which isn't refused, does what the plain step does, or for want of memory nothing changes.
abbrev pub Accepts : PlainState → ℕ → Command → PlainState → Result Reply Memory → Type 0
Accepts s session command t (Ok reply) = (held_then : Held) → accepted held_then s session command ≡ (t, reply)
Accepts s session command t (Err memory) = t ≡ s

-- The command, which isn't refused, is answered as in the plain step, and changes nothing.
abbrev pub Answers : PlainState → ℕ → Command → Result Reply Memory → Type 0
Answers s session command result = Accepts s session command s result

-- `peek`, recovery and jobs are not built.
abbrev pub is_built : Command → Bool
is_built (command.Map name kind type) = true
is_built (command.Unmap name) = true
is_built (command.Shard name location) = true
is_built (command.Unshard name location) = true
is_built (command.Table name table) = true
is_built (command.Add name low high location) = true
is_built (command.Addpoint name key location) = true
is_built (command.Delete name key token) = true
is_built (command.Offline name key token) = true
is_built (command.Online name key token) = true
is_built (command.Move name key location token) = true
is_built (command.Split name key token) = true
is_built (command.Merge name key token) = true
is_built (command.Lock name key token) = true
is_built (command.Unlock name key token) = true
is_built (command.Find name key) = true
is_built (command.List name) = true
is_built (command.Shards name) = true
is_built (command.Open number name key) = true
is_built (command.Close number) = true
is_built (command.Put number table id bytes) = true
is_built (command.Get number table id) = true
is_built (command.Del number table id) = true
is_built (command.Peek name key) = false
is_built (command.Detach location) = false
is_built (command.Attach location) = false
is_built (command.Differences location name) = false
is_built (command.Resolve location name number side) = false
is_built (command.Discard location) = false
is_built (command.Clear location) = false
is_built (command.Job name low high location batch) = false
is_built (command.Step number) = false
is_built (command.Run number) = false
