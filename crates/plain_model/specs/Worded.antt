-- Which values of the words of a command a script can spell.
use Rattle.std.specs.Prelude.{ℕ, ◌^◌, Bool, true, ◌&&◌, not, nat_le, length, codes, Option, Some, None}
use Rattle.cell_world.specs.Keys.{same}
use Rattle.cell_world.specs.declared.limits.TheConstants.{ROW_BYTES, BATCH_ROWS}
use Rattle.cell_world.specs.declared.cells.Token.{Token}
use Rattle.plain_model.specs.declared.commands.HighText.{HighText}
use Rattle.plain_model.specs.declared.commands.HighText.TheVariants as word
use Rattle.plain_model.specs.declared.commands.Command.{Command}
use Rattle.plain_model.specs.declared.commands.Command.TheVariants as command

-- A token below 2^64 is a job's, and no word.
abbrev pub is_token_word : Token → Bool
is_token_word token = nat_le (2 ^ 64) token.0

abbrev pub is_optional_token : Option Token → Bool
is_optional_token None = true
is_optional_token (Some token) = is_token_word token

-- the number of a connection
abbrev pub is_connection_word : ℕ → Bool
is_connection_word number = nat_le 1 number && nat_le number 64

-- `max` as an end is the unbounded one
abbrev pub is_high_word : HighText → Bool
is_high_word (word.At text) = not (same text (codes "max"))
is_high_word word.Max = true

-- Each word of the command is in its grammar. Names, locations and keys are so by their types.
abbrev pub is_worded : Command → Bool
is_worded (command.Add name low high location) = is_high_word high
is_worded (command.Delete name key token) = is_optional_token token
is_worded (command.Offline name key token) = is_optional_token token
is_worded (command.Online name key token) = is_optional_token token
is_worded (command.Move name key location token) = is_optional_token token
is_worded (command.Split name key token) = is_optional_token token
is_worded (command.Merge name key token) = is_optional_token token
is_worded (command.Lock name key token) = is_token_word token
is_worded (command.Unlock name key token) = is_token_word token
is_worded (command.Open number name key) = is_connection_word number
is_worded (command.Close number) = is_connection_word number
is_worded (command.Put number table id bytes) = is_connection_word number && nat_le (length bytes) ROW_BYTES
is_worded (command.Get number table id) = is_connection_word number
is_worded (command.Del number table id) = is_connection_word number
is_worded (command.Resolve location name number side) = nat_le 1 number
is_worded (command.Job name low high location batch) = is_high_word high && (nat_le 1 batch && nat_le batch BATCH_ROWS)
is_worded (command.Step number) = nat_le 1 number
is_worded (command.Run number) = nat_le 1 number
is_worded other = true
