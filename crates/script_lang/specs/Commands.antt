-- The grammar of commands: the first word of each, and the kinds of the words behind it, in order.
use Rattle.std.specs.Prelude.{◌≡◌, ℕ, ◌+◌, Bool, ◌&&◌, nat_le, List, [], ◌∷◌, length, Option, Some, None, Result, Ok, Err, if◌then◌else◌, codes}
use Rattle.cell_world.specs.Texts.{Text}
use Rattle.cell_world.specs.declared.cells.Token.{Token}
use Rattle.plain_model.specs.declared.commands.Command.{Command}
use Rattle.plain_model.specs.declared.commands.Command.TheVariants as command
use Rattle.plain_model.specs.declared.finish.Reason.{Reason}
use Rattle.plain_model.specs.declared.finish.Reason.TheVariants.{BadCount, BadWord}
use Rattle.script_lang.specs.declared.verbs.Verb.{Verb}
use Rattle.script_lang.specs.declared.verbs.Verb.TheVariants as verb
use Rattle.script_lang.specs.Spelling.{value_of}
use Rattle.script_lang.specs.Values.{Value, OfBytes, OfKind, OfType, OfHigh, OfToken, OfNumber, OfSide}
use Rattle.script_lang.specs.WordKinds.{WordKind, Name, Location, MapKind, KeyType, Key, High, MaybeToken, Connection, RowNumber, RowValue, Number, Side, Batch}
use Rattle.script_lang.specs.WordKinds as kind

-- ---- the table

-- the first word
abbrev pub verb_word : Verb → Text
verb_word verb.Map = codes "map"
verb_word verb.Unmap = codes "unmap"
verb_word verb.Shard = codes "shard"
verb_word verb.Unshard = codes "unshard"
verb_word verb.Table = codes "table"
verb_word verb.Add = codes "add"
verb_word verb.Addpoint = codes "addpoint"
verb_word verb.Delete = codes "delete"
verb_word verb.Offline = codes "offline"
verb_word verb.Online = codes "online"
verb_word verb.Move = codes "move"
verb_word verb.Split = codes "split"
verb_word verb.Merge = codes "merge"
verb_word verb.Lock = codes "lock"
verb_word verb.Unlock = codes "unlock"
verb_word verb.Find = codes "find"
verb_word verb.List = codes "list"
verb_word verb.Shards = codes "shards"
verb_word verb.Open = codes "open"
verb_word verb.Close = codes "close"
verb_word verb.Put = codes "put"
verb_word verb.Get = codes "get"
verb_word verb.Del = codes "del"
verb_word verb.Peek = codes "peek"
verb_word verb.Detach = codes "detach"
verb_word verb.Attach = codes "attach"
verb_word verb.Differences = codes "differences"
verb_word verb.Resolve = codes "resolve"
verb_word verb.Discard = codes "discard"
verb_word verb.Clear = codes "clear"
verb_word verb.Job = codes "job"
verb_word verb.Step = codes "step"
verb_word verb.Run = codes "run"

-- the words behind it
abbrev pub word_kinds : Verb → List WordKind
word_kinds verb.Map = Name ∷ MapKind ∷ KeyType ∷ []
word_kinds verb.Unmap = Name ∷ []
word_kinds verb.Shard = Name ∷ Location ∷ []
word_kinds verb.Unshard = Name ∷ Location ∷ []
word_kinds verb.Table = Name ∷ Name ∷ []
word_kinds verb.Add = Name ∷ Key ∷ High ∷ Location ∷ []
word_kinds verb.Addpoint = Name ∷ Key ∷ Location ∷ []
word_kinds verb.Delete = Name ∷ Key ∷ MaybeToken ∷ []
word_kinds verb.Offline = Name ∷ Key ∷ MaybeToken ∷ []
word_kinds verb.Online = Name ∷ Key ∷ MaybeToken ∷ []
word_kinds verb.Move = Name ∷ Key ∷ Location ∷ MaybeToken ∷ []
word_kinds verb.Split = Name ∷ Key ∷ MaybeToken ∷ []
word_kinds verb.Merge = Name ∷ Key ∷ MaybeToken ∷ []
word_kinds verb.Lock = Name ∷ Key ∷ kind.Token ∷ []
word_kinds verb.Unlock = Name ∷ Key ∷ kind.Token ∷ []
word_kinds verb.Find = Name ∷ Key ∷ []
word_kinds verb.List = Name ∷ []
word_kinds verb.Shards = Name ∷ []
word_kinds verb.Open = Connection ∷ Name ∷ Key ∷ []
word_kinds verb.Close = Connection ∷ []
word_kinds verb.Put = Connection ∷ Name ∷ RowNumber ∷ RowValue ∷ []
word_kinds verb.Get = Connection ∷ Name ∷ RowNumber ∷ []
word_kinds verb.Del = Connection ∷ Name ∷ RowNumber ∷ []
word_kinds verb.Peek = Name ∷ Key ∷ []
word_kinds verb.Detach = Location ∷ []
word_kinds verb.Attach = Location ∷ []
word_kinds verb.Differences = Location ∷ Name ∷ []
word_kinds verb.Resolve = Location ∷ Name ∷ Number ∷ Side ∷ []
word_kinds verb.Discard = Location ∷ []
word_kinds verb.Clear = Location ∷ []
word_kinds verb.Job = Name ∷ Key ∷ High ∷ Location ∷ Batch ∷ []
word_kinds verb.Step = Number ∷ []
word_kinds verb.Run = Number ∷ []

-- ---- commands

abbrev pub verb_of : Command → Verb
verb_of (command.Map name kind type) = verb.Map
verb_of (command.Unmap name) = verb.Unmap
verb_of (command.Shard name location) = verb.Shard
verb_of (command.Unshard name location) = verb.Unshard
verb_of (command.Table name table) = verb.Table
verb_of (command.Add name low high location) = verb.Add
verb_of (command.Addpoint name key location) = verb.Addpoint
verb_of (command.Delete name key token) = verb.Delete
verb_of (command.Offline name key token) = verb.Offline
verb_of (command.Online name key token) = verb.Online
verb_of (command.Move name key location token) = verb.Move
verb_of (command.Split name key token) = verb.Split
verb_of (command.Merge name key token) = verb.Merge
verb_of (command.Lock name key token) = verb.Lock
verb_of (command.Unlock name key token) = verb.Unlock
verb_of (command.Find name key) = verb.Find
verb_of (command.List name) = verb.List
verb_of (command.Shards name) = verb.Shards
verb_of (command.Open number name key) = verb.Open
verb_of (command.Close number) = verb.Close
verb_of (command.Put number table row bytes) = verb.Put
verb_of (command.Get number table row) = verb.Get
verb_of (command.Del number table row) = verb.Del
verb_of (command.Peek name key) = verb.Peek
verb_of (command.Detach location) = verb.Detach
verb_of (command.Attach location) = verb.Attach
verb_of (command.Differences location name) = verb.Differences
verb_of (command.Resolve location name number side) = verb.Resolve
verb_of (command.Discard location) = verb.Discard
verb_of (command.Clear location) = verb.Clear
verb_of (command.Job name low high location batch) = verb.Job
verb_of (command.Step number) = verb.Step
verb_of (command.Run number) = verb.Run

-- a token, where there is one
abbrev pub then_token : Option Token → List Value
then_token None = []
then_token (Some token) = OfToken token ∷ []

-- what the words behind the first say, in order
abbrev pub values_of : Command → List Value
values_of (command.Map name kind type) = OfBytes name ∷ OfKind kind ∷ OfType type ∷ []
values_of (command.Unmap name) = OfBytes name ∷ []
values_of (command.Shard name location) = OfBytes name ∷ OfBytes location ∷ []
values_of (command.Unshard name location) = OfBytes name ∷ OfBytes location ∷ []
values_of (command.Table name table) = OfBytes name ∷ OfBytes table ∷ []
values_of (command.Add name low high location) = OfBytes name ∷ OfBytes low ∷ OfHigh high ∷ OfBytes location ∷ []
values_of (command.Addpoint name key location) = OfBytes name ∷ OfBytes key ∷ OfBytes location ∷ []
values_of (command.Delete name key token) = OfBytes name ∷ OfBytes key ∷ then_token token
values_of (command.Offline name key token) = OfBytes name ∷ OfBytes key ∷ then_token token
values_of (command.Online name key token) = OfBytes name ∷ OfBytes key ∷ then_token token
values_of (command.Move name key location token) = OfBytes name ∷ OfBytes key ∷ OfBytes location ∷ then_token token
values_of (command.Split name key token) = OfBytes name ∷ OfBytes key ∷ then_token token
values_of (command.Merge name key token) = OfBytes name ∷ OfBytes key ∷ then_token token
values_of (command.Lock name key token) = OfBytes name ∷ OfBytes key ∷ OfToken token ∷ []
values_of (command.Unlock name key token) = OfBytes name ∷ OfBytes key ∷ OfToken token ∷ []
values_of (command.Find name key) = OfBytes name ∷ OfBytes key ∷ []
values_of (command.List name) = OfBytes name ∷ []
values_of (command.Shards name) = OfBytes name ∷ []
values_of (command.Open number name key) = OfNumber number ∷ OfBytes name ∷ OfBytes key ∷ []
values_of (command.Close number) = OfNumber number ∷ []
values_of (command.Put number table row bytes) = OfNumber number ∷ OfBytes table ∷ OfNumber row ∷ OfBytes bytes ∷ []
values_of (command.Get number table row) = OfNumber number ∷ OfBytes table ∷ OfNumber row ∷ []
values_of (command.Del number table row) = OfNumber number ∷ OfBytes table ∷ OfNumber row ∷ []
values_of (command.Peek name key) = OfBytes name ∷ OfBytes key ∷ []
values_of (command.Detach location) = OfBytes location ∷ []
values_of (command.Attach location) = OfBytes location ∷ []
values_of (command.Differences location name) = OfBytes location ∷ OfBytes name ∷ []
values_of (command.Resolve location name number side) = OfBytes location ∷ OfBytes name ∷ OfNumber number ∷ OfSide side ∷ []
values_of (command.Discard location) = OfBytes location ∷ []
values_of (command.Clear location) = OfBytes location ∷ []
values_of (command.Job name low high location batch) = OfBytes name ∷ OfBytes low ∷ OfHigh high ∷ OfBytes location ∷ OfNumber batch ∷ []
values_of (command.Step number) = OfNumber number ∷ []
values_of (command.Run number) = OfNumber number ∷ []

-- ---- what words behind the first say

-- how many of these words must be there
abbrev pub least_count : List WordKind → ℕ
least_count [] = 0
least_count (MaybeToken ∷ kinds) = least_count kinds
least_count (kind ∷ kinds) = 1 + least_count kinds

-- neither too few words nor too many
abbrev pub has_count : List WordKind → List Text → Bool
has_count kinds words = nat_le (least_count kinds) (length words) && nat_le (length words) (length kinds)

-- the value of the word of this number, before those of the words behind it
abbrev pub and_value : ℕ → Option Value → Result (List Value) Reason → Result (List Value) Reason
and_value number None more = Err (BadWord number)
and_value number (Some value) (Err reason) = Err reason
and_value number (Some value) (Ok values) = Ok (value ∷ values)

-- each word in turn, the first of them being the word of this number
abbrev pub values_from : ℕ → List WordKind → List Text → Result (List Value) Reason
values_from number kinds [] = Ok []
values_from number [] (word ∷ words) = Ok []
values_from number (kind ∷ kinds) (word ∷ words) = and_value number (value_of kind word) (values_from (number + 1) kinds words)

-- The words behind a first word say these values; or they are too few or too many; or the word of a number, counted from 1 with the first word, is the first that isn't in its grammar.
abbrev pub said_by : List WordKind → List Text → Result (List Value) Reason
said_by kinds words = if has_count kinds words then values_from 2 kinds words else Err BadCount

-- the words behind a verb are a command
pub record IsCommand (first : Verb) (words : List Text) (asked : Command) : Type 0 where
  pub verb : verb_of asked ≡ first
  pub values : said_by (word_kinds first) words ≡ Ok (values_of asked)
