-- What a script is: its lines, and what each line says.
use Rattle.std.specs.Prelude.{◌≡◌, ℕ, ◌+◌, Bool, false, ◌==◌, nat_lt, List, [], ◌∷◌, ◌++◌, length, map, Option, Some, None, Result, Ok, Err, is_ok, if◌then◌else◌, codes, IsTrue}
use Rattle.std.specs.List.{list_all, find}
use Rattle.std.specs.Str.Lines.{lines}
use Rattle.cell_world.specs.Texts.{Text}
use Rattle.cell_world.specs.ByteOrder.{byte_eq}
use Rattle.plain_model.specs.declared.commands.Asked.{Asked}
use Rattle.plain_model.specs.declared.finish.Reason.{Reason}
use Rattle.plain_model.specs.declared.finish.Reason.TheVariants.{LongLine, BadByte, UnknownCommand, SessionLine}
use Rattle.script_lang.specs.declared.programs.Program.{Program}
use Rattle.script_lang.specs.declared.programs.Program.TheVariants.{Ctl, Mux}
use Rattle.script_lang.specs.declared.script_lines.Said.{Said}
use Rattle.script_lang.specs.declared.script_lines.Said.TheVariants as said
use Rattle.script_lang.specs.declared.scripts.TheConstants.{BUILT}
use Rattle.script_lang.specs.declared.scripts.ScriptFault.{ScriptFault}
use Rattle.script_lang.specs.declared.scripts.ScriptFault.TheVariants as fault
use Rattle.script_lang.specs.declared.verbs.Verb.{Verb}
use Rattle.script_lang.specs.Commands.{verb_word, word_kinds, verb_of, values_of, said_by}
use Rattle.script_lang.specs.Values.{Value, OfNumber}
use Rattle.script_lang.specs.WordKinds as kind
use Rattle.script_lang.specs.Words.{line_limit, is_line_byte, words}

-- the commands that are built so far, as the constant of src/scripts.rt lists them
abbrev pub built : List Verb
built = BUILT

-- ---- one line

-- what a line means
pub data Meaning : Type 0 where
  -- it is skipped
  Nothing : Meaning
  -- the commands after it belong to a session
  OfSession : List Value → Meaning
  -- a command
  Asks : Verb → List Value → Meaning

-- the meaning of a line by what was read of it
abbrev pub meaning_of : Said → Meaning
meaning_of said.Nothing = Nothing
meaning_of (said.Session number) = OfSession (OfNumber number ∷ [])
meaning_of (said.Command asked) = Asks (verb_of asked) (values_of asked)

-- the command in force whose first word this is
abbrev pub verb_in : List Verb → Text → Option Verb
verb_in verbs word = find (λ v. byte_eq (verb_word v) word) verbs

-- a comment begins with `#`
abbrev pub is_comment : Text → Bool
is_comment [] = false
is_comment (b ∷ bs) = b == 35

abbrev pub meant : (List Value → Meaning) → Result (List Value) Reason → Result Meaning Reason
meant make (Ok values) = Ok (make values)
meant make (Err reason) = Err reason

-- `session N`, in the program with sessions
abbrev pub session_means : Program → List Text → Result Meaning Reason
session_means Ctl words = Err SessionLine
session_means Mux words = meant OfSession (said_by (kind.Session ∷ []) words)

abbrev pub command_means : Option Verb → List Text → Result Meaning Reason
command_means None words = Err UnknownCommand
command_means (Some first) words = meant (Asks first) (said_by (word_kinds first) words)

abbrev pub words_mean : Program → List Verb → List Text → Result Meaning Reason
words_mean program in_force [] = Ok Nothing
words_mean program in_force (first ∷ words) =
    if is_comment first then Ok Nothing
    else if byte_eq first (codes "session") then session_means program words
    else command_means (verb_in in_force first) words

-- The meaning of a line, or why it is faulty, by the first reason that holds. Lines that are skipped have the first two reasons too.
unfoldable pub line_means : Program → List Verb → Text → Result Meaning Reason
line_means program in_force line =
    if nat_lt line_limit (length line) then Err LongLine
    else if list_all is_line_byte line then words_mean program in_force (words line)
    else Err BadByte

-- ---- all lines. A line ends with a line feed, and one carriage return directly before it is dropped; the last line may lack its end.

-- the commands, each with its session; commands before the first `session` line belong to session 1
abbrev pub asked_from : ℕ → List Said → List Asked
asked_from session [] = []
asked_from session (said.Nothing ∷ more) = asked_from session more
asked_from session (said.Session number ∷ more) = asked_from number more
asked_from session (said.Command command ∷ more) = record { session = session; command = command } ∷ asked_from session more

-- The bytes are a script, and these are its commands with their sessions.
pub record IsScript (program : Program) (in_force : List Verb) (bytes : Text) (asked : List Asked) : Type 0 where
  -- what each line says
  pub said : List Said
  pub each : map (line_means program in_force) (lines bytes) ≡ map (λ s. Ok (meaning_of s)) said
  pub commands : asked ≡ asked_from 1 said

-- The line of this number, counted from 1, is the first that is faulty, and this is why.
pub record IsFirstFaulty (program : Program) (in_force : List Verb) (bytes : Text) (number : ℕ) (reason : Reason) : Type 0 where
  -- the lines before it, the line, and those behind it
  pub before : List Text
  pub faulty : Text
  pub behind : List Text
  pub split : lines bytes ≡ before ++ faulty ∷ behind
  pub count : number ≡ length before + 1
  pub fine : IsTrue (list_all (λ line. is_ok (line_means program in_force line)) before)
  pub fault : line_means program in_force faulty ≡ Err reason

-- why a script wasn't read
abbrev pub IsScriptFault : Program → List Verb → Text → ScriptFault → Type 0
IsScriptFault program in_force bytes (fault.Line number reason) = IsFirstFaulty program in_force bytes number reason
IsScriptFault program in_force bytes fault.Memory = Unit {0}
