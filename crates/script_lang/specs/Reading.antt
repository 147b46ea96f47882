-- What is known of a word that was read, and of one that was refused.
use Rattle.std.specs.Prelude.{◌≡◌, ℕ, Some, None, Result, Err}
use Rattle.cell_world.specs.Texts.{Text}
use Rattle.plain_model.specs.declared.finish.Reason.{Reason}
use Rattle.plain_model.specs.declared.finish.Reason.TheVariants.{BadWord}
use Rattle.script_lang.specs.declared.scripts.ScriptFault.{ScriptFault}
use Rattle.script_lang.specs.declared.scripts.ScriptFault.TheVariants as fault
use Rattle.script_lang.specs.declared.stops.LineStop.{LineStop}
use Rattle.script_lang.specs.declared.stops.LineStop.TheVariants as stop
use Rattle.script_lang.specs.Spelling.{value_of}
use Rattle.script_lang.specs.Values.{Value}
use Rattle.script_lang.specs.WordKinds.{WordKind}

-- the word says the value
abbrev pub IsRead : WordKind → Text → Value → Type 0
IsRead kind word value = value_of kind word ≡ Some value

-- the word of this number is in no such grammar
abbrev pub IsUnread : WordKind → Text → ℕ → Reason → Type 0
IsUnread kind word number reason = (reason ≡ BadWord number) × (value_of kind word ≡ None)

-- the same, or want of memory
abbrev pub IsUnreadFor : WordKind → Text → ℕ → LineStop → Type 0
IsUnreadFor kind word number (stop.Faulty reason) = IsUnread kind word number reason
IsUnreadFor kind word number stop.Memory = Unit {0}

-- what keeps words from saying something
abbrev pub IsStop : {A : Type 0} → Result A Reason → LineStop → Type 0
IsStop said (stop.Faulty reason) = said ≡ Err reason
IsStop said stop.Memory = Unit {0}

-- the fault of a script whose line of this number isn't taken
abbrev pub fault_at : ℕ → LineStop → ScriptFault
fault_at number (stop.Faulty reason) = fault.Line number reason
fault_at number stop.Memory = fault.Memory
