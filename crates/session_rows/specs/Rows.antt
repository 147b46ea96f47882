-- What row commands answer, and what they do to the stores.
use Rattle.std.specs.Prelude.{◌≡◌, ◌⊎◌, ℕ, Bool, true, List, [], ◌∷◌, Option, Some, None, IfSome, Result, Ok, Err, option_map, MatchOption}
use Rattle.std.specs.FinMap as map
use Rattle.cell_world.specs.Texts.{Text}
use Rattle.cell_world.specs.Stores.{changed}
use Rattle.cell_world.specs.Images.{Image, Shard, Happening, Committed, global, with_store}
use Rattle.cell_world.specs.Meaning.{meaning}
use Rattle.cell_world.specs.Outside.{Told, told_after}
use Rattle.cell_world.specs.Plain.{PlainState, Connection, Connections, Held}
use Rattle.cell_world.specs.Sound.{Sound}
use Rattle.cell_world.specs.declared.cells.Cell.TheVariants as cell
use Rattle.cell_world.specs.declared.cells.CellKey.TheVariants as at
use Rattle.cell_world.specs.declared.changes.Edit.{Edit}
use Rattle.cell_world.specs.declared.changes.Edit.TheVariants.{Put, Delete}
use Rattle.global_tables.specs.Known.{Known, known_of}
use Rattle.plain_model.specs.Refusing.{Check, refusal, first_refusal, no_connection, ended, no_table, row_of}
use Rattle.plain_model.specs.ShortCommands.{is_short_refusal, standing_with}
use Rattle.plain_model.specs.Steps.{plain_step}
use Rattle.plain_model.specs.declared.commands.Command.{Command}
use Rattle.plain_model.specs.declared.commands.Command.TheVariants as command
use Rattle.plain_model.specs.declared.replies.Refusal.{Refusal}
use Rattle.plain_model.specs.declared.replies.Refusal.TheVariants.{Absent, Ended, NoConnection, NoTable}
use Rattle.plain_model.specs.declared.replies.Reply.{Reply}
use Rattle.plain_model.specs.declared.replies.Reply.TheVariants as reply
use Rattle.connections.specs.Links.{connection, IsOwned}
use Rattle.connections.specs.declared.links.Link.{Link}
use Rattle.session_rows.specs.declared.stops.RowStop.{RowStop}
use Rattle.session_rows.specs.declared.stops.RowStop.TheVariants as stop

-- the connection that a session's table has, if it has one
abbrev pub linked : Option Link → Option Connection
linked link = option_map connection link

-- ---- one transaction, at the connection's site

-- the row of this table and number under the connection's key is put, or deleted
abbrev pub put_change : Text → ℕ → Text → Connection → List Edit
put_change table id bytes c = Put (cell.Row (row_of c table id) bytes) ∷ []

abbrev pub delete_change : Text → ℕ → Connection → List Edit
delete_change table id c = Delete (at.Row (row_of c table id)) ∷ []

-- the commit of a change at a location
abbrev pub commit_at : Text → List Edit → Bool → Happening
commit_at location change took = Committed (Shard location) change took

-- the image once the change was made there
abbrev pub changed_at : Image → Text → List Edit → Image
changed_at image location change = with_store image (Shard location) (changed (image.at (Shard location)) change)

-- ---- what is told

-- The change was made; where the store refused, made or not; else not.
abbrev pub TellsChange : Told → Told → Text → List Edit → Result (Unit {0}) RowStop → Type 0
TellsChange old new location change (Ok done) = new ≡ told_after old (commit_at location change true)
TellsChange old new location change (Err stop.Store) = (took : Bool) × (new ≡ told_after old (commit_at location change took))
TellsChange old new location change (Err stop.Memory) = new ≡ old
TellsChange old new location change (Err (stop.Refused r)) = new ≡ old

-- So it is of a connection's change. Without a connection nothing happened.
abbrev pub TellsPut : Told → Told → Option Connection → (Connection → List Edit) → Result (Unit {0}) RowStop → Type 0
TellsPut old new c change result = MatchOption c (new ≡ old) (λ c. TellsChange old new c.location (change c) result)

-- Or the store refused before the change was tried.
abbrev pub TellsDelete : Told → Told → Option Connection → (Connection → List Edit) → Result (Unit {0}) RowStop → Type 0
TellsDelete old new c change result = TellsPut old new c change result ⊎ ((result ≡ Err stop.Store) × (new ≡ old))

-- ---- what is answered

-- What the answers rest on: the image is sound, the copy of its tables is theirs, and a live connection's key is owned by its location.
pub record IsBase (known : Known) (c : Option Connection) (image : Image) : Type 0 where
  pub sound : Sound image
  pub copy : known ≡ known_of (global image)
  pub owned : IfSome c (λ c. c.live ≡ true → IsOwned (meaning image) c)

-- a command, by the number of its connection
abbrev pub Numbered : Type 0
Numbered = ℕ → Command

abbrev pub put_command : Text → ℕ → Text → Numbered
put_command table id bytes number = command.Put number table id bytes

abbrev pub get_command : Text → ℕ → Numbered
get_command table id number = command.Get number table id

abbrev pub delete_command : Text → ℕ → Numbered
delete_command table id number = command.Del number table id

-- What the command table says to the command: for every session that has this connection, or none, at the number, whoever else is connected.
abbrev pub Refuses : Numbered → Option Connection → Option Refusal → Image → Type 0
Refuses command c refused image = (session number : ℕ) (connections : Connections) → connections session number ≡ c → refusal (standing_with image connections) session (command number) ≡ refused

-- The command of a session that has this connection at the number is done: from the one image to the other, which is sound, and with this answer, as the plain step does it, whoever else is connected.
pub record DoesRow (session number : ℕ) (command : Command) (c : Connection) (image after : Image) (answer : Reply) : Type 0 where
  pub sound : Sound after
  pub does : (held : Held) (connections : Connections) → connections session number ≡ Some c → plain_step held (standing_with image connections) session command ≡ (standing_with after connections, answer)

-- So it is done for every session and number.
abbrev pub Does : Numbered → Option Connection → Image → (Connection → Image) → Reply → Type 0
Does command None image after answer = ⊥
Does command (Some c) image after answer = (session number : ℕ) → DoesRow session number (command number) c image (after c) answer

-- What a row command is answered. What is done leaves an image, which the connection says, and has a reply, which the call's value says.
abbrev pub Answers : {T : Type 0} → Numbered → Option Connection → (Image → Connection → Image) → (T → Reply) → Result T RowStop → Image → Type 0
Answers command c after answer (Ok value) image = Refuses command c None image × Does command c image (after image) (answer value)
Answers command c after answer (Err (stop.Refused r)) image = Refuses command c (Some r) image
Answers command c after answer (Err stop.Store) image = Unit {0}
Answers command c after answer (Err stop.Memory) image = Unit {0}

-- The change is made, and the reply is `ok`.
abbrev pub AnswersChange : Known → Numbered → Option Connection → (Connection → List Edit) → Result (Unit {0}) RowStop → Image → Type 0
AnswersChange known command c change result image = IsBase known c image → Answers command c (λ image c. changed_at image c.location (change c)) (λ done. reply.Ok) result image

-- Nothing is made, and the reply is the row.
abbrev pub AnswersRow : Known → Numbered → Option Connection → Result Text RowStop → Image → Type 0
AnswersRow known command c result image = IsBase known c image → Answers command c (λ image c. image) reply.Row result image

-- ---- whatever is told

-- a refusal is one word
abbrev pub IsShortStop : RowStop → Type 0
IsShortStop (stop.Refused r) = is_short_refusal r ≡ true
IsShortStop stop.Store = Unit {0}
IsShortStop stop.Memory = Unit {0}

-- it is one of the refusals that ask for no row
abbrev pub IsOfLink : Refusal → Type 0
IsOfLink r = (r ≡ NoConnection) ⊎ ((r ≡ Ended) ⊎ (r ≡ NoTable))

-- no store was asked: the command is refused by one of them, or there is no memory
abbrev pub AsksNoStore : {T : Type 0} → Result T RowStop → Type 0
AsksNoStore (Ok value) = ⊥
AsksNoStore (Err (stop.Refused r)) = IsOfLink r
AsksNoStore (Err stop.Store) = ⊥
AsksNoStore (Err stop.Memory) = Unit {0}

-- ---- the steps of a row command

-- its first checks, which ask for no row
abbrev pub link_checks : PlainState → Option Connection → Text → List Check
link_checks s c table = no_connection c ∷ ended c ∷ no_table s c table ∷ []

-- what they say on whatever image of which this is the copy
abbrev pub LinkRefuses : Known → Option Connection → Text → Option Refusal → Type 0
LinkRefuses known c table refused = (image : Image) → known ≡ known_of (global image) → first_refusal (link_checks (meaning image) c table) ≡ refused

-- The command goes by this link; or one of them refuses it.
abbrev pub GoesBy : Known → Option Link → Text → Result Link Refusal → Type 0
GoesBy known link table (Ok l) = (link ≡ Some l) × LinkRefuses known (linked link) table None
GoesBy known link table (Err r) = IsOfLink r × LinkRefuses known (linked link) table (Some r)

-- What a read of a row finds, where its connection is owned: the bytes that the plain state has; or the row isn't there.
abbrev pub FindsRow : Connection → Text → ℕ → Result Text RowStop → Image → Type 0
FindsRow c table id (Ok bytes) image = IsOwned (meaning image) c → map.get (meaning image).rows (row_of c table id) ≡ Some bytes
FindsRow c table id (Err (stop.Refused r)) image = (r ≡ Absent) × (IsOwned (meaning image) c → map.get (meaning image).rows (row_of c table id) ≡ None)
FindsRow c table id (Err stop.Store) image = Unit {0}
FindsRow c table id (Err stop.Memory) image = Unit {0}

-- no refusal
abbrev pub IsFault : RowStop → Type 0
IsFault (stop.Refused r) = ⊥
IsFault stop.Store = Unit {0}
IsFault stop.Memory = Unit {0}

-- no refusal but that the row isn't there
abbrev pub IsAbsentOrFault : RowStop → Type 0
IsAbsentOrFault (stop.Refused r) = r ≡ Absent
IsAbsentOrFault stop.Store = Unit {0}
IsAbsentOrFault stop.Memory = Unit {0}
