-- What an answer does to the stores, and its lines.
use Rattle.std.specs.Prelude.{◌≡◌, ℕ, Bool, true, List, Option, Some, None, Result, Ok, Err, take}
use Rattle.std.specs.FinMap as map
use Rattle.cell_world.specs.Texts.{Text}
use Rattle.cell_world.specs.Images.{Image, Wrote, global}
use Rattle.cell_world.specs.Outside.{Told, IfContents, told_after}
use Rattle.cell_world.specs.declared.changes.Edit.{Edit}
use Rattle.cell_world.specs.declared.outside.WorldError.{WorldError}
use Rattle.cell_world.specs.declared.outside.WorldError.TheVariants as error
use Rattle.global_tables.specs.Known.{Known, known_of}
use Rattle.plain_model.specs.declared.replies.Reply.{Reply}
use Rattle.plain_model.specs.declared.replies.Reply.TheVariants as reply
use Rattle.plain_model.specs.Lines.{reply_lines}
use Rattle.plain_model.specs.ShortCommands.{short_commit}

-- no operation is logged
abbrev pub NoLog : Image → Type 0
NoLog image = (number : ℕ) → map.get (global image).log number ≡ None

-- ---- the stores

-- what the putting of a change does: it is made; or it is made or not; or it isn't
abbrev pub CommitsChange : Told → Told → List Edit → Result (Unit {0}) WorldError → Type 0
CommitsChange old new change (Ok done) = new ≡ told_after old (short_commit change true)
CommitsChange old new change (Err error.Failed) = (took : Bool) × (new ≡ told_after old (short_commit change took))
CommitsChange old new change (Err error.Memory) = new ≡ old

-- ---- the copy of the tables

-- it is what the global cells say, where contents are told
abbrev pub IsCopy : Known → Told → Type 0
IsCopy known told = IfContents told (λ image. known ≡ known_of (global image))

-- ---- the lines

-- they are those of the reply, or of `memory`, whose lines are constants
abbrev pub AreLines : Option ℕ → Reply → Option Text → Type 0
AreLines tag r None = r ≡ reply.Memory
AreLines tag r (Some lines) = lines ≡ reply_lines tag r

-- what the writing of bytes does: all are written; or a front of them; or none
abbrev pub WritesText : Told → Told → Text → Result (Unit {0}) WorldError → Type 0
WritesText old new text (Ok done) = new ≡ told_after old (Wrote text)
WritesText old new text (Err error.Failed) = (n : ℕ) × (new ≡ told_after old (Wrote (take n text)))
WritesText old new text (Err error.Memory) = new ≡ old
