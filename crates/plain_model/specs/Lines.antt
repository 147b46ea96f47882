-- The lines of replies, and those of a history.
use Rattle.std.specs.Prelude.{ℕ, Bool, true, false, List, [], ◌∷◌, ◌++◌, length, map, Option, Some, None, flat_map, codes, decimal}
use Rattle.cell_world.specs.Texts.{Text}
use Rattle.cell_world.specs.declared.operations.Piece.{Piece}
use Rattle.cell_world.specs.declared.cells.KeyType.{KeyType}
use Rattle.cell_world.specs.declared.cells.Token.{Token}
use Rattle.cell_world.specs.declared.cells.Status.{Status}
use Rattle.cell_world.specs.declared.cells.Status.TheVariants as status
use Rattle.cell_world.specs.declared.spans.High.{High}
use Rattle.cell_world.specs.declared.spans.High.TheVariants as high
use Rattle.cell_world.specs.declared.spans.Span.{Span}
use Rattle.cell_world.specs.declared.spans.Span.TheVariants.{Range, Point}
use Rattle.plain_model.specs.declared.finish.Reason.{Reason}
use Rattle.plain_model.specs.declared.finish.Reason.TheVariants as reason
use Rattle.plain_model.specs.declared.finish.RunStatus.{RunStatus}
use Rattle.plain_model.specs.declared.finish.RunStatus.TheVariants as run
use Rattle.plain_model.specs.declared.history.Entry.{Entry}
use Rattle.plain_model.specs.declared.replies.Label.{Label}
use Rattle.plain_model.specs.declared.replies.Label.TheVariants as label
use Rattle.plain_model.specs.declared.replies.Difference.{Difference}
use Rattle.plain_model.specs.declared.replies.Reply.{Reply}
use Rattle.plain_model.specs.declared.replies.Reply.TheVariants as reply
use Rattle.plain_model.specs.declared.replies.Refusal.{Refusal}
use Rattle.plain_model.specs.declared.replies.Refusal.TheVariants as refused
use Rattle.cell_world.specs.KeyPrinting.{key_text, token_text, bytes_text}

-- ---- words

-- ` ` and a word
abbrev pub then_word : Text → Text
then_word word = 32 ∷ word

abbrev pub status_word : Status → Text
status_word status.Online = codes "online"
status_word status.Offline = codes "offline"

-- a status, or `-` where there is none
abbrev pub status_or_dash : Option Status → Text
status_or_dash None = codes "-"
status_or_dash (Some status) = status_word status

-- an end; the unbounded one is `max`
abbrev pub high_word : KeyType → High → Text
high_word type (high.At key) = key_text type key
high_word type high.Max = codes "max"

-- `LOW HIGH` of a range, `KEY` of a point
abbrev pub span_words : KeyType → Span → Text
span_words type (Range low end) = key_text type low ++ then_word (high_word type end)
span_words type (Point at) = key_text type at

-- a space and the token, where there is one
abbrev pub then_token : Option Token → Text
then_token None = []
then_token (Some token) = then_word (token_text token)

abbrev pub label_word : Label → Text
label_word label.GlobalOnly = codes "global-only"
label_word label.ShardOnly = codes "shard-only"
label_word label.Both = codes "both"

-- a word and a number
abbrev pub numbered : Text → ℕ → Text
numbered word n = word ++ then_word (decimal n)

-- ---- refusals

unfoldable pub refusal_text : Refusal → Text
refusal_text refused.NoMap = codes "no-map"
refusal_text refused.MapExists = codes "map-exists"
refusal_text refused.MapInUse = codes "map-in-use"
refusal_text refused.NoLocation = codes "no-location"
refusal_text refused.NotAShard = codes "not-a-shard"
refusal_text refused.ShardExists = codes "shard-exists"
refusal_text refused.ShardInUse = codes "shard-in-use"
refusal_text refused.WrongKind = codes "wrong-kind"
refusal_text refused.BadRange = codes "bad-range"
refusal_text refused.Overlap = codes "overlap"
refusal_text refused.NoMapping = codes "no-mapping"
refusal_text refused.NotOffline = codes "not-offline"
refusal_text refused.SameStatus = codes "same-status"
refusal_text refused.Locked = codes "locked"
refusal_text refused.BadSplit = codes "bad-split"
refusal_text refused.NotMergeable = codes "not-mergeable"
refusal_text refused.RowsPresent = codes "rows-present"
refusal_text refused.Offline = codes "offline"
refusal_text refused.Ended = codes "ended"
refusal_text refused.NoTable = codes "no-table"
refusal_text refused.TableExists = codes "table-exists"
refusal_text refused.Detached = codes "detached"
refusal_text refused.Unresolved = codes "unresolved"
refusal_text refused.Attached = codes "attached"
refusal_text (refused.DifferencesLeft n) = numbered (codes "differences-left") n
refusal_text (refused.StrayRows n) = numbered (codes "stray-rows") n
refusal_text refused.NoJob = codes "no-job"
refusal_text refused.Absent = codes "absent"
refusal_text refused.SameShard = codes "same-shard"
refusal_text refused.NumberInUse = codes "number-in-use"
refusal_text refused.Full = codes "full"
refusal_text refused.NoConnection = codes "no-connection"
refusal_text refused.JobInProgress = codes "job-in-progress"
refusal_text refused.JobRunning = codes "job-running"
refusal_text refused.BadKey = codes "bad-key"

-- ---- replies

-- `LOW HIGH LOC STATUS`, of a point `KEY LOC STATUS`, and the token where there is one
abbrev pub mapping_line : KeyType → Piece → Text
mapping_line type p = span_words type p.span ++ then_word p.location ++ then_word (status_word p.status) ++ then_token p.token

-- `LOW HIGH LABEL GLOBAL SHARD`, of a point `KEY LABEL GLOBAL SHARD`
abbrev pub difference_line : KeyType → Difference → Text
difference_line type d = span_words type d.span ++ then_word (label_word d.label) ++ then_word (status_or_dash d.global) ++ then_word (status_or_dash d.shard)

-- the lines of a reply, without their ends
unfoldable pub lines_of : Reply → List Text
lines_of reply.Ok = codes "ok" ∷ []
lines_of (reply.Mapping type piece) = mapping_line type piece ∷ []
lines_of (reply.Mappings type pieces) = numbered (codes "mappings") (length pieces) ∷ map (mapping_line type) pieces
lines_of (reply.Shards locations) = numbered (codes "shards") (length locations) ∷ locations
lines_of (reply.At location) = (codes "at" ++ then_word location) ∷ []
lines_of (reply.Row bytes) = (codes "row" ++ then_word (bytes_text bytes)) ∷ []
lines_of (reply.Known type span location place) = (codes "known" ++ then_word (span_words type span) ++ then_word location ++ then_word (decimal place)) ∷ []
lines_of reply.Unknown = codes "unknown" ∷ []
lines_of (reply.Differences type differences) = numbered (codes "differences") (length differences) ∷ map (difference_line type) differences
lines_of (reply.Discarded n) = numbered (codes "discarded") n ∷ []
lines_of (reply.Job number) = numbered (codes "job") number ∷ []
lines_of (reply.Cursor type key) = (codes "cursor" ++ then_word (key_text type key)) ∷ []
lines_of (reply.Done number) = numbered (codes "done") number ∷ []
lines_of (reply.Refused refusal) = refusal_text refusal ∷ []
lines_of (reply.Pending operation) = numbered (codes "pending") operation ∷ []
lines_of reply.Fault = codes "fault" ∷ []
lines_of reply.Memory = codes "memory" ∷ []

-- the session's number and a space, where lines are tagged with it
abbrev pub tag_text : Option ℕ → Text
tag_text None = []
tag_text (Some session) = decimal session ++ 32 ∷ []

-- a line with its tag before it and its end behind it
abbrev pub whole_line : Option ℕ → Text → Text
whole_line tag line = tag_text tag ++ line ++ 10 ∷ []

-- the bytes of a reply: all its lines
abbrev pub reply_lines : Option ℕ → Reply → Text
reply_lines tag r = flat_map (whole_line tag) (lines_of r)

-- ---- histories

abbrev pub tag_of : Bool → ℕ → Option ℕ
tag_of true session = Some session
tag_of false session = None

-- An entry without a reply has no lines.
abbrev pub answer_text : Option ℕ → Option Reply → Text
answer_text tag None = []
answer_text tag (Some r) = reply_lines tag r

abbrev pub entry_text : Bool → Entry → Text
entry_text tagged e = answer_text (tag_of tagged e.session) e.reply

-- the lines of the entries that have a reply
abbrev pub lines : Bool → List Entry → Text
lines tagged history = flat_map (entry_text tagged) history

-- ---- standard error

abbrev pub reason_text : Reason → Text
reason_text reason.LongLine = codes "long-line"
reason_text reason.BadByte = codes "bad-byte"
reason_text reason.UnknownCommand = codes "unknown-command"
reason_text reason.SessionLine = codes "session-line"
reason_text reason.BadCount = codes "bad-count"
reason_text (reason.BadWord n) = numbered (codes "bad-word") n

-- What is said of a run that didn't come to the end of its script, or met a store fault; of the others nothing.
unfoldable pub status_text : RunStatus → Option Text
status_text run.Done = None
status_text run.Refused = None
status_text (run.BadWords place) = Some (codes "bad words at " ++ decimal place)
status_text (run.BadScript line why) = Some (codes "bad script line " ++ decimal line ++ codes ": " ++ reason_text why)
status_text run.ReadFault = Some (codes "read fault")
status_text run.WriteFault = Some (codes "write fault")
status_text run.StoreFault = Some (codes "store fault")
status_text run.Memory = Some (codes "out of memory")
status_text run.TooLong = Some (codes "script too long")
status_text (run.UnknownLocation location) = Some (codes "unknown location " ++ location)

abbrev pub named_line : Text → Option Text → Text
named_line program None = []
named_line program (Some text) = program ++ codes ": " ++ text ++ 10 ∷ []

-- the line on standard error: the program's name, a colon, a space and the text
abbrev pub error_line : Text → RunStatus → Text
error_line program status = named_line program (status_text status)
