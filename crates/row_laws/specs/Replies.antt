-- What a command by a connection is answered.
use Rattle.std.specs.Prelude.{Bool, true, false}
use Rattle.plain_model.specs.declared.replies.Reply.{Reply}
use Rattle.plain_model.specs.declared.replies.Reply.TheVariants as reply
use Rattle.plain_model.specs.ShortCommands.{is_short_refusal}

-- where it is done: `close`, `put` and `del` are answered `ok`, `open` the location, `get` the bytes
abbrev pub is_row_answer : Reply → Bool
is_row_answer reply.Ok = true
is_row_answer (reply.At location) = true
is_row_answer (reply.Row bytes) = true
is_row_answer other = false

-- or else a refusal, which is one word, a fault, or want of memory
abbrev pub is_row_reply : Reply → Bool
is_row_reply (reply.Refused r) = is_short_refusal r
is_row_reply reply.Fault = true
is_row_reply reply.Memory = true
is_row_reply r = is_row_answer r
