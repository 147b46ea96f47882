-- How replies are counted, and the lines that sum up a run.
use Rattle.std.specs.Prelude.{ℕ, Bool, true, false, List, [], ◌∷◌, length, filter, None, flat_map, codes, is_some}
use Rattle.cell_world.specs.Texts.{Text}
use Rattle.plain_model.specs.declared.history.Entry.{Entry}
use Rattle.plain_model.specs.declared.replies.Reply.{Reply}
use Rattle.plain_model.specs.declared.replies.Reply.TheVariants as reply
use Rattle.plain_model.specs.declared.replies.Sort.{Sort}
use Rattle.plain_model.specs.declared.replies.Sort.TheVariants as sort
use Rattle.plain_model.specs.Refusing.{if_there}
use Rattle.plain_model.specs.Lines.{numbered, whole_line}

-- ---- four sorts of replies

-- a refusal or `pending`
abbrev pub counts_as_refused : Reply → Bool
counts_as_refused (reply.Refused r) = true
counts_as_refused (reply.Pending operation) = true
counts_as_refused other = false

abbrev pub is_fault : Reply → Bool
is_fault reply.Fault = true
is_fault other = false

abbrev pub is_memory : Reply → Bool
is_memory reply.Memory = true
is_memory other = false

-- no refusal, and neither `pending`, `fault` nor `memory`
abbrev pub is_good : Reply → Bool
is_good (reply.Refused r) = false
is_good (reply.Pending operation) = false
is_good reply.Fault = false
is_good reply.Memory = false
is_good other = true

-- the sort of a reply
abbrev pub sort_of : Reply → Sort
sort_of (reply.Refused r) = sort.Refused
sort_of (reply.Pending operation) = sort.Refused
sort_of reply.Fault = sort.Fault
sort_of reply.Memory = sort.Memory
sort_of other = sort.Good

-- ---- the summary

-- the number of entries whose reply is of a sort
abbrev pub replies_of : (Reply → Bool) → List Entry → ℕ
replies_of sort history = length (filter (λ e. if_there sort e.reply) history)

-- the number of entries that have a reply
abbrev pub answered_count : List Entry → ℕ
answered_count history = length (filter (λ e. is_some e.reply) history)

-- the four lines that a run of a generated script writes in place of its reply lines
abbrev pub summary_lines : List Entry → Text
summary_lines history = flat_map (whole_line None) (
    numbered (codes "commands") (answered_count history)
    ∷ numbered (codes "ok") (replies_of is_good history)
    ∷ numbered (codes "refused") (replies_of counts_as_refused history)
    ∷ numbered (codes "fault") (replies_of is_fault history)
    ∷ [])
