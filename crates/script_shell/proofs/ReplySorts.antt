-- Replies and their sorts.
use Rattle.std.proofs.Common.{◌≡◌, Bool, true, false, refl}
use Rattle.plain_model.specs.declared.replies.Reply.{Reply}
use Rattle.plain_model.specs.declared.replies.Reply.TheVariants as reply
use Rattle.plain_model.specs.declared.replies.Sort.{Sort}
use Rattle.plain_model.specs.declared.replies.Sort.TheVariants as sort
use Rattle.plain_model.specs.Summary.{counts_as_refused, is_fault, is_memory, sort_of}

abbrev pub fault_sort : Sort → Bool
fault_sort sort.Fault = true
fault_sort other = false

abbrev pub memory_sort : Sort → Bool
memory_sort sort.Memory = true
memory_sort other = false

abbrev pub refused_sort : Sort → Bool
refused_sort sort.Refused = true
refused_sort other = false

pub fault_by_sort : (r : Reply) → is_fault r ≡ fault_sort (sort_of r)
fault_by_sort (reply.Refused x) = refl
fault_by_sort (reply.Pending n) = refl
fault_by_sort reply.Fault = refl
fault_by_sort reply.Memory = refl
fault_by_sort r = refl

pub memory_by_sort : (r : Reply) → is_memory r ≡ memory_sort (sort_of r)
memory_by_sort (reply.Refused x) = refl
memory_by_sort (reply.Pending n) = refl
memory_by_sort reply.Fault = refl
memory_by_sort reply.Memory = refl
memory_by_sort r = refl

pub refused_by_sort : (r : Reply) → counts_as_refused r ≡ refused_sort (sort_of r)
refused_by_sort (reply.Refused x) = refl
refused_by_sort (reply.Pending n) = refl
refused_by_sort reply.Fault = refl
refused_by_sort reply.Memory = refl
refused_by_sort r = refl
