-- Reading a text a byte at a time, by the steps of a state machine.
use Rattle.std.specs.Prelude.{ℕ, Bool, false, List, [], ◌∷◌, Option, Some, None, option_and_then}

-- The state to which the bytes lead. Past a byte that leads nowhere there is none.
abbrev pub walk : {S : Type 0} → (S → ℕ → Option S) → Option S → List ℕ → Option S
walk next from [] = from
walk next from (b ∷ bs) = walk next (option_and_then (λ state. next state b) from) bs

-- There is a state, and a text may end in it.
abbrev pub at_end : {S : Type 0} → (S → Bool) → Option S → Bool
at_end is_end None = false
at_end is_end (Some state) = is_end state

-- The bytes lead to an end: from the first state, the grammar of the machine.
abbrev pub accepts : {S : Type 0} → (S → ℕ → Option S) → (S → Bool) → Option S → List ℕ → Bool
accepts next is_end from text = at_end is_end (walk next from text)
