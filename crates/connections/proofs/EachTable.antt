-- Table after table of all sessions.
use Rattle.std.proofs.Common.{◌≡◌, ℕ, zero, suc, ◌+◌, ◌<◌, ◌≤◌, Bool, List, [], ◌∷◌, ◌++◌, length, set, get_or, take, drop, refl, ap, ◌∙◌, Option, None, arith}
use Rattle.std.proofs.lemmas.List.{drop_all, take_all, append-nil}
use Rattle.cell_world.specs.Plain.{Connection}
use Rattle.plain_model.specs.Steps.{ended_where}
use Rattle.connections.specs.Links.{connection_at, ended_if, of_sessions}
use Rattle.connections.specs.declared.links.Link.{Link}
use Rattle.connections.proofs.EndedInTurn.{EndedUpTo, one_more_ended, all_ended}
use Rattle.connections.proofs.SessionLaws.{got-set, sessions_ended}

abbrev pub Tables : Type 0
Tables = List (List (Option Link))

-- each table's connection of a number, by session from 0
abbrev pub numbered : Tables → ℕ → ℕ → Option Connection
numbered tables number k = connection_at (get_or tables k []) number

-- past the last session nobody has a connection
past_tables : (tables : Tables) (number k : ℕ) → length tables ≤ k → numbered tables number k ≡ None
past_tables [] zero k h = refl
past_tables [] (suc number) k h = refl
past_tables (first ∷ tables) number zero h = absurd (grind arith)
past_tables (first ∷ tables) number (suc k) h = past_tables tables number k (omega arith)

-- ---- tables ended one after another

-- in the tables before an index the connections that the test finds are ended, and the tables from it on are as they were
abbrev pub TablesEndedBefore : (Connection → Bool) → ℕ → Tables → Tables → Type 0
TablesEndedBefore test i old new = (number : ℕ) → EndedUpTo test i (numbered old number) (numbered new number)

-- a table that is there is read whatever would be said past the last one
there : (tables : Tables) (i : ℕ) (x y : List (Option Link)) → i < length tables → get_or tables i x ≡ get_or tables i y
there [] i x y within = absurd (grind arith)
there (first ∷ tables) zero x y within = refl
there (first ∷ tables) (suc i) x y within = there tables i x y (omega arith)

pub one_more_table : (test : Connection → Bool) (i : ℕ) (old new : Tables) (x y : List (Option Link)) → i < length new → ((number : ℕ) → connection_at y number ≡ ended_if test (connection_at (get_or new i x) number)) → TablesEndedBefore test i old new → TablesEndedBefore test (i + 1) old (set new i y)
one_more_table test i old new x y within ended before number =
    one_more_ended test i (numbered old number) (numbered new number) (numbered (set new i y) number) (connection_at y number)
    (λ k. got-set new i k y number within)
    (ended number ∙ ap (λ table. ended_if test (connection_at table number)) (there new i x [] within))
    (before number)

-- A loop over a vector leaves what it wrote and what stood behind, which is nothing once it went through all.
written : (len : ℕ) (old new : Tables) → length new ≡ length old → len ≡ length old → take len (new ++ drop (length new) old) ≡ new
written len old new many all =
    ap (λ rest. take len (new ++ rest)) (drop_all (length new) old (omega arith))
    ∙ ap (take len) (append-nil new)
    ∙ take_all len new (omega arith)

pub all_tables : (test : Connection → Bool) (i len : ℕ) (old new : Tables) → length new ≡ length old → len ≡ length old → length old ≤ i → TablesEndedBefore test i old new → of_sessions (take len (new ++ drop (length new) old)) ≡ ended_where test (of_sessions old)
all_tables test i len old new many all most before =
    ap of_sessions (written len old new many all)
    ∙ sessions_ended test old new (λ k number. all_ended test i (numbered old number) (numbered new number) (λ j past. past_tables old number j (omega arith)) (before number) k)

-- ---- tables without connections

-- no table has a connection
abbrev pub NobodyIn : Tables → Type 0
NobodyIn tables = (i number : ℕ) → connection_at (get_or tables i []) number ≡ None
