-- What a change of one session's table, or of each, does to the connections of all sessions.
use Rattle.std.proofs.Common.{◌≡◌, ℕ, zero, suc, ◌<◌, Bool, true, false, ◌&&◌, ◌==◌, if◌then◌else◌, List, [], ◌∷◌, length, set, get_or, refl, ap, sym, ◌∙◌, Option, Some, None, arith}
use Rattle.std.proofs.lemmas.Bool.{eqb-true}
use Rattle.std.proofs.Math.Dec.{eqb-suc-suc, eqb-suc-zero, eqb-zero-suc}
use Rattle.cell_world.specs.Plain.{Connection, Connections, nobody}
use Rattle.cell_world.specs.declared.operations.Piece.{Piece}
use Rattle.plain_model.specs.Steps.{ended_under, ended_where, with_connection}
use Rattle.connections.specs.Links.{connection_at, ended_if, is_under, of_sessions, with_number, with_table}
use Rattle.connections.specs.declared.links.Link.{Link}
use Rattle.connections.proofs.EndedInTurn.{choice_of_false}

-- ---- one table among all

-- past the last session there is none
pub of_session : (tables : List (List (Option Link))) (i number : ℕ) → of_sessions tables (suc i) number ≡ connection_at (get_or tables i []) number
of_session [] i zero = refl
of_session [] i (suc number) = refl
of_session (places ∷ tables) zero number = refl
of_session (places ∷ tables) (suc i) number = of_session tables i number

pub got-set : (tables : List (List (Option Link))) (i j : ℕ) (places : List (Option Link)) (number : ℕ) → i < length tables → connection_at (get_or (set tables i places) j []) number ≡ (if j == i then connection_at places number else connection_at (get_or tables j []) number)
got-set [] i j places number h = absurd (grind arith)
got-set (first ∷ tables) zero zero places number h = refl
got-set (first ∷ tables) zero (suc j) places number h = choice_of_false (suc j == zero) (connection_at places number) (connection_at (get_or tables j []) number) (eqb-suc-zero j)
got-set (first ∷ tables) (suc i) zero places number h = choice_of_false (zero == suc i) (connection_at places number) (connection_at first number) (eqb-zero-suc i)
got-set (first ∷ tables) (suc i) (suc j) places number h = got-set tables i j places number (omega arith) ∙ ap (λ b. if b then connection_at places number else connection_at (get_or tables j []) number) (sym (eqb-suc-suc j i))

-- a session's table is another one
pub session-set : (tables : List (List (Option Link))) (i : ℕ) (places : List (Option Link)) → i < length tables → of_sessions (set tables i places) ≡ with_table (of_sessions tables) (suc i) places
session-set tables i places within = λ j session number. at session number j
  where
    at : (session number : ℕ) → of_sessions (set tables i places) session number ≡ with_table (of_sessions tables) (suc i) places session number
    at zero number = choice_of_false (zero == suc i) (connection_at places number) None (eqb-zero-suc i)
    at (suc k) number =
        of_session (set tables i places) k number
        ∙ got-set tables i k places number within
        ∙ ap (λ c. if k == i then connection_at places number else c) (sym (of_session tables k number))
        ∙ ap (λ b. if b then connection_at places number else of_sessions tables (suc k) number) (sym (eqb-suc-suc k i))

-- ---- a change of one session's table

joined : (a b : Bool) (x y z : Option Connection) → (a ≡ true → y ≡ z) → (if a then (if b then x else y) else z) ≡ (if a && b then x else z)
joined true true x y z h = refl
joined true false x y z h = h refl
joined false b x y z h = refl

-- a connection of one session is put or goes
pub with_table-number : (connections : Connections) (session : ℕ) (old new : List (Option Link)) (number : ℕ) (c : Option Connection) → ((n : ℕ) → connections session n ≡ connection_at old n) → ((n : ℕ) → connection_at new n ≡ with_number (connection_at old) number c n) → with_table connections session new ≡ with_connection connections session number c
with_table-number connections session old new number c stood is = λ j i n. at i n j
  where
    at : (i n : ℕ) → with_table connections session new i n ≡ with_connection connections session number c i n
    at i n =
        ap (λ o. if i == session then o else connections i n) (is n)
        ∙ joined (i == session) (n == number) c (connection_at old n) (connections i n) (λ t. sym (stood n) ∙ ap (λ k. connections k n) (sym (eqb-true i session t)))

-- the table says what stood
pub with_table-same : (connections : Connections) (session : ℕ) (places : List (Option Link)) → ((n : ℕ) → connections session n ≡ connection_at places n) → with_table connections session places ≡ connections
with_table-same connections session places stood = λ j i n. at i n j
  where
    either : (b : Bool) (x y : Option Connection) → (b ≡ true → x ≡ y) → (if b then x else y) ≡ y
    either true x y h = h refl
    either false x y h = refl

    at : (i n : ℕ) → with_table connections session places i n ≡ connections i n
    at i n = either (i == session) (connection_at places n) (connections i n) (λ t. sym (stood n) ∙ ap (λ k. connections k n) (sym (eqb-true i session t)))

-- in the list of tables: a connection of the session is put or goes
pub session-set-number : (tables : List (List (Option Link))) (i : ℕ) (places : List (Option Link)) (number : ℕ) (c : Option Connection) → i < length tables → ((n : ℕ) → connection_at places n ≡ with_number (connection_at (get_or tables i [])) number c n) → of_sessions (set tables i places) ≡ with_connection (of_sessions tables) (suc i) number c
session-set-number tables i places number c within is =
    session-set tables i places within
    ∙ with_table-number (of_sessions tables) (suc i) (get_or tables i []) places number c (of_session tables i) is

-- ---- the tables of all sessions

-- nobody is connected
pub no_sessions : (tables : List (List (Option Link))) → ((i number : ℕ) → connection_at (get_or tables i []) number ≡ None) → of_sessions tables ≡ nobody
no_sessions tables none = λ j session number. at session number j
  where
    at : (session number : ℕ) → of_sessions tables session number ≡ nobody session number
    at zero number = refl
    at (suc i) number = of_session tables i number ∙ none i number

-- in each session's table those that the test finds are ended
pub sessions_ended : (test : Connection → Bool) (old new : List (List (Option Link))) → ((i number : ℕ) → connection_at (get_or new i []) number ≡ ended_if test (connection_at (get_or old i []) number)) → of_sessions new ≡ ended_where test (of_sessions old)
sessions_ended test old new ended = λ j session number. at session number j
  where
    at : (session number : ℕ) → of_sessions new session number ≡ ended_where test (of_sessions old) session number
    at zero number = refl
    at (suc i) number = of_session new i number ∙ ended i number ∙ ap (ended_if test) (sym (of_session old i number))

-- in each session's table the connections under a mapping are ended
pub sessions_ended_under : (piece : Piece) (old new : List (List (Option Link))) → ((i number : ℕ) → connection_at (get_or new i []) number ≡ ended_if (is_under piece.map piece.span) (connection_at (get_or old i []) number)) → of_sessions new ≡ ended_under (Some piece) (of_sessions old)
sessions_ended_under piece = sessions_ended (is_under piece.map piece.span)
