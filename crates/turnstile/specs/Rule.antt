-- The rule of the table, which holds between any two steps. Word 0 is the turn: 0 free, 1 taken. Word 1 is the count: the length of the list. The one slot has the value while the turn is free.
use Rattle.std.specs.Prelude.{◌≡◌, ℕ, suc, ◌≤◌, true, false, ◌⊎◌, List, [], ◌∷◌, ◌++◌, length, Option as Opt, Some}
use mathlib.Core.Option.{some, none}
use lib.ListN.{get_elem?}
use Rattle.atomic_table.specs.Table.{State}
use Rattle.turnstile.specs.declared.view.View.{View}
use Rattle.turnstile.specs.Entries.{entries_of, entries_by, StartsWith}

-- the view of the first pass, before there are others
abbrev pub opening_view : {E : Type 0} → List E → View E
opening_view list = record { live = true; holds = false; number = 0; next = 1; known = []; mine = []; list = list }

-- the view that a gathered pass leaves behind: it has no entries and holds nothing
abbrev pub spent_view : {E : Type 0} → View E
spent_view = record { live = false; holds = false; number = 0; next = 0; known = []; mine = []; list = [] }

-- What one view, at its place among the views, says of the longest list `now`, of the log and of the other views.
pub record Fits {E : Type 0} (now : List E) (log : List (ℕ × E)) (views : List (View E)) (id : ℕ) (v : View E) : Type 0 where
  -- the pass that holds knows the whole list
  pub whole : v.holds ≡ true → v.list ≡ now
  -- the list that it keeps is a beginning of the longest
  pub begins : StartsWith now v.list
  -- a gathered pass doesn't hold
  pub spent : v.live ≡ false → v.holds ≡ false
  -- a pass stands at the place of its number
  pub number : v.live ≡ true → v.number ≡ id
  -- its entries are those of the log that have its number
  pub mine : v.live ≡ true → v.mine ≡ entries_by id log
  -- pass 0 counts the passes
  pub next : v.live ≡ true → v.number ≡ 0 → v.next ≡ length views
  -- what pass 0 keeps of the pass k + 1: its entries are those of the log, it is gathered, and the list that it saw is a beginning of the longest
  pub known : v.live ≡ true → v.number ≡ 0 → (k : ℕ) (e : List E × List E) → get_elem? v.known k ≡ some e
      → (entries_by (suc k) log ≡ e.0) × ((w : View E) × (get_elem? views (suc k) ≡ some w) × (w.live ≡ false)) × StartsWith now e.1

-- The turn is free: a value with the longest list is at home, and no view holds.
pub record Free {S E : Type 0} (list : S → List E) (now : List E) (s : State (Opt S) (View E)) (turn : ℕ) : Type 0 where
  -- the turn word says so
  pub word : turn ≡ 0
  -- the value
  pub value : S
  -- it stands in the slot
  pub home : s.homes ≡ some (Some value) ∷ []
  -- and has the longest list
  pub meant : list value ≡ now
  -- no view holds
  pub idle : (id : ℕ) (v : View E) → get_elem? s.views id ≡ some v → v.holds ≡ false

-- The turn is taken: the slot is out, and exactly one view holds.
pub record Taken {S E : Type 0} (s : State (Opt S) (View E)) (turn : ℕ) : Type 0 where
  -- the turn word says so
  pub word : turn ≡ 1
  -- the slot is with a seat
  pub home : s.homes ≡ none ∷ []
  -- the place of the view that holds
  pub holder : ℕ
  -- that view
  pub it : View E
  -- it stands there
  pub at : get_elem? s.views holder ≡ some it
  -- and holds
  pub holds : it.holds ≡ true
  -- no other does
  pub only : (id : ℕ) (v : View E) → get_elem? s.views id ≡ some v → v.holds ≡ true → id ≡ holder

-- The rule, for values whose history is `list`, over the first list and so many passes.
pub record Kept {S E : Type 0} (list : S → List E) (first : List E) (seats : ℕ) (s : State (Opt S) (View E)) : Type 0 where
  -- there is a log: what the passes left, each entry once, with the number of its pass
  pub log : List (ℕ × E)
  -- the longest list
  pub now : List E
  -- what the turn word is
  pub turn : ℕ
  -- the longest list is the first one and then the log's entries: they fill the places from the first list's length on
  pub is : now ≡ first ++ entries_of log
  -- up to the count word
  pub words : s.words ≡ turn ∷ length now ∷ []
  -- each view fits
  pub fits : (id : ℕ) (v : View E) → get_elem? s.views id ≡ some v → Fits now log s.views id v
  -- there are no more views than seats
  pub room : length s.views ≤ seats
  -- every entry of the log is some pass's
  pub later : (by : ℕ) → length s.views ≤ by → entries_by by log ≡ []
  -- the turn is free where no view holds, and taken where one does
  pub phase : Free list now s turn ⊎ Taken s turn

-- A part has what one pass left, and the list that it saw last. The whole list is woven of the first list and the parts, each entry once and each part's in its order.
pub record Woven {E : Type 0} (first : List E) (parts : List (List E × List E)) (all : List E) : Type 0 where
  -- there is a log: the entries after the first list, each with the number of its part
  pub log : List (ℕ × E)
  -- the whole list is the first one and then the log's entries
  pub all_of : all ≡ first ++ entries_of log
  -- each part's entries are those of the log that have its number, and the whole list begins with the list that it saw last
  pub each : (by : ℕ) (part : List E × List E) → get_elem? parts by ≡ some part → (entries_by by log ≡ part.0) × StartsWith all part.1
  -- every entry of the log is some part's
  pub others : (by : ℕ) → length parts ≤ by → entries_by by log ≡ []
