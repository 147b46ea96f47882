-- What each step tells the pass that makes it.
use Rattle.std.specs.Prelude.{◌≡◌, ◌≢◌, ℕ, suc, Bool, true, false, cond, List, [], ◌∷◌, ◌++◌, length, drop, Option as Opt, Some, None}
use Rattle.atomic_table.specs.Table.{Me, Step}
use Rattle.turnstile.specs.declared.view.View.{View}
use Rattle.turnstile.specs.Entries.{StartsWith}

-- The slots that a pass has between two calls: the emptied one while it holds.
abbrev pub slots_held : {S : Type 0} → Bool → List (ℕ × Opt S)
slots_held holds = cond holds ((0, None) ∷ []) []

-- What is so of a pass between two calls, where its seat has this view and these slots, and it remembers this length.
pub record Sits {S E : Type 0} (me : Me (Opt S) (View E)) (entered : ℕ) : Type 0 where
  -- it isn't gathered
  pub live : me.0.live ≡ true
  -- it has the emptied slot while it holds, and else none
  pub slots : me.1 ≡ slots_held me.0.holds
  -- it has gathered no pass
  pub known : me.0.known ≡ []
  -- while it holds, it remembers the length of the list that it took out
  pub remembers : me.0.holds ≡ true → entered ≡ length me.0.list

module _ {S E : Type 0} (list : S → List E) where
  -- the view of a pass that has taken this value
  abbrev pub taken : View E → S → View E
  taken v value = record v { holds = true; list = list value }

  -- the view of a pass that has counted the entries with which this value goes back
  abbrev pub counted : View E → S → View E
  counted v value = record v { mine = v.mine ++ drop (length v.list) (list value); list = list value }

  -- Take. Where the turn was free, the pass has the value's slot, and the value's list begins with the one that it saw last. Else nothing changed.
  abbrev pub Takes : Step (Opt S) → Me (Opt S) (View E) → ℕ → Me (Opt S) (View E) → Type 0
  Takes s v n w = (n ≡ 0 → (value : S) × (w ≡ (taken v.0 value, (0, Some value) ∷ [])) × StartsWith (list value) v.0.list) × (n ≢ 0 → w ≡ v)

  -- Count. The count word was the length of the list that the pass took out, and the pass has counted the value in its slot.
  abbrev pub Counts : Step (Opt S) → Me (Opt S) (View E) → ℕ → Me (Opt S) (View E) → Type 0
  Counts s v n w = (value : S) → v.1 ≡ (0, Some value) ∷ [] → (n ≡ length v.0.list) × (w ≡ (counted v.0 value, v.1))

  -- Give back. The pass holds no more, and has no slot.
  abbrev pub Gives : Step (Opt S) → Me (Opt S) (View E) → ℕ → Me (Opt S) (View E) → Type 0
  Gives s v n w = w ≡ (record v.0 { holds = false }, [])

-- Split seat: pass 0 afterwards, and the new pass, which has seen what pass 0 has and left nothing.
abbrev pub after_making : {E : Type 0} → View E → View E
after_making v = record v { next = suc v.next }

abbrev pub new_view : {E : Type 0} → View E → View E
new_view v = record { live = true; holds = false; number = v.next; next = 0; known = []; mine = []; list = v.list }

-- Join seat: pass 0 afterwards, which keeps what the gathered pass left and saw.
abbrev pub after_joining : {E : Type 0} → View E → View E → View E
after_joining v w = record v { known = v.known ++ (w.mine, w.list) ∷ [] }
