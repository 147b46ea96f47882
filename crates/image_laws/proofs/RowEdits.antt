-- A change of local rows, made by edits, is the change of each row.
use Rattle.std.proofs.Common.{◌≡◌, ◌≢◌, ◌⊎◌, ℕ, Bool, true, false, refl, sym, ap, ◌∙◌, subst, Some, None, Option, inl, inr, true≢false, List, [], ◌∷◌}
use Rattle.std.specs.Prelude.{option_and_then, IfSome}
use Rattle.std.specs.Ordering.{eq_by_cmp}
use Rattle.std.specs.FinMap as map
use Rattle.cell_world.specs.Texts.{Text}
use Rattle.cell_world.specs.Lists.{IsOneOf}
use Rattle.cell_world.specs.Orders.{local_cmp}
use Rattle.cell_world.specs.Stores.{Store, Locals, local_key, changed}
use Rattle.cell_world.specs.declared.cells.LocalRow.{LocalRow}
use Rattle.cell_world.proofs.OrderLaws.{locals_total, exact_locals, tied, tied_is}
use Rattle.cell_world.proofs.StoreLaws.{get-insert_same, get-insert_other, get-remove_same, get-remove_other}
use Rattle.cell_world.proofs.KeyedLaws.{keyed-insert, keyed-remove}
use Rattle.image_laws.specs.LocalSteps.{AreKeyed}
use Rattle.image_laws.specs.RowEdits.{edit_to, edits_by, AreDistinct, AreScanned}
use Rattle.image_laws.proofs.CommitEdits.{changed-append}
use Rattle.image_laws.proofs.KeptKeys.{KeepsKeys}

abbrev pub put_in : Locals → LocalRow → Option LocalRow → Locals
put_in m row None = map.remove m (local_key row)
put_in m row (Some now) = map.insert m (local_key now) now

abbrev pub made_by : (LocalRow → Option LocalRow) → List LocalRow → Locals → Locals
made_by f [] m = m
made_by f (row ∷ rows) m = made_by f rows (put_in m row (f row))

edited_one : (s : Store) (row : LocalRow) (o : Option LocalRow) → changed s (edit_to row o) ≡ record s { locals = put_in s.locals row o }
edited_one s row None = refl
edited_one s row (Some now) = refl

-- the edits change nothing but the local rows
pub changed-rows : (s : Store) (f : LocalRow → Option LocalRow) (rows : List LocalRow) → changed s (edits_by f rows) ≡ record s { locals = made_by f rows s.locals }
changed-rows s f [] = refl
changed-rows s f (row ∷ rows) =
    changed-append s (edit_to row (f row)) (edits_by f rows)
    ∙ ap (λ (x : Store). changed x (edits_by f rows)) (edited_one s row (f row))
    ∙ changed-rows (record s { locals = put_in s.locals row (f row) }) f rows

module _ (f : LocalRow → Option LocalRow) (keeps : KeepsKeys f) where
  put_there : (m : Locals) (row : LocalRow) → map.get (put_in m row (f row)) (local_key row) ≡ f row
  put_there m row = by (f row) refl
    where
      by : (o : Option LocalRow) → f row ≡ o → map.get (put_in m row o) (local_key row) ≡ o
      by None e = get-remove_same locals_total m (local_key row)
      by (Some now) e = ap (map.get (map.insert m (local_key now) now)) (sym (keeps row now e)) ∙ get-insert_same locals_total m (local_key now) now

  put_elsewhere : (m : Locals) (row : LocalRow) (k : Text × (Text × ℕ)) → k ≢ local_key row → map.get (put_in m row (f row)) k ≡ map.get m k
  put_elsewhere m row k ne = by (f row) refl
    where
      by : (o : Option LocalRow) → f row ≡ o → map.get (put_in m row o) k ≡ map.get m k
      by None e = get-remove_other locals_total exact_locals m (local_key row) k ne
      by (Some now) e = get-insert_other locals_total exact_locals m (local_key now) now k (λ h. ne (h ∙ keeps row now e))

  -- a key under which none of the rows stands has what it had
  made_elsewhere : (rows : List LocalRow) (m : Locals) (k : Text × (Text × ℕ)) → ((row : LocalRow) → IsOneOf rows row → k ≢ local_key row) → map.get (made_by f rows m) k ≡ map.get m k
  made_elsewhere [] m k ne = refl
  made_elsewhere (row ∷ rows) m k ne = made_elsewhere rows (put_in m row (f row)) k (λ x h. ne x (inr h)) ∙ put_elsewhere m row k (ne row (inl refl))

  -- under the key of one of the rows stands what it became
  made_there : (rows : List LocalRow) (m : Locals) → AreDistinct rows → (row : LocalRow) → IsOneOf rows row → map.get (made_by f rows m) (local_key row) ≡ f row
  made_there [] m d row h = absurd h
  made_there (x ∷ rows) m d row (inl is) =
      subst (λ y. map.get (made_by f (x ∷ rows) m) (local_key y) ≡ f y) is (made_elsewhere rows (put_in m x (f x)) (local_key x) d.0 ∙ put_there m x)
  made_there (x ∷ rows) m d row (inr h) = made_there rows (put_in m x (f x)) d.1 row h

  -- one of the rows stands under the key, or none
  find_key : (rows : List LocalRow) (k : Text × (Text × ℕ)) → ((row : LocalRow) × IsOneOf rows row × (local_key row ≡ k)) ⊎ ((row : LocalRow) → IsOneOf rows row → k ≢ local_key row)
  find_key [] k = inr (λ row h. absurd h)
  find_key (x ∷ rows) k = by (eq_by_cmp local_cmp k (local_key x)) refl (find_key rows k)
    where
      by : (b : Bool) → eq_by_cmp local_cmp k (local_key x) ≡ b → ((row : LocalRow) × IsOneOf rows row × (local_key row ≡ k)) ⊎ ((row : LocalRow) → IsOneOf rows row → k ≢ local_key row)
          → ((row : LocalRow) × IsOneOf (x ∷ rows) row × (local_key row ≡ k)) ⊎ ((row : LocalRow) → IsOneOf (x ∷ rows) row → k ≢ local_key row)
      by true t more = inl (x, inl refl, sym (tied_is exact_locals k (local_key x) t))
      by false t (inl h) = inl (h.0, inr h.1, h.2)
      by false t (inr h) = inr ne
        where
          ne : (row : LocalRow) → IsOneOf (x ∷ rows) row → k ≢ local_key row
          ne row (inl is) e = true≢false (sym (tied locals_total k) ∙ ap (eq_by_cmp local_cmp k) (e ∙ ap local_key (sym is)) ∙ t)
          ne row (inr g) e = h row g e

  -- The edits of scanned rows change each row as it is to be changed.
  pub made_is : (locals : Locals) → AreKeyed locals → (rows : List LocalRow) → AreScanned f locals rows → (k : Text × (Text × ℕ)) → map.get (made_by f rows locals) k ≡ option_and_then f (map.get locals k)
  made_is locals keyed rows s k = elim (find_key rows k) [
    | inl r ↦
        subst (λ x. map.get (made_by f rows locals) x ≡ option_and_then f (map.get locals x)) r.2 (made_there rows locals s.distinct r.0 r.1 ∙ sym (ap (option_and_then f) (s.stand r.0 r.1)))
    | inr none ↦ made_elsewhere rows locals k none ∙ by (map.get locals k) refl (keyed k) none
  ]
    where
      by : (o : Option LocalRow) → map.get locals k ≡ o → IfSome o (λ row. local_key row ≡ k) → ((row : LocalRow) → IsOneOf rows row → k ≢ local_key row) → map.get locals k ≡ option_and_then f (map.get locals k)
      by None e h none = e ∙ sym (ap (option_and_then f) e)
      by (Some x) e h none = elim (s.all x (ap (map.get locals) h ∙ e)) [
        | inl same ↦ e ∙ sym (ap (option_and_then f) e ∙ same)
        | inr among ↦ absurd (none x among (sym h))
      ]

  pub made_keyed : (rows : List LocalRow) (m : Locals) → AreKeyed m → AreKeyed (made_by f rows m)
  made_keyed [] m h = h
  made_keyed (row ∷ rows) m h = made_keyed rows (put_in m row (f row)) (by (f row))
    where
      by : (o : Option LocalRow) → AreKeyed (put_in m row o)
      by None = keyed-remove locals_total local_key exact_locals m (local_key row) h
      by (Some now) = keyed-insert locals_total local_key exact_locals m now h
