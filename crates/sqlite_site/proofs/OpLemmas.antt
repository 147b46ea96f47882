-- The edits of a change and what they do to rows, one by one.
use Rattle.std.proofs.Common.{◌≡◌, ℕ, ℤ, ◌+◌, ◌<◌, List, [], ◌∷◌, ◌++◌, take, length, get_or, Option, Some, None, Vec, Global, sym, ap, subst, ◌∙◌}
use Rattle.std.specs.Prelude.{option_map, unwrap_or, MatchOption}
use Rattle.std.proofs.lemmas.List.{take_more}
use Rattle.cell_world.specs.Orders.{kind_number}
use Rattle.cell_world.specs.Stores.{own_key}
use Rattle.cell_world.specs.declared.cells.Cell.{Cell}
use Rattle.cell_world.specs.declared.cells.CellKey.{CellKey}
use Rattle.cell_world.specs.declared.changes.Edit.{Edit}
use Rattle.cell_world.specs.declared.changes.Edit.TheVariants.{Put, Delete}
use Rattle.record_form.specs.Layout.{spelling}
use Rattle.record_form.specs.OrderBytes.{ordered}
use Rattle.cell_table.specs.Cells.{Entry, others, IsMade, AreMade}
use Rattle.cell_table.specs.declared.Op.{Op}
use Rattle.sqlite_site.specs.Entries.{with_cell, AreEdited}
use Rattle.sqlite_site.specs.Held.{IsOpOf, AreOpsOf}

ops_push : (ops : List Op) (edits : List Edit) (op : Op) (edit : Edit) → AreOpsOf ops edits → IsOpOf op edit → AreOpsOf (ops ++ op ∷ []) (edits ++ edit ∷ [])
ops_push [] [] op edit are is = (is, tt)
ops_push (o ∷ os) (e ∷ es) op edit are is = (are.0, ops_push os es op edit are.1 is)
ops_push [] (e ∷ es) op edit are is = absurd are
ops_push (o ∷ os) [] op edit are is = absurd are

-- one edit more
pub ops_more : (ops : List Op) (edits : List Edit) (i : ℕ) (op : Op) (edit : Edit) → i < length edits → edit ≡ get_or edits i edit → AreOpsOf ops (take i edits) → IsOpOf op edit → AreOpsOf (ops ++ op ∷ []) (take (i + 1) edits)
ops_more ops edits i op edit within is are one =
    subst (λ es. AreOpsOf (ops ++ op ∷ []) es) (sym (take_more edits i edit within)) (ops_push ops (take i edits) op (get_or edits i edit) are (subst (IsOpOf op) is one))

-- ---- what is made is the edit

put_made : (v : Option (Vec ℕ Global)) (kind : ℕ) (key : List ℕ) (c : Cell) (all mid : List Entry) → kind ≡ kind_number (own_key c) → key ≡ ordered (own_key c) → option_map (λ v. v.items) v ≡ Some (spelling c)
    → MatchOption v (mid ≡ others kind key all) (λ v. (id : ℤ) × (mid ≡ others kind key all ++ record { id = id; kind = kind; key = key; value = v.items } ∷ []))
    → (id : ℤ) × (mid ≡ with_cell all id c)
put_made None kind key c all mid k o is made = absurd cc
put_made (Some v) kind key c all mid k o is made =
    let items : v.items ≡ spelling c = ap (λ x. unwrap_or x []) is in (made.0, made.1 ∙ (λ i. others (k i) (o i) all ++ record { id = made.0; kind = k i; key = o i; value = items i } ∷ []))

delete_made : (v : Option (Vec ℕ Global)) (kind : ℕ) (key : List ℕ) (k : CellKey) (all mid : List Entry) → kind ≡ kind_number k → key ≡ ordered k → v ≡ None
    → MatchOption v (mid ≡ others kind key all) (λ v. (id : ℤ) × (mid ≡ others kind key all ++ record { id = id; kind = kind; key = key; value = v.items } ∷ []))
    → mid ≡ others (kind_number k) (ordered k) all
delete_made None kind key k all mid n o is made = made ∙ (λ i. others (n i) (o i) all)
delete_made (Some v) kind key k all mid n o is made = absurd cc

edited_one : (op : Op) (edit : Edit) (edits : List Edit) (all mid next : List Entry) → IsOpOf op edit → IsMade op all mid → AreEdited edits mid next → AreEdited (edit ∷ edits) all next
edited_one op (Put c) edits all mid next is made rest =
    let it = put_made op.value op.kind op.key.items c all mid is.0 is.1 is.2 made in (it.0, subst (λ xs. AreEdited edits xs next) it.1 rest)
edited_one op (Delete k) edits all mid next is made rest =
    let it = delete_made op.value op.kind op.key.items k all mid is.0 is.1 is.2 made in subst (λ xs. AreEdited edits xs next) it rest

pub edited_all : (ops : List Op) (edits : List Edit) (all next : List Entry) → AreOpsOf ops edits → AreMade ops all next → AreEdited edits all next
edited_all [] [] all next are made = made
edited_all (op ∷ ops) (edit ∷ edits) all next are made = edited_one op edit edits all made.0 next are.0 made.1 (edited_all ops edits made.0 next are.1 made.2)
edited_all [] (edit ∷ edits) all next are made = absurd are
edited_all (op ∷ ops) [] all next are made = absurd are
