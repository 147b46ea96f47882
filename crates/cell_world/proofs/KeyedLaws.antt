-- Each cell stands under its own key, and every change keeps that.
use Rattle.std.proofs.Common.{◌≡◌, ℕ, suc, zero-lt-suc, suc-le-suc, Bool, true, false, cond, refl, sym, ap, ◌∙◌, subst, Some, None, Option, option_map, List, [], ◌∷◌, All, IfSome, ◌⊎◌, inl, inr, ⊎_elim}
use Rattle.std.specs.Cmp.{IsTotalOrder}
use Rattle.std.specs.FinMap as map
use Rattle.std.specs.FinMap.{FinMap, IsAntisymmetric}
use Rattle.std.specs.FinSet as set
use Rattle.std.specs.declared.cmp.Ordering.{Ordering}
use Rattle.std.specs.Ordering.{nat_cmp}
use Rattle.std.proofs.lemmas.Cmp.{nat_list_cmp_total, nat_cmp_total}
use Rattle.std.proofs.lemmas.Map.Lookups.{exact_unsigned}
use Rattle.cell_world.specs.ByteOrder.{byte_cmp}
use Rattle.cell_world.specs.Orders.{pair_cmp, local_cmp, row_cmp}
use Rattle.cell_world.specs.Spelled.{IsCell, AreEdits}
use Rattle.cell_world.specs.Stores.{Store, put, delete, edited, changed, empty_store, cell_at, own_key, Stands, piece_key, local_key, IsKeyed, IsStore}
use Rattle.cell_world.specs.declared.operations.Op.{Op}
use Rattle.cell_world.specs.declared.operations.JobRow.{JobRow}
use Rattle.cell_world.specs.declared.cells.Cell.{Cell}
use Rattle.cell_world.specs.declared.cells.Cell.TheVariants as cell
use Rattle.cell_world.specs.declared.cells.CellKey.{CellKey}
use Rattle.cell_world.specs.declared.cells.CellKey.TheVariants as at
use Rattle.cell_world.specs.declared.changes.Edit.{Edit}
use Rattle.cell_world.specs.declared.changes.Edit.TheVariants.{Put, Delete}
use Rattle.cell_world.proofs.OrderLaws.{pairs_total, locals_total, rows_total, exact_texts, exact_text_pairs, exact_locals, exact_rows}
use Rattle.cell_world.proofs.StoreLaws.{get-insert_cases, get-remove_cases, contains-insert_cases, contains-remove_cases}

-- ---- values under their own keys, in a finite map

module _ {K X : Type 0} {R : K → K → Ordering} (o : IsTotalOrder R) (f : X → K) where
  abbrev pub Keyed : FinMap R X → Type 0
  Keyed m = (k : K) → IfSome (map.get m k) (λ v. f v ≡ k)

  pub keyed-insert : IsAntisymmetric R → (m : FinMap R X) (v : X) → Keyed m → Keyed (map.insert m (f v) v)
  keyed-insert same m v h k = ⊎_elim
      (λ c. subst (λ x. IfSome x (λ w. f w ≡ k)) (sym c.1) (sym c.0))
      (λ e. subst (λ x. IfSome x (λ w. f w ≡ k)) (sym e) (h k))
      (get-insert_cases o same m (f v) v k)

  pub keyed-remove : IsAntisymmetric R → (m : FinMap R X) (k : K) → Keyed m → Keyed (map.remove m k)
  keyed-remove same m k h q = ⊎_elim
      (λ c. subst (λ x. IfSome x (λ w. f w ≡ q)) (sym c.1) tt)
      (λ e. subst (λ x. IfSome x (λ w. f w ≡ q)) (sym e) (h q))
      (get-remove_cases o same m k q)

  pub keyed-empty : Keyed map.empty
  keyed-empty k = subst (λ x. IfSome x (λ w. f w ≡ k)) (sym (map.get-empty R k)) tt

abbrev op_number : Op → ℕ
op_number op = op.number

abbrev job_number : JobRow → ℕ
job_number job = job.number

-- ---- stores

pub keyed_empty : IsKeyed empty_store
keyed_empty = record { mappings = keyed-empty pairs_total piece_key; log = keyed-empty nat_cmp_total op_number; jobs = keyed-empty nat_cmp_total job_number; locals = keyed-empty locals_total local_key }

pub keyed_put : (s : Store) (c : Cell) → IsKeyed s → IsKeyed (put s c)
keyed_put s (cell.Map name kind type) h = record { mappings = h.mappings; log = h.log; jobs = h.jobs; locals = h.locals }
keyed_put s (cell.Shard name location) h = record { mappings = h.mappings; log = h.log; jobs = h.jobs; locals = h.locals }
keyed_put s (cell.Table name table) h = record { mappings = h.mappings; log = h.log; jobs = h.jobs; locals = h.locals }
keyed_put s (cell.Piece piece) h = record { mappings = keyed-insert pairs_total piece_key exact_text_pairs s.mappings piece h.mappings; log = h.log; jobs = h.jobs; locals = h.locals }
keyed_put s (cell.Log op) h = record { mappings = h.mappings; log = keyed-insert nat_cmp_total op_number exact_unsigned s.log op h.log; jobs = h.jobs; locals = h.locals }
keyed_put s (cell.Job job) h = record { mappings = h.mappings; log = h.log; jobs = keyed-insert nat_cmp_total job_number exact_unsigned s.jobs job h.jobs; locals = h.locals }
keyed_put s (cell.Counter counters) h = record { mappings = h.mappings; log = h.log; jobs = h.jobs; locals = h.locals }
keyed_put s (cell.SiteState location state) h = record { mappings = h.mappings; log = h.log; jobs = h.jobs; locals = h.locals }
keyed_put s (cell.Local row) h = record { mappings = h.mappings; log = h.log; jobs = h.jobs; locals = keyed-insert locals_total local_key exact_locals s.locals row h.locals }
keyed_put s (cell.Row row bytes) h = record { mappings = h.mappings; log = h.log; jobs = h.jobs; locals = h.locals }

pub keyed_delete : (s : Store) (k : CellKey) → IsKeyed s → IsKeyed (delete s k)
keyed_delete s (at.Map name) h = record { mappings = h.mappings; log = h.log; jobs = h.jobs; locals = h.locals }
keyed_delete s (at.Shard name location) h = record { mappings = h.mappings; log = h.log; jobs = h.jobs; locals = h.locals }
keyed_delete s (at.Table name table) h = record { mappings = h.mappings; log = h.log; jobs = h.jobs; locals = h.locals }
keyed_delete s (at.Piece name low) h = record { mappings = keyed-remove pairs_total piece_key exact_text_pairs s.mappings (name, low) h.mappings; log = h.log; jobs = h.jobs; locals = h.locals }
keyed_delete s (at.Log number) h = record { mappings = h.mappings; log = keyed-remove nat_cmp_total op_number exact_unsigned s.log number h.log; jobs = h.jobs; locals = h.locals }
keyed_delete s (at.Job number) h = record { mappings = h.mappings; log = h.log; jobs = keyed-remove nat_cmp_total job_number exact_unsigned s.jobs number h.jobs; locals = h.locals }
keyed_delete s at.Counter h = record { mappings = h.mappings; log = h.log; jobs = h.jobs; locals = h.locals }
keyed_delete s (at.SiteState location) h = record { mappings = h.mappings; log = h.log; jobs = h.jobs; locals = h.locals }
keyed_delete s (at.Local name low number) h = record { mappings = h.mappings; log = h.log; jobs = h.jobs; locals = keyed-remove locals_total local_key exact_locals s.locals (name, (low, number)) h.locals }
keyed_delete s (at.Row row) h = record { mappings = h.mappings; log = h.log; jobs = h.jobs; locals = h.locals }

pub keyed_edited : (s : Store) (edit : Edit) → IsKeyed s → IsKeyed (edited s edit)
keyed_edited s (Put c) h = keyed_put s c h
keyed_edited s (Delete k) h = keyed_delete s k h

pub keyed_changed : (s : Store) (edits : List Edit) → IsKeyed s → IsKeyed (changed s edits)
keyed_changed s [] h = h
keyed_changed s (edit ∷ edits) h = keyed_changed (edited s edit) edits (keyed_edited s edit h)

-- ---- a cell is found under its own key alone

own_value : {K X : Type 0} (f : X → K) (x : Option X) (k : K) → IfSome x (λ v. f v ≡ k) → (v : X) → x ≡ Some v → f v ≡ k
own_value f None k h v e = cc
own_value f (Some w) k h v e = let is : w ≡ v = cc in subst (λ x. f x ≡ k) is h

some_of : {A B : Type 0} (f : A → B) (x : Option A) (b : B) → option_map f x ≡ Some b → (a : A) × (x ≡ Some a) × (f a ≡ b)
some_of f None b e = cc
some_of f (Some a) b e = (a, refl, (let is : f a ≡ b = cc in is))

own_test : (b : Bool) (c d : Cell) → cond b (Some c) None ≡ Some d → c ≡ d
own_test true c d e = cc
own_test false c d e = cc

pub stands_under : (s : Store) (k : CellKey) (c : Cell) → IsKeyed s → cell_at s k ≡ Some c → own_key c ≡ k
stands_under s (at.Map name) c h e = sym (ap own_key (some_of (λ v. cell.Map name v.0 v.1) (map.get s.maps name) c e).2)
stands_under s (at.Shard name location) c h e = sym (ap own_key (own_test _ (cell.Shard name location) c e))
stands_under s (at.Table name table) c h e = sym (ap own_key (own_test _ (cell.Table name table) c e))
stands_under s (at.Piece name low) c h e =
    let f = some_of cell.Piece (map.get s.mappings (name, low)) c e in
    let at_own : piece_key f.0 ≡ (name, low) = own_value piece_key _ (name, low) (h.mappings (name, low)) f.0 f.1 in
    sym (ap own_key f.2) ∙ (λ i. at.Piece (at_own i).0 (at_own i).1)
stands_under s (at.Log number) c h e =
    let f = some_of cell.Log (map.get s.log number) c e in
    sym (ap own_key f.2) ∙ ap at.Log (own_value op_number _ number (h.log number) f.0 f.1)
stands_under s (at.Job number) c h e =
    let f = some_of cell.Job (map.get s.jobs number) c e in
    sym (ap own_key f.2) ∙ ap at.Job (own_value job_number _ number (h.jobs number) f.0 f.1)
stands_under s at.Counter c h e = sym (ap own_key (some_of cell.Counter s.counter c e).2)
stands_under s (at.SiteState location) c h e = sym (ap own_key (some_of (cell.SiteState location) (map.get s.away location) c e).2)
stands_under s (at.Local name low number) c h e =
    let f = some_of cell.Local (map.get s.locals (name, (low, number))) c e in
    let at_own : local_key f.0 ≡ (name, (low, number)) = own_value local_key _ (name, (low, number)) (h.locals (name, (low, number))) f.0 f.1 in
    sym (ap own_key f.2) ∙ (λ i. at.Local (at_own i).0 (at_own i).1.0 (at_own i).1.1)
stands_under s (at.Row row) c h e = sym (ap own_key (some_of (cell.Row row) (map.get s.rows row) c e).2)

-- ---- nothing but cells

-- what stands after a put is the cell that was put, or stood there
put_cases : (s : Store) (c : Cell) (k : CellKey) → (cell_at (put s c) k ≡ Some c) ⊎ (cell_at (put s c) k ≡ cell_at s k)
put_cases s (cell.Map name kind type) (at.Map q) = ⊎_elim
    (λ c. inl (ap (option_map (λ v. cell.Map q v.0 v.1)) c.1 ∙ ap (λ n. Some (cell.Map n kind type)) c.0))
    (λ e. inr (ap (option_map (λ v. cell.Map q v.0 v.1)) e))
    (get-insert_cases nat_list_cmp_total exact_texts s.maps name (kind, type) q)
put_cases s (cell.Shard name location) (at.Shard q l) = ⊎_elim
    (λ c. inl (ap (λ b. cond b (Some (cell.Shard q l)) None) c.1 ∙ (λ i. Some (cell.Shard (c.0 i).0 (c.0 i).1))))
    (λ e. inr (ap (λ b. cond b (Some (cell.Shard q l)) None) e))
    (contains-insert_cases pairs_total exact_text_pairs s.shards (name, location) (q, l))
put_cases s (cell.Table name table) (at.Table q t) = ⊎_elim
    (λ c. inl (ap (λ b. cond b (Some (cell.Table q t)) None) c.1 ∙ (λ i. Some (cell.Table (c.0 i).0 (c.0 i).1))))
    (λ e. inr (ap (λ b. cond b (Some (cell.Table q t)) None) e))
    (contains-insert_cases pairs_total exact_text_pairs s.tables (name, table) (q, t))
put_cases s (cell.Piece piece) (at.Piece q low) = ⊎_elim
    (λ c. inl (ap (option_map cell.Piece) c.1))
    (λ e. inr (ap (option_map cell.Piece) e))
    (get-insert_cases pairs_total exact_text_pairs s.mappings (piece_key piece) piece (q, low))
put_cases s (cell.Log op) (at.Log q) = ⊎_elim
    (λ c. inl (ap (option_map cell.Log) c.1))
    (λ e. inr (ap (option_map cell.Log) e))
    (get-insert_cases nat_cmp_total exact_unsigned s.log op.number op q)
put_cases s (cell.Job job) (at.Job q) = ⊎_elim
    (λ c. inl (ap (option_map cell.Job) c.1))
    (λ e. inr (ap (option_map cell.Job) e))
    (get-insert_cases nat_cmp_total exact_unsigned s.jobs job.number job q)
put_cases s (cell.Counter counters) at.Counter = inl refl
put_cases s (cell.SiteState location state) (at.SiteState q) = ⊎_elim
    (λ c. inl (ap (option_map (cell.SiteState q)) c.1 ∙ ap (λ l. Some (cell.SiteState l state)) c.0))
    (λ e. inr (ap (option_map (cell.SiteState q)) e))
    (get-insert_cases nat_list_cmp_total exact_texts s.away location state q)
put_cases s (cell.Local row) (at.Local q low number) = ⊎_elim
    (λ c. inl (ap (option_map cell.Local) c.1))
    (λ e. inr (ap (option_map cell.Local) e))
    (get-insert_cases locals_total exact_locals s.locals (local_key row) row (q, (low, number)))
put_cases s (cell.Row row bytes) (at.Row q) = ⊎_elim
    (λ c. inl (ap (option_map (cell.Row q)) c.1 ∙ ap (λ r. Some (cell.Row r bytes)) c.0))
    (λ e. inr (ap (option_map (cell.Row q)) e))
    (get-insert_cases rows_total exact_rows s.rows row bytes q)
put_cases s c k = inr refl

-- what stands after a delete stood there
delete_cases : (s : Store) (k q : CellKey) → (cell_at (delete s k) q ≡ None) ⊎ (cell_at (delete s k) q ≡ cell_at s q)
delete_cases s (at.Map name) (at.Map q) = ⊎_elim
    (λ c. inl (ap (option_map (λ v. cell.Map q v.0 v.1)) c.1))
    (λ e. inr (ap (option_map (λ v. cell.Map q v.0 v.1)) e))
    (get-remove_cases nat_list_cmp_total exact_texts s.maps name q)
delete_cases s (at.Shard name location) (at.Shard q l) = ⊎_elim
    (λ e. inl (ap (λ b. cond b (Some (cell.Shard q l)) None) e))
    (λ e. inr (ap (λ b. cond b (Some (cell.Shard q l)) None) e))
    (contains-remove_cases pairs_total s.shards (name, location) (q, l))
delete_cases s (at.Table name table) (at.Table q t) = ⊎_elim
    (λ e. inl (ap (λ b. cond b (Some (cell.Table q t)) None) e))
    (λ e. inr (ap (λ b. cond b (Some (cell.Table q t)) None) e))
    (contains-remove_cases pairs_total s.tables (name, table) (q, t))
delete_cases s (at.Piece name low) (at.Piece q l) = ⊎_elim
    (λ c. inl (ap (option_map cell.Piece) c.1))
    (λ e. inr (ap (option_map cell.Piece) e))
    (get-remove_cases pairs_total exact_text_pairs s.mappings (name, low) (q, l))
delete_cases s (at.Log number) (at.Log q) = ⊎_elim
    (λ c. inl (ap (option_map cell.Log) c.1))
    (λ e. inr (ap (option_map cell.Log) e))
    (get-remove_cases nat_cmp_total exact_unsigned s.log number q)
delete_cases s (at.Job number) (at.Job q) = ⊎_elim
    (λ c. inl (ap (option_map cell.Job) c.1))
    (λ e. inr (ap (option_map cell.Job) e))
    (get-remove_cases nat_cmp_total exact_unsigned s.jobs number q)
delete_cases s at.Counter at.Counter = inl refl
delete_cases s (at.SiteState location) (at.SiteState q) = ⊎_elim
    (λ c. inl (ap (option_map (cell.SiteState q)) c.1))
    (λ e. inr (ap (option_map (cell.SiteState q)) e))
    (get-remove_cases nat_list_cmp_total exact_texts s.away location q)
delete_cases s (at.Local name low number) (at.Local q l n) = ⊎_elim
    (λ c. inl (ap (option_map cell.Local) c.1))
    (λ e. inr (ap (option_map cell.Local) e))
    (get-remove_cases locals_total exact_locals s.locals (name, (low, number)) (q, (l, n)))
delete_cases s (at.Row row) (at.Row q) = ⊎_elim
    (λ c. inl (ap (option_map (cell.Row q)) c.1))
    (λ e. inr (ap (option_map (cell.Row q)) e))
    (get-remove_cases rows_total exact_rows s.rows row q)
delete_cases s k q = inr refl

pub stands_put : (s : Store) (c d : Cell) → Stands (put s c) d → (c ≡ d) ⊎ Stands s d
stands_put s c d h = ⊎_elim
    (λ e. inl (let both : Some c ≡ Some d = sym e ∙ h in let is : c ≡ d = cc in is))
    (λ e. inr (sym e ∙ h))
    (put_cases s c (own_key d))

pub stands_delete : (s : Store) (k : CellKey) (d : Cell) → Stands (delete s k) d → Stands s d
stands_delete s k d h = ⊎_elim
    (λ e. let both : None ≡ Some d = sym e ∙ h in let is : Stands s d = cc in is)
    (λ e. sym e ∙ h)
    (delete_cases s k (own_key d))

-- Nothing stands in the empty store.
pub cell_at-empty : (k : CellKey) → cell_at empty_store k ≡ None
cell_at-empty (at.Map name) = ap (option_map (λ v. cell.Map name v.0 v.1)) (map.get-empty byte_cmp name)
cell_at-empty (at.Shard name location) = ap (λ b. cond b (Some (cell.Shard name location)) None) (set.contains-empty pair_cmp (name, location))
cell_at-empty (at.Table name table) = ap (λ b. cond b (Some (cell.Table name table)) None) (set.contains-empty pair_cmp (name, table))
cell_at-empty (at.Piece name low) = ap (option_map cell.Piece) (map.get-empty pair_cmp (name, low))
cell_at-empty (at.Log number) = ap (option_map cell.Log) (map.get-empty nat_cmp number)
cell_at-empty (at.Job number) = ap (option_map cell.Job) (map.get-empty nat_cmp number)
cell_at-empty at.Counter = refl
cell_at-empty (at.SiteState location) = ap (option_map (cell.SiteState location)) (map.get-empty byte_cmp location)
cell_at-empty (at.Local name low number) = ap (option_map cell.Local) (map.get-empty local_cmp (name, (low, number)))
cell_at-empty (at.Row row) = ap (option_map (cell.Row row)) (map.get-empty row_cmp row)

pub store_empty : IsStore empty_store
store_empty = record { keyed = keyed_empty; cells = λ c stands. none_stands c (sym (cell_at-empty (own_key c)) ∙ stands) }
  where
    none_stands : (c : Cell) → None ≡ Some c → IsCell c
    none_stands c e = cc

pub store_put : (s : Store) (c : Cell) → IsCell c → IsStore s → IsStore (put s c)
store_put s c is h = record { keyed = keyed_put s c h.keyed; cells = λ d stands. ⊎_elim (λ e. subst IsCell e is) (h.cells d) (stands_put s c d stands) }

pub store_delete : (s : Store) (k : CellKey) → IsStore s → IsStore (delete s k)
store_delete s k h = record { keyed = keyed_delete s k h.keyed; cells = λ d stands. h.cells d (stands_delete s k d stands) }

-- Each cell that the change puts can be spelled.
abbrev pub PutsCells : List Edit → Type 0
PutsCells edits = All (λ edit. (c : Cell) → edit ≡ Put c → IsCell c) edits

pub store_changed : (s : Store) (edits : List Edit) → PutsCells edits → IsStore s → IsStore (changed s edits)
store_changed s [] puts h = h
store_changed s (Put c ∷ edits) puts h = store_changed (put s c) edits (λ k d less. puts (suc k) d (suc-le-suc less)) (store_put s c (puts 0 (Put c) (zero-lt-suc _) c refl) h)
store_changed s (Delete k ∷ edits) puts h = store_changed (delete s k) edits (λ j d less. puts (suc j) d (suc-le-suc less)) (store_delete s k h)

-- So a change that is one of the program's type keeps a store one.
pub store_edits : (s : Store) (edits : List Edit) → AreEdits edits → IsStore s → IsStore (changed s edits)
store_edits s [] are h = h
store_edits s (Put c ∷ edits) are h = store_edits (put s c) edits are.1 (store_put s c are.0 h)
store_edits s (Delete k ∷ edits) are h = store_edits (delete s k) edits are.1 (store_delete s k h)
