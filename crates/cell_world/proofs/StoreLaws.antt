-- What stands in a store after a put or a delete.
use Rattle.std.proofs.Common.{◌≡◌, ◌≢◌, Bool, true, false, cond, refl, ap, ◌∙◌, Some, None, option_map, ◌||◌, not, ◌&&◌, ◌⊎◌, inl, inr}
use Rattle.std.specs.Ordering.{eq_by_cmp}
use Rattle.std.specs.Cmp.{IsTotalOrder}
use Rattle.std.specs.FinMap as map
use Rattle.std.specs.FinMap.{FinMap, IsAntisymmetric}
use Rattle.std.specs.FinSet as set
use Rattle.std.specs.FinSet.{FinSet}
use Rattle.std.specs.declared.cmp.Ordering.{Ordering}
use Rattle.std.proofs.lemmas.Cmp.{nat_list_cmp_total, nat_cmp_total}
use Rattle.std.proofs.lemmas.Map.Lookups.{exact_unsigned}
use Rattle.cell_world.specs.Stores.{Store, put, delete, cell_at, own_key, Stands, piece_key, local_key}
use Rattle.cell_world.specs.declared.cells.Cell.{Cell}
use Rattle.cell_world.specs.declared.cells.Cell.TheVariants as cell
use Rattle.cell_world.specs.declared.cells.CellKey.{CellKey}
use Rattle.cell_world.specs.declared.cells.CellKey.TheVariants as at
use Rattle.cell_world.proofs.OrderLaws.{tied, untied, tied_is, pairs_total, locals_total, rows_total, exact_texts, exact_text_pairs, exact_locals, exact_rows}

-- ---- finite maps and sets

module _ {K X : Type 0} {R : K → K → Ordering} (o : IsTotalOrder R) where
  pub get-insert_same : (m : FinMap R X) (k : K) (v : X) → map.get (map.insert m k v) k ≡ Some v
  get-insert_same m k v = map.get-insert o m k v k ∙ ap (λ b. cond b (Some v) (map.get m k)) (tied o k)

  pub get-insert_other : IsAntisymmetric R → (m : FinMap R X) (k : K) (v : X) (q : K) → q ≢ k → map.get (map.insert m k v) q ≡ map.get m q
  get-insert_other same m k v q ne = map.get-insert o m k v q ∙ ap (λ b. cond b (Some v) (map.get m q)) (untied same q k ne)

  pub get-remove_same : (m : FinMap R X) (k : K) → map.get (map.remove m k) k ≡ None
  get-remove_same m k = map.get-remove o m k k ∙ ap (λ b. cond b None (map.get m k)) (tied o k)

  pub get-remove_other : IsAntisymmetric R → (m : FinMap R X) (k q : K) → q ≢ k → map.get (map.remove m k) q ≡ map.get m q
  get-remove_other same m k q ne = map.get-remove o m k q ∙ ap (λ b. cond b None (map.get m q)) (untied same q k ne)

  -- after an insert a key is the inserted one, or has what it had
  pub get-insert_cases : IsAntisymmetric R → (m : FinMap R X) (k : K) (v : X) (q : K) → ((q ≡ k) × (map.get (map.insert m k v) q ≡ Some v)) ⊎ (map.get (map.insert m k v) q ≡ map.get m q)
  get-insert_cases same m k v q = by (eq_by_cmp R q k) refl
    where
      by : (b : Bool) → eq_by_cmp R q k ≡ b → ((q ≡ k) × (map.get (map.insert m k v) q ≡ Some v)) ⊎ (map.get (map.insert m k v) q ≡ map.get m q)
      by true t = inl (tied_is same q k t, map.get-insert o m k v q ∙ ap (λ b. cond b (Some v) (map.get m q)) t)
      by false t = inr (map.get-insert o m k v q ∙ ap (λ b. cond b (Some v) (map.get m q)) t)

  -- after a remove a key is the removed one, which has nothing, or has what it had
  pub get-remove_cases : IsAntisymmetric R → (m : FinMap R X) (k q : K) → ((q ≡ k) × (map.get (map.remove m k) q ≡ None)) ⊎ (map.get (map.remove m k) q ≡ map.get m q)
  get-remove_cases same m k q = by (eq_by_cmp R q k) refl
    where
      by : (b : Bool) → eq_by_cmp R q k ≡ b → ((q ≡ k) × (map.get (map.remove m k) q ≡ None)) ⊎ (map.get (map.remove m k) q ≡ map.get m q)
      by true t = inl (tied_is same q k t, map.get-remove o m k q ∙ ap (λ b. cond b None (map.get m q)) t)
      by false t = inr (map.get-remove o m k q ∙ ap (λ b. cond b None (map.get m q)) t)

module _ {K : Type 0} {R : K → K → Ordering} (o : IsTotalOrder R) where
  pub contains-insert_same : (s : FinSet R) (k : K) → set.contains (set.insert s k) k ≡ true
  contains-insert_same s k = set.contains-insert o s k k ∙ ap (λ b. b || set.contains s k) (tied o k)

  pub contains-insert_other : IsAntisymmetric R → (s : FinSet R) (k q : K) → q ≢ k → set.contains (set.insert s k) q ≡ set.contains s q
  contains-insert_other same s k q ne = set.contains-insert o s k q ∙ ap (λ b. b || set.contains s q) (untied same q k ne)

  pub contains-remove_same : (s : FinSet R) (k : K) → set.contains (set.remove s k) k ≡ false
  contains-remove_same s k = set.contains-remove o s k k ∙ ap (λ b. not b && set.contains s k) (tied o k)

  pub contains-remove_other : IsAntisymmetric R → (s : FinSet R) (k q : K) → q ≢ k → set.contains (set.remove s k) q ≡ set.contains s q
  contains-remove_other same s k q ne = set.contains-remove o s k q ∙ ap (λ b. not b && set.contains s q) (untied same q k ne)

  -- after an insert a key is the inserted one, or is there where it was
  pub contains-insert_cases : IsAntisymmetric R → (s : FinSet R) (k q : K) → ((q ≡ k) × (set.contains (set.insert s k) q ≡ true)) ⊎ (set.contains (set.insert s k) q ≡ set.contains s q)
  contains-insert_cases same s k q = by (eq_by_cmp R q k) refl
    where
      by : (b : Bool) → eq_by_cmp R q k ≡ b → ((q ≡ k) × (set.contains (set.insert s k) q ≡ true)) ⊎ (set.contains (set.insert s k) q ≡ set.contains s q)
      by true t = inl (tied_is same q k t, set.contains-insert o s k q ∙ ap (λ b. b || set.contains s q) t)
      by false t = inr (set.contains-insert o s k q ∙ ap (λ b. b || set.contains s q) t)

  -- after a remove a key is not there, or is there where it was
  pub contains-remove_cases : (s : FinSet R) (k q : K) → (set.contains (set.remove s k) q ≡ false) ⊎ (set.contains (set.remove s k) q ≡ set.contains s q)
  contains-remove_cases s k q = by (eq_by_cmp R q k) refl
    where
      by : (b : Bool) → eq_by_cmp R q k ≡ b → (set.contains (set.remove s k) q ≡ false) ⊎ (set.contains (set.remove s k) q ≡ set.contains s q)
      by true t = inl (set.contains-remove o s k q ∙ ap (λ b. not b && set.contains s q) t)
      by false t = inr (set.contains-remove o s k q ∙ ap (λ b. not b && set.contains s q) t)

-- ---- cells after a put

-- A cell that was put stands.
pub cell_at-put_same : (s : Store) (c : Cell) → Stands (put s c) c
cell_at-put_same s (cell.Map name kind type) = ap (option_map (λ v. cell.Map name v.0 v.1)) (get-insert_same nat_list_cmp_total s.maps name (kind, type))
cell_at-put_same s (cell.Shard name location) = ap (λ b. cond b (Some (cell.Shard name location)) None) (contains-insert_same pairs_total s.shards (name, location))
cell_at-put_same s (cell.Table name table) = ap (λ b. cond b (Some (cell.Table name table)) None) (contains-insert_same pairs_total s.tables (name, table))
cell_at-put_same s (cell.Piece piece) = ap (option_map cell.Piece) (get-insert_same pairs_total s.mappings (piece_key piece) piece)
cell_at-put_same s (cell.Log op) = ap (option_map cell.Log) (get-insert_same nat_cmp_total s.log op.number op)
cell_at-put_same s (cell.Job job) = ap (option_map cell.Job) (get-insert_same nat_cmp_total s.jobs job.number job)
cell_at-put_same s (cell.Counter counters) = refl
cell_at-put_same s (cell.SiteState location state) = ap (option_map (cell.SiteState location)) (get-insert_same nat_list_cmp_total s.away location state)
cell_at-put_same s (cell.Local row) = ap (option_map cell.Local) (get-insert_same locals_total s.locals (local_key row) row)
cell_at-put_same s (cell.Row row bytes) = ap (option_map (cell.Row row)) (get-insert_same rows_total s.rows row bytes)

-- Under every other key stands what stood there.
pub cell_at-put_other : (s : Store) (c : Cell) (k : CellKey) → k ≢ own_key c → cell_at (put s c) k ≡ cell_at s k
cell_at-put_other s (cell.Map name kind type) (at.Map q) ne = ap (option_map (λ v. cell.Map q v.0 v.1)) (get-insert_other nat_list_cmp_total exact_texts s.maps name (kind, type) q (λ e. ne (ap at.Map e)))
cell_at-put_other s (cell.Shard name location) (at.Shard q l) ne = ap (λ b. cond b (Some (cell.Shard q l)) None) (contains-insert_other pairs_total exact_text_pairs s.shards (name, location) (q, l) (λ e. ne (λ i. at.Shard (e i).0 (e i).1)))
cell_at-put_other s (cell.Table name table) (at.Table q t) ne = ap (λ b. cond b (Some (cell.Table q t)) None) (contains-insert_other pairs_total exact_text_pairs s.tables (name, table) (q, t) (λ e. ne (λ i. at.Table (e i).0 (e i).1)))
cell_at-put_other s (cell.Piece piece) (at.Piece q low) ne = ap (option_map cell.Piece) (get-insert_other pairs_total exact_text_pairs s.mappings (piece_key piece) piece (q, low) (λ e. ne (λ i. at.Piece (e i).0 (e i).1)))
cell_at-put_other s (cell.Log op) (at.Log q) ne = ap (option_map cell.Log) (get-insert_other nat_cmp_total exact_unsigned s.log op.number op q (λ e. ne (ap at.Log e)))
cell_at-put_other s (cell.Job job) (at.Job q) ne = ap (option_map cell.Job) (get-insert_other nat_cmp_total exact_unsigned s.jobs job.number job q (λ e. ne (ap at.Job e)))
cell_at-put_other s (cell.Counter counters) at.Counter ne = absurd (ne refl)
cell_at-put_other s (cell.SiteState location state) (at.SiteState q) ne = ap (option_map (cell.SiteState q)) (get-insert_other nat_list_cmp_total exact_texts s.away location state q (λ e. ne (ap at.SiteState e)))
cell_at-put_other s (cell.Local row) (at.Local q low number) ne = ap (option_map cell.Local) (get-insert_other locals_total exact_locals s.locals (local_key row) row (q, (low, number)) (λ e. ne (λ i. at.Local (e i).0 (e i).1.0 (e i).1.1)))
cell_at-put_other s (cell.Row row bytes) (at.Row q) ne = ap (option_map (cell.Row q)) (get-insert_other rows_total exact_rows s.rows row bytes q (λ e. ne (ap at.Row e)))
cell_at-put_other s c k ne = refl

-- ---- cells after a delete

-- Nothing stands under a key that was deleted.
pub cell_at-delete_same : (s : Store) (k : CellKey) → cell_at (delete s k) k ≡ None
cell_at-delete_same s (at.Map name) = ap (option_map (λ v. cell.Map name v.0 v.1)) (get-remove_same nat_list_cmp_total s.maps name)
cell_at-delete_same s (at.Shard name location) = ap (λ b. cond b (Some (cell.Shard name location)) None) (contains-remove_same pairs_total s.shards (name, location))
cell_at-delete_same s (at.Table name table) = ap (λ b. cond b (Some (cell.Table name table)) None) (contains-remove_same pairs_total s.tables (name, table))
cell_at-delete_same s (at.Piece name low) = ap (option_map cell.Piece) (get-remove_same pairs_total s.mappings (name, low))
cell_at-delete_same s (at.Log number) = ap (option_map cell.Log) (get-remove_same nat_cmp_total s.log number)
cell_at-delete_same s (at.Job number) = ap (option_map cell.Job) (get-remove_same nat_cmp_total s.jobs number)
cell_at-delete_same s at.Counter = refl
cell_at-delete_same s (at.SiteState location) = ap (option_map (cell.SiteState location)) (get-remove_same nat_list_cmp_total s.away location)
cell_at-delete_same s (at.Local name low number) = ap (option_map cell.Local) (get-remove_same locals_total s.locals (name, (low, number)))
cell_at-delete_same s (at.Row row) = ap (option_map (cell.Row row)) (get-remove_same rows_total s.rows row)

-- Under every other key stands what stood there.
pub cell_at-delete_other : (s : Store) (k q : CellKey) → q ≢ k → cell_at (delete s k) q ≡ cell_at s q
cell_at-delete_other s (at.Map name) (at.Map q) ne = ap (option_map (λ v. cell.Map q v.0 v.1)) (get-remove_other nat_list_cmp_total exact_texts s.maps name q (λ e. ne (ap at.Map e)))
cell_at-delete_other s (at.Shard name location) (at.Shard q l) ne = ap (λ b. cond b (Some (cell.Shard q l)) None) (contains-remove_other pairs_total exact_text_pairs s.shards (name, location) (q, l) (λ e. ne (λ i. at.Shard (e i).0 (e i).1)))
cell_at-delete_other s (at.Table name table) (at.Table q t) ne = ap (λ b. cond b (Some (cell.Table q t)) None) (contains-remove_other pairs_total exact_text_pairs s.tables (name, table) (q, t) (λ e. ne (λ i. at.Table (e i).0 (e i).1)))
cell_at-delete_other s (at.Piece name low) (at.Piece q l) ne = ap (option_map cell.Piece) (get-remove_other pairs_total exact_text_pairs s.mappings (name, low) (q, l) (λ e. ne (λ i. at.Piece (e i).0 (e i).1)))
cell_at-delete_other s (at.Log number) (at.Log q) ne = ap (option_map cell.Log) (get-remove_other nat_cmp_total exact_unsigned s.log number q (λ e. ne (ap at.Log e)))
cell_at-delete_other s (at.Job number) (at.Job q) ne = ap (option_map cell.Job) (get-remove_other nat_cmp_total exact_unsigned s.jobs number q (λ e. ne (ap at.Job e)))
cell_at-delete_other s at.Counter at.Counter ne = absurd (ne refl)
cell_at-delete_other s (at.SiteState location) (at.SiteState q) ne = ap (option_map (cell.SiteState q)) (get-remove_other nat_list_cmp_total exact_texts s.away location q (λ e. ne (ap at.SiteState e)))
cell_at-delete_other s (at.Local name low number) (at.Local q l n) ne = ap (option_map cell.Local) (get-remove_other locals_total exact_locals s.locals (name, (low, number)) (q, (l, n)) (λ e. ne (λ i. at.Local (e i).0 (e i).1.0 (e i).1.1)))
cell_at-delete_other s (at.Row row) (at.Row q) ne = ap (option_map (cell.Row q)) (get-remove_other rows_total exact_rows s.rows row q (λ e. ne (ap at.Row e)))
cell_at-delete_other s k q ne = refl
