-- The cells of a group are those that stand, in cell order.
use Rattle.std.proofs.Common.{◌≡◌, ℕ, Bool, true, false, cond, length, Option, Some, None, IfSome, option_map, refl, sym, ap, ◌∙◌, subst}
use Rattle.std.specs.FinMap as fin
use Rattle.std.specs.FinMap.{FinMap, IsAntisymmetric}
use Rattle.std.specs.Cmp.{IsTotalOrder}
use Rattle.std.specs.FinSet as set
use Rattle.std.specs.Ordering.{nat_cmp}
use Rattle.std.specs.declared.cmp.Ordering.{Ordering}
use Rattle.std.specs.declared.cmp.Ordering.TheVariants.{Less}
use Rattle.std.proofs.lemmas.Cmp.{nat_list_cmp_total, nat_cmp_total}
use Rattle.std.proofs.lemmas.List.{length-map}
use Rattle.std.proofs.lemmas.Map.Lookups.{exact_unsigned}
use Rattle.cell_world.specs.Texts.{Text}
use Rattle.cell_world.specs.ByteOrder.{byte_cmp}
use Rattle.cell_world.specs.Keys.{same}
use Rattle.cell_world.specs.Lists.{IsOneOf}
use Rattle.cell_world.specs.Orders.{pair_cmp}
use Rattle.cell_world.specs.Stores.{Store, IsKeyed, Stands, own_key, piece_key}
use Rattle.cell_world.specs.declared.cells.Cell.{Cell}
use Rattle.cell_world.specs.declared.cells.Cell.TheVariants as cell
use Rattle.cell_world.specs.declared.cells.MapKind.{MapKind}
use Rattle.cell_world.specs.declared.cells.KeyType.{KeyType}
use Rattle.cell_world.specs.declared.cells.Away.{Away}
use Rattle.cell_world.specs.declared.operations.Piece.{Piece}
use Rattle.cell_world.specs.declared.operations.Op.{Op}
use Rattle.cell_world.specs.declared.operations.JobRow.{JobRow}
use Rattle.cell_world.proofs.OrderLaws.{pairs_total, exact_texts, exact_text_pairs}
use Rattle.global_tables.specs.declared.groups.Group.{Group}
use Rattle.global_tables.specs.declared.groups.Group.TheVariants as group
use Rattle.cell_world.specs.Members.{members}
use Rattle.global_tables.specs.Groups.{is_in, shards_in, tables_in, pieces_in, count_of, cells_of}
use Rattle.global_tables.proofs.Rising.{Rising, rising_map_in, rising_filter, in_filter, from_filter, in_map, into_map}
use Rattle.global_tables.proofs.Entries.{entry_stands, entry_there, entries_rise, members_rise, member_stands, member_there}
use Rattle.global_tables.proofs.CellOrder.{Before, by_text, by_pair, by_number}

-- ---- values out of cells

-- what stands under a key is the one value that the cell is made of
get_back : {X C : Type 0} (f : X → C) → ((x y : X) → f x ≡ f y → x ≡ y) → (o : Option X) (x : X) → option_map f o ≡ Some (f x) → o ≡ Some x
get_back f one None x h = cc
get_back f one (Some y) x h = let e : f y ≡ f x = cc in ap Some (one y x e)

has_back : {C : Type 0} (b : Bool) (c : C) → cond b (Some c) None ≡ Some c → b ≡ true
has_back true c h = refl
has_back false c h = cc

-- the entries of a map whose values stand under their own keys
module _ {K X : Type 0} {R : K → K → Ordering} (o : IsTotalOrder R) (key : X → K) (m : FinMap R X) (keyed : (k : K) → IfSome (fin.get m k) (λ v. key v ≡ k)) where
  pub own : (k : K) (v : X) → fin.get m k ≡ Some v → key v ≡ k
  own k v h = subst (λ o. IfSome o (λ v. key v ≡ k)) h (keyed k)

  values_rise : Rising (λ u v. R (key u) (key v) ≡ Less) (fin.values m)
  values_rise = rising_map_in (λ (e : K × X). e.1) (λ a b. R a.0 b.0 ≡ Less) (λ u v. R (key u) (key v) ≡ Less) (fin.entries m)
      (λ a b p q h. (λ i. R (own a.0 a.1 (entry_stands R o m a p) i) (own b.0 b.1 (entry_stands R o m b q) i)) ∙ h)
      (entries_rise R o m)

  pub value_stands : (v : X) → IsOneOf (fin.values m) v → fin.get m (key v) ≡ Some v
  value_stands v h =
      let e = in_map (λ (e : K × X). e.1) (fin.entries m) v h in
      let there : fin.get m e.0.0 ≡ Some e.0.1 = entry_stands R o m e.0 e.1 in
      subst (λ w. fin.get m (key w) ≡ Some w) e.2 (ap (fin.get m) (own e.0.0 e.0.1 there) ∙ there)

  pub value_there : IsAntisymmetric R → (k : K) (v : X) → fin.get m k ≡ Some v → IsOneOf (fin.values m) v
  value_there exact k v h = into_map (λ (e : K × X). e.1) (fin.entries m) (k, v) (entry_there R o exact m k v h)

-- ---- each kind, in cell order and as it stands

abbrev map_cell : Text × (MapKind × KeyType) → Cell
map_cell m = cell.Map m.0 m.1.0 m.1.1

abbrev shard_cell : Text × Text → Cell
shard_cell shard = cell.Shard shard.0 shard.1

abbrev table_cell : Text × Text → Cell
table_cell table = cell.Table table.0 table.1

abbrev away_cell : Text × Away → Cell
away_cell site = cell.SiteState site.0 site.1

abbrev Pairs : Text × Text → Text × Text → Type 0
Pairs a b = pair_cmp a b ≡ Less

shards_before : (a b : Text × Text) → Pairs a b → Before (shard_cell a) (shard_cell b)
shards_before a b h = by_pair a b ∙ h

tables_before : (a b : Text × Text) → Pairs a b → Before (table_cell a) (table_cell b)
tables_before a b h = by_pair a b ∙ h

abbrev op_number : Op → ℕ
op_number op = op.number

abbrev job_number : JobRow → ℕ
job_number job = job.number

module _ (s : Store) (keyed : IsKeyed s) where
  -- They are in cell order.
  pub rise : (g : Group) → Rising Before (cells_of s g)
  rise group.Maps = rising_map_in map_cell (λ a b. byte_cmp a.0 b.0 ≡ Less) Before (fin.entries s.maps) (λ a b p q h. by_text a.0 b.0 ∙ h) (entries_rise byte_cmp nat_list_cmp_total s.maps)
  rise group.Shards = rising_map_in shard_cell Pairs Before (members s.shards) (λ a b p q. shards_before a b) (members_rise pair_cmp pairs_total s.shards)
  rise (group.ShardsOf name) = rising_map_in shard_cell Pairs Before (shards_in s.shards name) (λ a b p q. shards_before a b)
      (rising_filter Pairs (λ shard. same name shard.0) (members s.shards) (members_rise pair_cmp pairs_total s.shards))
  rise group.Tables = rising_map_in table_cell Pairs Before (members s.tables) (λ a b p q. tables_before a b) (members_rise pair_cmp pairs_total s.tables)
  rise (group.TablesOf name) = rising_map_in table_cell Pairs Before (tables_in s.tables name) (λ a b p q. tables_before a b)
      (rising_filter Pairs (λ table. same name table.0) (members s.tables) (members_rise pair_cmp pairs_total s.tables))
  rise group.Pieces = rising_map_in cell.Piece (λ p q. Pairs (piece_key p) (piece_key q)) Before (fin.values s.mappings) (λ p q m n h. by_pair (piece_key p) (piece_key q) ∙ h)
      (values_rise pairs_total piece_key s.mappings keyed.mappings)
  rise (group.PiecesOf name) = rising_map_in cell.Piece (λ p q. Pairs (piece_key p) (piece_key q)) Before (pieces_in s.mappings name) (λ p q m n h. by_pair (piece_key p) (piece_key q) ∙ h)
      (rising_filter (λ p q. Pairs (piece_key p) (piece_key q)) (λ p. same name p.map) (fin.values s.mappings) (values_rise pairs_total piece_key s.mappings keyed.mappings))
  rise group.Log = rising_map_in cell.Log (λ a b. nat_cmp (op_number a) (op_number b) ≡ Less) Before (fin.values s.log) (λ a b p q h. by_number (op_number a) (op_number b) ∙ h)
      (values_rise nat_cmp_total op_number s.log keyed.log)
  rise group.Jobs = rising_map_in cell.Job (λ a b. nat_cmp (job_number a) (job_number b) ≡ Less) Before (fin.values s.jobs) (λ a b p q h. by_number (job_number a) (job_number b) ∙ h)
      (values_rise nat_cmp_total job_number s.jobs keyed.jobs)
  rise group.Away = rising_map_in away_cell (λ a b. byte_cmp a.0 b.0 ≡ Less) Before (fin.entries s.away) (λ a b p q h. by_text a.0 b.0 ∙ h) (entries_rise byte_cmp nat_list_cmp_total s.away)

  shard_stands : (q : Text × Text) → IsOneOf (members s.shards) q → Stands s (shard_cell q)
  shard_stands q h = ap (λ b. cond b (Some (shard_cell q)) None) (member_stands pair_cmp pairs_total s.shards q h)

  table_stands : (q : Text × Text) → IsOneOf (members s.tables) q → Stands s (table_cell q)
  table_stands q h = ap (λ b. cond b (Some (table_cell q)) None) (member_stands pair_cmp pairs_total s.tables q h)

  -- Each stands, and is of the group.
  pub stand : (g : Group) (c : Cell) → IsOneOf (cells_of s g) c → Stands s c × (is_in g (own_key c) ≡ true)
  stand group.Maps c h =
      let m = in_map map_cell (fin.entries s.maps) c h in
      subst (λ c. Stands s c × (is_in group.Maps (own_key c) ≡ true)) m.2 (ap (option_map (λ v. cell.Map m.0.0 v.0 v.1)) (entry_stands byte_cmp nat_list_cmp_total s.maps m.0 m.1), refl)
  stand group.Shards c h =
      let m = in_map shard_cell (members s.shards) c h in
      subst (λ c. Stands s c × (is_in group.Shards (own_key c) ≡ true)) m.2 (shard_stands m.0 m.1, refl)
  stand (group.ShardsOf name) c h =
      let m = in_map shard_cell (shards_in s.shards name) c h in
      let f = in_filter (λ shard. same name shard.0) (members s.shards) m.0 m.1 in
      subst (λ c. Stands s c × (is_in (group.ShardsOf name) (own_key c) ≡ true)) m.2 (shard_stands m.0 f.0, f.1)
  stand group.Tables c h =
      let m = in_map table_cell (members s.tables) c h in
      subst (λ c. Stands s c × (is_in group.Tables (own_key c) ≡ true)) m.2 (table_stands m.0 m.1, refl)
  stand (group.TablesOf name) c h =
      let m = in_map table_cell (tables_in s.tables name) c h in
      let f = in_filter (λ table. same name table.0) (members s.tables) m.0 m.1 in
      subst (λ c. Stands s c × (is_in (group.TablesOf name) (own_key c) ≡ true)) m.2 (table_stands m.0 f.0, f.1)
  stand group.Pieces c h =
      let m = in_map cell.Piece (fin.values s.mappings) c h in
      subst (λ c. Stands s c × (is_in group.Pieces (own_key c) ≡ true)) m.2 (ap (option_map cell.Piece) (value_stands pairs_total piece_key s.mappings keyed.mappings m.0 m.1), refl)
  stand (group.PiecesOf name) c h =
      let m = in_map cell.Piece (pieces_in s.mappings name) c h in
      let f = in_filter (λ p. same name p.map) (fin.values s.mappings) m.0 m.1 in
      subst (λ c. Stands s c × (is_in (group.PiecesOf name) (own_key c) ≡ true)) m.2 (ap (option_map cell.Piece) (value_stands pairs_total piece_key s.mappings keyed.mappings m.0 f.0), f.1)
  stand group.Log c h =
      let m = in_map cell.Log (fin.values s.log) c h in
      subst (λ c. Stands s c × (is_in group.Log (own_key c) ≡ true)) m.2 (ap (option_map cell.Log) (value_stands nat_cmp_total op_number s.log keyed.log m.0 m.1), refl)
  stand group.Jobs c h =
      let m = in_map cell.Job (fin.values s.jobs) c h in
      subst (λ c. Stands s c × (is_in group.Jobs (own_key c) ≡ true)) m.2 (ap (option_map cell.Job) (value_stands nat_cmp_total job_number s.jobs keyed.jobs m.0 m.1), refl)
  stand group.Away c h =
      let m = in_map away_cell (fin.entries s.away) c h in
      subst (λ c. Stands s c × (is_in group.Away (own_key c) ≡ true)) m.2 (ap (option_map (cell.SiteState m.0.0)) (entry_stands byte_cmp nat_list_cmp_total s.away m.0 m.1), refl)

  map_there : (name : Text) (kind : MapKind) (type : KeyType) → Stands s (cell.Map name kind type) → IsOneOf (fin.entries s.maps) (name, (kind, type))
  map_there name kind type h = entry_there byte_cmp nat_list_cmp_total exact_texts s.maps name (kind, type)
      (get_back (λ (v : MapKind × KeyType). cell.Map name v.0 v.1) (λ x y e. let k : x.0 ≡ y.0 = cc in let t : x.1 ≡ y.1 = cc in λ i. (k i, t i)) (fin.get s.maps name) (kind, type) h)

  shard_there : (q : Text × Text) → Stands s (shard_cell q) → IsOneOf (members s.shards) q
  shard_there q h = member_there pair_cmp pairs_total exact_text_pairs s.shards q (has_back (set.contains s.shards q) (shard_cell q) h)

  table_there : (q : Text × Text) → Stands s (table_cell q) → IsOneOf (members s.tables) q
  table_there q h = member_there pair_cmp pairs_total exact_text_pairs s.tables q (has_back (set.contains s.tables q) (table_cell q) h)

  piece_there : (p : Piece) → Stands s (cell.Piece p) → IsOneOf (fin.values s.mappings) p
  piece_there p h = value_there pairs_total piece_key s.mappings keyed.mappings exact_text_pairs (piece_key p) p (get_back cell.Piece (λ x y e. cc) (fin.get s.mappings (piece_key p)) p h)

  op_there : (op : Op) → Stands s (cell.Log op) → IsOneOf (fin.values s.log) op
  op_there op h = value_there nat_cmp_total op_number s.log keyed.log exact_unsigned op.number op (get_back cell.Log (λ x y e. cc) (fin.get s.log op.number) op h)

  job_there : (job : JobRow) → Stands s (cell.Job job) → IsOneOf (fin.values s.jobs) job
  job_there job h = value_there nat_cmp_total job_number s.jobs keyed.jobs exact_unsigned job.number job (get_back cell.Job (λ x y e. cc) (fin.get s.jobs job.number) job h)

  away_there : (location : Text) (state : Away) → Stands s (cell.SiteState location state) → IsOneOf (fin.entries s.away) (location, state)
  away_there location state h = entry_there byte_cmp nat_list_cmp_total exact_texts s.away location state (get_back (cell.SiteState location) (λ x y e. cc) (fin.get s.away location) state h)

  -- Each that stands and is of the group is among them.
  pub there : (g : Group) (c : Cell) → Stands s c → is_in g (own_key c) ≡ true → IsOneOf (cells_of s g) c
  there group.Maps (cell.Map name kind type) h e = into_map map_cell (fin.entries s.maps) (name, (kind, type)) (map_there name kind type h)
  there group.Shards (cell.Shard name location) h e = into_map shard_cell (members s.shards) (name, location) (shard_there (name, location) h)
  there (group.ShardsOf of) (cell.Shard name location) h e = into_map shard_cell (shards_in s.shards of) (name, location)
      (from_filter (λ shard. same of shard.0) (members s.shards) (name, location) (shard_there (name, location) h) e)
  there group.Tables (cell.Table name table) h e = into_map table_cell (members s.tables) (name, table) (table_there (name, table) h)
  there (group.TablesOf of) (cell.Table name table) h e = into_map table_cell (tables_in s.tables of) (name, table)
      (from_filter (λ table. same of table.0) (members s.tables) (name, table) (table_there (name, table) h) e)
  there group.Pieces (cell.Piece p) h e = into_map cell.Piece (fin.values s.mappings) p (piece_there p h)
  there (group.PiecesOf of) (cell.Piece p) h e = into_map cell.Piece (pieces_in s.mappings of) p (from_filter (λ p. same of p.map) (fin.values s.mappings) p (piece_there p h) e)
  there group.Log (cell.Log op) h e = into_map cell.Log (fin.values s.log) op (op_there op h)
  there group.Jobs (cell.Job job) h e = into_map cell.Job (fin.values s.jobs) job (job_there job h)
  there group.Away (cell.SiteState location state) h e = into_map away_cell (fin.entries s.away) (location, state) (away_there location state h)
  there g c h e = cc

  -- So many are there.
  pub counted : (g : Group) → length (cells_of s g) ≡ count_of s g
  counted group.Maps = length-map (fin.entries s.maps) map_cell ∙ sym (fin.len-entries s.maps)
  counted group.Shards = length-map (members s.shards) shard_cell
  counted (group.ShardsOf name) = length-map (shards_in s.shards name) shard_cell
  counted group.Tables = length-map (members s.tables) table_cell
  counted (group.TablesOf name) = length-map (tables_in s.tables name) table_cell
  counted group.Pieces = length-map (fin.values s.mappings) cell.Piece ∙ length-map (fin.entries s.mappings) (λ (e : (Text × Text) × Piece). e.1) ∙ sym (fin.len-entries s.mappings)
  counted (group.PiecesOf name) = length-map (pieces_in s.mappings name) cell.Piece
  counted group.Log = length-map (fin.values s.log) cell.Log ∙ length-map (fin.entries s.log) (λ (e : ℕ × Op). e.1) ∙ sym (fin.len-entries s.log)
  counted group.Jobs = length-map (fin.values s.jobs) cell.Job ∙ length-map (fin.entries s.jobs) (λ (e : ℕ × JobRow). e.1) ∙ sym (fin.len-entries s.jobs)
  counted group.Away = length-map (fin.entries s.away) away_cell ∙ sym (fin.len-entries s.away)
