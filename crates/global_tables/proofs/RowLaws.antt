-- What the cells of a list say, told from the cells.
use Rattle.std.proofs.Common.{◌≡◌, Bool, true, false, cond, List, [], ◌∷◌, map, Some, None, refl, sym, ap, ◌∙◌}
use Rattle.std.specs.Prelude.{filter, filter_map, IfOk, Result, Ok, Err}
use Rattle.std.specs.List.{cons_option}
use Rattle.std.specs.FinMap as fin
use Rattle.cell_world.specs.Texts.{Text}
use Rattle.cell_world.specs.Keys.{same}
use Rattle.cell_world.specs.Images.{Image, image_at, end_of_trail}
use Rattle.cell_world.specs.Stores.{Store}
use Rattle.cell_world.specs.Outside.{Told, TellsNothing, TellsContents, TellsTrail, IfContents}
use Rattle.cell_world.specs.declared.cells.Cell.{Cell}
use Rattle.cell_world.specs.declared.cells.Cell.TheVariants as cell
use Rattle.cell_world.specs.declared.operations.Piece.{Piece}
use Rattle.cell_world.specs.declared.operations.Op.{Op}
use Rattle.global_tables.specs.declared.groups.Group.TheVariants as group
use Rattle.global_tables.specs.declared.rows.ShardRow.{ShardRow}
use Rattle.global_tables.specs.declared.faults.StepFault.{StepFault}
use Rattle.cell_world.specs.Members.{members}
use Rattle.global_tables.specs.Groups.{shards_in, locations_in, pieces_in, cells_of}
use Rattle.global_tables.proofs.Rising.{map_back}

-- what follows of a store is so where it is told
pub told_weaker : (told : Told) (P Q : Image → Type 0) → ((image : Image) → P image → Q image) → IfContents told P → IfContents told Q
told_weaker TellsNothing P Q weaker p = tt
told_weaker (TellsContents image) P Q weaker p = weaker image p
told_weaker (TellsTrail trail) P Q weaker p = weaker (image_at trail (end_of_trail trail)) p

pub ok_weaker : {V : Type 0} (told : Told) (r : Result V StepFault) (P Q : V → Image → Type 0) → ((v : V) (image : Image) → P v image → Q v image) → IfOk r (λ v. IfContents told (P v)) → IfOk r (λ v. IfContents told (Q v))
ok_weaker told (Ok v) P Q weaker h = told_weaker told (P v) (Q v) (weaker v) h
ok_weaker told (Err e) P Q weaker h = tt

-- what is made of something that is told is told
pub ok_after : {V : Type 0} (told : Told) (r : Result V StepFault) (P : Image → Type 0) (M : V → Type 0) (Q : V → Image → Type 0) → ((v : V) (image : Image) → M v → P image → Q v image) → IfContents told P → IfOk r M → IfOk r (λ v. IfContents told (Q v))
ok_after told (Ok v) P M Q makes p h = told_weaker told P (Q v) (λ image q. makes v image h q) p
ok_after told (Err e) P M Q makes p h = tt

module _ (s : Store) where
  pub pieces_from : (name : Text) (ps : List Piece) → map cell.Piece ps ≡ cells_of s (group.PiecesOf name) → ps ≡ pieces_in s.mappings name
  pieces_from name ps e = map_back cell.Piece (λ x y e. cc) ps (pieces_in s.mappings name) e

  pub ops_from : (ops : List Op) → map cell.Log ops ≡ cells_of s group.Log → ops ≡ fin.values s.log
  ops_from ops e = map_back cell.Log (λ x y e. cc) ops (fin.values s.log) e

  abbrev shard_row : Text × Text → ShardRow
  shard_row shard = record { map = shard.0; location = shard.1 }

  abbrev shard_cell : ShardRow → Cell
  shard_cell row = cell.Shard row.map row.location

  rows_cells : (qs : List (Text × Text)) → map shard_cell (map shard_row qs) ≡ map (λ (shard : Text × Text). cell.Shard shard.0 shard.1) qs
  rows_cells [] = refl
  rows_cells (q ∷ qs) = ap (λ cs. cell.Shard q.0 q.1 ∷ cs) (rows_cells qs)

  shard_back : (x y : ShardRow) → shard_cell x ≡ shard_cell y → x ≡ y
  shard_back x y e = let m : x.map ≡ y.map = cc in let l : x.location ≡ y.location = cc in λ i. record { map = m i; location = l i }

  found_locations : (name : Text) (qs : List (Text × Text)) → map (λ (row : ShardRow). row.location) (map shard_row (filter (λ shard. same name shard.0) qs)) ≡ filter_map (λ shard. cond (same name shard.0) (Some shard.1) None) qs
  found_locations name [] = refl
  found_locations name (q ∷ qs) = by (same name q.0) (found_locations name qs)
    where
      by : (b : Bool) → map (λ (row : ShardRow). row.location) (map shard_row (filter (λ shard. same name shard.0) qs)) ≡ filter_map (λ shard. cond (same name shard.0) (Some shard.1) None) qs
          → map (λ (row : ShardRow). row.location) (map shard_row (cond b (q ∷ filter (λ shard. same name shard.0) qs) (filter (λ shard. same name shard.0) qs))) ≡ cons_option (cond b (Some q.1) None) (filter_map (λ shard. cond (same name shard.0) (Some shard.1) None) qs)
      by true e = ap (λ ls. q.1 ∷ ls) e
      by false e = e

  pub locations_from : (name : Text) (rows : List ShardRow) → map shard_cell rows ≡ cells_of s (group.ShardsOf name) → map (λ (row : ShardRow). row.location) rows ≡ locations_in s.shards name
  locations_from name rows e = ap (map (λ (row : ShardRow). row.location)) (map_back shard_cell shard_back rows (map shard_row (shards_in s.shards name)) (e ∙ sym (rows_cells (shards_in s.shards name)))) ∙ found_locations name (members s.shards)
