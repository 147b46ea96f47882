-- Two stores that have the same cell under each key are one.
use Rattle.std.proofs.Common.{◌≡◌, Bool, true, false, cond, refl, ap, Some, None, Option, option_map}
use Rattle.std.specs.FinMap as map
use Rattle.std.specs.FinSet as set
use Rattle.std.proofs.lemmas.Cmp.{nat_list_cmp_total, nat_cmp_total}
use Rattle.std.proofs.lemmas.Map.Lookups.{exact_unsigned}
use Rattle.cell_world.specs.Texts.{Text}
use Rattle.cell_world.specs.Stores.{Store, cell_at}
use Rattle.cell_world.specs.declared.cells.MapKind.{MapKind}
use Rattle.cell_world.specs.declared.cells.KeyType.{KeyType}
use Rattle.cell_world.specs.declared.cells.Cell.TheVariants as cell
use Rattle.cell_world.specs.declared.cells.CellKey.{CellKey}
use Rattle.cell_world.specs.declared.cells.CellKey.TheVariants as at
use Rattle.cell_world.proofs.OrderLaws.{pairs_total, locals_total, rows_total, exact_texts, exact_text_pairs, exact_locals, exact_rows}

-- what is made of two options by a function that keeps its arguments apart
same_option : {A B : Type 0} (f : A → B) → ((x y : A) → f x ≡ f y → x ≡ y) → (x y : Option A) → option_map f x ≡ option_map f y → x ≡ y
same_option f apart None None e = refl
same_option f apart None (Some y) e = cc
same_option f apart (Some x) None e = cc
same_option f apart (Some x) (Some y) e = let is : f x ≡ f y = cc in ap Some (apart x y is)

same_test : {A : Type 0} (x : A) (b c : Bool) → cond b (Some x) None ≡ cond c (Some x) None → b ≡ c
same_test x true true e = refl
same_test x false false e = refl
same_test x true false e = cc
same_test x false true e = cc

pub same_store : (s t : Store) → ((k : CellKey) → cell_at s k ≡ cell_at t k) → s ≡ t
same_store s t is = λ i. record {
  maps = map.same_map nat_list_cmp_total exact_texts s.maps t.maps (λ q. same_option (λ v. cell.Map q v.0 v.1) (λ x y e. kinds q x y e) _ _ (is (at.Map q))) i;
  shards = set.same_set pairs_total exact_text_pairs s.shards t.shards (λ q. same_test (cell.Shard q.0 q.1) _ _ (is (at.Shard q.0 q.1))) i;
  tables = set.same_set pairs_total exact_text_pairs s.tables t.tables (λ q. same_test (cell.Table q.0 q.1) _ _ (is (at.Table q.0 q.1))) i;
  mappings = map.same_map pairs_total exact_text_pairs s.mappings t.mappings (λ q. same_option cell.Piece (λ x y e. cc) _ _ (is (at.Piece q.0 q.1))) i;
  log = map.same_map nat_cmp_total exact_unsigned s.log t.log (λ q. same_option cell.Log (λ x y e. cc) _ _ (is (at.Log q))) i;
  jobs = map.same_map nat_cmp_total exact_unsigned s.jobs t.jobs (λ q. same_option cell.Job (λ x y e. cc) _ _ (is (at.Job q))) i;
  counter = same_option cell.Counter (λ x y e. cc) s.counter t.counter (is at.Counter) i;
  away = map.same_map nat_list_cmp_total exact_texts s.away t.away (λ q. same_option (cell.SiteState q) (λ x y e. cc) _ _ (is (at.SiteState q))) i;
  locals = map.same_map locals_total exact_locals s.locals t.locals (λ q. same_option cell.Local (λ x y e. cc) _ _ (is (at.Local q.0 q.1.0 q.1.1))) i;
  rows = map.same_map rows_total exact_rows s.rows t.rows (λ q. same_option (cell.Row q) (λ x y e. cc) _ _ (is (at.Row q))) i;
}
  where
    kinds : (q : Text) (x y : MapKind × KeyType) → cell.Map q x.0 x.1 ≡ cell.Map q y.0 y.1 → x ≡ y
    kinds q x y e = let first : x.0 ≡ y.0 = cc in let second : x.1 ≡ y.1 = cc in λ i. (first i, second i)
