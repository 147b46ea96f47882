-- Empty stores are sound.
use Rattle.std.proofs.Common.{◌≡◌, sym, ap, ◌∙◌, List, Some, arith, is_some, true≢false}
use Rattle.std.specs.Prelude.{IsTrue, IsSome}
use Rattle.std.specs.Ordering.{nat_cmp}
use Rattle.std.specs.FinMap as map
use Rattle.std.specs.FinSet as set
use Rattle.std.specs.declared.cmp.Ordering.{Ordering}
use Rattle.cell_world.specs.Texts.{Text}
use Rattle.cell_world.specs.ByteOrder.{byte_cmp}
use Rattle.cell_world.specs.Orders.{pair_cmp, local_cmp, row_cmp}
use Rattle.cell_world.specs.Images.{empty_image}
use Rattle.cell_world.specs.Sound.{Sound}
use Rattle.cell_world.proofs.KeyedLaws.{keyed_empty}

-- nothing stands in an empty map
pub none_stands : {K X : Type 0} (R : K → K → Ordering) (k : K) (v : X) → map.get (map.empty {X = X} {R = R}) k ≡ Some v → ⊥
none_stands {X = X} R k v e = let none = map.get-empty {X = X} R k in cc

pub not_some : {K : Type 0} (X : Type 0) (R : K → K → Ordering) (k : K) → IsSome (map.get (map.empty {X = X} {R = R}) k) → ⊥
not_some X R k h = let none = map.get-empty {X = X} R k in true≢false (sym h ∙ ap is_some none)

pub not_in : {K : Type 0} (R : K → K → Ordering) (k : K) → IsTrue (set.contains (set.empty {R = R}) k) → ⊥
not_in R k h = let none = set.contains-empty R k in cc

pub empty_sound : (locations : List Text) → Sound (empty_image locations)
empty_sound locations = record {
  keyed = λ place. keyed_empty;
  globals = record {
    shards = λ name location h. absurd (not_in pair_cmp (name, location) h);
    tables = λ name table h. absurd (not_in pair_cmp (name, table) h);
    operations = (omega arith, omega arith);
    jobs = omega arith;
    spans = λ p h. absurd (none_stands pair_cmp _ p h);
    on_shards = λ p h. absurd (none_stands pair_cmp _ p h);
    disjoint = λ p q h g e f. absurd (none_stands pair_cmp _ p h);
  };
  logged = record {
    lawful = λ op h. absurd (none_stands nat_cmp _ op h);
    numbered = λ op h. absurd (none_stands nat_cmp _ op h);
    hulls = λ a b h g e f. absurd (none_stands nat_cmp _ a h);
  };
  locals = λ location h. record {
    counted = λ row h c. absurd (none_stands local_cmp _ row h);
    each = λ p h e. absurd (none_stands pair_cmp _ p h);
    once = λ a b h g c d e f. absurd (none_stands local_cmp _ a h);
    marks = λ row h. absurd (none_stands local_cmp _ row h);
    numbers = λ row h. absurd (none_stands local_cmp _ row h);
  };
  online = λ location h. record {
    spans = λ row h o. absurd (none_stands local_cmp _ row h);
    owned = λ row key h o c t. absurd (none_stands local_cmp _ row h);
  };
  rows = λ location h. record {
    in_table = λ row h. absurd (not_some Text row_cmp row h);
    placed = λ row h. absurd (not_some Text row_cmp row h);
  };
  batches = λ job h. absurd (none_stands nat_cmp _ job h);
  suspect = λ location h. absurd (none_stands byte_cmp location _ h.1);
  jobs = λ job h. absurd (none_stands nat_cmp _ job h);
  progress = λ job h. absurd (none_stands nat_cmp _ job h);
  tokens = λ p h. absurd (none_stands pair_cmp _ p h);
}
