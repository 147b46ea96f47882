-- The orders of cells are total, and only equal keys tie.
use Rattle.std.proofs.Common.{◌≡◌, ◌≢◌, ℕ, true, false, refl, ap}
use Rattle.std.specs.Ordering.{nat_cmp, eq_by_cmp, is_eq, ordering_then}
use Rattle.std.specs.Cmp.{IsTotalOrder}
use Rattle.std.specs.FinMap.{IsAntisymmetric}
use Rattle.std.specs.declared.cmp.Ordering.{Ordering}
use Rattle.std.specs.declared.cmp.Ordering.TheVariants.{Less, Equal, Greater}
use Rattle.std.proofs.lemmas.Cmp.{nat_list_cmp_total, nat_cmp_total, on_total, then_total, tied_itself}
use Rattle.std.proofs.lemmas.Map.Lookups.{exact_unsigned, exact_bytes, exact_pairs}
use Rattle.cell_world.specs.Texts.{Text}
use Rattle.cell_world.specs.ByteOrder.{byte_cmp}
use Rattle.cell_world.specs.Orders.{pair_cmp, local_cmp, row_cmp}

pub tied : {K : Type 0} {R : K → K → Ordering} → IsTotalOrder R → (x : K) → eq_by_cmp R x x ≡ true
tied o x = ap is_eq (tied_itself o x)

pub untied : {K : Type 0} {R : K → K → Ordering} → IsAntisymmetric R → (x y : K) → x ≢ y → eq_by_cmp R x y ≡ false
untied {R = R} same x y ne = elim (R x y) as (λ r. R x y ≡ r → is_eq r ≡ false) [
  | Less ↦ λ e. refl
  | Equal ↦ λ e. absurd (ne (same x y e))
  | Greater ↦ λ e. refl
] refl

pub tied_is : {K : Type 0} {R : K → K → Ordering} → IsAntisymmetric R → (x y : K) → eq_by_cmp R x y ≡ true → x ≡ y
tied_is {R = R} same x y h = elim (R x y) as (λ r. R x y ≡ r → is_eq r ≡ true → x ≡ y) [
  | Less ↦ λ e t. cc
  | Equal ↦ λ e t. same x y e
  | Greater ↦ λ e t. cc
] refl h

pub pairs_total : IsTotalOrder pair_cmp
pairs_total = then_total (on_total (λ p. p.0) nat_list_cmp_total) (on_total (λ p. p.1) nat_list_cmp_total)

pub exact_texts : IsAntisymmetric byte_cmp
exact_texts = exact_bytes

pub exact_text_pairs : IsAntisymmetric pair_cmp
exact_text_pairs = exact_pairs byte_cmp byte_cmp exact_bytes exact_bytes

abbrev low_and_number_cmp : Text × ℕ → Text × ℕ → Ordering
low_and_number_cmp a b = ordering_then (byte_cmp a.0 b.0) (nat_cmp a.1 b.1)

pub locals_total : IsTotalOrder local_cmp
locals_total = then_total (on_total (λ p. p.0) nat_list_cmp_total) (then_total (on_total (λ p. p.1.0) nat_list_cmp_total) (on_total (λ p. p.1.1) nat_cmp_total))

pub exact_locals : IsAntisymmetric local_cmp
exact_locals = exact_pairs byte_cmp low_and_number_cmp exact_bytes (exact_pairs byte_cmp nat_cmp exact_bytes exact_unsigned)

pub rows_total : IsTotalOrder row_cmp
rows_total = then_total (on_total (λ r. r.map) nat_list_cmp_total) (then_total (on_total (λ r. r.key) nat_list_cmp_total) (then_total (on_total (λ r. r.table) nat_list_cmp_total) (on_total (λ r. r.number) nat_cmp_total)))

abbrev Fields : Type 0
Fields = Text × (Text × (Text × ℕ))

pub exact_rows : IsAntisymmetric row_cmp
exact_rows a b h = ap (λ (f : Fields). record { map = f.0; key = f.1.0; table = f.1.1.0; number = f.1.1.1 })
    (exact_pairs byte_cmp _ exact_bytes (exact_pairs byte_cmp _ exact_bytes (exact_pairs byte_cmp nat_cmp exact_bytes exact_unsigned)) (a.map, (a.key, (a.table, a.number))) (b.map, (b.key, (b.table, b.number))) h)
