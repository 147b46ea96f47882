-- Of a schema and of rows it is no matter how it is known that they are those of a table of cells.
use Rattle.std.proofs.Common.{◌≡◌, List, [], ◌∷◌, refl, sym, ap, ◌∙◌}
use Rattle.std.proofs.Math.Logic.{∥∥₁_elim, ∥∥₁_map}
use Rattle.std.proofs.Props.{props}
use Rattle.sqlite.specs.Table.{Table}
use Rattle.sqlite.specs.Schema.{Schema}
use Rattle.sqlite_schema.specs.declared.schema.Index.{Index}
use Rattle.sqlite_schema.specs.declared.schema.Stamps.{Stamps}
use Rattle.cell_table.specs.Cells.{cells, by_key, cells_schema}

pub set_is : {A : Type 0} → IsSet A → (x y : A) → ∥ x ≡ y ∥₁ → x ≡ y
set_is set x y h = ∥∥₁_elim h (set x y) (λ e. e)

nil_is : {A : Type 0} (xs : List A) → ∥ xs ≡ [] ∥₁ → xs ≡ []
nil_is [] h = refl
nil_is (x ∷ xs) h = absurd (∥∥₁_elim h (hlevel props) (λ e. (let no : ⊥ = cc in no)))

one_is : {A : Type 0} (xs : List A) (a : A) → ∥ xs ≡ a ∷ [] ∥₁ → (x : A) × (xs ≡ x ∷ [])
one_is [] a h = absurd (∥∥₁_elim h (hlevel props) (λ e. (let no : ⊥ = cc in no)))
one_is (x ∷ []) a h = (x, refl)
one_is (x ∷ y ∷ ys) a h = absurd (∥∥₁_elim h (hlevel props) (λ e. (let no : ⊥ = cc in no)))

head_is : {A : Type 0} (x y : A) → x ∷ [] ≡ y ∷ [] → x ≡ y
head_is x y e = cc

stamps_are : (t : Stamps) → ∥ t ≡ cells.stamps ∥₁ → t ≡ cells.stamps
stamps_are t h = λ i. record {
  places = set_is (hlevel props) t.places [] (∥∥₁_map h (ap (λ (x : Stamps). x.places))) i;
  terms = nil_is t.terms (∥∥₁_map h (ap (λ (x : Stamps). x.terms))) i;
  formats = set_is (hlevel props) t.formats [] (∥∥₁_map h (ap (λ (x : Stamps). x.formats))) i;
}

table_is : (t : Table) → ∥ t ≡ cells ∥₁ → t ≡ cells
table_is t h = λ i. record {
  name = set_is (hlevel props) t.name cells.name (∥∥₁_map h (ap (λ (x : Table). x.name))) i;
  tree = set_is (hlevel props) t.tree cells.tree (∥∥₁_map h (ap (λ (x : Table). x.tree))) i;
  columns = set_is (hlevel props) t.columns cells.columns (∥∥₁_map h (ap (λ (x : Table). x.columns))) i;
  key = set_is (hlevel props) t.key cells.key (∥∥₁_map h (ap (λ (x : Table). x.key))) i;
  primary = set_is (hlevel props) t.primary cells.primary (∥∥₁_map h (ap (λ (x : Table). x.primary))) i;
  uniques = set_is (hlevel props) t.uniques cells.uniques (∥∥₁_map h (ap (λ (x : Table). x.uniques))) i;
  orders = set_is (hlevel props) t.orders cells.orders (∥∥₁_map h (ap (λ (x : Table). x.orders))) i;
  checks = nil_is t.checks (∥∥₁_map h (ap (λ (x : Table). x.checks))) i;
  references = nil_is t.references (∥∥₁_map h (ap (λ (x : Table). x.references))) i;
  computed = nil_is t.computed (∥∥₁_map h (ap (λ (x : Table). x.computed))) i;
  stamps = stamps_are t.stamps (∥∥₁_map h (ap (λ (x : Table). x.stamps))) i;
  is_counted = set_is (hlevel props) t.is_counted cells.is_counted (∥∥₁_map h (ap (λ (x : Table). x.is_counted))) i;
}

index_is : (t : Index) → ∥ t ≡ by_key ∥₁ → t ≡ by_key
index_is t h = set_is (hlevel props) t by_key h

pub schema_is : (s : Schema) → ∥ s ≡ cells_schema ∥₁ → s ≡ cells_schema
schema_is s h =
    let tables = one_is s.tables cells (∥∥₁_map h (ap (λ (x : Schema). x.tables))) in
    let indexes = one_is s.indexes by_key (∥∥₁_map h (ap (λ (x : Schema). x.indexes))) in
    let views = nil_is s.views (∥∥₁_map h (ap (λ (x : Schema). x.views))) in
    let table = table_is tables.0 (∥∥₁_map h (λ e. head_is tables.0 cells (sym tables.1 ∙ ap (λ (x : Schema). x.tables) e))) in
    let index = index_is indexes.0 (∥∥₁_map h (λ e. head_is indexes.0 by_key (sym indexes.1 ∙ ap (λ (x : Schema). x.indexes) e))) in
    λ i. record {
      tables = (tables.1 ∙ ap (λ (t : Table). t ∷ []) table) i;
      indexes = (indexes.1 ∙ ap (λ (t : Index). t ∷ []) index) i;
      views = views i;
    }
