-- The rows of cells by their kinds and order bytes: which is whose.
use Rattle.std.proofs.Common.{◌≡◌, ℕ, ◌==◌, true, false, List, [], ◌++◌, sym, ap, ◌∙◌, subst, true≢false}
use Rattle.std.specs.Prelude.{IsTrue}
use Rattle.std.specs.Ordering.{nat_cmp, is_eq}
use Rattle.std.specs.Cmp.Lexicographic.{slice_cmp}
use Rattle.std.proofs.lemmas.Bool.{and_parts, and_from, eqb-true, eq-eqb}
use Rattle.std.proofs.lemmas.Cmp.{nat_list_cmp_total, tied_itself}
use Rattle.cell_world.specs.Texts.{is_key_form}
use Rattle.cell_world.specs.ByteOrder.{byte_cmp}
use Rattle.cell_world.specs.Keys.{low_of}
use Rattle.cell_world.specs.Orders.{kind_number}
use Rattle.cell_world.specs.Spelled.{IsCell, IsTypedKey, IsSpan}
use Rattle.cell_world.specs.Stores.{own_key}
use Rattle.cell_world.specs.declared.spans.Span.{Span}
use Rattle.cell_world.specs.declared.spans.Span.TheVariants.{Range, Point}
use Rattle.cell_world.specs.declared.cells.Cell.{Cell}
use Rattle.cell_world.specs.declared.cells.Cell.TheVariants as cell
use Rattle.cell_world.specs.declared.cells.CellKey.{CellKey}
use Rattle.cell_world.proofs.OrderLaws.{exact_texts, tied, tied_is}
use Rattle.world_memory.proofs.SiteOrder.{cell_exact}
use Rattle.record_form.specs.Layout.{spelling}
use Rattle.record_form.specs.Kinds.{cell_at}
use Rattle.record_form.specs.OrderBytes.{ordered}
use Rattle.record_form.proofs.CellTexts.{cell_reader}
use Rattle.record_form.proofs.KeyOrders.{keeps_order}
use Rattle.record_form.proofs.Whole.{one_reading}
use Rattle.cell_table.specs.Cells.{Entry, is_at}
use Rattle.sqlite_site.specs.Entries.{IsEntryOf}

-- ---- keys

low_typed : (span : Span) → IsSpan span → IsTrue (is_key_form (low_of span))
low_typed (Range low high) is = is.0
low_typed (Point key) is = is

-- a cell's own key is one of the program's type
pub own_typed : (c : Cell) → IsCell c → IsTypedKey (own_key c)
own_typed (cell.Map name kind type) is = is.typed
own_typed (cell.Shard name location) is = is.typed
own_typed (cell.Table name table) is = is.typed
own_typed (cell.Piece piece) is = (is.typed.map, low_typed piece.span is.typed.span)
own_typed (cell.Log op) is = is.typed.number
own_typed (cell.Job job) is = is.typed.number
own_typed (cell.Counter counters) is = tt
own_typed (cell.SiteState location state) is = is.typed
own_typed (cell.Local row) is = (is.typed.map, low_typed row.span is.typed.span, is.typed.number)
own_typed (cell.Row row bytes) is = is.typed.0

-- of one kind, only one key has these order bytes
pub ordered_exact : (a b : CellKey) → IsTypedKey a → IsTypedKey b → kind_number a ≡ kind_number b → ordered a ≡ ordered b → a ≡ b
ordered_exact a b f g kinds same = cell_exact a b (sym (keeps_order a b f g kinds) ∙ ap (byte_cmp (ordered a)) (sym same) ∙ tied_itself nat_list_cmp_total (ordered a))

-- only one cell has a spelling
pub spelled_is : (c d : Cell) → IsCell c → IsCell d → spelling c ≡ spelling d → c ≡ d
spelled_is c d f g same = (one_reading cell_at spelling IsCell cell_reader c d [] [] f g (ap (λ (l : List ℕ). l ++ []) same)).0

-- ---- rows

-- a row is of one cell
pub one_cell : (e : Entry) (c d : Cell) → IsEntryOf e.kind e c → IsEntryOf e.kind e d → c ≡ d
one_cell e c d f g = spelled_is c d f.cell g.cell (sym f.value ∙ g.value)

pub at_is : (kind : ℕ) (key : List ℕ) (e : Entry) → is_at kind key e ≡ true → (e.kind ≡ kind) × (e.key ≡ key)
at_is kind key e h = let parts = and_parts (e.kind == kind) _ h in (eqb-true e.kind kind parts.0, tied_is exact_texts e.key key parts.1)

pub is_there : (kind : ℕ) (key : List ℕ) (e : Entry) → e.kind ≡ kind → e.key ≡ key → is_at kind key e ≡ true
is_there kind key e kinds keys = and_from _ _ (eq-eqb e.kind kind kinds) (subst (λ k. is_eq (slice_cmp nat_cmp e.key k) ≡ true) keys (tied nat_list_cmp_total e.key))

-- a cell's row is under its own key
pub row_there : (e : Entry) (c : Cell) (k : CellKey) → IsEntryOf e.kind e c → own_key c ≡ k → is_at (kind_number k) (ordered k) e ≡ true
row_there e c k is own = is_there (kind_number k) (ordered k) e (is.kind ∙ ap kind_number own) (is.key ∙ ap ordered own)

-- and under no other
pub row_own : (e : Entry) (c : Cell) (k : CellKey) → IsTypedKey k → IsEntryOf e.kind e c → is_at (kind_number k) (ordered k) e ≡ true → own_key c ≡ k
row_own e c k typed is here =
    let at = at_is (kind_number k) (ordered k) e here in
    ordered_exact (own_key c) k (own_typed c is.cell) typed (sym is.kind ∙ at.0) (sym is.key ∙ at.1)

pub row_elsewhere : (e : Entry) (c : Cell) (k : CellKey) → IsEntryOf e.kind e c → is_at (kind_number k) (ordered k) e ≡ false → own_key c ≡ k → ⊥
row_elsewhere e c k is off own = true≢false (sym (row_there e c k is own) ∙ off)
