-- Cells are read exactly.
use Rattle.std.proofs.Common.{◌≡◌, ℕ, zero, suc, ◌+◌, ◌^◌, ◌<◌, ◌≤◌, true, List, [], ◌∷◌, ◌++◌, refl, sym, ap, ◌∙◌, arith}
use Rattle.std.specs.Prelude.{IsTrue}
use Rattle.cell_world.specs.Texts.{Text, is_name, is_location, is_row_value}
use Rattle.cell_world.specs.Orders.{kind_number}
use Rattle.cell_world.specs.Stores.{own_key}
use Rattle.cell_world.specs.Spelled.{IsCell, IsJob, IsLocalRow, IsRowName}
use Rattle.cell_world.specs.declared.cells.KeyType.{KeyType}
use Rattle.cell_world.specs.declared.cells.MapKind.{MapKind}
use Rattle.cell_world.specs.declared.cells.Away.{Away}
use Rattle.cell_world.specs.declared.cells.LocalRow.{LocalRow}
use Rattle.cell_world.specs.declared.cells.RowName.{RowName}
use Rattle.cell_world.specs.declared.operations.Piece.{Piece}
use Rattle.cell_world.specs.declared.operations.JobRow.{JobRow}
use Rattle.cell_world.specs.declared.operations.Op.{Op}
use Rattle.cell_world.specs.declared.cells.Cell.{Cell}
use Rattle.cell_world.specs.declared.cells.Cell.TheVariants as cell
use Rattle.record_form.specs.Reading.{◌>>=◌, is_from, made}
use Rattle.record_form.specs.Layout.{text_bytes, piece_bytes, fields, spelling}
use Rattle.record_form.specs.Fields.{name_at}
use Rattle.record_form.specs.Kinds.{piece_at, op_at, job_at, local_at, map_cell_of, map_cell_at, shard_cell_of, shard_cell_at, table_cell_of, table_cell_at, piece_cell_of, piece_cell_at, counter_cell_of, counter_cell_at, site_state_cell_of, site_state_cell_at, row_cell_of, row_cell_at, fields_at, cell_of, cell_at}
use Rattle.record_form.proofs.Readers.{IsReader, Tagged, tag, body, byte_reader, both_reader, pair_reader, made_reader, tagged_reader}
use Rattle.record_form.proofs.Widths.{number_4_reader, number_8_reader}
use Rattle.record_form.proofs.NameTexts.{bounds, name_reader}
use Rattle.record_form.proofs.LocationTexts.{location_reader}
use Rattle.record_form.proofs.ChoiceTexts.{map_kind_reader, key_type_reader, away_reader, before, beyond}
use Rattle.record_form.proofs.JobTexts.{job_reader}
use Rattle.record_form.proofs.RowTexts.{local_reader, row_name_reader, row_value_reader}
use Rattle.record_form.proofs.PieceTexts.{IsPieceOf, piece_reader, IsSpelledOp, op_reader}

-- a cell's kind byte and fields
abbrev kinded : Cell → List ℕ
kinded c = kind_number (own_key c) ∷ fields c

-- the cells of one kind
abbrev Of : ℕ → Cell → Type 0
Of kind c = Tagged kinded IsCell kind c

at_map : (c : Cell) → Of 1 c → (p : Text × (MapKind × KeyType)) × (IsTrue (is_name p.0) × (Unit {0} × Unit {0})) × (map_cell_of p ≡ c)
at_map (cell.Map name kind type) h = ((name, (kind, type)), (h.0.typed, (tt, tt)), refl)
at_map _ h = let e = h.1 in absurd (omega arith)

at_shard : (c : Cell) → Of 2 c → (p : Text × Text) × (IsTrue (is_name p.0) × IsTrue (is_location p.1)) × (shard_cell_of p ≡ c)
at_shard (cell.Shard name location) h = ((name, location), h.0.typed, refl)
at_shard _ h = let e = h.1 in absurd (omega arith)

at_table : (c : Cell) → Of 3 c → (p : Text × Text) × (IsTrue (is_name p.0) × IsTrue (is_name p.1)) × (table_cell_of p ≡ c)
at_table (cell.Table name table) h = ((name, table), h.0.typed, refl)
at_table _ h = let e = h.1 in absurd (omega arith)

at_piece : (c : Cell) → Of 4 c → (p : Text × Piece) × (IsTrue (is_name p.0) × IsPieceOf p.0 p.1) × (piece_cell_of p ≡ c)
at_piece (cell.Piece piece) h = ((piece.map, piece), (h.0.typed.map, (h.0.typed, refl)), refl)
at_piece _ h = let e = h.1 in absurd (omega arith)

at_log : (c : Cell) → Of 5 c → (op : Op) × IsSpelledOp op × (cell.Log op ≡ c)
at_log (cell.Log op) h = (op, (h.0.typed, h.0.spelled), refl)
at_log _ h = let e = h.1 in absurd (omega arith)

at_job : (c : Cell) → Of 6 c → (job : JobRow) × IsJob job × (cell.Job job ≡ c)
at_job (cell.Job job) h = (job, h.0.typed, refl)
at_job _ h = let e = h.1 in absurd (omega arith)

at_counter : (c : Cell) → Of 7 c → (p : ℕ × ℕ) × ((p.0 < 2 ^ 64) × (p.1 < 2 ^ 32)) × (counter_cell_of p ≡ c)
at_counter (cell.Counter counters) h = ((counters.operation, counters.job), (h.0.typed.operation, h.0.typed.job), refl)
at_counter _ h = let e = h.1 in absurd (omega arith)

at_site_state : (c : Cell) → Of 8 c → (p : Text × Away) × (IsTrue (is_location p.0) × Unit {0}) × (site_state_cell_of p ≡ c)
at_site_state (cell.SiteState location state) h = ((location, state), (h.0.typed, tt), refl)
at_site_state _ h = let e = h.1 in absurd (omega arith)

at_local : (c : Cell) → Of 9 c → (row : LocalRow) × IsLocalRow row × (cell.Local row ≡ c)
at_local (cell.Local row) h = (row, h.0.typed, refl)
at_local _ h = let e = h.1 in absurd (omega arith)

at_row : (c : Cell) → Of 10 c → (p : RowName × Text) × (IsRowName p.0 × IsTrue (is_row_value p.1)) × (row_cell_of p ≡ c)
at_row (cell.Row name bytes) h = ((name, bytes), h.0.typed, refl)
at_row _ h = let e = h.1 in absurd (omega arith)

begun : (c : Cell) → IsCell c → (is_from 1 10 (tag kinded c) ≡ true) × (kinded c ≡ tag kinded c ∷ body kinded c)
begun (cell.Map name kind type) h = (refl, refl)
begun (cell.Shard name location) h = (refl, refl)
begun (cell.Table name table) h = (refl, refl)
begun (cell.Piece piece) h = (refl, refl)
begun (cell.Log op) h = (refl, refl)
begun (cell.Job job) h = (refl, refl)
begun (cell.Counter counters) h = (refl, refl)
begun (cell.SiteState location state) h = (refl, refl)
begun (cell.Local row) h = (refl, refl)
begun (cell.Row name bytes) h = (refl, refl)

-- ---- each kind

map_cell_reader : IsReader map_cell_at fields (Of 1)
unfolding map_cell_at
map_cell_reader = made_reader (pair_reader name_reader (pair_reader map_kind_reader key_type_reader)) (record { same = λ p h. refl; fits = λ p h. (record { typed = h.0; spelled = refl }, refl); from = at_map })

shard_cell_reader : IsReader shard_cell_at fields (Of 2)
unfolding shard_cell_at
shard_cell_reader = made_reader (pair_reader name_reader location_reader) (record { same = λ p h. refl; fits = λ p h. (record { typed = h; spelled = refl }, refl); from = at_shard })

table_cell_reader : IsReader table_cell_at fields (Of 3)
unfolding table_cell_at
table_cell_reader = made_reader (pair_reader name_reader name_reader) (record { same = λ p h. refl; fits = λ p h. (record { typed = h; spelled = refl }, refl); from = at_table })

piece_cell_reader : IsReader piece_cell_at fields (Of 4)
unfolding piece_cell_at
piece_cell_reader =
    made_reader (both_reader name_at text_bytes (λ map. IsTrue (is_name map)) piece_at (λ _ p. piece_bytes p) IsPieceOf name_reader piece_reader)
    (record { same = λ p h. ap (λ (map : Text). text_bytes map ++ piece_bytes p.1) (sym h.1.1); fits = λ p h. (record { typed = h.1.0; spelled = refl }, refl); from = at_piece })

log_reader : IsReader (made cell.Log op_at) fields (Of 5)
log_reader = made_reader op_reader (record { same = λ op h. refl; fits = λ op h. (record { typed = h.0; spelled = h.1 }, refl); from = at_log })

job_cell_reader : IsReader (made cell.Job job_at) fields (Of 6)
job_cell_reader = made_reader job_reader (record { same = λ job h. refl; fits = λ job h. (record { typed = h; spelled = refl }, refl); from = at_job })

counter_cell_reader : IsReader counter_cell_at fields (Of 7)
unfolding counter_cell_at
counter_cell_reader = made_reader (pair_reader number_8_reader number_4_reader) (record { same = λ p h. refl; fits = λ p h. (record { typed = record { operation = h.0; job = h.1 }; spelled = refl }, refl); from = at_counter })

site_state_cell_reader : IsReader site_state_cell_at fields (Of 8)
unfolding site_state_cell_at
site_state_cell_reader = made_reader (pair_reader location_reader away_reader) (record { same = λ p h. refl; fits = λ p h. (record { typed = h.0; spelled = refl }, refl); from = at_site_state })

local_cell_reader : IsReader (made cell.Local local_at) fields (Of 9)
local_cell_reader = made_reader local_reader (record { same = λ row h. refl; fits = λ row h. (record { typed = h; spelled = refl }, refl); from = at_local })

row_cell_reader : IsReader row_cell_at fields (Of 10)
unfolding row_cell_at
row_cell_reader = made_reader (pair_reader row_name_reader row_value_reader) (record { same = λ p h. refl; fits = λ p h. (record { typed = h; spelled = refl }, refl); from = at_row })

kind_cases : (kind : ℕ) → is_from 1 10 kind ≡ true → IsReader (fields_at kind) (body kinded) (Of kind)
kind_cases zero h = before 1 10 0 h (omega arith)
kind_cases (suc zero) h = map_cell_reader
kind_cases (suc (suc zero)) h = shard_cell_reader
kind_cases (suc (suc (suc zero))) h = table_cell_reader
kind_cases (suc (suc (suc (suc zero)))) h = piece_cell_reader
kind_cases (suc (suc (suc (suc (suc zero))))) h = log_reader
kind_cases (suc (suc (suc (suc (suc (suc zero)))))) h = job_cell_reader
kind_cases (suc (suc (suc (suc (suc (suc (suc zero))))))) h = counter_cell_reader
kind_cases (suc (suc (suc (suc (suc (suc (suc (suc zero)))))))) h = site_state_cell_reader
kind_cases (suc (suc (suc (suc (suc (suc (suc (suc (suc zero))))))))) h = local_cell_reader
kind_cases (suc (suc (suc (suc (suc (suc (suc (suc (suc (suc zero)))))))))) h = row_cell_reader
kind_cases (suc (suc (suc (suc (suc (suc (suc (suc (suc (suc (suc k))))))))))) h = beyond 1 10 (suc (suc (suc (suc (suc (suc (suc (suc (suc (suc (suc k))))))))))) h (omega arith)

pub cell_reader : IsReader cell_at spelling IsCell
unfolding cell_at
cell_reader =
    made_reader {f = cell_of} (pair_reader (byte_reader (is_from 1 1) 1 refl) (tagged_reader (is_from 1 10) fields_at kinded IsCell 1 refl begun kind_cases))
    (record { same = version_is; fits = λ p h. h.1; from = λ c h. ((1, c), (refl, h), refl) })
  where
    one : (n : ℕ) → is_from 1 1 n ≡ true → 1 ≡ n
    one n h = let b = bounds 1 1 n h in let low = b.0 in let high = b.1 in omega arith

    version_is : (p : ℕ × Cell) → (is_from 1 1 p.0 ≡ true) × IsCell p.1 → spelling p.1 ≡ p.0 ∷ [] ++ kinded p.1
    version_is p h = ap (λ (n : ℕ). n ∷ kinded p.1) (one p.0 h.0)
