-- The local transactions, as edits.
use Rattle.std.proofs.Common.{◌≡◌, ℕ, Bool, true, false, cond, refl, ap, ◌∙◌, List, [], ◌∷◌}
use Rattle.std.specs.FinMap as map
use Rattle.cell_world.specs.Texts.{Text}
use Rattle.cell_world.specs.Keys.{same}
use Rattle.cell_world.specs.Spelled.{listed}
use Rattle.cell_world.specs.Stores.{Store, Log, Locals, local_key, changed}
use Rattle.cell_world.specs.Images.{Image, Shard, global}
use Rattle.cell_world.specs.Sound.{Sound, HasLog, locals_at}
use Rattle.cell_world.specs.declared.operations.Op.{Op}
use Rattle.cell_world.specs.declared.operations.Piece.{Piece}
use Rattle.cell_world.specs.declared.cells.LocalRow.{LocalRow}
use Rattle.cell_world.specs.declared.cells.Mark.TheVariants.{Plain, Old}
use Rattle.cell_world.specs.declared.cells.Cell.TheVariants as cell
use Rattle.cell_world.specs.declared.changes.Edit.TheVariants.{Put}
use Rattle.cell_world.proofs.OrderLaws.{locals_total, exact_locals}
use Rattle.cell_world.proofs.KeyedLaws.{keyed-insert}
use Rattle.cell_world.specs.Sweep.{sweep, IsSwept}
use Rattle.cell_world.specs.UnderWay.{new_row}
use Rattle.image_laws.specs.LocalSteps.{settle, with_news, AreKeyed, IsStepped, IsSettled}
use Rattle.image_laws.specs.RowEdits.{Leaves, edits_by, news_edits, step_edits, undo_edits, settle_edits, AreScanned}
use Rattle.image_laws.proofs.CommitEdits.{changed-append}
use Rattle.image_laws.proofs.FitLaws.{own_keys}
use Rattle.image_laws.proofs.KeptKeys.{sweep_keeps, settle_keeps}
use Rattle.image_laws.proofs.RowEdits.{made_by, changed-rows, made_is, made_keyed}
use Rattle.image_laws.proofs.StepImages.{fit, maps_ok}
use Rattle.image_laws.proofs.StepLaws.{are_born}

-- the news, as edits
pub changed-news : (s : Store) (p : ℕ) (l : Text) (news : List Piece) → changed s (news_edits p l news) ≡ record s { locals = with_news p l news s.locals }
changed-news s p l [] = refl
changed-news s p l (n ∷ news) = changed-append s (cond (same n.location l) (Put (cell.Local (new_row p n)) ∷ []) []) (news_edits p l news) ∙ by (same n.location l) ∙ changed-news (record s { locals = cond (same n.location l) (map.insert s.locals (local_key (new_row p n)) (new_row p n)) s.locals }) p l news
  where
    by : (b : Bool) → changed (changed s (cond b (Put (cell.Local (new_row p n)) ∷ []) [])) (news_edits p l news)
        ≡ changed (record s { locals = cond b (map.insert s.locals (local_key (new_row p n)) (new_row p n)) s.locals }) (news_edits p l news)
    by true = refl
    by false = refl

news_keyed : (p : ℕ) (l : Text) (news : List Piece) (m : Locals) → AreKeyed m → AreKeyed (with_news p l news m)
news_keyed p l [] m h = h
news_keyed p l (n ∷ news) m h = news_keyed p l news _ (by (same n.location l))
  where
    by : (b : Bool) → AreKeyed (cond b (map.insert m (local_key (new_row p n)) (new_row p n)) m)
    by true = keyed-insert locals_total local_key exact_locals m (new_row p n) h
    by false = h

-- ---- the local step of an operation, and its undo

module _ (image : Image) (sound : Sound image) (op : Op) (logged : HasLog (global image).log op) (location : Text) (rows : List LocalRow) where
  abbrev log : Log
  log = (global image).log

  abbrev before : Locals
  before = locals_at image location

  keyed : AreKeyed before
  keyed = (sound.keyed (Shard location)).locals

  abbrev middle : Locals
  middle = made_by (sweep log op (Old op.number)) rows before

  abbrev pub stepped : Locals
  stepped = with_news op.number location (listed op.news) middle

  -- The edits of the step change nothing but the local rows,
  pub step_changes : changed (image.at (Shard location)) (step_edits log op location rows) ≡ record (image.at (Shard location)) { locals = stepped }
  step_changes =
      changed-append (image.at (Shard location)) (edits_by (sweep log op (Old op.number)) rows) (news_edits op.number location (listed op.news))
      ∙ ap (λ (s : Store). changed s (news_edits op.number location (listed op.news))) (changed-rows (image.at (Shard location)) (sweep log op (Old op.number)) rows)
      ∙ changed-news (record (image.at (Shard location)) { locals = middle }) op.number location (listed op.news)

  -- and these are stepped.
  pub step_made : AreScanned (sweep log op (Old op.number)) before rows → IsStepped log op location before stepped
  step_made scanned = record {
    middle = middle;
    swept = made_is (sweep log op (Old op.number)) (sweep_keeps log op (Old op.number)) before keyed rows scanned;
    born = are_born op.number location (listed op.news) middle (own_keys (global image).maps (global image).mappings (maps_ok image sound op logged) op.map op.hull (listed op.olds) (listed op.news) (fit image sound op logged));
    keyed = news_keyed op.number location (listed op.news) middle (made_keyed (sweep log op (Old op.number)) (sweep_keeps log op (Old op.number)) rows before keyed);
  }

-- ---- undo and settling

module _ (image : Image) (sound : Sound image) (location : Text) (rows : List LocalRow) where
  -- The edits of undo change nothing but the local rows, and these are swept.
  pub undo_changes : (op : Op) → changed (image.at (Shard location)) (undo_edits (global image).log op rows) ≡ record (image.at (Shard location)) { locals = made_by (sweep (global image).log op Plain) rows (locals_at image location) }
  undo_changes op = changed-rows (image.at (Shard location)) (sweep (global image).log op Plain) rows

  pub undo_made : (op : Op) → AreScanned (sweep (global image).log op Plain) (locals_at image location) rows
      → IsSwept (global image).log op Plain (locals_at image location) (made_by (sweep (global image).log op Plain) rows (locals_at image location))
  undo_made op scanned = made_is (sweep (global image).log op Plain) (sweep_keeps (global image).log op Plain) (locals_at image location) (sound.keyed (Shard location)).locals rows scanned

  -- Those of settling change nothing but the local rows, and these are settled.
  pub settle_changes : (number : ℕ) → changed (image.at (Shard location)) (settle_edits number rows) ≡ record (image.at (Shard location)) { locals = made_by (settle number) rows (locals_at image location) }
  settle_changes number = changed-rows (image.at (Shard location)) (settle number) rows

  pub settle_made : (number : ℕ) → AreScanned (settle number) (locals_at image location) rows → IsSettled number (locals_at image location) (made_by (settle number) rows (locals_at image location))
  settle_made number scanned = made_is (settle number) (settle_keeps number) (locals_at image location) (sound.keyed (Shard location)).locals rows scanned

-- ---- as the laws tell it

pub edits_step : (image : Image) → Sound image → (op : Op) → HasLog (global image).log op → (location : Text) (rows : List LocalRow) → AreScanned (sweep (global image).log op (Old op.number)) (locals_at image location) rows
    → Leaves image location (step_edits (global image).log op location rows) (IsStepped (global image).log op location (locals_at image location))
edits_step image sound op logged location rows scanned = (stepped image sound op logged location rows, step_changes image sound op logged location rows, step_made image sound op logged location rows scanned)

pub edits_undo : (image : Image) → Sound image → (op : Op) (location : Text) (rows : List LocalRow) → AreScanned (sweep (global image).log op Plain) (locals_at image location) rows
    → Leaves image location (undo_edits (global image).log op rows) (IsSwept (global image).log op Plain (locals_at image location))
edits_undo image sound op location rows scanned = (made_by (sweep (global image).log op Plain) rows (locals_at image location), undo_changes image sound location rows op, undo_made image sound location rows op scanned)

pub edits_settle : (image : Image) → Sound image → (number : ℕ) (location : Text) (rows : List LocalRow) → AreScanned (settle number) (locals_at image location) rows
    → Leaves image location (settle_edits number rows) (IsSettled number (locals_at image location))
edits_settle image sound number location rows scanned = (made_by (settle number) rows (locals_at image location), settle_changes image sound location rows number, settle_made image sound location rows number scanned)
