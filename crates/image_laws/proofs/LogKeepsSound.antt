-- A lawful operation that conflicts with no logged one: logging it changes nothing of the meaning, and keeps an image sound.
use Rattle.std.proofs.Common.{◌≡◌, ◌≢◌, ◌⊎◌, ℕ, ◌<◌, ◌+◌, ◌^◌, true, false, not, refl, sym, ap, ◌∙◌, subst, Some, is_some, inl, inr, ⊎_elim, List, [], ◌∷◌, arith}
use Rattle.std.specs.Prelude.{IsTrue}
use Rattle.std.specs.FinMap as map
use Rattle.std.proofs.lemmas.Cmp.{nat_cmp_total}
use Rattle.std.proofs.lemmas.Map.Lookups.{exact_unsigned}
use Rattle.std.proofs.lemmas.Bool.{ltb-true, and_from}
use Rattle.std.proofs.lemmas.Bool.Decides.{nat_tests}
use Rattle.cell_world.specs.Texts.{Text}
use Rattle.cell_world.specs.Keys.{same, overlaps}
use Rattle.cell_world.specs.Stores.{Log, Locals, Maps, Mappings, changed, IsKeyed}
use Rattle.cell_world.specs.Images.{Image, Place, Global, Shard, global, with_store}
use Rattle.cell_world.specs.Plain.{Owner}
use Rattle.cell_world.specs.Meaning.{meaning, counts, counts_with, next_operation, next_job, owner_of}
use Rattle.cell_world.specs.Operations.{conflicts, reach_of}
use Rattle.cell_world.specs.Lawful.{ReadTables, read_tables, LawfulOn, Lawful}
use Rattle.cell_world.specs.Sound.{Sound, LogCells, LocalCells, OnlineRows, HasLog, HasLocal, IsMarked, mark_below}
use Rattle.cell_world.specs.declared.operations.Op.{Op}
use Rattle.cell_world.specs.declared.cells.LocalRow.{LocalRow}
use Rattle.cell_world.specs.declared.cells.Mark.{Mark}
use Rattle.cell_world.specs.declared.cells.Mark.TheVariants.{Plain, Old, New}
use Rattle.cell_world.specs.declared.cells.Cell.TheVariants as cell
use Rattle.cell_world.specs.declared.changes.Edit.{Edit}
use Rattle.cell_world.specs.declared.changes.Edit.TheVariants.{Put}
use Rattle.cell_world.proofs.SpanLaws.{overlaps_comm, same_self}
use Rattle.cell_world.proofs.StoreLaws.{get-insert_other, get-insert_cases}
use Rattle.cell_world.proofs.KeyedLaws.{keyed_changed}

-- ---- a log, and one more operation

module _ (log : Log) (next : ℕ) (op : Op) (number : op.number ≡ next) where
  abbrev pub with_op : Log
  with_op = map.insert log op.number op

  -- below the number that stood the log is as it was
  pub same_log : (p : ℕ) → p < next → map.get with_op p ≡ map.get log p
  same_log p h = let ne : p ≢ op.number = (λ e. let f : next ≡ p = sym (e ∙ number) in omega arith) in get-insert_other nat_cmp_total exact_unsigned log op.number op p ne

  pub same_counts : (row : LocalRow) → row.number < next → IsTrue (mark_below next row.mark) → counts with_op row ≡ counts log row
  same_counts row n m = by row.mark m
    where
      by : (mark : Mark) → IsTrue (mark_below next mark) → counts_with with_op mark row.number ≡ counts_with log mark row.number
      by Plain m = refl
      by (Old p) m = ap is_some (same_log p (ltb-true p next m))
      by New m = ap (λ o. not (is_some o)) (same_log row.number n)

  -- what is in the log now is the operation, or was there
  pub logged_before : (other : Op) → HasLog with_op other → (other ≡ op) ⊎ HasLog log other
  logged_before other h = ⊎_elim
      (λ c. inl (let both : Some other ≡ Some op = sym h ∙ c.1 in let is : other ≡ op = cc in is))
      (λ e. inr (sym e ∙ h))
      (get-insert_cases nat_cmp_total exact_unsigned log op.number op other.number)

  -- two operations of one map whose hulls overlap are one
  hulls_apart : (t : ReadTables) → LogCells t log next → ((other : Op) → HasLog log other → conflicts (reach_of op) other ≡ false)
      → (a b : Op) → (a ≡ op) ⊎ HasLog log a → (b ≡ op) ⊎ HasLog log b → a.map ≡ b.map → IsTrue (overlaps a.hull b.hull) → a ≡ b
  hulls_apart t cells clear a b h g = by h g
    where
      alone : (other : Op) → HasLog log other → op.map ≡ other.map → IsTrue (overlaps op.hull other.hull) → ⊥
      alone other has e f = let no_conflict = clear other has in let conflict : conflicts (reach_of op) other ≡ true = and_from _ _ (subst (λ n. same op.map n ≡ true) e (same_self op.map)) f in cc

      by : (a ≡ op) ⊎ HasLog log a → (b ≡ op) ⊎ HasLog log b → a.map ≡ b.map → IsTrue (overlaps a.hull b.hull) → a ≡ b
      by (inl x) (inl y) e f = x ∙ sym y
      by (inr x) (inr y) e f = cells.hulls a b x y e f
      by (inl x) (inr y) e f = absurd (alone b y (sym (ap (λ (o : Op). o.map) x) ∙ e) (subst (λ (o : Op). IsTrue (overlaps o.hull b.hull)) x f))
      by (inr x) (inl y) e f = absurd (alone a x (sym (ap (λ (o : Op). o.map) y) ∙ sym e) (overlaps_comm op.hull a.hull ∙ subst (λ (o : Op). IsTrue (overlaps a.hull o.hull)) y f))

  pub keep_log : (t : ReadTables) → LogCells t log next → LawfulOn t op → ((other : Op) → HasLog log other → conflicts (reach_of op) other ≡ false) → LogCells t with_op (next + 1)
  keep_log t cells lawful clear = record {
    lawful = λ other h. ⊎_elim (λ e. subst (LawfulOn t) (sym e) lawful) (λ w. cells.lawful other w) (logged_before other h);
    numbered = λ other h. ⊎_elim (λ e. let n : other.number ≡ next = ap (λ (o : Op). o.number) e ∙ number in omega arith) (λ w. omega (arith, cells.numbered other w)) (logged_before other h);
    hulls = λ a b h g e f. hulls_apart t cells clear a b (logged_before a h) (logged_before b g) e f;
  }

  keep_marked : (location : Text) (row : LocalRow) → row.number < next → (mark : Mark) → IsTrue (mark_below next mark) → IsMarked log location row mark → IsMarked with_op location row mark
  keep_marked location row n Plain m h = tt
  keep_marked location row n (Old p) m h = λ o e. h o (sym (same_log p (ltb-true p next m)) ∙ e)
  keep_marked location row n New m h = λ o e. h o (sym (same_log row.number n) ∙ e)

  pub keep_locals : (mappings : Mappings) (location : Text) (locals : Locals) → LocalCells mappings log next location locals → LocalCells mappings with_op (next + 1) location locals
  keep_locals mappings location locals l = record {
    counted = λ row has c. l.counted row has (sym (alike row has) ∙ c);
    each = λ p has e. let r = l.each p has e in (r.0, r.1, alike r.0 r.1 ∙ r.2, r.3);
    once = λ a b h g c d e f. l.once a b h g (sym (alike a h) ∙ c) (sym (alike b g) ∙ d) e f;
    marks = λ row has. keep_marked location row (l.numbers row has).0 row.mark (l.numbers row has).1 (l.marks row has);
    numbers = λ row has. (omega (arith, (l.numbers row has).0), below_more row.mark (l.numbers row has).1);
  }
    where
      alike : (row : LocalRow) → HasLocal locals row → counts with_op row ≡ counts log row
      alike row has = same_counts row (l.numbers row has).0 (l.numbers row has).1

      below_more : (mark : Mark) → IsTrue (mark_below next mark) → IsTrue (mark_below (next + 1) mark)
      below_more Plain m = refl
      below_more (Old p) m = let h = ltb-true p next m in grind (arith, nat_tests)
      below_more New m = refl

  pub keep_online : (t : ReadTables) → LogCells t log next → (maps : Maps) (own : Owner) (location : Text) (locals : Locals) → OnlineRows maps own log location locals → OnlineRows maps own with_op location locals
  keep_online t cells maps own location locals o = record {
    spans = o.spans;
    owned = λ row key has on inside of_type. elim (o.owned row key has on inside of_type) [
      | inl owned ↦ inl owned
      | inr w ↦ inr (w.0, (w.1.0, same_log w.1.0.number (cells.numbered w.1.0 w.1.1) ∙ w.1.1, w.1.2, w.1.3))
    ];
  }

-- ---- images

-- the operation's log row, and the counter raised past its number
abbrev pub log_edits : Image → Op → List Edit
log_edits image op = Put (cell.Log op) ∷ Put (cell.Counter (record { operation = next_operation image + 1; job = next_job image })) ∷ []

pub meaning-log : (image : Image) (op : Op) → meaning (with_store image Global (changed (global image) (log_edits image op))) ≡ meaning image
meaning-log image op = refl

module _ (image : Image) (sound : Sound image) (op : Op) (lawful : Lawful image op) (number : op.number ≡ next_operation image) (room : next_operation image < 2 ^ 63)
    (clear : (other : Op) → HasLog (global image).log other → conflicts (reach_of op) other ≡ false) where
  abbrev after : Image
  after = with_store image Global (changed (global image) (log_edits image op))

  keep_keyed : (place : Place) → IsKeyed (after.at place)
  keep_keyed Global = keyed_changed (global image) (log_edits image op) (sound.keyed Global)
  keep_keyed (Shard location) = sound.keyed (Shard location)

  pub log_keeps_sound : Sound after
  log_keeps_sound = record {
    keyed = keep_keyed;
    globals = record {
      shards = sound.globals.shards;
      tables = sound.globals.tables;
      operations = (omega arith, omega arith);
      jobs = sound.globals.jobs;
      spans = sound.globals.spans;
      on_shards = sound.globals.on_shards;
      disjoint = sound.globals.disjoint;
    };
    logged = keep_log (global image).log (next_operation image) op number (read_tables image) sound.logged lawful clear;
    locals = λ location h. keep_locals (global image).log (next_operation image) op number (global image).mappings location (image.at (Shard location)).locals (sound.locals location h);
    online = λ location h. keep_online (global image).log (next_operation image) op number (read_tables image) sound.logged (global image).maps (owner_of image) location (image.at (Shard location)).locals (sound.online location h);
    rows = sound.rows;
    batches = sound.batches;
    suspect = sound.suspect;
    jobs = sound.jobs;
    progress = sound.progress;
    tokens = sound.tokens;
  }
