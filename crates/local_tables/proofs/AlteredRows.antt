-- The rows that a transaction alters are all that it alters, each once, so the changes make the local transactions.
use Rattle.std.proofs.Common.{◌≡◌, ◌⊎◌, ℕ, Bool, true, false, not, ◌&&◌, cond, refl, sym, ap, ◌∙◌, subst, Some, None, Option, inl, inr, true≢false, List, [], ◌∷◌, is_some}
use Rattle.std.specs.Prelude.{filter, ◌==◌}
use Rattle.std.specs.FinMap as fin
use Rattle.std.specs.declared.cmp.Ordering.TheVariants.{Less, Equal}
use Rattle.std.proofs.lemmas.Cmp.{tied_itself}
use Rattle.std.proofs.lemmas.Bool.{cases_Bool, eqb-true}
use Rattle.cell_world.specs.Texts.{Text}
use Rattle.cell_world.specs.Orders.{local_cmp}
use Rattle.cell_world.specs.Meaning.{counts, counts_with, is_logged}
use Rattle.cell_world.specs.Images.{Image, Shard, global}
use Rattle.cell_world.specs.Stores.{Log, Locals, local_key}
use Rattle.cell_world.specs.Sound.{Sound, HasLog, locals_at}
use Rattle.cell_world.specs.Sweep.{sweep, reaches, marked_as, IsSwept}
use Rattle.cell_world.specs.declared.operations.Op.{Op}
use Rattle.cell_world.specs.declared.cells.LocalRow.{LocalRow}
use Rattle.cell_world.specs.declared.cells.Mark.{Mark}
use Rattle.cell_world.specs.declared.cells.Mark.TheVariants.{Plain, Old, New}
use Rattle.cell_world.specs.declared.changes.Edit.{Edit}
use Rattle.cell_world.proofs.OrderLaws.{locals_total, exact_locals}
use Rattle.global_tables.proofs.GroupCells.{own, value_stands, value_there}
use Rattle.global_tables.proofs.Entries.{entry_stands, entries_rise}
use Rattle.global_tables.proofs.Rising.{Rising, rising_map_in, rising_filter, in_filter, from_filter}
use Rattle.image_laws.specs.LocalSteps.{AreKeyed, settle, settle_as, IsStepped, IsSettled}
use Rattle.image_laws.specs.RowEdits.{AreDistinct, AreScanned, Leaves}
use Rattle.image_laws.proofs.EditImages.{edits_step, edits_undo, edits_settle}
use Rattle.local_tables.specs.Altering.{alters, altered, is_old_of, is_own, to_mark, to_undo, to_settle, if_any, edits_of}
use Rattle.local_tables.specs.Resolving.{is_marked}
use Rattle.local_tables.specs.declared.altering.Work.TheVariants.{ToMark, ToUndo, ToSettle}

abbrev Before : LocalRow → LocalRow → Type 0
Before a b = local_cmp (local_key a) (local_key b) ≡ Less

distinct_of : (rows : List LocalRow) → Rising Before rows → AreDistinct rows
distinct_of [] r = tt
distinct_of (row ∷ rows) r = (λ other h e. let tie : local_cmp (local_key row) (local_key row) ≡ Equal = tied_itself locals_total (local_key row) in let less : local_cmp (local_key row) (local_key row) ≡ Less = ap (local_cmp (local_key row)) e ∙ r.0 other h in cc, distinct_of rows r.1)

module _ (locals : Locals) (keyed : AreKeyed locals) where
  values_rise : Rising Before (fin.values locals)
  values_rise = rising_map_in (λ (e : (Text × (Text × ℕ)) × LocalRow). e.1) (λ a b. local_cmp a.0 b.0 ≡ Less) Before (fin.entries locals)
      (λ a b p q h. (λ i. local_cmp (own locals_total local_key locals keyed a.0 a.1 (entry_stands local_cmp locals_total locals a p) i) (own locals_total local_key locals keyed b.0 b.1 (entry_stands local_cmp locals_total locals b q) i)) ∙ h)
      (entries_rise local_cmp locals_total locals)

  -- All rows of a test are scanned, where a change leaves the others.
  pub scanned : (f : LocalRow → Option LocalRow) (test : LocalRow → Bool) → ((row : LocalRow) → test row ≡ false → f row ≡ Some row) → AreScanned f locals (filter test (fin.values locals))
  scanned f test leaves = record {
    distinct = distinct_of (filter test (fin.values locals)) (rising_filter Before test (fin.values locals) values_rise);
    stand = λ row h. value_stands locals_total local_key locals keyed row (in_filter test (fin.values locals) row h).0;
    all = λ row h. elim (cases_Bool (test row)) [
      | inl t ↦ inr (from_filter test (fin.values locals) row (value_there locals_total local_key locals keyed exact_locals (local_key row) row h) t)
      | inr t ↦ inl (leaves row t)
    ];
  }

-- a row with the mark that it has
same_mark : (row : LocalRow) (mark : Mark) → row.mark ≡ mark → marked_as mark row ≡ row
same_mark row mark e = λ i. record row { mark = sym e i }

-- a row that the sweep marks as it is, where it counts
sweeps_same : (log : Log) (op : Op) (mark : Mark) (row : LocalRow) (m : Mark) → row.mark ≡ m → m ≡ mark → counts_with log mark row.number ≡ true → sweep log op mark row ≡ Some row
sweeps_same log op mark row m e same c = by (reaches op row)
  where
    counted : counts log row ≡ true
    counted = ap (λ x. counts_with log x row.number) (e ∙ same) ∙ c

    kept : cond (counts log row) (Some (marked_as mark row)) None ≡ Some row
    kept = ap (λ b. cond b (Some (marked_as mark row)) None) counted ∙ ap Some (same_mark row mark (e ∙ same))

    by : (b : Bool) → cond b (cond (counts log row) (Some (marked_as mark row)) None) (Some row) ≡ Some row
    by true = kept
    by false = refl

sweeps_none : (log : Log) (op : Op) (mark : Mark) (row : LocalRow) → reaches op row ≡ false → sweep log op mark row ≡ Some row
sweeps_none log op mark row e = ap (λ b. cond b (cond (counts log row) (Some (marked_as mark row)) None) (Some row)) e

-- what is so of the second of two tests where not both hold and the first does
pub second_false : (a b : Bool) → (a && b) ≡ false → (a ≡ false) ⊎ (b ≡ false)
second_false true b e = inr e
second_false false b e = inl refl

pub undo_scanned : (log : Log) (op : Op) (locals : Locals) → AreKeyed locals → AreScanned (sweep log op Plain) locals (filter (alters ToUndo op) (fin.values locals))
undo_scanned log op locals keyed = scanned locals keyed (sweep log op Plain) (alters ToUndo op) (λ row e. elim (second_false (reaches op row) (is_marked row.mark) e) [
  | inl out ↦ sweeps_none log op Plain row out
  | inr plain ↦ sweeps_same log op Plain row Plain (plain_of row.mark plain) refl refl
])
  where
    plain_of : (m : Mark) → is_marked m ≡ false → m ≡ Plain
    plain_of Plain e = refl
    plain_of (Old p) e = cc
    plain_of New e = cc

pub mark_scanned : (log : Log) (op : Op) (locals : Locals) → AreKeyed locals → is_logged log op.number ≡ true → AreScanned (sweep log op (Old op.number)) locals (filter (alters ToMark op) (fin.values locals))
mark_scanned log op locals keyed logged = scanned locals keyed (sweep log op (Old op.number)) (alters ToMark op) (λ row e. elim (second_false (reaches op row) (not (is_old_of op.number row.mark)) e) [
  | inl out ↦ sweeps_none log op (Old op.number) row out
  | inr old ↦ sweeps_same log op (Old op.number) row (Old op.number) (old_of row.mark old) refl logged
])
  where
    old_of : (m : Mark) → not (is_old_of op.number m) ≡ false → m ≡ Old op.number
    old_of Plain e = cc
    old_of (Old p) e = by (cases_Bool (p == op.number))
      where
        by : ((p == op.number) ≡ true) ⊎ ((p == op.number) ≡ false) → Old p ≡ Old op.number
        by (inl t) = ap Old (eqb-true p op.number t)
        by (inr t) = absurd (true≢false (sym (ap not t) ∙ e))
    old_of New e = cc

pub settle_scanned : (number : ℕ) (op : Op) → op.number ≡ number → (locals : Locals) → AreKeyed locals → AreScanned (settle number) locals (filter (alters ToSettle op) (fin.values locals))
settle_scanned number op same locals keyed = scanned locals keyed (settle number) (alters ToSettle op) (λ row e. by row row.mark (ap (λ n. is_own n row row.mark) (sym same) ∙ e))
  where
    by : (row : LocalRow) (m : Mark) → is_own number row m ≡ false → settle_as number row m ≡ Some row
    by row Plain e = refl
    by row (Old p) e = ap (λ b. cond b None (Some row)) e
    by row New e = ap (λ b. cond b (Some (marked_as Plain row)) (Some row)) e

-- ---- the changes make the local transactions

-- the edits of an answer
pub answered : (edits : List Edit) (change : Option (List Edit)) → change ≡ if_any edits → edits_of change ≡ edits
answered [] change e = ap edits_of e
answered (edit ∷ edits) change e = ap edits_of e

pub mark_made : (image : Image) → Sound image → (op : Op) → HasLog (global image).log op → (location : Text) (change : Option (List Edit)) → change ≡ if_any (to_mark (global image).log op location (locals_at image location))
    → Leaves image location (edits_of change) (IsStepped (global image).log op location (locals_at image location))
mark_made image sound op logged location change e =
    subst (λ es. Leaves image location es (IsStepped (global image).log op location (locals_at image location))) (sym (answered (to_mark (global image).log op location (locals_at image location)) change e))
    (edits_step image sound op logged location (altered ToMark op (locals_at image location)) (mark_scanned (global image).log op (locals_at image location) (sound.keyed (Shard location)).locals (ap is_some logged)))

pub undo_made : (image : Image) → Sound image → (op : Op) (location : Text) (change : Option (List Edit)) → change ≡ if_any (to_undo (global image).log op (locals_at image location))
    → Leaves image location (edits_of change) (IsSwept (global image).log op Plain (locals_at image location))
undo_made image sound op location change e =
    subst (λ es. Leaves image location es (IsSwept (global image).log op Plain (locals_at image location))) (sym (answered (to_undo (global image).log op (locals_at image location)) change e))
    (edits_undo image sound op location (altered ToUndo op (locals_at image location)) (undo_scanned (global image).log op (locals_at image location) (sound.keyed (Shard location)).locals))

pub settle_made : (image : Image) → Sound image → (op : Op) (location : Text) (change : Option (List Edit)) → change ≡ if_any (to_settle op (locals_at image location))
    → Leaves image location (edits_of change) (IsSettled op.number (locals_at image location))
settle_made image sound op location change e =
    subst (λ es. Leaves image location es (IsSettled op.number (locals_at image location))) (sym (answered (to_settle op (locals_at image location)) change e))
    (edits_settle image sound op.number location (altered ToSettle op (locals_at image location)) (settle_scanned op.number op refl (locals_at image location) (sound.keyed (Shard location)).locals))
