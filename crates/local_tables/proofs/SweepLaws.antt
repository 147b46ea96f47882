-- The edits of listed rows, one after the other, and the reads that they cost.
use Rattle.std.proofs.Common.{◌≡◌, inl, ℕ, zero, suc, ◌+◌, ◌≤◌, ◌<◌, Bool, true, false, cond, List, [], ◌∷◌, ◌++◌, take, length, get_or, Option, Some, None, refl, sym, ap, ◌∙◌, subst, arith, true≢false}
use Rattle.std.specs.Prelude.{filter, IsTrue}
use Rattle.std.proofs.lemmas.List.{append_assoc, take_more}
use Rattle.std.proofs.lemmas.List.Elements.{filter-append}
use Rattle.cell_world.specs.Lists.{IsOneOf}
use Rattle.cell_world.specs.Images.{Image, global}
use Rattle.cell_world.specs.Meaning.{is_logged}
use Rattle.cell_world.specs.Outside.{Told, IfContents}
use Rattle.cell_world.proofs.ContentsLaws.{contents_weaker, contents_both}
use Rattle.cell_world.specs.Sweep.{reaches, marked_as, sweep}
use Rattle.cell_world.specs.declared.operations.Op.{Op}
use Rattle.cell_world.specs.declared.cells.LocalRow.{LocalRow}
use Rattle.cell_world.specs.declared.cells.Mark.{Mark}
use Rattle.cell_world.specs.declared.cells.Mark.TheVariants.{Plain, Old, New}
use Rattle.cell_world.specs.declared.changes.Edit.{Edit}
use Rattle.image_laws.specs.LocalSteps.{settle, settle_as}
use Rattle.image_laws.specs.RowEdits.{edit_to, edits_by}
use Rattle.global_tables.proofs.Rising.{in_take, in_right}
use Rattle.local_tables.specs.Altering.{is_own, is_new, has_mark_of, is_foreign}
use Rattle.local_tables.specs.Sweeping.{AllReach, AllOwn, foreign_reads}

-- ---- lists, one more

taken : {A : Type 0} (xs : List A) (i : ℕ) (x : A) → i < length xs → x ≡ get_or xs i x → take (i + 1) xs ≡ take i xs ++ x ∷ []
taken xs i x lt is = take_more xs i x lt ∙ ap (λ y. take i xs ++ y ∷ []) (sym is)

one_of_taken : {A : Type 0} (xs : List A) (i : ℕ) (x : A) → i < length xs → x ≡ get_or xs i x → IsOneOf xs x
one_of_taken xs i x lt is = in_take (i + 1) xs x (subst (λ ys. IsOneOf ys x) (sym (taken xs i x lt is)) (in_right (take i xs) (x ∷ []) x (inl refl)))

-- ---- edits

edits-append : (f : LocalRow → Option LocalRow) (xs ys : List LocalRow) → edits_by f (xs ++ ys) ≡ edits_by f xs ++ edits_by f ys
edits-append f [] ys = refl
edits-append f (x ∷ xs) ys = ap (λ es. edit_to x (f x) ++ es) (edits-append f xs ys) ∙ sym (append_assoc (edit_to x (f x)) (edits_by f xs) (edits_by f ys))

nothing_behind : (xs : List Edit) → xs ++ [] ≡ xs
nothing_behind [] = refl
nothing_behind (x ∷ xs) = ap (λ ys. x ∷ ys) (nothing_behind xs)

-- the edits of one row more
pub edits_more : (f : LocalRow → Option LocalRow) (rows : List LocalRow) (i : ℕ) (row : LocalRow) (edits : List Edit) → i < length rows → row ≡ get_or rows i row
    → edits ≡ edits_by f (take i rows) ++ edit_to row (f row) → edits ≡ edits_by f (take (i + 1) rows)
edits_more f rows i row edits lt is e =
    e ∙ sym (ap (edits_by f) (taken rows i row lt is) ∙ edits-append f (take i rows) (row ∷ []) ∙ ap (λ es. edits_by f (take i rows) ++ es) (nothing_behind (edit_to row (f row))))

-- ---- reads

-- those of one row more
pub reads_more : (number : ℕ) (rows : List LocalRow) (i : ℕ) (row : LocalRow) → i < length rows → row ≡ get_or rows i row
    → length (filter (is_foreign number) (take (i + 1) rows)) ≡ length (filter (is_foreign number) (take i rows)) + foreign_reads number row
reads_more number rows i row lt is = ap (λ xs. length (filter (is_foreign number) xs)) (taken rows i row lt is) ∙ ap length (filter-append (is_foreign number) (take i rows) (row ∷ [])) ∙ by (is_foreign number row) (filter (is_foreign number) (take i rows))
  where
    by : (b : Bool) (xs : List LocalRow) → length (xs ++ cond b (row ∷ []) []) ≡ length xs + cond b 1 0
    by true [] = refl
    by false [] = refl
    by b (x ∷ xs) =
        let more : length (xs ++ cond b (row ∷ []) []) ≡ length xs + cond b 1 0 = by b xs in
        let one : length (x ∷ (xs ++ cond b (row ∷ []) [])) ≡ length (xs ++ cond b (row ∷ []) []) + 1 = omega arith in
        let two : length (x ∷ xs) ≡ length xs + 1 = omega arith in
        omega (arith, more, one, two)

front_fewer : (f : LocalRow → Bool) (n : ℕ) (rows : List LocalRow) → length (filter f (take n rows)) ≤ length (filter f rows)
front_fewer f zero rows = omega arith
front_fewer f (suc n) [] = omega arith
front_fewer f (suc n) (row ∷ rows) = by (f row) (front_fewer f n rows)
  where
    by : (b : Bool) → length (filter f (take n rows)) ≤ length (filter f rows) → length (cond b (row ∷ filter f (take n rows)) (filter f (take n rows))) ≤ length (cond b (row ∷ filter f rows) (filter f rows))
    by true le = let one : length (row ∷ filter f (take n rows)) ≡ length (filter f (take n rows)) + 1 = omega arith in let two : length (row ∷ filter f rows) ≡ length (filter f rows) + 1 = omega arith in omega (arith, le, one, two)
    by false le = le

-- up to a row there are no more than in all
pub reads_up_to : (number : ℕ) (rows : List LocalRow) (i : ℕ) (row : LocalRow) → i < length rows → row ≡ get_or rows i row
    → length (filter (is_foreign number) (take i rows)) + foreign_reads number row ≤ length (filter (is_foreign number) rows)
reads_up_to number rows i row lt is = let e = reads_more number rows i row lt is in let le = front_fewer (is_foreign number) (i + 1) rows in omega (arith, e, le)

pub all_taken : {A : Type 0} (rows : List A) (i : ℕ) → length rows ≤ i → take i rows ≡ rows
all_taken [] zero le = refl
all_taken [] (suc i) le = refl
all_taken (row ∷ rows) zero le = let n : length (row ∷ rows) ≡ length rows + 1 = omega arith in absurd (omega (arith, le, n))
all_taken (row ∷ rows) (suc i) le = let n : length (row ∷ rows) ≡ length rows + 1 = omega arith in ap (λ xs. row ∷ xs) (all_taken rows i (omega (arith, le, n)))

-- ---- the sweep, over what is told

abbrev pub Sweeps : Op → Mark → List LocalRow → List LocalRow → List Edit → Image → Type 0
Sweeps op mark rows front edits image = is_logged (global image).log op.number ≡ true → AllReach op rows → edits ≡ edits_by (sweep (global image).log op mark) front

pub swept_more : (told later : Told) → later ≡ told → (op : Op) (mark : Mark) (rows : List LocalRow) (i : ℕ) (row : LocalRow) → i < length rows → row ≡ get_or rows i row → (before after : List Edit)
    → IfContents told (Sweeps op mark rows (take i rows) before)
    → IfContents later (λ image. is_logged (global image).log op.number ≡ true → IsTrue (reaches op row) → after ≡ before ++ edit_to row (sweep (global image).log op mark row))
    → IfContents told (Sweeps op mark rows (take (i + 1) rows) after)
swept_more told later same op mark rows i row lt is before after h g =
    contents_weaker told (λ image. Sweeps op mark rows (take i rows) before image × Adds image) (Sweeps op mark rows (take (i + 1) rows) after)
    (λ image both logged all. edits_more (sweep (global image).log op mark) rows i row after lt is (both.1 logged (all row (one_of_taken rows i row lt is)) ∙ ap (λ es. es ++ edit_to row (sweep (global image).log op mark row)) (both.0 logged all)))
    (contents_both told (Sweeps op mark rows (take i rows) before) Adds h (subst (λ t. IfContents t Adds) same g))
  where
    Adds : Image → Type 0
    Adds image = is_logged (global image).log op.number ≡ true → IsTrue (reaches op row) → after ≡ before ++ edit_to row (sweep (global image).log op mark row)

pub swept_all : (told : Told) (op : Op) (mark : Mark) (rows : List LocalRow) (i : ℕ) → length rows ≤ i → (edits : List Edit) → IfContents told (Sweeps op mark rows (take i rows) edits) → IfContents told (Sweeps op mark rows rows edits)
swept_all told op mark rows i le edits h = subst (λ xs. IfContents told (Sweeps op mark rows xs edits)) (all_taken rows i le) h

-- ---- settling

-- a row with a mark of the operation goes where it is Old, and becomes Plain where it is New
pub settle_own : (number : ℕ) (row : LocalRow) → has_mark_of number row ≡ true → (cond (is_new row.mark) (Some (marked_as Plain row)) None) ≡ settle number row
settle_own number row own = by row.mark own
  where
    by : (mark : Mark) → is_own number row mark ≡ true → cond (is_new mark) (Some (marked_as Plain row)) None ≡ settle_as number row mark
    by Plain e = absurd (true≢false (sym e))
    by (Old p) e = ap (λ b. cond b None (Some row)) (sym e)
    by New e = ap (λ b. cond b (Some (marked_as Plain row)) (Some row)) (sym e)

pub settled_more : (number : ℕ) (rows : List LocalRow) (i : ℕ) (row : LocalRow) → i < length rows → row ≡ get_or rows i row → (before after : List Edit)
    → (AllOwn number rows → before ≡ edits_by (settle number) (take i rows)) → (b : Bool) → b ≡ is_new row.mark → after ≡ before ++ edit_to row (cond b (Some (marked_as Plain row)) None)
    → AllOwn number rows → after ≡ edits_by (settle number) (take (i + 1) rows)
settled_more number rows i row lt is before after h b new e own =
    edits_more (settle number) rows i row after lt is
    (e ∙ ap (λ x. before ++ edit_to row (cond x (Some (marked_as Plain row)) None)) new ∙ ap (λ x. before ++ edit_to row x) (settle_own number row (own row (one_of_taken rows i row lt is))) ∙ ap (λ es. es ++ edit_to row (settle number row)) (h own))
