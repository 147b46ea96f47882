-- Nothing to do is answered exactly where the transaction has been made.
use Rattle.std.proofs.Common.{◌≡◌, ◌≢◌, ◌⊎◌, ◌↔◌, ℕ, Bool, true, false, not, ◌&&◌, cond, refl, sym, ap, ◌∙◌, subst, Some, None, Option, inl, inr, true≢false, List, [], ◌∷◌, ◌++◌, arith}
use Rattle.std.specs.Prelude.{◌==◌}
use Rattle.std.specs.FinMap as fin
use Rattle.std.proofs.lemmas.Bool.{cases_Bool, eqb-true}
use Rattle.cell_world.specs.Texts.{Text}
use Rattle.cell_world.specs.Keys.{same}
use Rattle.cell_world.specs.Lists.{IsOneOf}
use Rattle.cell_world.specs.Marked.{HasNoMark}
use Rattle.cell_world.specs.Spelled.{listed}
use Rattle.cell_world.specs.Stores.{Log, Locals, local_key}
use Rattle.cell_world.specs.Sound.{HasLocal}
use Rattle.cell_world.specs.Sweep.{reaches, sweep, IsSweptPlain}
use Rattle.cell_world.specs.UnderWay.{IsUnborn, IsDone, new_row}
use Rattle.cell_world.specs.declared.operations.Op.{Op}
use Rattle.cell_world.specs.declared.operations.Piece.{Piece}
use Rattle.cell_world.specs.declared.cells.Cell.TheVariants as cell
use Rattle.cell_world.specs.declared.cells.LocalRow.{LocalRow}
use Rattle.cell_world.specs.declared.cells.Mark.{Mark}
use Rattle.cell_world.specs.declared.cells.Mark.TheVariants.{Plain, Old, New}
use Rattle.cell_world.specs.declared.changes.Edit.{Edit}
use Rattle.cell_world.specs.declared.changes.Edit.TheVariants.{Put}
use Rattle.cell_world.proofs.OrderLaws.{locals_total, exact_locals}
use Rattle.cell_world.proofs.SpanLaws.{same_is, same_self}
use Rattle.global_tables.proofs.GroupCells.{value_stands, value_there}
use Rattle.global_tables.proofs.Rising.{from_filter}
use Rattle.image_laws.specs.LocalSteps.{AreKeyed, settle}
use Rattle.image_laws.specs.RowEdits.{edit_to, edits_by, news_edits}
use Rattle.local_tables.specs.Altering.{alters, altered, is_old_of, is_own, to_mark, to_undo, to_settle, if_any}
use Rattle.local_tables.specs.Resolving.{is_marked}
use Rattle.local_tables.specs.declared.altering.Work.{Work}
use Rattle.local_tables.specs.declared.altering.Work.TheVariants.{ToMark, ToUndo, ToSettle}
use Rattle.local_tables.proofs.AlteredRows.{second_false}
use Rattle.local_tables.proofs.ScanLaws.{none_pass}

-- ---- edits

none_any : (edits : List Edit) → None ≡ if_any edits → edits ≡ []
none_any [] e = refl
none_any (edit ∷ edits) e = cc

no_edits : (f : LocalRow → Option LocalRow) (rows : List LocalRow) → edits_by f rows ≡ [] → rows ≡ []
no_edits f [] e = refl
no_edits f (row ∷ rows) e = by (f row) e
  where
    by : (o : Option LocalRow) → edit_to row o ++ edits_by f rows ≡ [] → row ∷ rows ≡ []
    by None e = cc
    by (Some now) e = cc

both_empty : {A : Type 0} (xs ys : List A) → xs ++ ys ≡ [] → (xs ≡ []) × (ys ≡ [])
both_empty [] ys e = (refl, e)
both_empty (x ∷ xs) ys e = cc

-- ---- no row is altered

module _ (locals : Locals) (keyed : AreKeyed locals) (work : Work) (op : Op) where
  none_altered : altered work op locals ≡ [] → (row : LocalRow) → HasLocal locals row → alters work op row ≡ false
  none_altered e row has = by (alters work op row) refl
    where
      by : (b : Bool) → alters work op row ≡ b → alters work op row ≡ false
      by false t = t
      by true t = absurd (subst (λ rows. IsOneOf rows row) e (from_filter (alters work op) (fin.values locals) row (value_there locals_total local_key locals keyed exact_locals (local_key row) row has) t))

  altered_none : ((row : LocalRow) → HasLocal locals row → alters work op row ≡ false) → altered work op locals ≡ []
  altered_none none = sym (none_pass (alters work op) (fin.values locals) (λ q m. none q (value_stands locals_total local_key locals keyed q m)))

-- ---- undo

pub nothing_to_undo : (log : Log) (op : Op) (locals : Locals) → AreKeyed locals → (None ≡ if_any (to_undo log op locals)) ↔ IsSweptPlain op locals
nothing_to_undo log op locals keyed = (forth, back)
  where
    plain_of : (m : Mark) → is_marked m ≡ false → m ≡ Plain
    plain_of Plain e = refl
    plain_of (Old p) e = cc
    plain_of New e = cc

    forth : None ≡ if_any (to_undo log op locals) → IsSweptPlain op locals
    forth e row has inside =
        let none = none_altered locals keyed ToUndo op (no_edits (sweep log op Plain) (altered ToUndo op locals) (none_any (to_undo log op locals) e)) row has in
        elim (second_false (reaches op row) (is_marked row.mark) none) [
          | inl out ↦ absurd (true≢false (sym inside ∙ out))
          | inr plain ↦ plain_of row.mark plain
        ]

    back : IsSweptPlain op locals → None ≡ if_any (to_undo log op locals)
    back plain = ap (λ rows. if_any (edits_by (sweep log op Plain) rows)) (sym (altered_none locals keyed ToUndo op (λ row has. by row has (reaches op row) refl)))
      where
        by : (row : LocalRow) → HasLocal locals row → (b : Bool) → reaches op row ≡ b → alters ToUndo op row ≡ false
        by row has true t = ap (λ b. b && is_marked row.mark) t ∙ ap is_marked (plain row has t)
        by row has false t = ap (λ b. b && is_marked row.mark) t

-- ---- settling

equal_tests : (p q : ℕ) → (p == q) ≡ false → p ≢ q
equal_tests p q e is = grind (arith, e, is)

other_number : (p q : ℕ) → (p ≡ q → ⊥) → (p == q) ≡ false
other_number p q ne = elim (cases_Bool (p == q)) [ inl t ↦ absurd (ne (eqb-true p q t)) | inr t ↦ t ]

pub nothing_to_settle : (op : Op) (locals : Locals) → AreKeyed locals → (None ≡ if_any (to_settle op locals)) ↔ HasNoMark op locals
nothing_to_settle op locals keyed = (forth, back)
  where
    forth : None ≡ if_any (to_settle op locals) → HasNoMark op locals
    forth e row has =
        let none = none_altered locals keyed ToSettle op (no_edits (settle op.number) (altered ToSettle op locals) (none_any (to_settle op locals) e)) row has in (
          λ old. equal_tests op.number op.number (sym (ap (is_own op.number row) old) ∙ none) refl,
          λ new. equal_tests row.number op.number (sym (ap (is_own op.number row) new.0) ∙ none) new.1,
        )

    back : HasNoMark op locals → None ≡ if_any (to_settle op locals)
    back clean = ap (λ rows. if_any (edits_by (settle op.number) rows)) (sym (altered_none locals keyed ToSettle op (λ row has. by row has row.mark refl)))
      where
        by : (row : LocalRow) → HasLocal locals row → (m : Mark) → row.mark ≡ m → alters ToSettle op row ≡ false
        by row has Plain e = ap (is_own op.number row) e
        by row has (Old p) e = ap (is_own op.number row) e ∙ other_number p op.number (λ is. (clean row has).0 (e ∙ ap Old is))
        by row has New e = ap (is_own op.number row) e ∙ other_number row.number op.number (λ is. (clean row has).1 (e, is))

-- ---- the local step

module _ (number : ℕ) (location : Text) where
  no_news : (news : List Piece) → news_edits number location news ≡ [] → (n : Piece) → IsOneOf news n → n.location ≡ location → ⊥
  no_news [] e n among there = absurd among
  no_news (x ∷ news) e n among there = by (same x.location location) refl (λ f m. no_news news f n m there) e among
    where
      by : (b : Bool) → same x.location location ≡ b → (news_edits number location news ≡ [] → IsOneOf news n → ⊥) → cond b (Put (cell.Local (new_row number x)) ∷ []) [] ++ news_edits number location news ≡ [] → (x ≡ n) ⊎ IsOneOf news n → ⊥
      by true t more e m = absurd (cc)
      by false t more e (inl is) = true≢false (sym (same_self location) ∙ (λ i. same (sym there i) location) ∙ (λ i. same (sym (ap (λ (p : Piece). p.location) is) i) location) ∙ t)
      by false t more e (inr m) = more e m

  news_none : (news : List Piece) → ((n : Piece) → IsOneOf news n → n.location ≡ location → ⊥) → news_edits number location news ≡ []
  news_none [] none = refl
  news_none (x ∷ news) none = by (same x.location location) refl (news_none news (λ n m. none n (inr m)))
    where
      by : (b : Bool) → same x.location location ≡ b → news_edits number location news ≡ [] → cond b (Put (cell.Local (new_row number x)) ∷ []) [] ++ news_edits number location news ≡ []
      by true t e = absurd (none x (inl refl) (same_is x.location location t))
      by false t e = e

pub nothing_to_mark : (log : Log) (op : Op) (location : Text) (locals : Locals) → AreKeyed locals → IsUnborn op.number locals → (None ≡ if_any (to_mark log op location locals)) ↔ IsDone op location locals
nothing_to_mark log op location locals keyed unborn = (forth, back)
  where
    old_of : (m : Mark) → not (is_old_of op.number m) ≡ false → m ≡ Old op.number
    old_of Plain e = cc
    old_of (Old p) e = elim (cases_Bool (p == op.number)) [ inl t ↦ ap Old (eqb-true p op.number t) | inr t ↦ absurd (true≢false (sym (ap not t) ∙ e)) ]
    old_of New e = cc

    forth : None ≡ if_any (to_mark log op location locals) → IsDone op location locals
    forth e =
        let parts = both_empty (edits_by (sweep log op (Old op.number)) (altered ToMark op locals)) (news_edits op.number location (listed op.news)) (none_any (to_mark log op location locals) e) in
        record {
          only = λ row has inside. elim (second_false (reaches op row) (not (is_old_of op.number row.mark)) (none_altered locals keyed ToMark op (no_edits (sweep log op (Old op.number)) (altered ToMark op locals) parts.0) row has)) [
            | inl out ↦ absurd (true≢false (sym inside ∙ out))
            | inr old ↦ inl (old_of row.mark old)
          ];
          made = λ n among there. absurd (no_news op.number location (listed op.news) parts.1 n among there);
        }

    back : IsDone op location locals → None ≡ if_any (to_mark log op location locals)
    back done = λ i. if_any (edits_by (sweep log op (Old op.number)) (sym rows i) ++ sym news i)
      where
        mark_same : (p : ℕ) → (p == p) ≡ true
        mark_same p = grind arith

        by : (row : LocalRow) → HasLocal locals row → (b : Bool) → reaches op row ≡ b → alters ToMark op row ≡ false
        by row has true t = ap (λ b. b && not (is_old_of op.number row.mark)) t ∙ elim (done.only row has t) [
          | inl old ↦ ap (λ m. not (is_old_of op.number m)) old ∙ ap not (mark_same op.number)
          | inr new ↦ absurd ((unborn row has).0 new.1)
        ]
        by row has false t = ap (λ b. b && not (is_old_of op.number row.mark)) t

        rows : altered ToMark op locals ≡ []
        rows = altered_none locals keyed ToMark op (λ row has. by row has (reaches op row) refl)

        news : news_edits op.number location (listed op.news) ≡ []
        news = news_none op.number location (listed op.news) (λ n among there. (unborn (new_row op.number n) (done.made n among there)).0 refl)
