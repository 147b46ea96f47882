-- That an operation is marked at a site, with regard to the log and to the marks of others, says the same as that it is done there.
use Rattle.std.proofs.Common.{◌≡◌, ◌⊎◌, ℕ, true, refl, sym, ap, ◌∙◌, subst, Some, None, Option, inl, inr, is_some}
use Rattle.std.specs.Prelude.{IsTrue, IfSome}
use Rattle.std.specs.FinMap as map
use Rattle.std.proofs.lemmas.Bool.{and_parts, and_from}
use Rattle.cell_world.specs.Texts.{Text}
use Rattle.cell_world.specs.Lists.{IsOneOf}
use Rattle.cell_world.specs.Keys.{same, contains, overlaps, low_of}
use Rattle.cell_world.specs.Spelled.{listed}
use Rattle.cell_world.specs.Stores.{Maps, Mappings, Log, Locals}
use Rattle.cell_world.specs.Meaning.{counts, counts_with, is_logged}
use Rattle.cell_world.specs.Sound.{HasLog, HasLocal, Matches, IsMarked, LocalCells, AreMappings}
use Rattle.cell_world.specs.Marked.{MarkedAt, HasMarked, IsOld, IsNew, is_mark_of}
use Rattle.cell_world.specs.declared.operations.Piece.{Piece}
use Rattle.cell_world.specs.declared.operations.Op.{Op}
use Rattle.cell_world.specs.declared.cells.LocalRow.{LocalRow}
use Rattle.cell_world.specs.declared.cells.Mark.{Mark}
use Rattle.cell_world.specs.declared.cells.Mark.TheVariants.{Plain, Old, New}
use Rattle.cell_world.proofs.SpanLaws.{same_is, same_self, overlaps_shared, shared_of_overlap}
use Rattle.cell_world.specs.Sweep.{reaches}
use Rattle.cell_world.specs.UnderWay.{new_row, IsDone}
use Rattle.cell_world.proofs.ListLaws.{some_at, all_at, all_from}
use Rattle.image_laws.specs.Fits.{Fits, AreLogged}
use Rattle.image_laws.proofs.FitLaws.{low_in}
use Rattle.image_laws.proofs.StepLaws.{uncounted_new, counted_old}

-- the operation of a number that is logged
pub logged_op : (log : Log) → ((k : ℕ) → IfSome (map.get log k) (λ op. op.number ≡ k)) → (p : ℕ) → is_logged log p ≡ true → (op : Op) × HasLog log op × (map.get log p ≡ Some op)
logged_op log keyed p = by (map.get log p) refl (keyed p)
  where
    by : (o : Option Op) → map.get log p ≡ o → IfSome o (λ op. op.number ≡ p) → is_some o ≡ true → (op : Op) × HasLog log op × (map.get log p ≡ Some op)
    by None e k h = cc
    by (Some op) e k h = (op, ap (map.get log) k ∙ e, e)

-- a row made as a new mapping of the operation
pub is_new_row : (p : ℕ) (n : Piece) (row : LocalRow) → Matches row n → row.mark ≡ New → row.number ≡ p → row ≡ new_row p n
is_new_row p n row h mark number = λ i. record { map = h.map i; span = h.span i; number = number i; status = h.status i; mark = mark i }

module _ (maps : Maps) (mappings : Mappings) (m : AreMappings maps mappings) (log : Log) (next : ℕ) (l : AreLogged maps mappings log next) (op : Op) (logged : HasLog log op) (location : Text) (locals : Locals)
    (s : LocalCells mappings log next location locals) where
  pub fit : Fits maps mappings op
  fit = l.fits op logged

  is_on : is_logged log op.number ≡ true
  is_on = ap is_some logged

  -- a row of the hull that has a mark of another logged operation has one of this
  same_op : (row : LocalRow) → IsTrue (reaches op row) → (other : Op) → HasLog log other → (x : Piece) → Matches row x → ((key : Text) → IsTrue (contains x.span key) → IsTrue (contains other.hull key)) → x.map ≡ other.map → other ≡ op
  same_op row r other h x matches inside of_map =
      let both = and_parts (same row.map op.map) (overlaps row.span op.hull) r in
      let k = shared_of_overlap row.span op.hull both.1 in
      let over = overlaps_shared other.hull op.hull k.0 (inside k.0 (subst (λ z. IsTrue (contains z k.0)) matches.span k.1)) k.2 in
      l.hulls other op h logged (sym of_map ∙ sym matches.map ∙ same_is row.map op.map both.0) over

  pub done_from_marked : ((k : ℕ) → IfSome (map.get log k) (λ o. o.number ≡ k)) → MarkedAt log op location locals → IsDone op location locals
  done_from_marked keyed k = record {
    only = λ row h r. by row h r row.mark refl (let both = and_parts (same row.map op.map) (overlaps row.span op.hull) r in k.others row h (same_is row.map op.map both.0) both.1);
    made = λ n among there.
        let r = all_at (λ (x : Piece). x.location ≡ location → HasMarked locals (IsNew op.number) x) (listed op.news) k.news n among there in
        subst (HasLocal locals) (is_new_row op.number n r.0 r.2 r.3.0 r.3.1) r.1;
  }
    where
      by : (row : LocalRow) → HasLocal locals row → IsTrue (reaches op row) → (mark : Mark) → row.mark ≡ mark → IsTrue (is_mark_of log row mark) → (mark ≡ Old op.number) ⊎ ((mark ≡ New) × (row.number ≡ op.number))
      by row h r Plain e on =
          let c : counts log row ≡ true = ap (λ x. counts_with log x row.number) e in
          let o = counted_old maps mappings log next op fit logged (l.numbered op logged) location locals s row h c r in
          let old = all_at (λ (x : Piece). x.location ≡ location → HasMarked locals (IsOld op.number) x) (listed op.olds) k.olds o.0 o.1 o.2 in
          let d : counts log old.0 ≡ true = ap (λ x. counts_with log x old.0.number) old.3 ∙ is_on in
          let is : row ≡ old.0 = s.once row old.0 h old.1 c d (o.3.map ∙ sym old.2.map) (ap low_of (o.3.span ∙ sym old.2.span)) in
          inl (sym e ∙ ap (λ (x : LocalRow). x.mark) is ∙ old.3)
      by row h r (Old q) e on =
          let other = logged_op log keyed q on in
          let x = some_at (λ (x : Piece). Matches row x × (x.location ≡ location)) (listed other.0.olds) (subst (IsMarked log location row) e (s.marks row h) other.0 other.2) in
          let f = l.fits other.0 other.1 in
          let is = same_op row r other.0 other.1 x.0 x.2.0 (f.shaped.old_in x.0 x.1) (f.old_map x.0 x.1) in
          let number : other.0.number ≡ q = number_of q other.0 other.2 in
          inl (ap Old (sym number ∙ ap (λ (o : Op). o.number) is))
        where
          number_of : (q : ℕ) (o : Op) → map.get log q ≡ Some o → o.number ≡ q
          number_of q o at = subst (λ z. IfSome z (λ (x : Op). x.number ≡ q)) at (keyed q)
      by row h r New e on =
          let other = logged_op log keyed row.number on in
          let x = some_at (λ (x : Piece). Matches row x × (x.location ≡ location)) (listed other.0.news) (subst (IsMarked log location row) e (s.marks row h) other.0 other.2) in
          let f = l.fits other.0 other.1 in
          let is = same_op row r other.0 other.1 x.0 x.2.0 (f.shaped.new_in x.0 x.1) (f.new_map x.0 x.1) in
          let number : other.0.number ≡ row.number = number_of row.number other.0 other.2 in
          inr (refl, sym number ∙ ap (λ (o : Op). o.number) is)
        where
          number_of : (q : ℕ) (o : Op) → map.get log q ≡ Some o → o.number ≡ q
          number_of q o at = subst (λ z. IfSome z (λ (x : Op). x.number ≡ q)) at (keyed q)

  pub marked_from_done : IsDone op location locals → MarkedAt log op location locals
  marked_from_done d = record {
    olds = all_from (λ (o : Piece). o.location ≡ location → HasMarked locals (IsOld op.number) o) (listed op.olds) old;
    news = all_from (λ (n : Piece). n.location ≡ location → HasMarked locals (IsNew op.number) n) (listed op.news)
        (λ n among there. (new_row op.number n, d.made n among there, record { map = refl; span = refl; status = refl }, (refl, refl)));
    others = λ row h of_map over. elim (d.only row h (and_from _ _ (subst (λ n. same n op.map ≡ true) (sym of_map) (same_self op.map)) over)) [
      | inl e ↦ ap (is_mark_of log row) e ∙ is_on
      | inr e ↦ ap (is_mark_of log row) e.0 ∙ ap (is_logged log) e.1 ∙ is_on
    ];
  }
    where
      old : (o : Piece) → IsOneOf (listed op.olds) o → o.location ≡ location → HasMarked locals (IsOld op.number) o
      old o among there =
          let r = s.each o (fit.stand o among) there in
          let low = low_in maps o.map o.span (m.spans o (fit.stand o among)) in
          let over = overlaps_shared r.0.span op.hull (low_of o.span) (subst (λ x. IsTrue (contains x (low_of o.span))) (sym r.3.span) low) (fit.shaped.old_in o among (low_of o.span) low) in
          let of_map = r.3.map ∙ fit.old_map o among in
          elim (d.only r.0 r.1 (and_from _ _ (subst (λ n. same n op.map ≡ true) (sym of_map) (same_self op.map)) over)) [
            | inl e ↦ (r.0, r.1, r.3, e)
            | inr e ↦ absurd (uncounted_new maps mappings log next op fit logged (l.numbered op logged) location r.0 e.0 e.1 r.2)
          ]
