-- Undo: at each site of the operation a sweep with Plain, and then the log row goes.
use Rattle.std.proofs.Common.{◌≡◌, ℕ, true, sym, ap, ◌∙◌, subst, None, inl, inr}
use Rattle.std.specs.Prelude.{IsTrue}
use Rattle.std.specs.FinMap as map
use Rattle.std.proofs.lemmas.Option.{same_Some, none-some}
use Rattle.std.proofs.lemmas.Bool.{and_from}
use Rattle.cell_world.specs.Texts.{Text}
use Rattle.cell_world.specs.Lists.{IsOneOf}
use Rattle.cell_world.specs.Keys.{same, contains, low_of}
use Rattle.cell_world.specs.Spelled.{listed}
use Rattle.cell_world.specs.Stores.{Maps, Mappings, Log, Locals}
use Rattle.cell_world.specs.Plain.{owner_in}
use Rattle.cell_world.specs.Meaning.{counts, counts_with}
use Rattle.cell_world.specs.Sound.{HasLog, HasLocal, LocalCells, OnlineRows, IsKeyOf, AreMappings}
use Rattle.cell_world.specs.declared.operations.Piece.{Piece}
use Rattle.cell_world.specs.declared.operations.Op.{Op}
use Rattle.cell_world.specs.declared.cells.LocalRow.{LocalRow}
use Rattle.cell_world.specs.declared.cells.Mark.TheVariants.{Plain, Old, New}
use Rattle.cell_world.proofs.SpanLaws.{same_self, overlaps_shared}
use Rattle.image_laws.proofs.OwnerLaws.{owner_is}
use Rattle.cell_world.specs.Sweep.{reaches, IsSweptPlain}
use Rattle.cell_world.proofs.ListLaws.{some_at}
use Rattle.image_laws.specs.Fits.{Fits, AreLogged}
use Rattle.image_laws.proofs.CommitSites.{IsElsewhere, unlogged, unlogged_other, Before, Born, counts_now, counts_still, marks_stay, old_of_mark, new_of_mark}
use Rattle.image_laws.proofs.FitLaws.{low_in}

-- nothing at a site speaks of the operation
pub record IsFree (maps : Maps) (mappings : Mappings) (op : Op) (location : Text) (locals : Locals) : Type 0 where
  pub no_old : (row : LocalRow) → HasLocal locals row → row.mark ≡ Old op.number → ⊥
  pub no_new : (row : LocalRow) → HasLocal locals row → row.mark ≡ New → row.number ≡ op.number → ⊥
  -- no row stands over a key without owner that one of its news there has
  pub not_coming : (row : LocalRow) (key : Text) → HasLocal locals row → row.map ≡ op.map → IsTrue (contains row.span key) → IsKeyOf maps row.map key → owner_in maps mappings row.map key ≡ None
      → (n : Piece) → IsOneOf (listed op.news) n → n.location ≡ location → IsTrue (contains n.span key) → ⊥

module _ (maps : Maps) (mappings : Mappings) (m : AreMappings maps mappings) (log : Log) (next : ℕ) (l : AreLogged maps mappings log next) (op : Op) (logged : HasLog log op) (location : Text) (locals : Locals)
    (s : LocalCells mappings log next location locals) where
  fit : Fits maps mappings op
  fit = l.fits op logged

  not_old : (row : LocalRow) → row.mark ≡ Plain → row.mark ≡ Old op.number → ⊥
  not_old row a b = let e : Plain ≡ Old op.number = sym a ∙ b in absurd (cc)

  not_new : (row : LocalRow) → row.mark ≡ Plain → row.mark ≡ New → ⊥
  not_new row a b = let e : Plain ≡ New = sym a ∙ b in absurd (cc)

  reaches_from : (row : LocalRow) (key : Text) → row.map ≡ op.map → IsTrue (contains row.span key) → IsTrue (contains op.hull key) → IsTrue (reaches op row)
  reaches_from row key of_map inside hull = and_from _ _ (subst (λ n. same n op.map ≡ true) (sym of_map) (same_self op.map)) (overlaps_shared row.span op.hull key inside hull)

  pub free_cleared : IsSweptPlain op locals → IsFree maps mappings op location locals
  free_cleared clear = record {
    no_old = λ row h e.
        let o = old_of_mark maps mappings m log next l op logged location locals s row h e in
        let low = low_in maps o.0.map o.0.span (m.spans o.0 (fit.stand o.0 o.1)) in
        not_old row (clear row h (reaches_from row (low_of o.0.span) (o.2.map ∙ fit.old_map o.0 o.1) (subst (λ x. IsTrue (contains x (low_of o.0.span))) (sym o.2.span) low) (fit.shaped.old_in o.0 o.1 (low_of o.0.span) low))) e;
    no_new = λ row h e f.
        let n = new_of_mark maps mappings m log next l op logged location locals s row h e f in
        let low = low_in maps n.0.map n.0.span (fit.new_spans n.0 n.1) in
        not_new row (clear row h (reaches_from row (low_of n.0.span) (n.2.map ∙ fit.new_map n.0 n.1) (subst (λ x. IsTrue (contains x (low_of n.0.span))) (sym n.2.span) low) (fit.shaped.new_in n.0 n.1 (low_of n.0.span) low))) e;
    not_coming = λ row key h of_map inside of_type none n among there holds.
        let plain = clear row h (reaches_from row key of_map inside (fit.shaped.new_in n among key holds)) in
        let q = s.counted row h (ap (λ x. counts_with log x row.number) plain) in
        none-some q.0 (sym none ∙ owner_is maps mappings m.placed row.map key m.disjoint of_type q.0 q.1 (sym q.3.map) (subst (λ x. IsTrue (contains x key)) q.3.span inside));
  }

  pub free_elsewhere : IsElsewhere op location → IsFree maps mappings op location locals
  free_elsewhere away = record {
    no_old = λ row h e. let o = old_of_mark maps mappings m log next l op logged location locals s row h e in away.no_old o.0 o.1 o.3;
    no_new = λ row h e f. let n = new_of_mark maps mappings m log next l op logged location locals s row h e f in away.no_new n.0 n.1 n.3;
    not_coming = λ row key h of_map inside of_type none n among there holds. away.no_new n among there;
  }

  module _ (free : IsFree maps mappings op location locals) where
    before : (row : LocalRow) → HasLocal locals row → counts (unlogged log op.number) row ≡ true → counts log row ≡ true
    before row h c = elim (counts_now log op.number row c) [
      | Before b ne ↦ b
      | Born e f ↦ absurd (free.no_new row h e f)
    ]

    pub unlogged_locals : LocalCells mappings (unlogged log op.number) next location locals
    unlogged_locals = record {
      counted = λ row h c. s.counted row h (before row h c);
      each = λ q h there. let b = s.each q h there in (b.0, b.1, counts_still log op.number b.0 b.2 (free.no_old b.0 b.1), b.3);
      once = λ a b h g c d. s.once a b h g (before a h c) (before b g d);
      marks = λ row h. marks_stay log op.number location row row.mark (s.marks row h);
      numbers = s.numbers;
    }

    pub unlogged_online : OnlineRows maps (owner_in maps mappings) log location locals → OnlineRows maps (owner_in maps mappings) (unlogged log op.number) location locals
    unlogged_online o = record {
      spans = o.spans;
      owned = λ row key h on inside of_type. elim (o.owned row key h on inside of_type) [
        | inl w ↦ inl w
        | inr w ↦
            let c = w.1 in
            inr (
              w.0,
              (
                c.0,
                unlogged_other log op.number c.0.number (λ e.
                    let is : c.0 ≡ op = same_Some c.0 op (sym c.1 ∙ ap (map.get log) e ∙ logged) in
                    let n = some_at (λ (n : Piece). (n.location ≡ location) × IsTrue (contains n.span key)) (listed c.0.news) c.3 in
                    free.not_coming row key h (sym c.2 ∙ ap (λ (x : Op). x.map) is) inside of_type w.0 n.0 (subst (λ (x : Op). IsOneOf (listed x.news) n.0) is n.1) n.2.0 n.2.1) ∙ c.1,
                c.2,
                c.3,
              ),
            )
      ];
    }
