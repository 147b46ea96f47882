-- The commit of an operation, at one site.
use Rattle.std.proofs.Common.{◌≡◌, ◌≢◌, ℕ, true, refl, sym, ap, ◌∙◌, subst, Some, inl, inr, true≢false, is_some, not, ◌&&◌}
use Rattle.std.specs.Prelude.{IsTrue}
use Rattle.std.specs.FinMap as map
use Rattle.std.proofs.lemmas.Cmp.{nat_cmp_total}
use Rattle.std.proofs.lemmas.Map.Lookups.{exact_unsigned}
use Rattle.std.proofs.lemmas.Option.{same_Some, none-some}
use Rattle.std.proofs.lemmas.Bool.{cases_Bool, and_parts, and_from}
use Rattle.std.proofs.lemmas.Bool.Decides.{eqb_tells}
use Rattle.cell_world.specs.Texts.{Text}
use Rattle.cell_world.specs.Lists.{IsOneOf}
use Rattle.cell_world.specs.Keys.{same, contains, overlaps, low_of}
use Rattle.cell_world.specs.Spelled.{listed}
use Rattle.cell_world.specs.Stores.{Maps, Mappings, Log, Locals, exchanged}
use Rattle.cell_world.specs.Plain.{owner_in}
use Rattle.cell_world.specs.Meaning.{counts, counts_with, is_logged}
use Rattle.cell_world.specs.Sound.{HasPiece, HasLog, HasLocal, Matches, IsMarked, LocalCells, OnlineRows, IsKeyOf, AreMappings}
use Rattle.cell_world.specs.declared.operations.Piece.{Piece}
use Rattle.cell_world.specs.declared.operations.Op.{Op}
use Rattle.cell_world.specs.declared.cells.LocalRow.{LocalRow}
use Rattle.cell_world.specs.declared.cells.Status.TheVariants.{Online}
use Rattle.cell_world.specs.declared.cells.Mark.{Mark}
use Rattle.cell_world.specs.declared.cells.Mark.TheVariants.{Plain, Old, New}
use Rattle.cell_world.proofs.StoreLaws.{get-remove_same, get-remove_other}
use Rattle.cell_world.proofs.SpanLaws.{same_is, same_self, overlaps_shared}
use Rattle.cell_world.specs.Sweep.{reaches}
use Rattle.cell_world.specs.UnderWay.{new_row, IsDone}
use Rattle.cell_world.proofs.ListLaws.{some_at}
use Rattle.image_laws.specs.Fits.{Fits, AreLogged}
use Rattle.image_laws.specs.Shapes.{HasAt}
use Rattle.image_laws.proofs.FitLaws.{low_in, exchange, new_apart, owner_was_old, owner_stays, new_owns}
use Rattle.image_laws.proofs.Remarks.{has_key}
use Rattle.image_laws.proofs.StepLaws.{uncounted_new}

-- ---- what a site is to an operation

-- the site is none of the operation's mappings
pub record IsElsewhere (op : Op) (location : Text) : Type 0 where
  -- no old mapping is there
  pub no_old : (o : Piece) → IsOneOf (listed op.olds) o → o.location ≡ location → ⊥
  -- and no new one
  pub no_new : (n : Piece) → IsOneOf (listed op.news) n → n.location ≡ location → ⊥

-- what the commit needs of a site
pub record IsReady (maps : Maps) (log : Log) (op : Op) (location : Text) (locals : Locals) : Type 0 where
  -- a row of the hull that counts is an old's
  pub olds : (row : LocalRow) → HasLocal locals row → counts log row ≡ true → IsTrue (reaches op row) → row.mark ≡ Old op.number
  -- the rows of the news are there
  pub made : (n : Piece) → IsOneOf (listed op.news) n → n.location ≡ location → HasLocal locals (new_row op.number n)
  -- an online row over a key of the hull is followed at the site
  pub online : (row : LocalRow) (key : Text) → HasLocal locals row → row.status ≡ Online → row.map ≡ op.map → IsTrue (contains row.span key) → IsTrue (contains op.hull key) → IsKeyOf maps row.map key → HasAt (listed op.news) location key

-- ---- the log without an operation

module _ (log : Log) (p : ℕ) where
  abbrev pub unlogged : Log
  unlogged = map.remove log p

  pub unlogged_other : (q : ℕ) → q ≢ p → map.get unlogged q ≡ map.get log q
  unlogged_other q ne = get-remove_other nat_cmp_total exact_unsigned log p q ne

  pub unlogged_gives : (q : ℕ) (op : Op) → map.get unlogged q ≡ Some op → (q ≢ p) × (map.get log q ≡ Some op)
  unlogged_gives q op h = (ne, sym (unlogged_other q ne) ∙ h)
    where
      ne : q ≢ p
      ne e = none-some op (sym (get-remove_same nat_cmp_total log p) ∙ ap (map.get unlogged) (sym e) ∙ h)

  -- a row that counts now counted before and isn't an old of it, or is a new of it
  pub data CountsNow (row : LocalRow) : Type 0 where
    Before : counts log row ≡ true → (row.mark ≡ Old p → ⊥) → CountsNow row
    Born : row.mark ≡ New → row.number ≡ p → CountsNow row

  counts_as : (row : LocalRow) (mark : Mark) → row.mark ≡ mark → counts_with unlogged mark row.number ≡ true → CountsNow row
  counts_as row Plain m c = Before (ap (λ k. counts_with log k row.number) m) (λ e. let f : Plain ≡ Old p = sym m ∙ e in absurd (cc))
  counts_as row (Old q) m c = elim (eqb_tells q p) [
    | inl t ↦ absurd (true≢false (sym c ∙ ap (λ k. is_logged unlogged k) t.1 ∙ ap is_some (get-remove_same nat_cmp_total log p)))
    | inr t ↦ Before (ap (λ k. counts_with log k row.number) m ∙ ap is_some (sym (unlogged_other q t.1)) ∙ c) (λ e. let f : Old q ≡ Old p = sym m ∙ e in t.1 (cc))
  ]
  counts_as row New m c = elim (eqb_tells row.number p) [
    | inl t ↦ Born m t.1
    | inr t ↦ Before (ap (λ k. counts_with log k row.number) m ∙ ap (λ o. not (is_some o)) (sym (unlogged_other row.number t.1)) ∙ c) (λ e. let f : New ≡ Old p = sym m ∙ e in absurd (cc))
  ]

  pub counts_now : (row : LocalRow) → counts unlogged row ≡ true → CountsNow row
  counts_now row c = counts_as row row.mark refl c

  still_as : (number : ℕ) (mark : Mark) → counts_with log mark number ≡ true → (mark ≡ Old p → ⊥) → counts_with unlogged mark number ≡ true
  still_as number Plain c ne = refl
  still_as number (Old q) c ne = elim (eqb_tells q p) [
    | inl t ↦ absurd (ne (ap Old t.1))
    | inr t ↦ ap is_some (unlogged_other q t.1) ∙ c
  ]
  still_as number New c ne = elim (eqb_tells number p) [
    | inl t ↦ ap (λ k. not (is_logged unlogged k)) t.1 ∙ ap (λ o. not (is_some o)) (get-remove_same nat_cmp_total log p)
    | inr t ↦ ap (λ o. not (is_some o)) (unlogged_other number t.1) ∙ c
  ]

  pub counts_still : (row : LocalRow) → counts log row ≡ true → (row.mark ≡ Old p → ⊥) → counts unlogged row ≡ true
  counts_still row c ne = still_as row.number row.mark c ne

  pub counts_born : counts_with unlogged New p ≡ true
  counts_born = ap (λ o. not (is_some o)) (get-remove_same nat_cmp_total log p)

  -- marks of the operations that stay in the log are as they were
  pub marks_stay : (location : Text) (row : LocalRow) (mark : Mark) → IsMarked log location row mark → IsMarked unlogged location row mark
  marks_stay location row Plain m = tt
  marks_stay location row (Old q) m = λ op at. m op (unlogged_gives q op at).1
  marks_stay location row New m = λ op at. m op (unlogged_gives row.number op at).1

-- ---- a logged operation, and a site

module _ (maps : Maps) (mappings : Mappings) (m : AreMappings maps mappings) (log : Log) (next : ℕ) (l : AreLogged maps mappings log next) (op : Op) (logged : HasLog log op) (location : Text) (locals : Locals)
    (s : LocalCells mappings log next location locals) where
  fit : Fits maps mappings op
  fit = l.fits op logged

  abbrev p : ℕ
  p = op.number

  -- the row of an old, and of a new
  pub old_of_mark : (row : LocalRow) → HasLocal locals row → row.mark ≡ Old p → (o : Piece) × IsOneOf (listed op.olds) o × Matches row o × (o.location ≡ location)
  old_of_mark row h e = let o = some_at (λ (o : Piece). Matches row o × (o.location ≡ location)) (listed op.olds) (subst (IsMarked log location row) e (s.marks row h) op logged) in (o.0, o.1, o.2.0, o.2.1)

  pub new_of_mark : (row : LocalRow) → HasLocal locals row → row.mark ≡ New → row.number ≡ p → (n : Piece) × IsOneOf (listed op.news) n × Matches row n × (n.location ≡ location)
  new_of_mark row h e f = let n = some_at (λ (n : Piece). Matches row n × (n.location ≡ location)) (listed op.news) (subst (IsMarked log location row) e (s.marks row h) op (ap (map.get log) f ∙ logged)) in (n.0, n.1, n.2.0, n.2.1)

  reaches_from : (row : LocalRow) (key : Text) → row.map ≡ op.map → IsTrue (contains row.span key) → IsTrue (contains op.hull key) → IsTrue (reaches op row)
  reaches_from row key of_map inside hull = and_from _ _ (subst (λ n. same n op.map ≡ true) (sym of_map) (same_self op.map)) (overlaps_shared row.span op.hull key inside hull)

  pub ready_done : IsDone op location locals → IsReady maps log op location locals
  ready_done d = record {
    olds = λ row h c r. elim (d.only row h r) [
      | inl e ↦ e
      | inr e ↦ absurd (uncounted_new maps mappings log next op fit logged (l.numbered op logged) location row e.0 e.1 c)
    ];
    made = d.made;
    online = λ row key h on of_map inside hull of_type. elim (d.only row h (reaches_from row key of_map inside hull)) [
      | inl e ↦
          let o = old_of_mark row h e in
          subst (λ x. HasAt (listed op.news) x key) o.3 (fit.shaped.followed o.0 o.1 (sym o.2.status ∙ on) key (subst (λ x. IsTrue (contains x key)) o.2.span inside))
      | inr e ↦
          let n = new_of_mark row h e.0 e.1 in
          record { piece = n.0; among = n.1; there = n.3; holds = subst (λ x. IsTrue (contains x key)) n.2.span inside }
    ];
  }

  pub ready_elsewhere : OnlineRows maps (owner_in maps mappings) log location locals → IsElsewhere op location → IsReady maps log op location locals
  ready_elsewhere o away = record {
    olds = λ row h c r.
        let q = s.counted row h c in
        let both = and_parts _ _ r in
        absurd (away.no_old q.0 (fit.all_olds q.0 q.1 (sym q.3.map ∙ same_is row.map op.map both.0) (subst (λ x. IsTrue (overlaps x op.hull)) q.3.span both.1)) q.2);
    made = λ n among there. absurd (away.no_new n among there);
    online = λ row key h on of_map inside hull of_type. elim (o.owned row key h on inside of_type) [
      | inl w ↦ absurd (away.no_old w.0 (owner_was_old maps mappings m op.map op.hull (listed op.olds) (listed op.news) fit w.0 key hull (ap (λ name. owner_in maps mappings name key) (sym of_map) ∙ w.1)) w.2)
      | inr w ↦
          let c = w.1 in
          let n = some_at (λ (n : Piece). (n.location ≡ location) × IsTrue (contains n.span key)) (listed c.0.news) c.3 in
          let over = overlaps_shared c.0.hull op.hull key ((l.fits c.0 c.1).shaped.new_in n.0 n.1 key n.2.1) hull in
          let is : c.0 ≡ op = l.hulls c.0 op c.1 logged (c.2 ∙ of_map) over in
          absurd (away.no_new n.0 (subst (λ (x : Op). IsOneOf (listed x.news) n.0) is n.1) n.2.0)
    ];
  }

  -- ---- the commit

  abbrev after : Mappings
  after = exchanged mappings (listed op.olds) (listed op.news)

  module _ (ready : IsReady maps log op location locals) where
    -- a counted row that is no old of the operation stands for a mapping that stays
    row_kept : (row : LocalRow) → HasLocal locals row → counts log row ≡ true → (row.mark ≡ Old p → ⊥) → (q : Piece) × (HasPiece mappings q × (IsOneOf (listed op.olds) q → ⊥)) × (q.location ≡ location) × Matches row q
    row_kept row h c ne =
        let q = s.counted row h c in (
          q.0,
          (
            q.1,
            λ old.
                let low = low_in maps q.0.map q.0.span (m.spans q.0 q.1) in
                let hull = fit.shaped.old_in q.0 old (low_of q.0.span) low in
                ne (ready.olds row h c (reaches_from row (low_of q.0.span) (q.3.map ∙ fit.old_map q.0 old) (subst (λ x. IsTrue (contains x (low_of q.0.span))) (sym q.3.span) low) hull)),
          ),
          q.2,
          q.3,
        )

    exch : (q : Piece) → HasPiece mappings q → (IsOneOf (listed op.olds) q → ⊥) → HasPiece after q
    exch q h ne = elim ((exchange maps mappings m op.map op.hull (listed op.olds) (listed op.news) fit).kept q h) [ inl old ↦ absurd (ne old) | inr has ↦ has ]

    new_stands : (n : Piece) → IsOneOf (listed op.news) n → HasPiece after n
    new_stands n among = (exchange maps mappings m op.map op.hull (listed op.olds) (listed op.news) fit).new n among

    -- a row that stays and a new row are of two mappings
    not_both : (a b : LocalRow) → HasLocal locals a → HasLocal locals b → counts log a ≡ true → (a.mark ≡ Old p → ⊥) → b.mark ≡ New → b.number ≡ p → a.map ≡ b.map → low_of a.span ≡ low_of b.span → ⊥
    not_both a b h g c ne e f of_map low =
        let q = row_kept a h c ne in
        let n = new_of_mark b g e f in
        let same_low : low_of q.0.span ≡ low_of n.0.span = ap low_of (sym q.3.span) ∙ low ∙ ap low_of n.2.span in
        let in_new = low_in maps n.0.map n.0.span (fit.new_spans n.0 n.1) in
        let in_old = subst (λ x. IsTrue (contains q.0.span x)) same_low (low_in maps q.0.map q.0.span (m.spans q.0 q.1.0)) in
        new_apart maps mappings m op.map op.hull (listed op.olds) (listed op.news) fit n.0 q.0 n.1 q.1.0 q.1.1 (sym n.2.map ∙ sym of_map ∙ q.3.map) (overlaps_shared n.0.span q.0.span (low_of n.0.span) in_new in_old)

    pub committed_locals : LocalCells after (unlogged log p) next location locals
    committed_locals = record {
      counted = λ row h c. elim (counts_now log p row c) [
        | Before b ne ↦ let q = row_kept row h b ne in (q.0, exch q.0 q.1.0 q.1.1, q.2, q.3)
        | Born e f ↦ let n = new_of_mark row h e f in (n.0, new_stands n.0 n.1, n.3, n.2)
      ];
      each = λ q h there. elim ((exchange maps mappings m op.map op.hull (listed op.olds) (listed op.news) fit).back q h) [
        | inl new ↦ (new_row p q, ready.made q new there, counts_born log p, record { map = refl; span = refl; status = refl })
        | inr old ↦
            let b = s.each q old.0 there in (
              b.0,
              b.1,
              counts_still log p b.0 b.2 (λ e.
                  let o = old_of_mark b.0 b.1 e in
                  let low = low_in maps q.map q.span (m.spans q old.0) in
                  let over = overlaps_shared o.0.span q.span (low_of q.span) (subst (λ x. IsTrue (contains x (low_of q.span))) (sym b.3.span ∙ o.2.span) low) low in
                  let is : o.0 ≡ q = m.disjoint o.0 q (fit.stand o.0 o.1) old.0 (sym o.2.map ∙ b.3.map) over in
                  old.1 (subst (IsOneOf (listed op.olds)) is o.1)),
              b.3,
            )
      ];
      once = λ a b h g c d of_map low. elim (counts_now log p a c) [
        | Before x ne ↦ elim (counts_now log p b d) [
          | Before y nf ↦ s.once a b h g x y of_map low
          | Born e f ↦ absurd (not_both a b h g x ne e f of_map low)
        ]
        | Born e f ↦ elim (counts_now log p b d) [
          | Before y nf ↦ absurd (not_both b a g h y nf e f (sym of_map) (sym low))
          | Born e' f' ↦ has_key log next location locals a b h g (λ i. (of_map i, (low i, (f ∙ sym f') i)))
        ]
      ];
      marks = λ row h. marks_stay log p location row row.mark (s.marks row h);
      numbers = s.numbers;
    }

    pub committed_online : OnlineRows maps (owner_in maps mappings) log location locals → OnlineRows maps (owner_in maps after) (unlogged log p) location locals
    committed_online o = record {
      spans = o.spans;
      owned = λ row key h on inside of_type. elim (cases_Bool (same row.map op.map && contains op.hull key)) [
        | inl t ↦
            let both = and_parts (same row.map op.map) (contains op.hull key) t in
            let of_map : row.map ≡ op.map = same_is row.map op.map both.0 in
            let n = ready.online row key h on of_map inside both.1 of_type in
            inl (n.piece, ap (λ name. owner_in maps after name key) of_map ∙ new_owns maps mappings m op.map op.hull (listed op.olds) (listed op.news) fit n.piece n.among key (subst (λ name. IsKeyOf maps name key) of_map of_type) n.holds, n.there)
        | inr t ↦
            let out = (λ (e : row.map ≡ op.map) (x : IsTrue (contains op.hull key)). true≢false (sym (and_from _ _ (subst (λ n. same n op.map ≡ true) (sym e) (same_self op.map)) x) ∙ t)) in
            let stays = owner_stays maps mappings m op.map op.hull (listed op.olds) (listed op.news) fit row.map key out in
            elim (o.owned row key h on inside of_type) [
              | inl w ↦ inl (w.0, stays ∙ w.1, w.2)
              | inr w ↦
                  let c = w.1 in
                  inr (
                    stays ∙ w.0,
                    (
                      c.0,
                      unlogged_other log p c.0.number (λ e.
                          let is : c.0 ≡ op = same_Some c.0 op (sym c.1 ∙ ap (map.get log) e ∙ logged) in
                          let n = some_at (λ (n : Piece). (n.location ≡ location) × IsTrue (contains n.span key)) (listed c.0.news) c.3 in
                          out (sym c.2 ∙ ap (λ (x : Op). x.map) is) (fit.shaped.new_in n.0 (subst (λ (x : Op). IsOneOf (listed x.news) n.0) is n.1) key n.2.1)) ∙ c.1,
                      c.2,
                      c.3,
                    ),
                  )
            ]
      ];
    }
