-- The local transactions of an operation keep a site's local rows sound.
use Rattle.std.proofs.Common.{◌≡◌, ◌≢◌, ◌⊎◌, ℕ, ◌<◌, Bool, true, false, cond, eqb, refl, sym, ap, ◌∙◌, subst, Some, None, inl, inr, true≢false, List, [], ◌∷◌, is_some, not, arith}
use Rattle.std.specs.Prelude.{IsTrue, option_and_then}
use Rattle.std.specs.FinMap as map
use Rattle.std.proofs.lemmas.Option.{same_Some, none-some, option_and_then_some}
use Rattle.std.proofs.lemmas.Bool.{cases_Bool, and_parts}
use Rattle.std.proofs.lemmas.Bool.Decides.{eqb_tells, nat_tests}
use Rattle.cell_world.specs.Texts.{Text}
use Rattle.cell_world.specs.Lists.{IsOneOf}
use Rattle.cell_world.specs.Keys.{same, contains, overlaps}
use Rattle.cell_world.specs.Spelled.{listed}
use Rattle.cell_world.specs.Stores.{Maps, Mappings, Log, Locals, local_key}
use Rattle.cell_world.specs.Plain.{Owner, owner_in}
use Rattle.cell_world.specs.Meaning.{counts, counts_with, is_logged}
use Rattle.cell_world.specs.Sound.{HasLog, HasLocal, Matches, IsMarked, mark_below, LocalCells, OnlineRows, IsSpanOf, IsKeyOf, IsOwnedBy, IsComing, AreMappings}
use Rattle.cell_world.specs.declared.operations.Piece.{Piece}
use Rattle.cell_world.specs.declared.operations.Op.{Op}
use Rattle.cell_world.specs.declared.cells.LocalRow.{LocalRow}
use Rattle.cell_world.specs.declared.cells.Status.TheVariants.{Online}
use Rattle.cell_world.specs.declared.cells.Mark.{Mark}
use Rattle.cell_world.specs.declared.cells.Mark.TheVariants.{Plain, Old, New}
use Rattle.cell_world.proofs.OrderLaws.{locals_total, exact_locals}
use Rattle.cell_world.proofs.StoreLaws.{get-insert_same, get-insert_cases}
use Rattle.cell_world.proofs.SpanLaws.{same_is, same_self}
use Rattle.cell_world.specs.Sweep.{reaches, marked_as, sweep, IsSwept, IsSweptPlain}
use Rattle.cell_world.specs.UnderWay.{new_row, IsUnborn, IsDone}
use Rattle.cell_world.proofs.ListLaws.{some_from}
use Rattle.image_laws.specs.Fits.{IsFit}
use Rattle.image_laws.specs.LocalSteps.{with_news, AreBorn, settle, settle_as, IsSettled}
use Rattle.image_laws.proofs.ExchangeLaws.{HaveOwnKeys}
use Rattle.image_laws.proofs.FitLaws.{unowned_before, old_owned}
use Rattle.image_laws.proofs.Remarks.{bare, IsLike, same_key, Remark, Same, To, IsRemarked, like, remarked_locals, remarked_online}

-- no row is named by the operation, which is what its news need
abbrev pub IsUnnamed : ℕ → Locals → Type 0
IsUnnamed number locals = (row : LocalRow) → HasLocal locals row → row.number ≢ number

-- ---- a sweep

-- what a swept row was
pub data Swept (log : Log) (op : Op) (to : Mark) (was row : LocalRow) : Type 0 where
  In : reaches op was ≡ true → counts log was ≡ true → row ≡ marked_as to was → Swept log op to was row
  Out : reaches op was ≡ false → row ≡ was → Swept log op to was row

pub sweep_gives : (log : Log) (op : Op) (to : Mark) (was row : LocalRow) → sweep log op to was ≡ Some row → Swept log op to was row
sweep_gives log op to was row = by (reaches op was) (counts log was) refl refl
  where
    by : (b c : Bool) → reaches op was ≡ b → counts log was ≡ c → cond b (cond c (Some (marked_as to was)) None) (Some was) ≡ Some row → Swept log op to was row
    by true true m n e = In m n (sym (same_Some _ _ e))
    by true false m n e = absurd (none-some row e)
    by false c m n e = Out m (sym (same_Some _ _ e))

pub swept_like : (log : Log) (op : Op) (to : Mark) (was row : LocalRow) → Swept log op to was row → IsLike was row
swept_like log op to was row (In m c e) = ap bare e
swept_like log op to was row (Out m e) = ap bare e

module _ (log : Log) (op : Op) (to : Mark) (before after : Locals) (swept : IsSwept log op to before after) where
  pub swept_back : (row : LocalRow) → HasLocal after row → (was : LocalRow) × HasLocal before was × Swept log op to was row
  swept_back row h = option_and_then_some (sweep log op to) (map.get before (local_key row)) row (sym (swept (local_key row)) ∙ h)
      (λ was at e. let s = sweep_gives log op to was row e in (was, ap (map.get before) (sym (same_key was row (swept_like log op to was row s))) ∙ at, s))

  swept_gives : (was row : LocalRow) → HasLocal before was → sweep log op to was ≡ Some row → IsLike was row → HasLocal after row
  swept_gives was row h e l = swept (local_key row) ∙ ap (λ k. option_and_then (sweep log op to) (map.get before k)) (same_key was row l) ∙ ap (option_and_then (sweep log op to)) h ∙ e

  pub swept_in : (was : LocalRow) → HasLocal before was → reaches op was ≡ true → counts log was ≡ true → HasLocal after (marked_as to was)
  swept_in was h m c = swept_gives was (marked_as to was) h (λ i. cond (m i) (cond (c i) (Some (marked_as to was)) None) (Some was)) refl

  pub swept_out : (was : LocalRow) → HasLocal before was → reaches op was ≡ false → HasLocal after was
  swept_out was h m = swept_gives was was h (λ i. cond (m i) (cond (counts log was) (Some (marked_as to was)) None) (Some was)) refl

-- the mark of a sweep: Plain in undo, Old of the operation in its step
pub record IsSweepMark (log : Log) (op : Op) (to : Mark) : Type 0 where
  pub counted : (number : ℕ) → counts_with log to number ≡ true
  pub old : (q : ℕ) → to ≡ Old q → q ≡ op.number
  pub not_new : to ≡ New → ⊥

pub plain_is_sweep : (log : Log) (op : Op) → IsSweepMark log op Plain
plain_is_sweep log op = record { counted = λ number. refl; old = λ q e. absurd (cc); not_new = λ e. absurd (cc) }

pub old_is_sweep : (log : Log) (op : Op) → HasLog log op → IsSweepMark log op (Old op.number)
old_is_sweep log op h = record { counted = λ number. ap is_some h; old = λ q e. cc; not_new = λ e. absurd (cc) }

-- The sweep of a logged operation that fits.
module _ (maps : Maps) (mappings : Mappings) (log : Log) (next : ℕ) (op : Op) (fit : IsFit maps mappings op.map op.hull (listed op.olds) (listed op.news)) (logged : HasLog log op) (numbered : op.number < next) (location : Text) where
  -- a counted row of the hull is the row of an old one
  pub counted_old : (locals : Locals) → LocalCells mappings log next location locals → (row : LocalRow) → HasLocal locals row → counts log row ≡ true → IsTrue (reaches op row)
      → (o : Piece) × IsOneOf (listed op.olds) o × (o.location ≡ location) × Matches row o
  counted_old locals s row h c inside =
      let p = s.counted row h c in
      let both = and_parts _ _ inside in
      let of_map : p.0.map ≡ op.map = sym p.3.map ∙ same_is row.map op.map both.0 in
      (p.0, fit.all_olds p.0 p.1 of_map (subst (λ s. IsTrue (overlaps s op.hull)) p.3.span both.1), p.2, p.3)

  same_op : (other : Op) (q : ℕ) → q ≡ op.number → map.get log q ≡ Some other → other ≡ op
  same_op other q e at = same_Some other op (sym at ∙ ap (map.get log) e ∙ logged)

  pub swept_remarked : (to : Mark) → IsSweepMark log op to → (before after : Locals) → IsSwept log op to before after → LocalCells mappings log next location before → IsRemarked log next location before after
  swept_remarked to k before after swept s = record {
    back = λ row h. let b = swept_back log op to before after swept row h in (b.0, b.1, by b.0 row b.1 b.2);
    forth = λ row h c. elim (cases_Bool (reaches op row)) [
      | inl m ↦ (marked_as to row, swept_in log op to before after swept row h m c, k.counted row.number, refl)
      | inr m ↦ (row, swept_out log op to before after swept row h m, c, refl)
    ];
  }
    where
      mark_of : (was : LocalRow) → HasLocal before was → counts log was ≡ true → IsTrue (reaches op was) → (mark : Mark) → ((q : ℕ) → mark ≡ Old q → q ≡ op.number) → (mark ≡ New → ⊥)
          → IsMarked log location was mark × IsTrue (mark_below next mark)
      mark_of was h c m Plain old not_new = (tt, refl)
      mark_of was h c m New old not_new = absurd (not_new refl)
      mark_of was h c m (Old q) old not_new = (marked, below)
        where
          marked : IsMarked log location was (Old q)
          marked other at =
              let o = counted_old before s was h c m in
              let among : IsOneOf (listed other.olds) o.0 = subst (λ (p : Op). IsOneOf (listed p.olds) o.0) (sym (same_op other q (old q refl) at)) o.1 in
              some_from (λ (p : Piece). Matches was p × (p.location ≡ location)) (listed other.olds) o.0 among (o.3, o.2)

          below : IsTrue (mark_below next (Old q))
          below = let e : q ≡ op.number = old q refl in grind (arith, nat_tests)

      by : (was row : LocalRow) → HasLocal before was → Swept log op to was row → Remark log next location was row
      by was row h (Out m e) = Same e
      by was row h (In m c e) = let g = mark_of was h c m to k.old k.not_new in To to e c (k.counted was.number) g.0 g.1

  pub swept_locals : (to : Mark) → IsSweepMark log op to → (before after : Locals) → IsSwept log op to before after → LocalCells mappings log next location before → LocalCells mappings log next location after
  swept_locals to k before after swept s = remarked_locals log next location mappings before after s (swept_remarked to k before after swept s)

  pub swept_online : (own : Owner) (to : Mark) → IsSweepMark log op to → (before after : Locals) → IsSwept log op to before after → LocalCells mappings log next location before
      → OnlineRows maps own log location before → OnlineRows maps own log location after
  swept_online own to k before after swept s o = remarked_online log next location maps own before after o (swept_remarked to k before after swept s)

  -- ---- the news

  -- a new row of a logged operation doesn't count
  pub uncounted_new : (row : LocalRow) → row.mark ≡ New → row.number ≡ op.number → counts log row ≡ true → ⊥
  uncounted_new row m e c =
      let f : counts_with log New op.number ≡ true = (λ i. counts_with log (sym m i) (sym e i)) ∙ c in
      let g : not (is_logged log op.number) ≡ false = ap (λ o. not (is_some o)) logged in
      true≢false (sym f ∙ g)

  -- the row is one of the news at the location
  abbrev pub IsBirth : LocalRow → Type 0
  IsBirth row = (n : Piece) × IsOneOf (listed op.news) n × (n.location ≡ location) × (row ≡ new_row op.number n)

  birth_uncounted : (row : LocalRow) → IsBirth row → counts log row ≡ true → ⊥
  birth_uncounted row b c = uncounted_new row (ap (λ (r : LocalRow). r.mark) b.3) (ap (λ (r : LocalRow). r.number) b.3) c

  module _ (before after : Locals) (born : AreBorn op.number location (listed op.news) before after) (unborn : IsUnnamed op.number before) where
    old_row : (row : LocalRow) → HasLocal after row → counts log row ≡ true → HasLocal before row
    old_row row h c = elim (born.back row h) [ inl b ↦ absurd (birth_uncounted row b c) | inr was ↦ was ]

    pub born_locals : LocalCells mappings log next location before → LocalCells mappings log next location after
    born_locals s = record {
      counted = λ row h c. s.counted row (old_row row h c) c;
      each = λ p h there.
          let b = s.each p h there in
          elim (born.kept b.0 b.1) [ inl e ↦ absurd (unborn b.0 b.1 e) | inr h ↦ (b.0, h, b.2, b.3) ];
      once = λ a b h g c d. s.once a b (old_row a h c) (old_row b g d) c d;
      marks = λ row h. elim (born.back row h) [
        | inl b ↦ subst (λ (r : LocalRow). IsMarked log location r r.mark) (sym b.3) (marked b.0 b.1 b.2)
        | inr was ↦ s.marks row was
      ];
      numbers = λ row h. elim (born.back row h) [
        | inl b ↦ subst (λ (r : LocalRow). (r.number < next) × IsTrue (mark_below next r.mark)) (sym b.3) (numbered, refl)
        | inr was ↦ s.numbers row was
      ];
    }
      where
        marked : (n : Piece) → IsOneOf (listed op.news) n → n.location ≡ location → IsMarked log location (new_row op.number n) New
        marked n among there other at =
            let is_in : IsOneOf (listed other.news) n = subst (λ (p : Op). IsOneOf (listed p.news) n) (sym (same_op other op.number refl at)) among in
            some_from (λ (p : Piece). Matches (new_row op.number n) p × (p.location ≡ location)) (listed other.news) n is_in (record { map = refl; span = refl; status = refl }, there)

    pub born_online : (m : AreMappings maps mappings) → OnlineRows maps (owner_in maps mappings) log location before → OnlineRows maps (owner_in maps mappings) log location after
    born_online m o = record {
      spans = λ row h on. elim (born.back row h) [
        | inl b ↦ subst (λ (r : LocalRow). IsSpanOf maps r.map r.span) (sym b.3) (fit.new_spans b.0 b.1)
        | inr was ↦ o.spans row was on
      ];
      owned = λ row key h on inside of_type. elim (born.back row h) [
        | inl b ↦ subst (λ (r : LocalRow). Owned key r) (sym b.3)
            (new_owned b.0 b.1 b.2 key (ap (λ (r : LocalRow). r.status) (sym b.3) ∙ on) (subst (λ (r : LocalRow). IsTrue (contains r.span key)) b.3 inside) (subst (λ (r : LocalRow). IsKeyOf maps r.map key) b.3 of_type))
        | inr was ↦ o.owned row key was on inside of_type
      ];
    }
      where
        Owned : Text → LocalRow → Type 0
        Owned key r = IsOwnedBy (owner_in maps mappings) r.map key location ⊎ ((owner_in maps mappings r.map key ≡ None) × IsComing log r.map key location)

        new_owned : (n : Piece) → IsOneOf (listed op.news) n → n.location ≡ location → (key : Text) → n.status ≡ Online → IsTrue (contains n.span key) → IsKeyOf maps n.map key → Owned key (new_row op.number n)
        new_owned n among there key on inside of_type =
            let of_map : n.map ≡ op.map = fit.new_map n among in
            let typed : IsKeyOf maps op.map key = subst (λ name. IsKeyOf maps name key) of_map of_type in
            elim (fit.shaped.follows n among on key inside) [
              | inl f ↦ inl (f.piece, ap (λ name. owner_in maps mappings name key) of_map ∙ old_owned maps mappings m op.map op.hull (listed op.olds) (listed op.news) fit f.piece f.among key typed f.holds, f.there ∙ there)
              | inr none ↦ inr (
                ap (λ name. owner_in maps mappings name key) of_map ∙ unowned_before maps mappings m op.map op.hull (listed op.olds) (listed op.news) fit none key (fit.shaped.new_in n among key inside),
                (op, logged, sym of_map, some_from (λ (p : Piece). (p.location ≡ location) × IsTrue (contains p.span key)) (listed op.news) n among (there, inside)),
              )
            ]

-- the step is done after the sweep and the news
pub stepped_done : (log : Log) (op : Op) (location : Text) (before middle after : Locals) → IsSwept log op (Old op.number) before middle → AreBorn op.number location (listed op.news) middle after → IsDone op location after
stepped_done log op location before middle after swept born = record {
  only = λ row h m. elim (born.back row h) [
    | inl b ↦ inr (ap (λ (r : LocalRow). r.mark) b.3, ap (λ (r : LocalRow). r.number) b.3)
    | inr was ↦ let w = swept_back log op (Old op.number) before middle swept row was in by w.0 row w.2 m
  ];
  made = born.new;
}
  where
    by : (was row : LocalRow) → Swept log op (Old op.number) was row → reaches op row ≡ true → (row.mark ≡ Old op.number) ⊎ ((row.mark ≡ New) × (row.number ≡ op.number))
    by was row (In m c e) h = inl (ap (λ (r : LocalRow). r.mark) e)
    by was row (Out m e) h = absurd (true≢false (sym h ∙ ap (reaches op) e ∙ m))

-- a sweep keeps that no row is named by an operation
pub unnamed_swept : (log : Log) (op : Op) (to : Mark) (before after : Locals) (p : ℕ) → IsSwept log op to before after → IsUnnamed p before → IsUnnamed p after
unnamed_swept log op to before after p swept u row h e =
    let b = swept_back log op to before after swept row h in
    u b.0 b.1 (ap (λ (r : LocalRow). r.number) (sym (swept_like log op to b.0 row b.2)) ∙ e)

-- the mark of another operation
pub other_mark : (p q : ℕ) → p ≢ q → Old q ≢ Old p
other_mark p q ne e = let is : q ≡ p = cc in ne (sym is)

pub plain_not_old : (p : ℕ) → Plain ≢ Old p
plain_not_old p e = absurd (cc)

-- and that none is Old of it, where it doesn't mark them so
pub unborn_swept : (log : Log) (op : Op) (to : Mark) (before after : Locals) (p : ℕ) → to ≢ Old p → IsSwept log op to before after → IsUnborn p before → IsUnborn p after
unborn_swept log op to before after p other swept u row h = (
  unnamed_swept log op to before after p swept (λ was there. (u was there).0) row h,
  λ old. let b = swept_back log op to before after swept row h in by b.0 row b.1 b.2 old,
)
  where
    by : (was row : LocalRow) → HasLocal before was → Swept log op to was row → row.mark ≡ Old p → ⊥
    by was row at (In m c e) old = other (sym (ap (λ (r : LocalRow). r.mark) e) ∙ old)
    by was row at (Out m e) old = (u was at).1 (ap (λ (r : LocalRow). r.mark) (sym e) ∙ old)

-- after undo's sweep the rows of the hull are Plain
pub undone_cleared : (log : Log) (op : Op) (before after : Locals) → IsSwept log op Plain before after → IsSweptPlain op after
undone_cleared log op before after swept row h m = let w = swept_back log op Plain before after swept row h in by w.0 row w.2 m
  where
    by : (was row : LocalRow) → Swept log op Plain was row → reaches op row ≡ true → row.mark ≡ Plain
    by was row (In m c e) h = ap (λ (r : LocalRow). r.mark) e
    by was row (Out m e) h = absurd (true≢false (sym h ∙ ap (reaches op) e ∙ m))

-- ---- settling

module _ (log : Log) (next : ℕ) (location : Text) (p : ℕ) (out : map.get log p ≡ None) where
  off : is_logged log p ≡ false
  off = ap is_some out

  settle_gives : (was row : LocalRow) (mark : Mark) → was.mark ≡ mark → settle_as p was mark ≡ Some row → Remark log next location was row
  settle_gives was row Plain m e = Same (sym (same_Some _ _ e))
  settle_gives was row (Old q) m e = by (eqb_tells q p) e
    where
      by : ((eqb q p ≡ true) × (q ≡ p)) ⊎ ((eqb q p ≡ false) × (q ≢ p)) → cond (eqb q p) None (Some was) ≡ Some row → Remark log next location was row
      by (inl t) e = absurd (none-some row (ap (λ b. cond b None (Some was)) (sym t.0) ∙ e))
      by (inr t) e = Same (sym (same_Some _ _ (ap (λ b. cond b None (Some was)) (sym t.0) ∙ e)))
  settle_gives was row New m e = by (eqb_tells was.number p) e
    where
      by : ((eqb was.number p ≡ true) × (was.number ≡ p)) ⊎ ((eqb was.number p ≡ false) × (was.number ≢ p)) → cond (eqb was.number p) (Some (marked_as Plain was)) (Some was) ≡ Some row → Remark log next location was row
      by (inl t) e = To Plain (sym (same_Some _ _ (ap (λ b. cond b (Some (marked_as Plain was)) (Some was)) (sym t.0) ∙ e)))
          ((λ i. counts_with log (m i) (t.1 i)) ∙ ap not off) refl tt refl
      by (inr t) e = Same (sym (same_Some _ _ (ap (λ b. cond b (Some (marked_as Plain was)) (Some was)) (sym t.0) ∙ e)))

  settle_forth : (row : LocalRow) (mark : Mark) → row.mark ≡ mark → counts_with log mark row.number ≡ true → (now : LocalRow) × (settle_as p row mark ≡ Some now) × (counts log now ≡ true) × IsLike row now
  settle_forth row Plain m c = (row, refl, ap (λ k. counts_with log k row.number) m, refl)
  settle_forth row (Old q) m c = by (eqb_tells q p)
    where
      by : ((eqb q p ≡ true) × (q ≡ p)) ⊎ ((eqb q p ≡ false) × (q ≢ p)) → (now : LocalRow) × (settle_as p row (Old q) ≡ Some now) × (counts log now ≡ true) × IsLike row now
      by (inl t) = absurd (true≢false (sym c ∙ ap (is_logged log) t.1 ∙ off))
      by (inr t) = (row, ap (λ b. cond b None (Some row)) t.0, ap (λ k. counts_with log k row.number) m ∙ c, refl)
  settle_forth row New m c = by (eqb_tells row.number p)
    where
      by : ((eqb row.number p ≡ true) × (row.number ≡ p)) ⊎ ((eqb row.number p ≡ false) × (row.number ≢ p)) → (now : LocalRow) × (settle_as p row New ≡ Some now) × (counts log now ≡ true) × IsLike row now
      by (inl t) = (marked_as Plain row, ap (λ b. cond b (Some (marked_as Plain row)) (Some row)) t.0, refl, refl)
      by (inr t) = (row, ap (λ b. cond b (Some (marked_as Plain row)) (Some row)) t.0, ap (λ k. counts_with log k row.number) m ∙ c, refl)

  pub settled_remarked : (before after : Locals) → IsSettled p before after → IsRemarked log next location before after
  settled_remarked before after settled = record {
    back = λ row h. option_and_then_some (settle p) (map.get before (local_key row)) row (sym (settled (local_key row)) ∙ h)
        (λ was at e.
        let r = settle_gives was row was.mark refl e in
        (was, ap (map.get before) (sym (same_key was row (like log next location was row r))) ∙ at, r));
    forth = λ row h c.
        let f = settle_forth row row.mark refl c in
        (f.0, settled (local_key f.0) ∙ ap (λ k. option_and_then (settle p) (map.get before k)) (same_key row f.0 f.3) ∙ ap (option_and_then (settle p)) h ∙ f.1, f.2, f.3);
  }

  pub settled_locals : (mappings : Mappings) (before after : Locals) → IsSettled p before after → LocalCells mappings log next location before → LocalCells mappings log next location after
  settled_locals mappings before after settled s = remarked_locals log next location mappings before after s (settled_remarked before after settled)

  pub settled_online : (maps : Maps) (own : Owner) (before after : Locals) → IsSettled p before after → OnlineRows maps own log location before → OnlineRows maps own log location after
  settled_online maps own before after settled o = remarked_online log next location maps own before after o (settled_remarked before after settled)

-- ---- the news, put one after another

module _ (p : ℕ) (location : Text) where
  abbrev put_new : Piece → Locals → Locals
  put_new n m = cond (same n.location location) (map.insert m (local_key (new_row p n)) (new_row p n)) m

  put_back : (n : Piece) (m : Locals) (k : Text × (Text × ℕ)) (row : LocalRow) → map.get (put_new n m) k ≡ Some row → ((n.location ≡ location) × (row ≡ new_row p n)) ⊎ (map.get m k ≡ Some row)
  put_back n m k row = by (same n.location location) refl
    where
      by : (b : Bool) → same n.location location ≡ b → map.get (cond b (map.insert m (local_key (new_row p n)) (new_row p n)) m) k ≡ Some row → ((n.location ≡ location) × (row ≡ new_row p n)) ⊎ (map.get m k ≡ Some row)
      by false t e = inr e
      by true t e = elim (get-insert_cases locals_total exact_locals m (local_key (new_row p n)) (new_row p n) k) [
        | inl c ↦ inl (same_is n.location location t, same_Some row (new_row p n) (sym e ∙ c.1))
        | inr c ↦ inr (sym c ∙ e)
      ]

  put_kept : (n : Piece) (m : Locals) (k : Text × (Text × ℕ)) → ((n.location ≡ location) × (local_key (new_row p n) ≡ k)) ⊎ (map.get (put_new n m) k ≡ map.get m k)
  put_kept n m k = by (same n.location location) refl
    where
      by : (b : Bool) → same n.location location ≡ b → ((n.location ≡ location) × (local_key (new_row p n) ≡ k)) ⊎ (map.get (cond b (map.insert m (local_key (new_row p n)) (new_row p n)) m) k ≡ map.get m k)
      by false t = inr refl
      by true t = elim (get-insert_cases locals_total exact_locals m (local_key (new_row p n)) (new_row p n) k) [
        | inl c ↦ inl (same_is n.location location t, sym c.0)
        | inr c ↦ inr c
      ]

  put_there : (n : Piece) (m : Locals) → n.location ≡ location → HasLocal (put_new n m) (new_row p n)
  put_there n m e =
      ap (λ b. map.get (cond b (map.insert m (local_key (new_row p n)) (new_row p n)) m) (local_key (new_row p n))) (ap (same n.location) (sym e) ∙ same_self n.location)
      ∙ get-insert_same locals_total m (local_key (new_row p n)) (new_row p n)

  news_back : (news : List Piece) (m : Locals) (k : Text × (Text × ℕ)) (row : LocalRow) → map.get (with_news p location news m) k ≡ Some row
      → ((n : Piece) × IsOneOf news n × (n.location ≡ location) × (row ≡ new_row p n)) ⊎ (map.get m k ≡ Some row)
  news_back [] m k row e = inr e
  news_back (n ∷ news) m k row e = elim (news_back news (put_new n m) k row e) [
    | inl h ↦ inl (h.0, inr h.1, h.2, h.3)
    | inr g ↦ elim (put_back n m k row g) [ inl c ↦ inl (n, inl refl, c.0, c.1) | inr c ↦ inr c ]
  ]

  news_kept : (news : List Piece) (m : Locals) (k : Text × (Text × ℕ)) → ((n : Piece) × IsOneOf news n × (n.location ≡ location) × (local_key (new_row p n) ≡ k)) ⊎ (map.get (with_news p location news m) k ≡ map.get m k)
  news_kept [] m k = inr refl
  news_kept (n ∷ news) m k = elim (news_kept news (put_new n m) k) [
    | inl h ↦ inl (h.0, inr h.1, h.2, h.3)
    | inr e ↦ elim (put_kept n m k) [ inl c ↦ inl (n, inl refl, c.0, c.1) | inr c ↦ inr (e ∙ c) ]
  ]

  news_there : (news : List Piece) (m : Locals) → HaveOwnKeys news → (n : Piece) → IsOneOf news n → n.location ≡ location → HasLocal (with_news p location news m) (new_row p n)
  news_there [] m own n h there = absurd h
  news_there (x ∷ news) m own n h there = by (news_kept news (put_new x m) (local_key (new_row p n))) h (λ y i. news_there news (put_new x m) (λ a i b j. own a (inr i) b (inr j)) y i)
    where
      by : ((y : Piece) × IsOneOf news y × (y.location ≡ location) × (local_key (new_row p y) ≡ local_key (new_row p n))) ⊎ (map.get (with_news p location news (put_new x m)) (local_key (new_row p n)) ≡ map.get (put_new x m) (local_key (new_row p n)))
          → IsOneOf (x ∷ news) n → ((y : Piece) → IsOneOf news y → y.location ≡ location → HasLocal (with_news p location news (put_new x m)) (new_row p y)) → HasLocal (with_news p location (x ∷ news) m) (new_row p n)
      by (inl y) g more =
          let is : y.0 ≡ n = own y.0 (inr y.1) n g (λ i. ((y.3 i).0, (y.3 i).1.0)) in
          subst (λ (z : Piece). HasLocal (with_news p location (x ∷ news) m) (new_row p z)) is (more y.0 y.1 y.2)
      by (inr e) (inl is) more = e ∙ subst (λ (z : Piece). HasLocal (put_new x m) (new_row p z)) is (put_there x m (ap (λ (z : Piece). z.location) is ∙ there))
      by (inr e) (inr g) more = more n g there

  pub are_born : (news : List Piece) (m : Locals) → HaveOwnKeys news → AreBorn p location news m (with_news p location news m)
  are_born news m own = record {
    back = λ row h. news_back news m (local_key row) row h;
    new = news_there news m own;
    kept = λ row h. elim (news_kept news m (local_key row)) [
      | inl n ↦ inl (ap (λ k. k.1.1) (sym n.3))
      | inr e ↦ inr (e ∙ h)
    ];
  }
