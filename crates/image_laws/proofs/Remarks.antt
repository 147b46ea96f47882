-- A change of a site's local rows that drops rows that don't count, and gives rows that count another mark.
use Rattle.std.proofs.Common.{◌≡◌, ◌⊎◌, ℕ, ◌<◌, true, refl, sym, ap, ◌∙◌, subst, None}
use Rattle.std.specs.Prelude.{IsTrue}
use Rattle.std.specs.FinMap as map
use Rattle.std.proofs.lemmas.Option.{same_Some}
use Rattle.cell_world.specs.Texts.{Text}
use Rattle.cell_world.specs.Keys.{contains, low_of}
use Rattle.cell_world.specs.Spelled.{listed}
use Rattle.cell_world.specs.Stores.{Maps, Mappings, Log, Locals, local_key}
use Rattle.cell_world.specs.Plain.{Owner}
use Rattle.cell_world.specs.Meaning.{counts, counts_with}
use Rattle.cell_world.specs.Sound.{HasLocal, Matches, IsMarked, mark_below, LocalCells, OnlineRows, IsSpanOf, IsKeyOf, IsOwnedBy, IsComing}
use Rattle.cell_world.specs.declared.operations.Piece.{Piece}
use Rattle.cell_world.specs.declared.cells.LocalRow.{LocalRow}
use Rattle.cell_world.specs.declared.cells.Mark.{Mark}
use Rattle.cell_world.specs.declared.cells.Mark.TheVariants.{Plain, Old, New}
use Rattle.cell_world.specs.Sweep.{marked_as}
use Rattle.cell_world.proofs.ListLaws.{some_at, some_from}

-- a row but for its mark
abbrev pub bare : LocalRow → LocalRow
bare row = record row { mark = Plain }

-- alike but for the mark
abbrev pub IsLike : LocalRow → LocalRow → Type 0
IsLike row after = bare after ≡ bare row

pub same_key : (row after : LocalRow) → IsLike row after → local_key after ≡ local_key row
same_key row after like = ap local_key like

pub matches_like : (row after : LocalRow) (p : Piece) → IsLike row after → Matches row p → Matches after p
matches_like row after p like h = record {
  map = ap (λ (r : LocalRow). r.map) like ∙ h.map;
  span = ap (λ (r : LocalRow). r.span) like ∙ h.span;
  status = ap (λ (r : LocalRow). r.status) like ∙ h.status;
}

pub marked_like : (log : Log) (location : Text) (row after : LocalRow) → IsLike row after → (mark : Mark) → IsMarked log location row mark → IsMarked log location after mark
marked_like log location row after like Plain h = tt
marked_like log location row after like (Old p) h = λ op at.
    let s = some_at (λ (o : Piece). Matches row o × (o.location ≡ location)) (listed op.olds) (h op at) in
    some_from (λ (o : Piece). Matches after o × (o.location ≡ location)) (listed op.olds) s.0 s.1 (matches_like row after s.0 like s.2.0, s.2.1)
marked_like log location row after like New h = λ op at.
    let s = some_at (λ (n : Piece). Matches row n × (n.location ≡ location)) (listed op.news) (h op (ap (λ (r : LocalRow). map.get log r.number) (sym like) ∙ at)) in
    some_from (λ (n : Piece). Matches after n × (n.location ≡ location)) (listed op.news) s.0 s.1 (matches_like row after s.0 like s.2.0, s.2.1)

-- what a row became
pub data Remark (log : Log) (next : ℕ) (location : Text) (row after : LocalRow) : Type 0 where
  Same : after ≡ row → Remark log next location row after
  To : (to : Mark) → after ≡ marked_as to row → counts log row ≡ true → counts_with log to row.number ≡ true → IsMarked log location row to → IsTrue (mark_below next to) → Remark log next location row after

pub record IsRemarked (log : Log) (next : ℕ) (location : Text) (before after : Locals) : Type 0 where
  pub back : (row : LocalRow) → HasLocal after row → (was : LocalRow) × HasLocal before was × Remark log next location was row
  pub forth : (row : LocalRow) → HasLocal before row → counts log row ≡ true → (now : LocalRow) × HasLocal after now × (counts log now ≡ true) × IsLike row now

module _ (log : Log) (next : ℕ) (location : Text) where
  pub like : (row after : LocalRow) → Remark log next location row after → IsLike row after
  like row after (Same e) = ap bare e
  like row after (To to e c d m b) = ap bare e

  pub counted_before : (row after : LocalRow) → Remark log next location row after → counts log after ≡ true → counts log row ≡ true
  counted_before row after (Same e) h = ap (counts log) (sym e) ∙ h
  counted_before row after (To to e c d m b) h = c

  pub has_key : (locals : Locals) (a b : LocalRow) → HasLocal locals a → HasLocal locals b → local_key a ≡ local_key b → a ≡ b
  has_key locals a b h g e = same_Some a b (sym h ∙ ap (map.get locals) e ∙ g)

  pub remarked_locals : (mappings : Mappings) (before after : Locals) → LocalCells mappings log next location before → IsRemarked log next location before after → LocalCells mappings log next location after
  remarked_locals mappings before after s r = record {
    counted = λ row h c.
        let b = r.back row h in
        let l = like b.0 row b.2 in
        let p = s.counted b.0 b.1 (counted_before b.0 row b.2 c) in
        (p.0, p.1, p.2, matches_like b.0 row p.0 l p.3);
    each = λ p h there.
        let b = s.each p h there in
        let f = r.forth b.0 b.1 b.2 in
        (f.0, f.1, f.2, matches_like b.0 f.0 p f.3 b.3);
    once = λ a b h g c d of_map low.
        let x = r.back a h in
        let y = r.back b g in
        let k = like x.0 a x.2 in
        let l = like y.0 b y.2 in
        let is : x.0 ≡ y.0 = s.once x.0 y.0 x.1 y.1 (counted_before x.0 a x.2 c) (counted_before y.0 b y.2 d)
        (ap (λ (r : LocalRow). r.map) (sym k) ∙ of_map ∙ ap (λ (r : LocalRow). r.map) l)
        (ap (λ (r : LocalRow). low_of r.span) (sym k) ∙ low ∙ ap (λ (r : LocalRow). low_of r.span) l) in
        has_key after a b h g (same_key x.0 a k ∙ ap local_key is ∙ sym (same_key y.0 b l));
    marks = λ row h. let b = r.back row h in by b.0 row b.2 (s.marks b.0 b.1);
    numbers = λ row h. let b = r.back row h in below b.0 row b.2 (s.numbers b.0 b.1);
  }
    where
      by : (was row : LocalRow) → Remark log next location was row → IsMarked log location was was.mark → IsMarked log location row row.mark
      by was row (Same e) m = subst (λ (r : LocalRow). IsMarked log location r r.mark) (sym e) m
      by was row (To to e c d m b) g = subst (λ (r : LocalRow). IsMarked log location r r.mark) (sym e) (marked_like log location was (marked_as to was) refl to m)

      below : (was row : LocalRow) → Remark log next location was row → (was.number < next) × IsTrue (mark_below next was.mark) → (row.number < next) × IsTrue (mark_below next row.mark)
      below was row (Same e) n = subst (λ (r : LocalRow). (r.number < next) × IsTrue (mark_below next r.mark)) (sym e) n
      below was row (To to e c d m b) n = subst (λ (r : LocalRow). (r.number < next) × IsTrue (mark_below next r.mark)) (sym e) (n.0, b)

  pub remarked_online : (maps : Maps) (own : Owner) (before after : Locals) → OnlineRows maps own log location before → IsRemarked log next location before after → OnlineRows maps own log location after
  remarked_online maps own before after s r = record {
    spans = λ row h on.
        let b = r.back row h in
        let l = like b.0 row b.2 in
        subst (λ (r : LocalRow). Spans r) (sym l) (s.spans b.0 b.1 (ap (λ (r : LocalRow). r.status) (sym l) ∙ on));
    owned = λ row key h on inside of_type.
        let b = r.back row h in
        let l = like b.0 row b.2 in
        subst (λ (r : LocalRow). Owned key r) (sym l) (s.owned b.0 key b.1 (ap (λ (r : LocalRow). r.status) (sym l) ∙ on)
        (subst (λ (r : LocalRow). IsTrue (contains r.span key)) l inside)
        (subst (λ (r : LocalRow). IsKeyOf maps r.map key) l of_type));
  }
    where
      Spans : LocalRow → Type 0
      Spans r = IsSpanOf maps r.map r.span

      Owned : Text → LocalRow → Type 0
      Owned key r = IsOwnedBy own r.map key location ⊎ ((own r.map key ≡ None) × IsComing log r.map key location)
