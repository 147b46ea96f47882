-- What the local transactions of one operation leave of another one's.
use Rattle.std.proofs.Common.{◌≡◌, ◌≢◌, ◌⊎◌, ℕ, true, false, cond, eqb, refl, sym, ap, ◌∙◌, subst, Some, None, inl, inr, List}
use Rattle.std.specs.Prelude.{IsTrue, option_and_then}
use Rattle.std.specs.FinMap as map
use Rattle.std.proofs.lemmas.Option.{same_Some, none-some, option_and_then_some}
use Rattle.std.proofs.lemmas.Bool.{cases_Bool, and_parts}
use Rattle.std.proofs.lemmas.Bool.Decides.{eqb_tells}
use Rattle.cell_world.specs.Texts.{Text}
use Rattle.cell_world.specs.Lists.{IsOneOf}
use Rattle.cell_world.specs.Keys.{same, contains, overlaps}
use Rattle.cell_world.specs.Spelled.{listed}
use Rattle.cell_world.specs.Stores.{Maps, Mappings, Log, Locals, local_key}
use Rattle.cell_world.specs.Sound.{HasLog, HasLocal, Matches, LocalCells, AreMappings}
use Rattle.cell_world.specs.declared.operations.Piece.{Piece}
use Rattle.cell_world.specs.declared.operations.Op.{Op}
use Rattle.cell_world.specs.declared.cells.LocalRow.{LocalRow}
use Rattle.cell_world.specs.declared.cells.Mark.{Mark}
use Rattle.cell_world.specs.declared.cells.Mark.TheVariants.{Plain, Old, New}
use Rattle.cell_world.proofs.SpanLaws.{same_is, overlaps_shared, shared_of_overlap}
use Rattle.cell_world.specs.Sweep.{reaches, marked_as, IsSwept}
use Rattle.cell_world.specs.UnderWay.{new_row, IsUnborn, IsDone}
use Rattle.image_laws.specs.Fits.{Fits, AreLogged}
use Rattle.image_laws.specs.LocalSteps.{AreBorn, settle, settle_as, IsSettled}
use Rattle.image_laws.proofs.CommitSites.{old_of_mark, new_of_mark}
use Rattle.image_laws.proofs.StaysLawful.{AreApart}
use Rattle.image_laws.proofs.StepLaws.{Swept, In, Out, swept_back, swept_out}

-- an operation p whose step was made at a site, and another one, q, whose hull is apart
module _ (maps : Maps) (mappings : Mappings) (m : AreMappings maps mappings) (log : Log) (next : ℕ) (l : AreLogged maps mappings log next) (p q : Op) (logged : HasLog log p) (apart : AreApart p q) (location : Text) (locals : Locals)
    (s : LocalCells mappings log next location locals) (done : IsDone p location locals) where
  fit : Fits maps mappings p
  fit = l.fits p logged

  -- a piece in the hull of p doesn't overlap that of q
  hull_apart : (row : LocalRow) (x : Piece) → Matches row x → x.map ≡ p.map → ((key : Text) → IsTrue (contains x.span key) → IsTrue (contains p.hull key)) → IsTrue (reaches q row) → ⊥
  hull_apart row x h of_map inside r =
      let both = and_parts (same row.map q.map) (overlaps row.span q.hull) r in
      let k = shared_of_overlap row.span q.hull both.1 in
      apart (sym of_map ∙ sym h.map ∙ same_is row.map q.map both.0) (overlaps_shared p.hull q.hull k.0 (inside k.0 (subst (λ z. IsTrue (contains z k.0)) h.span k.1)) k.2)

  -- a row of the hull of p isn't in that of q
  pub row_apart : (row : LocalRow) → HasLocal locals row → IsTrue (reaches p row) → IsTrue (reaches q row) → ⊥
  row_apart row h r c = elim (done.only row h r) [
    | inl e ↦ let o = old_of_mark maps mappings m log next l p logged location locals s row h e in hull_apart row o.0 o.2 (fit.old_map o.0 o.1) (fit.shaped.old_in o.0 o.1) c
    | inr e ↦ let n = new_of_mark maps mappings m log next l p logged location locals s row h e.0 e.1 in hull_apart row n.0 n.2 (fit.new_map n.0 n.1) (fit.shaped.new_in n.0 n.1) c
  ]

  new_apart : (n : Piece) → IsOneOf (listed p.news) n → reaches q (new_row p.number n) ≡ false
  new_apart n among = elim (cases_Bool (reaches q (new_row p.number n))) [
    | inl t ↦ absurd (hull_apart (new_row p.number n) n (record { map = refl; span = refl; status = refl }) (fit.new_map n among) (fit.shaped.new_in n among) t)
    | inr t ↦ t
  ]

  -- A sweep of q leaves the step of p done.
  pub done_swept : (to : Mark) (after : Locals) → IsSwept log q to locals after → IsDone p location after
  done_swept to after swept = record {
    only = λ row h r. let b = swept_back log q to locals after swept row h in by b.0 row b.1 b.2 r;
    made = λ n among there. swept_out log q to locals after swept (new_row p.number n) (done.made n among there) (new_apart n among);
  }
    where
      by : (was row : LocalRow) → HasLocal locals was → Swept log q to was row → IsTrue (reaches p row) → (row.mark ≡ Old p.number) ⊎ ((row.mark ≡ New) × (row.number ≡ p.number))
      by was row h (Out t e) r = subst (λ (x : LocalRow). (x.mark ≡ Old p.number) ⊎ ((x.mark ≡ New) × (x.number ≡ p.number))) (sym e) (done.only was h (subst (λ (x : LocalRow). IsTrue (reaches p x)) e r))
      by was row h (In t c e) r = absurd (row_apart was h (subst (λ (x : LocalRow). IsTrue (reaches p x)) e r) t)

-- The news of q leave the step of p done.
pub done_born : (p q : Op) (location : Text) (before after : Locals) → p.number ≢ q.number → ((n : Piece) → IsOneOf (listed q.news) n → reaches p (new_row q.number n) ≡ true → ⊥)
    → AreBorn q.number location (listed q.news) before after → IsDone p location before → IsDone p location after
done_born p q location before after ne apart born done = record {
  only = λ row h r. elim (born.back row h) [
    | inl b ↦ absurd (apart b.0 b.1 (subst (λ (x : LocalRow). IsTrue (reaches p x)) b.3 r))
    | inr was ↦ done.only row was r
  ];
  made = λ n among there. elim (born.kept (new_row p.number n) (done.made n among there)) [ inl e ↦ absurd (ne e) | inr h ↦ h ];
}

new_not_old : (p : ℕ) → New ≡ Old p → ⊥
new_not_old p e = absurd (cc)

pub unborn_born : (p q : ℕ) (location : Text) (news : List Piece) (before after : Locals) → p ≢ q → AreBorn q location news before after → IsUnborn p before → IsUnborn p after
unborn_born p q location news before after ne born u row h = elim (born.back row h) [
  | inl b ↦ (λ named. ne (sym named ∙ ap (λ (x : LocalRow). x.number) b.3), λ old. new_not_old p (sym (ap (λ (x : LocalRow). x.mark) b.3) ∙ old))
  | inr was ↦ u row was
]

-- a settled row was there, but for its mark, and had another one only where it was New of q
pub settle_back : (q : ℕ) (was row : LocalRow) (mark : Mark) → was.mark ≡ mark → settle_as q was mark ≡ Some row → (row ≡ was) ⊎ ((row ≡ marked_as Plain was) × (was.mark ≡ New) × (was.number ≡ q))
settle_back q was row Plain m e = inl (sym (same_Some _ _ e))
settle_back q was row (Old r) m e = by (cases_Bool (eqb r q)) e
  where
    by : (eqb r q ≡ true) ⊎ (eqb r q ≡ false) → cond (eqb r q) None (Some was) ≡ Some row → (row ≡ was) ⊎ ((row ≡ marked_as Plain was) × (was.mark ≡ New) × (was.number ≡ q))
    by (inl t) e = absurd (none-some row (ap (λ b. cond b None (Some was)) (sym t) ∙ e))
    by (inr t) e = inl (sym (same_Some _ _ (ap (λ b. cond b None (Some was)) (sym t) ∙ e)))
settle_back q was row New m e = by (eqb_tells was.number q) e
  where
    by : ((eqb was.number q ≡ true) × (was.number ≡ q)) ⊎ ((eqb was.number q ≡ false) × (was.number ≢ q)) → cond (eqb was.number q) (Some (marked_as Plain was)) (Some was) ≡ Some row
        → (row ≡ was) ⊎ ((row ≡ marked_as Plain was) × (was.mark ≡ New) × (was.number ≡ q))
    by (inl t) e = inr (sym (same_Some _ _ (ap (λ b. cond b (Some (marked_as Plain was)) (Some was)) (sym t.0) ∙ e)), m, t.1)
    by (inr t) e = inl (sym (same_Some _ _ (ap (λ b. cond b (Some (marked_as Plain was)) (Some was)) (sym t.0) ∙ e)))

-- Settling q leaves the step of p done, and no row gets a name.
module _ (q : ℕ) (before after : Locals) (settled : IsSettled q before after) where
  -- what settling makes of each row
  pub settle_row : (row : LocalRow) → HasLocal after row → (was : LocalRow) × HasLocal before was × ((row ≡ was) ⊎ ((row ≡ marked_as Plain was) × (was.mark ≡ New) × (was.number ≡ q)))
  settle_row row h = option_and_then_some (settle q) (map.get before (local_key row)) row (sym (settled (local_key row)) ∙ h) (λ was at e.
      let b = settle_back q was row was.mark refl e in
      (was, ap (map.get before) (key_of was row b) ∙ at, b))
    where
      key_of : (was row : LocalRow) → (row ≡ was) ⊎ ((row ≡ marked_as Plain was) × (was.mark ≡ New) × (was.number ≡ q)) → local_key was ≡ local_key row
      key_of was row (inl e) = ap local_key (sym e)
      key_of was row (inr e) = ap local_key (sym e.0)

  settle_other : (row : LocalRow) (p : ℕ) (mark : Mark) → p ≢ q → row.mark ≡ mark → ((mark ≡ Old p) ⊎ ((mark ≡ New) × (row.number ≡ p))) → settle_as q row mark ≡ Some row
  settle_other row p Plain ne m e = refl
  settle_other row p (Old r) ne m (inl e) = elim (eqb_tells r q) [
    | inl t ↦ let is : r ≡ p = cc in absurd (ne (sym is ∙ t.1))
    | inr t ↦ ap (λ b. cond b None (Some row)) t.0
  ]
  settle_other row p (Old r) ne m (inr e) = let f : Old r ≡ New = e.0 in absurd (cc)
  settle_other row p New ne m (inl e) = absurd (cc)
  settle_other row p New ne m (inr e) = elim (eqb_tells row.number q) [
    | inl t ↦ absurd (ne (sym e.1 ∙ t.1))
    | inr t ↦ ap (λ b. cond b (Some (marked_as Plain row)) (Some row)) t.0
  ]

  pub done_settled : (p : Op) (location : Text) → p.number ≢ q → IsDone p location before → IsDone p location after
  done_settled p location ne done = record {
    only = λ row h r. let b = settle_row row h in by b.0 row b.1 b.2 r;
    made = λ n among there. settled (local_key (new_row p.number n)) ∙ ap (option_and_then (settle q)) (done.made n among there) ∙ settle_other (new_row p.number n) p.number New ne refl (inr (refl, refl));
  }
    where
      by : (was row : LocalRow) → HasLocal before was → (row ≡ was) ⊎ ((row ≡ marked_as Plain was) × (was.mark ≡ New) × (was.number ≡ q)) → IsTrue (reaches p row) → (row.mark ≡ Old p.number) ⊎ ((row.mark ≡ New) × (row.number ≡ p.number))
      by was row h (inl e) r = subst (λ (x : LocalRow). (x.mark ≡ Old p.number) ⊎ ((x.mark ≡ New) × (x.number ≡ p.number))) (sym e) (done.only was h (subst (λ (x : LocalRow). IsTrue (reaches p x)) e r))
      by was row h (inr e) r = elim (done.only was h (subst (λ (x : LocalRow). IsTrue (reaches p x)) e.0 r)) [
        | inl f ↦ let g : New ≡ Old p.number = sym e.1 ∙ f in absurd (cc)
        | inr f ↦ absurd (ne (sym f.1 ∙ e.2))
      ]

  pub unborn_settled : (p : ℕ) → IsUnborn p before → IsUnborn p after
  unborn_settled p u row h = let b = settle_row row h in (λ named. by named b.0 b.1 b.2, λ old. by_mark old b.0 b.1 b.2)
    where
      by : row.number ≡ p → (was : LocalRow) → HasLocal before was → (row ≡ was) ⊎ ((row ≡ marked_as Plain was) × (was.mark ≡ New) × (was.number ≡ q)) → ⊥
      by e was h (inl f) = (u was h).0 (ap (λ (x : LocalRow). x.number) (sym f) ∙ e)
      by e was h (inr f) = (u was h).0 (ap (λ (x : LocalRow). x.number) (sym f.0) ∙ e)

      by_mark : row.mark ≡ Old p → (was : LocalRow) → HasLocal before was → (row ≡ was) ⊎ ((row ≡ marked_as Plain was) × (was.mark ≡ New) × (was.number ≡ q)) → ⊥
      by_mark e was h (inl f) = (u was h).1 (ap (λ (x : LocalRow). x.mark) (sym f) ∙ e)
      by_mark e was h (inr f) = let g : Plain ≡ Old p = ap (λ (x : LocalRow). x.mark) (sym f.0) ∙ e in absurd (cc)
