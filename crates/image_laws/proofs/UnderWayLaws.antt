-- An operation under way: begin, step, and the stages.
use Rattle.std.proofs.Common.{◌≡◌, ◌≢◌, ◌⊎◌, ℕ, false, cond, refl, sym, ap, ◌∙◌, subst, None, inl, inr, true≢false, List, [], ◌∷◌, arith}
use Rattle.std.specs.Prelude.{IsTrue, nat_lt}
use Rattle.std.specs.FinMap as map
use Rattle.std.proofs.lemmas.Option.{same_Some, none-some}
use Rattle.std.proofs.lemmas.Bool.{cases_Bool}
use Rattle.cell_world.specs.Texts.{Text}
use Rattle.cell_world.specs.Lists.{IsOneOf}
use Rattle.cell_world.specs.Keys.{same, contains}
use Rattle.cell_world.specs.Spelled.{listed}
use Rattle.cell_world.specs.Stores.{Store, Locals, Rows}
use Rattle.cell_world.specs.Images.{Image, Global, Shard, global, with_store}
use Rattle.cell_world.specs.Plain.{is_attached}
use Rattle.cell_world.specs.Meaning.{next_operation, owner_of}
use Rattle.cell_world.specs.Lawful.{HasShape, Cuts}
use Rattle.cell_world.specs.Sound.{Sound, HasLog, HasLocal, IsAttachedIn, IsOwnedBy, IsComing, IsKeyOf, locals_at, mark_below}
use Rattle.cell_world.specs.declared.operations.Op.{Op}
use Rattle.cell_world.specs.declared.operations.Piece.{Piece}
use Rattle.cell_world.specs.declared.cells.LocalRow.{LocalRow}
use Rattle.cell_world.specs.declared.cells.Status.TheVariants.{Online}
use Rattle.cell_world.proofs.SpanLaws.{same_is, same_self, overlaps_shared}
use Rattle.cell_world.specs.Sweep.{IsSweptPlain}
use Rattle.cell_world.specs.UnderWay.{IsDone, IsUnborn, IsUnderWay}
use Rattle.cell_world.proofs.ListLaws.{some_at}
use Rattle.image_laws.specs.LocalSteps.{with_locals}
use Rattle.image_laws.proofs.ShapeLaws.{of_one, of_two}
use Rattle.image_laws.proofs.SoundParts.{are_logged}

-- ---- sites

-- the olds are at one site, and the news are
pub record AreTogether (pieces : List Piece) : Type 0 where
  pub one : (a : Piece) → IsOneOf pieces a → (b : Piece) → IsOneOf pieces b → a.location ≡ b.location

together_one : (p : Piece) → AreTogether (p ∷ [])
together_one p = record { one = of_one (λ (a : Piece). (b : Piece) → IsOneOf (p ∷ []) b → a.location ≡ b.location) (of_one (λ (b : Piece). p.location ≡ b.location) refl) }

together_two : (p q : Piece) → p.location ≡ q.location → AreTogether (p ∷ q ∷ [])
together_two p q e = record {
  one = of_two (λ (a : Piece). (b : Piece) → IsOneOf (p ∷ q ∷ []) b → a.location ≡ b.location)
      (of_two (λ (b : Piece). p.location ≡ b.location) refl e)
      (of_two (λ (b : Piece). q.location ≡ b.location) (sym e) refl);
}

cut_together : (whole low high : Piece) → Cuts whole low high → low.location ≡ high.location
cut_together whole low high c = ap (λ (p : Piece). p.location) c.lower ∙ sym (ap (λ (p : Piece). p.location) c.upper)

together_none : AreTogether []
together_none = record { one = λ a h. absurd h }

pub together : (rows : Text → Rows) (olds news : List Piece) → HasShape rows olds news → AreTogether olds × AreTogether news
together rows [] (n ∷ []) s = (together_none, together_one n)
together rows (o ∷ []) [] s = (together_one o, together_none)
together rows (o ∷ []) (n ∷ []) s = (together_one o, together_one n)
together rows (o ∷ []) (l ∷ h ∷ []) c = (together_one o, together_two l h (cut_together o l h c))
together rows (l ∷ h ∷ []) (n ∷ []) c = (together_two l h (cut_together n l h c), together_one n)
together rows olds news s = absurd s

-- ---- other sites

pub locals_elsewhere : (image : Image) (l other : Text) (locals : Locals) → same l other ≡ false → locals_at (with_locals image l locals) other ≡ locals_at image other
locals_elsewhere image l other locals e = ap (λ b. (cond b (record (image.at (Shard l)) { locals = locals }) (image.at (Shard other))).locals) e

pub locals_here : (image : Image) (l : Text) (locals : Locals) → locals_at (with_locals image l locals) l ≡ locals
locals_here image l locals = ap (λ b. (cond b (record (image.at (Shard l)) { locals = locals }) (image.at (Shard l))).locals) (same_self l)

not_same : (l other : Text) → same l other ≡ false → l ≢ other
not_same l other t e = true≢false (sym (same_self l) ∙ ap (same l) e ∙ t)

-- A step at a site where it wasn't made leads on.
pub step_leads : (image : Image) (op : Op) (sites : List Text) → IsUnderWay image op sites → (l : Text) (after : Locals) → IsDone op l after → IsUnderWay (with_locals image l after) op (l ∷ sites)
step_leads image op sites w l after done = record {
  logged = w.logged;
  done = made;
  unborn = λ x here out. elim (cases_Bool (same l x)) [
    | inl t ↦ absurd (out (inl (same_is l x t)))
    | inr t ↦ subst (IsUnborn op.number) (sym (locals_elsewhere image l x after t)) (w.unborn x here (λ h. out (inr h)))
  ];
}
  where
    made : (x : Text) → IsOneOf (l ∷ sites) x → IsDone op x (locals_at (with_locals image l after) x)
    made x h = elim (cases_Bool (same l x)) [
      | inl t ↦ subst (λ y. IsDone op y (locals_at (with_locals image l after) y)) (same_is l x t) (subst (IsDone op l) (sym (locals_here image l after)) done)
      | inr t ↦ subst (IsDone op x) (sym (locals_elsewhere image l x after t)) (other t h)
    ]
      where
        other : same l x ≡ false → IsOneOf (l ∷ sites) x → IsDone op x (locals_at image x)
        other t (inl e) = absurd (not_same l x t e)
        other t (inr g) = w.done x g

-- what undo cleared at one site stays cleared while another one is cleared
pub cleared_stays : (image : Image) (op : Op) (l other : Text) (after : Locals) → IsSweptPlain op after → IsSweptPlain op (locals_at image other) → IsSweptPlain op (locals_at (with_locals image l after) other)
cleared_stays image op l other after here there = elim (cases_Bool (same l other)) [
  | inl t ↦ subst (λ y. IsSweptPlain op (locals_at (with_locals image l after) y)) (same_is l other t) (subst (IsSweptPlain op) (sym (locals_here image l after)) here)
  | inr t ↦ subst (IsSweptPlain op) (sym (locals_elsewhere image l other after t)) there
]

-- ---- no key is online at two sites

pub online_once : (image : Image) → Sound image → (a b : LocalRow) (l other : Text) → IsAttachedIn image l → IsAttachedIn image other → HasLocal (locals_at image l) a → HasLocal (locals_at image other) b
    → a.map ≡ b.map → a.status ≡ Online → b.status ≡ Online → (key : Text) → IsKeyOf (global image).maps a.map key → IsTrue (contains a.span key) → IsTrue (contains b.span key) → l ≡ other
online_once image sound a b l other here there h g of_map on also key of_type inside within =
    by ((sound.online l here).owned a key h on inside of_type) (subst (λ name. IsOwnedBy (owner_of image) name key other ⊎ ((owner_of image name key ≡ None) × IsComing (global image).log name key other)) (sym of_map) ((sound.online other there).owned b key g also within (subst (λ name. IsKeyOf (global image).maps name key) of_map of_type)))
  where
    by : IsOwnedBy (owner_of image) a.map key l ⊎ ((owner_of image a.map key ≡ None) × IsComing (global image).log a.map key l)
        → IsOwnedBy (owner_of image) a.map key other ⊎ ((owner_of image a.map key ≡ None) × IsComing (global image).log a.map key other) → l ≡ other
    by (inl x) (inl y) = let is : x.0 ≡ y.0 = same_Some x.0 y.0 (sym x.1 ∙ y.1) in sym x.2 ∙ ap (λ (p : Piece). p.location) is ∙ y.2
    by (inl x) (inr y) = absurd (none-some x.0 (sym y.0 ∙ x.1))
    by (inr x) (inl y) = absurd (none-some y.0 (sym x.0 ∙ y.1))
    by (inr x) (inr y) =
        let c = x.1 in
        let d = y.1 in
        let log = are_logged image sound in
        let m = some_at (λ (n : Piece). (n.location ≡ l) × IsTrue (contains n.span key)) (listed c.0.news) c.3 in
        let n = some_at (λ (n : Piece). (n.location ≡ other) × IsTrue (contains n.span key)) (listed d.0.news) d.3 in
        let over = overlaps_shared c.0.hull d.0.hull key ((log.fits c.0 c.1).shaped.new_in m.0 m.1 key m.2.1) ((log.fits d.0 d.1).shaped.new_in n.0 n.1 key n.2.1) in
        let is : c.0 ≡ d.0 = sound.logged.hulls c.0 d.0 c.1 d.1 (c.2 ∙ sym d.2) over in
        let n_in : IsOneOf (listed c.0.news) n.0 = subst (λ (o : Op). IsOneOf (listed o.news) n.0) (sym is) n.1 in
        let one : m.0 ≡ n.0 = (log.fits c.0 c.1).shaped.apart m.0 m.1 n.0 n_in (overlaps_shared m.0.span n.0.span key m.2.1 n.2.1) in
        sym m.2.0 ∙ ap (λ (p : Piece). p.location) one ∙ n.2.0

-- ---- what others do

-- A change of the local rows at one site, by whomever, leaves an operation under way where it leaves there what was done and what wasn't.
pub under_way_local : (image : Image) (op : Op) (sites : List Text) → IsUnderWay image op sites → (l : Text) (after : Locals) → (IsDone op l (locals_at image l) → IsDone op l after)
    → (IsUnborn op.number (locals_at image l) → IsUnborn op.number after)
    → IsUnderWay (with_locals image l after) op sites
under_way_local image op sites w l after keeps_done keeps_unborn = record {
  logged = w.logged;
  done = λ x h. by_done x (w.done x h);
  unborn = λ x here out. by_unborn x (w.unborn x here out);
}
  where
    by_done : (x : Text) → IsDone op x (locals_at image x) → IsDone op x (locals_at (with_locals image l after) x)
    by_done x d = elim (cases_Bool (same l x)) [
      | inl t ↦ subst (λ y. IsDone op y (locals_at (with_locals image l after) y)) (same_is l x t) (subst (IsDone op l) (sym (locals_here image l after)) (keeps_done (subst (λ y. IsDone op y (locals_at image y)) (sym (same_is l x t)) d)))
      | inr t ↦ subst (IsDone op x) (sym (locals_elsewhere image l x after t)) d
    ]

    by_unborn : (x : Text) → IsUnborn op.number (locals_at image x) → IsUnborn op.number (locals_at (with_locals image l after) x)
    by_unborn x u = elim (cases_Bool (same l x)) [
      | inl t ↦ subst (λ y. IsUnborn op.number (locals_at (with_locals image l after) y)) (same_is l x t) (subst (IsUnborn op.number) (sym (locals_here image l after)) (keeps_unborn (subst (λ y. IsUnborn op.number (locals_at image y)) (sym (same_is l x t)) u)))
      | inr t ↦ subst (IsUnborn op.number) (sym (locals_elsewhere image l x after t)) u
    ]

-- A change of the global store that leaves its log row and the sites' states does too.
pub under_way_global : (image : Image) (op : Op) (sites : List Text) → IsUnderWay image op sites → (g : Store) → HasLog g.log op → g.away ≡ (global image).away → IsUnderWay (with_store image Global g) op sites
under_way_global image op sites w g logged away = record {
  logged = logged;
  done = w.done;
  unborn = λ l here out. w.unborn l (record { known = here.known; attached = subst (λ a. IsTrue (is_attached (map.get a l))) away here.attached }) out;
}

-- No row of an attached site is named by the next number, and none is Old of it: they are below the counter.
pub next_unborn : (image : Image) → Sound image → (l : Text) → IsAttachedIn image l → IsUnborn (next_operation image) (locals_at image l)
next_unborn image sound l here row has = (
  λ e. let n = ((sound.locals l here).numbers row has).0 in omega (arith, n, e),
  λ old. let n : IsTrue (nat_lt (next_operation image) (next_operation image)) = subst (λ m. IsTrue (mark_below (next_operation image) m)) old ((sound.locals l here).numbers row has).1 in true≢false (sym n ∙ not_below (next_operation image)),
)
  where
    not_below : (n : ℕ) → nat_lt n n ≡ false
    not_below n = grind arith

-- When its log row was put, an operation with the next number is under way with no step made.
pub begun : (image : Image) → Sound image → (op : Op) → op.number ≡ next_operation image → (g : Store) → HasLog g.log op → g.away ≡ (global image).away → IsUnderWay (with_store image Global g) op []
begun image sound op number g logged away = record {
  logged = logged;
  done = λ l h. absurd h;
  unborn = λ l here out. subst (λ n. IsUnborn n (locals_at image l)) (sym number)
      (next_unborn image sound l (record { known = here.known; attached = subst (λ a. IsTrue (is_attached (map.get a l))) away here.attached }));
}
