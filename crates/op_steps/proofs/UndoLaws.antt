-- The undo of an operation, on images.
use Rattle.std.proofs.Common.{◌≡◌, true, false, refl, sym, ap, ◌∙◌, subst, Some, None, Option, inl, inr, List, [], ◌∷◌, ◌++◌}
use Rattle.std.specs.Prelude.{Result, Err, IsOk, option_to_list}
use Rattle.std.specs.FinMap as map
use Rattle.std.proofs.lemmas.Option.{same_Some, none-some}
use Rattle.cell_world.specs.Texts.{Text}
use Rattle.cell_world.specs.Stores.{Store, Locals, changed}
use Rattle.cell_world.specs.Images.{Image, Place, Global, Shard, Happening, global, with_store, after_all}
use Rattle.cell_world.specs.Marked.{marked_sites}
use Rattle.cell_world.specs.Spelled.{listed}
use Rattle.cell_world.specs.Lists.{IsOneOf}
use Rattle.cell_world.specs.Sound.{Sound, HasLog, IsAttachedIn, locals_at}
use Rattle.cell_world.specs.Sweep.{IsSwept, IsSweptPlain}
use Rattle.cell_world.specs.declared.operations.Op.{Op}
use Rattle.cell_world.specs.declared.operations.Piece.{Piece}
use Rattle.cell_world.specs.declared.cells.Mark.TheVariants.{Plain}
use Rattle.cell_world.specs.declared.cells.CellKey.TheVariants as at
use Rattle.cell_world.specs.declared.changes.Edit.{Edit}
use Rattle.cell_world.specs.declared.changes.Edit.TheVariants.{Delete}
use Rattle.cell_world.specs.declared.cells.LocalRow.{LocalRow}
use Rattle.cell_world.proofs.ListLaws.{one_of_two, in_first, in_second}
use Rattle.global_tables.specs.declared.faults.StepFault.{StepFault}
use Rattle.image_laws.specs.LocalSteps.{IsUndone, with_locals}
use Rattle.image_laws.proofs.EditImages.{edits_undo}
use Rattle.image_laws.proofs.Places.{old_site, new_site, site_attached, location_in, is_among_of}
use Rattle.image_laws.proofs.StepImages.{undo_sound}
use Rattle.image_laws.proofs.StepLaws.{undone_cleared}
use Rattle.image_laws.proofs.UnderWayLaws.{cleared_stays, locals_here}
use Rattle.local_tables.specs.Altering.{to_undo, if_any, altered}
use Rattle.local_tables.specs.declared.altering.Work.TheVariants.{ToUndo}
use Rattle.op_steps.specs.Passing.{IsCourse, IsTryOf, changed_at}
use Rattle.op_steps.specs.Undoing.{IsOwnSite, UndoesAt, Drops, DropsRow, UndoStep, AtSite, LogRow, IsPlainAt, IsOwnAt, PlainsSites, UndoesOp}
use Rattle.op_steps.proofs.Courses.{course_keeps, course_then, course_weaker, after_then, tried_once}
use Rattle.local_tables.proofs.AlteredRows.{undo_scanned}
use Rattle.local_tables.proofs.NothingToDo.{nothing_to_undo}

-- ---- what undo at sites leaves of an image

-- It is sound, the operation is logged, the log and what is attached are as they were, and what was Plain is.
pub record Stays (op : Op) (image now : Image) : Type 0 where
  pub sound : Sound now
  pub logged : HasLog (global now).log op
  pub log : (global now).log ≡ (global image).log
  pub attached : (l : Text) → IsAttachedIn image l → IsAttachedIn now l
  pub plain : (l : Text) → IsSweptPlain op (locals_at image l) → IsSweptPlain op (locals_at now l)

pub stays_same : (op : Op) (image : Image) → Sound image → HasLog (global image).log op → Stays op image image
stays_same op image sound logged = record { sound = sound; logged = logged; log = refl; attached = λ l h. h; plain = λ l h. h }

step_stays : (op : Op) (first image : Image) (place : Place) (change : List Edit) → Stays op first image → UndoesAt op image place change → Stays op first (changed_at image place change)
step_stays op first image place change s u = subst (Stays op first) (sym u.is) (record {
  sound = undo_sound image s.sound op s.logged u.location u.site.here u.last u.swept;
  logged = s.logged;
  log = s.log;
  attached = s.attached;
  plain = λ l h. cleared_stays image op u.location l u.last (undone_cleared (global image).log op (locals_at image u.location) u.last u.swept) (s.plain l h);
})

pub course_stays : (op : Op) (image : Image) (hs : List Happening) → Sound image → HasLog (global image).log op → IsCourse (UndoesAt op) image hs → Stays op image (after_all image hs)
course_stays op image hs sound logged c = course_keeps (UndoesAt op) (Stays op image) (step_stays op image) image hs (stays_same op image sound logged) c

-- ---- at one site

module _ (image : Image) (sound : Sound image) (op : Op) (logged : HasLog (global image).log op) (location : Text) where
  abbrev edits : List Edit
  edits = to_undo (global image).log op (locals_at image location)

  abbrev there : Image
  there = with_store image (Shard location) (changed (image.at (Shard location)) edits)

  abbrev rows : List LocalRow
  rows = altered ToUndo op (locals_at image location)

  swept_by : (after : Locals) × (changed (image.at (Shard location)) edits ≡ record (image.at (Shard location)) { locals = after }) × IsSwept (global image).log op Plain (locals_at image location) after
  swept_by = edits_undo image sound op location rows (undo_scanned (global image).log op (locals_at image location) (sound.keyed (Shard location)).locals)

  cleared : IsSweptPlain op swept_by.0
  cleared = undone_cleared (global image).log op (locals_at image location) swept_by.0 swept_by.2

  -- With nothing to do it is Plain.
  pub nothing_undone : None ≡ if_any edits → IsSweptPlain op (locals_at image location)
  nothing_undone e = subst (IsSweptPlain op) (sym same) cleared
    where
      none : (es : List Edit) → None ≡ if_any es → es ≡ []
      none [] e = refl
      none (x ∷ xs) e = cc

      same : locals_at image location ≡ swept_by.0
      same = ap (λ es. (changed (image.at (Shard location)) es).locals) (sym (none edits e)) ∙ ap (λ (s : Store). s.locals) swept_by.1

  -- Else the edits make it so.
  undone_there : there ≡ with_locals image location swept_by.0
  undone_there = ap (with_store image (Shard location)) swept_by.1

  pub undoes_there : IsOwnSite op location image → (None ≡ if_any edits → ⊥) → UndoesAt op image (Shard location) edits
  undoes_there site some = record {
    logged = logged;
    location = location;
    site = site;
    not_yet = λ plain. some ((nothing_to_undo (global image).log op (locals_at image location) (sound.keyed (Shard location)).locals).1 plain);
    place_is = refl;
    edits = refl;
    last = swept_by.0;
    swept = swept_by.2;
    is = undone_there;
  }

  pub plain_there : IsSweptPlain op (locals_at there location)
  plain_there = subst (IsSweptPlain op) (sym (ap (λ i. locals_at i location) undone_there ∙ locals_here image location swept_by.0)) cleared

not_ok : (e : StepFault) → IsOk {T = Unit {0}} {E = StepFault} (Err e) → ⊥
not_ok e h = let never : false ≡ true = h in cc

-- the edits of an answer are these
pub edits_are : (es fs : List Edit) → Some es ≡ if_any fs → es ≡ fs
edits_are es [] e = cc
edits_are es (f ∷ fs) e = cc

module _ (image : Image) (sound : Sound image) (op : Op) (logged : HasLog (global image).log op) (location : Text) (site : IsOwnSite op location image) where
  abbrev PlainThere : Image → Type 0
  PlainThere after = IsSweptPlain op (locals_at after location)

  -- What is tried of the edits.
  pub tried_there : (edits : List Edit) → Some edits ≡ if_any (to_undo (global image).log op (locals_at image location)) → (result : Result (Unit {0}) StepFault) (hs : List Happening) → IsTryOf (Shard location) edits result hs → PlainsSites op (IsOk result) PlainThere image hs
  tried_there edits e result hs h =
      let sweeps : List Edit = to_undo (global image).log op (locals_at image location) in
      let r = tried_once (UndoesAt op) image (Shard location) sweeps (undoes_there image sound op logged location site (λ none. none-some edits (none ∙ sym e))) result hs (subst (λ es. IsTryOf (Shard location) es result hs) (edits_are edits sweeps e) h) in
      record { course = r.course; done = λ k. subst PlainThere (sym (r.made k)) (plain_there image sound op logged location) }

-- ---- the log row

pub tried_drop : (image : Image) (op : Op) → HasLog (global image).log op → IsUndone image op → (result : Result (Unit {0}) StepFault) (hs : List Happening) → IsTryOf Global (Delete (at.Log op.number) ∷ []) result hs → DropsRow op (IsOk result) image hs
tried_drop image op logged undone result hs h =
    let r = tried_once (Drops op) image Global (Delete (at.Log op.number) ∷ []) (record { logged = logged; undone = undone; place_is = refl; edits = refl; is = refl }) result hs h in
    record { course = r.course; gone = r.made }

-- ---- its own sites

pub one_listed : (one two : Option Piece) (p : Piece) → one ≡ Some p → IsOneOf (option_to_list one ++ option_to_list two) p
one_listed None two p e = cc
one_listed (Some x) two p e = inl (same_Some x p e)

two_listed : (one two : Option Piece) (p : Piece) → two ≡ Some p → IsOneOf (option_to_list one ++ option_to_list two) p
two_listed one two p e = in_second (option_to_list one) (option_to_list two) p (by two e)
  where
    by : (two : Option Piece) → two ≡ Some p → IsOneOf (option_to_list two) p
    by None e = cc
    by (Some x) e = inl (same_Some x p e)

-- a site stays its own
own_later : (op : Op) (image now : Image) (l : Text) → Stays op image now → IsOwnSite op l image → IsOwnSite op l now
own_later op image now l s site = record { here = s.attached l site.here; own = site.own }

module _ (image : Image) (op : Op) (sound : Sound image) (logged : HasLog (global image).log op) where
  abbrev marked_pieces : List Piece
  marked_pieces = listed op.olds ++ listed op.news

  own_of : (p : Piece) → IsOneOf marked_pieces p → IsAttachedIn image p.location → IsOwnSite op p.location image
  own_of p h here = record { here = here; own = is_among_of (marked_sites op) p.location (location_in marked_pieces p h) }

  own_old : (p : Piece) → IsOneOf (listed op.olds) p → IsOwnSite op p.location image
  own_old p h = own_of p (in_first (listed op.olds) (listed op.news) p h) (site_attached image op (sound.logged.lawful op logged) p.location (old_site op p h))

  own_new : (p : Piece) → IsOneOf (listed op.news) p → IsOwnSite op p.location image
  own_new p h = own_of p (in_second (listed op.olds) (listed op.news) p h) (site_attached image op (sound.logged.lawful op logged) p.location (new_site op p h))

  -- the site of each of its mappings is its own
  pub own_one : IsOwnAt op op.olds.one image
  own_one p e = own_old p (one_listed op.olds.one op.olds.two p e)

  pub own_two : IsOwnAt op op.olds.two image
  own_two p e = own_old p (two_listed op.olds.one op.olds.two p e)

  pub new_one : IsOwnAt op op.news.one image
  new_one p e = own_new p (one_listed op.news.one op.news.two p e)

  pub new_two : IsOwnAt op op.news.two image
  new_two p e = own_new p (two_listed op.news.one op.news.two p e)

-- ---- one call after another

-- what failed promises no more
pub sites_failed : (op : Op) (ok other : Type 0) (D E : Image → Type 0) (image : Image) (hs : List Happening) → (other → ⊥) → PlainsSites op ok D image hs → PlainsSites op other E image hs
sites_failed op ok other D E image hs never p = record { course = p.course; done = λ k. absurd (never k) }

-- Two mappings' sites, one after the other.
module _ (op : Op) (one two done : Option Piece) (ok : Type 0) (image : Image) (hs gs : List Happening) where
  abbrev BothPlain : Image → Type 0
  BothPlain after = IsPlainAt op one after × IsPlainAt op two after

  pub both_done :
      (Sound image → HasLog (global image).log op → IsOwnAt op one image → IsPlainAt op done image → PlainsSites op (true ≡ true) (IsPlainAt op one) image hs)
      → (Sound (after_all image hs) → HasLog (global (after_all image hs)).log op → IsOwnAt op two (after_all image hs) → IsPlainAt op one (after_all image hs) → PlainsSites op ok (IsPlainAt op two) (after_all image hs) gs)
      → Sound image → HasLog (global image).log op → IsOwnAt op one image → IsOwnAt op two image → IsPlainAt op done image → PlainsSites op ok BothPlain image (hs ++ gs)
  both_done p q sound logged a1 a2 d =
      let r = p sound logged a1 d in
      let s = course_stays op image hs sound logged r.course in
      let t = q s.sound s.logged (λ x e. own_later op image (after_all image hs) x.location s (a2 x e)) (r.done refl) in
      let u = course_stays op (after_all image hs) gs s.sound s.logged t.course in
      record { course = course_then (UndoesAt op) image hs gs r.course t.course; done = λ k. subst BothPlain (after_then image hs gs) (λ x e. u.plain x.location (r.done refl x e), t.done k) }

all_plain : (op : Op) (image : Image) (one two : Option Piece) → IsPlainAt op one image → IsPlainAt op two image → (p : Piece) → IsOneOf (option_to_list one ++ option_to_list two) p → IsSweptPlain op (locals_at image p.location)
all_plain op image one two f g p h = elim (one_of_two (option_to_list one) (option_to_list two) p h) [ inl m ↦ by one f m | inr m ↦ by two g m ]
  where
    by : (o : Option Piece) → IsPlainAt op o image → IsOneOf (option_to_list o) p → IsSweptPlain op (locals_at image p.location)
    by None f m = absurd m
    by (Some x) f (inl e) = f p (ap Some e)
    by (Some x) f (inr m) = absurd m

-- The olds' sites, and then the news'.
module _ (op : Op) (ok : Type 0) (image : Image) (hs gs : List Happening) where
  pub sites_done :
      (Sound image → HasLog (global image).log op → IsOwnAt op op.olds.one image → IsOwnAt op op.olds.two image → IsPlainAt op None image → PlainsSites op (true ≡ true) (λ after. IsPlainAt op op.olds.one after × IsPlainAt op op.olds.two after) image hs)
      → (Sound (after_all image hs) → HasLog (global (after_all image hs)).log op → IsOwnAt op op.news.one (after_all image hs) → IsOwnAt op op.news.two (after_all image hs) → IsPlainAt op op.olds.one (after_all image hs) → PlainsSites op ok (λ after. IsPlainAt op op.news.one after × IsPlainAt op op.news.two after) (after_all image hs) gs)
      → Sound image → HasLog (global image).log op → PlainsSites op ok (λ after. IsUndone after op) image (hs ++ gs)
  sites_done p q sound logged =
      let r = p sound logged (own_one image op sound logged) (own_two image op sound logged) (λ x e. absurd (none-some x e)) in
      let s = course_stays op image hs sound logged r.course in
      let t = q s.sound s.logged (λ x e. own_later op image (after_all image hs) x.location s (new_one image op sound logged x e)) (λ x e. own_later op image (after_all image hs) x.location s (new_two image op sound logged x e)) (r.done refl).0 in
      let u = course_stays op (after_all image hs) gs s.sound s.logged t.course in
      record {
        course = course_then (UndoesAt op) image hs gs r.course t.course;
        done = λ k. subst (λ i. IsUndone i op) (after_then image hs gs) (record {
          olds = λ p h. u.plain p.location (all_plain op (after_all image hs) op.olds.one op.olds.two (r.done refl).0 (r.done refl).1 p h);
          news = λ p h. all_plain op (after_all (after_all image hs) gs) op.news.one op.news.two (t.done k).0 (t.done k).1 p h;
        });
      }

  -- The log row goes at last.
  pub undo_done :
      (Sound image → HasLog (global image).log op → PlainsSites op (true ≡ true) (λ after. IsUndone after op) image hs)
      → (HasLog (global (after_all image hs)).log op → IsUndone (after_all image hs) op → DropsRow op ok (after_all image hs) gs)
      → Sound image → HasLog (global image).log op → UndoesOp op ok image (hs ++ gs)
  undo_done p q sound logged =
      let r = p sound logged in
      let s = course_stays op image hs sound logged r.course in
      let t = q s.logged (r.done refl) in
      record {
        course = course_then (UndoStep op) image hs gs (course_weaker (UndoesAt op) (UndoStep op) (λ i p c h. AtSite h) image hs r.course) (course_weaker (Drops op) (UndoStep op) (λ i p c h. LogRow h) (after_all image hs) gs t.course);
        gone = λ k. ap (λ i. (global i).log) (sym (after_then image hs gs)) ∙ ap (λ i. (global i).log) (t.gone k) ∙ ap (λ l. map.remove l op.number) s.log;
      }

pub undo_failed : (op : Op) (ok other : Type 0) (image : Image) (hs : List Happening) → (other → ⊥) → PlainsSites op ok (λ after. IsUndone after op) image hs → UndoesOp op other image hs
undo_failed op ok other image hs never p = record { course = course_weaker (UndoesAt op) (UndoStep op) (λ i p c h. AtSite h) image hs p.course; gone = λ k. absurd (never k) }

-- where the olds' sites failed nothing more is done
pub sites_stopped : (op : Op) (ok other : Type 0) (D : Image → Type 0) (image : Image) (hs : List Happening) → (other → ⊥)
    → (Sound image → HasLog (global image).log op → IsOwnAt op op.olds.one image → IsOwnAt op op.olds.two image → IsPlainAt op None image → PlainsSites op ok D image hs)
    → Sound image → HasLog (global image).log op → PlainsSites op other (λ after. IsUndone after op) image hs
sites_stopped op ok other D image hs never p sound logged =
    sites_failed op ok other D (λ after. IsUndone after op) image hs never
    (p sound logged (own_one image op sound logged) (own_two image op sound logged) (λ x e. absurd (none-some x e)))
