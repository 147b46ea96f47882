-- The settling of a committed operation, on images and in its calls.
use Rattle.std.proofs.Common.{◌≡◌, ◌⊎◌, ◌+◌, Bool, true, false, refl, sym, ap, ◌∙◌, subst, Some, None, Option, inl, inr, List, [], ◌++◌, length, length-append, true≢false, arith}
use Rattle.std.specs.Prelude.{Result, IsOk, IsTrue, IfSome, option_to_list}
use Rattle.std.specs.FinMap as map
use Rattle.std.proofs.lemmas.Bool.{cases_Bool}
use Rattle.std.proofs.lemmas.Option.{same_Some, none-some}
use Rattle.cell_world.specs.Texts.{Text}
use Rattle.cell_world.specs.Keys.{same, is_among}
use Rattle.cell_world.specs.Lists.{IsOneOf}
use Rattle.cell_world.specs.Stores.{Store, Locals, changed}
use Rattle.cell_world.specs.Images.{Image, Place, Shard, Happening, global, with_store, after_all}
use Rattle.cell_world.specs.Marked.{HasNoMark}
use Rattle.cell_world.specs.Operations.{sites_of}
use Rattle.cell_world.specs.Outside.{Outside, IfContents, IsLater, site_number}
use Rattle.cell_world.specs.Plain.{is_attached}
use Rattle.cell_world.specs.Sound.{Sound, IsAttachedIn, locals_at}
use Rattle.cell_world.specs.declared.cells.Site.{Site}
use Rattle.cell_world.specs.declared.operations.Op.{Op}
use Rattle.cell_world.specs.declared.changes.Edit.{Edit}
use Rattle.cell_world.proofs.ContentsLaws.{contents_all, contents_weaker}
use Rattle.cell_world.proofs.OutsideLaws.{later_same}
use Rattle.cell_world.proofs.SpanLaws.{same_is}
use Rattle.global_tables.specs.declared.faults.StepFault.{StepFault}
use Rattle.image_laws.specs.LocalSteps.{IsSettled, with_locals}
use Rattle.image_laws.specs.RowEdits.{Leaves}
use Rattle.image_laws.proofs.StepImages.{settle_sound, settled_clean}
use Rattle.image_laws.proofs.UnderWayLaws.{locals_here, locals_elsewhere}
use Rattle.local_tables.specs.Altering.{IsSiteOf, to_settle, if_any, edits_of}
use Rattle.local_tables.proofs.AlteredRows.{settle_made}
use Rattle.local_tables.proofs.NothingToDo.{nothing_to_settle}
use Rattle.op_log.specs.Sites.{AreAtMostTwo, locations_in}
use Rattle.op_log.specs.declared.sites.Sites.{Sites}
use Rattle.op_steps.specs.Passing.{Passes, IsCourse, IsTryOf, TriesAt, changed_at}
use Rattle.op_steps.specs.Advancing.{SettlesAt, Settles, SettlesIf, SettlesBoth}
use Rattle.op_steps.proofs.Courses.{course_keeps, course_then, after_then, tried_once}
use Rattle.op_steps.proofs.MarkLaws.{leaves_nothing, leaves_there}
use Rattle.op_steps.proofs.Passes.{passes_none, passes_found, passes_weaker}
use Rattle.op_steps.proofs.UndoCalls.{err_not_ok, place_of_site}
use Rattle.op_steps.proofs.UndoLaws.{edits_are}

-- ---- what settling leaves

-- Nothing but local rows changes, and a site without marks of the operation stays so.
pub record StaysClean (op : Op) (image now : Image) : Type 0 where
  pub sound : Sound now
  pub globals : global now ≡ global image
  pub locations : now.locations ≡ image.locations
  pub clean : (l : Text) → HasNoMark op (locals_at image l) → HasNoMark op (locals_at now l)

step_clean : (op : Op) (first image : Image) (place : Place) (change : List Edit) → StaysClean op first image → SettlesAt op image place change → StaysClean op first (changed_at image place change)
step_clean op first image place change s u = subst (StaysClean op first) (sym u.is) (record {
  sound = settle_sound image s.sound op.number u.out u.location u.here u.last u.settled;
  globals = s.globals;
  locations = s.locations;
  clean = λ l h. elim (cases_Bool (same u.location l)) [
    | inl t ↦ subst (λ y. HasNoMark op (locals_at (with_locals image u.location u.last) y)) (same_is u.location l t) (subst (HasNoMark op) (sym (locals_here image u.location u.last)) (settled_clean op (locals_at image u.location) u.last u.settled))
    | inr t ↦ subst (HasNoMark op) (sym (locals_elsewhere image u.location l u.last t)) (s.clean l h)
  ];
})

pub course_clean : (op : Op) (image : Image) (hs : List Happening) → Sound image → IsCourse (SettlesAt op) image hs → StaysClean op image (after_all image hs)
course_clean op image hs sound c = course_keeps (SettlesAt op) (StaysClean op image) (step_clean op image) image hs (record { sound = sound; globals = refl; locations = refl; clean = λ l h. h }) c

pub attached_after : (op : Op) (image now : Image) → StaysClean op image now → (l : Text) → IsAttachedIn image l → IsAttachedIn now l
attached_after op image now s l h = record { known = subst (λ ls. IsTrue (is_among ls l)) (sym s.locations) h.known; attached = subst (λ (g : Store). IsTrue (is_attached (map.get g.away l))) (sym s.globals) h.attached }

pub attached_before : (op : Op) (image now : Image) → StaysClean op image now → (l : Text) → IsAttachedIn now l → IsAttachedIn image l
attached_before op image now s l h = record { known = subst (λ ls. IsTrue (is_among ls l)) s.locations h.known; attached = subst (λ (g : Store). IsTrue (is_attached (map.get g.away l))) s.globals h.attached }

-- ---- at one site

module _ (image : Image) (op : Op) (sound : Sound image) (out : map.get (global image).log op.number ≡ None) (l : Text) (own : IsOneOf (sites_of op) l) (here : IsAttachedIn image l) where
  abbrev Clean : Locals → Type 0
  Clean = IsSettled op.number (locals_at image l)

  abbrev settling : List Edit
  settling = to_settle op (locals_at image l)

  pub settle_nothing : (change : Option (List Edit)) → change ≡ None → change ≡ if_any settling → Settles op l (true ≡ true) image []
  settle_nothing change is e =
      let v = subst (λ c. Leaves image l (edits_of c) Clean) is (settle_made image sound op l change e) in
      record { course = tt; few = omega arith; clean = λ k a. settled_clean op (locals_at image l) (locals_at image l) (leaves_nothing image l Clean v) }

  module _ (edits : List Edit) (e : Some edits ≡ if_any settling) (v : Leaves image l edits Clean) where
    abbrev there : Image
    there = with_store image (Shard l) (changed (image.at (Shard l)) edits)

    settles : SettlesAt op image (Shard l) edits
    settles = record {
      out = out;
      location = l;
      own = own;
      here = here;
      not_yet = λ clean. none-some edits ((nothing_to_settle op (locals_at image l) (sound.keyed (Shard l)).locals).1 clean ∙ sym e);
      place_is = refl;
      edits = edits_are edits settling e;
      last = v.0;
      settled = v.2;
      is = leaves_there image l edits Clean v;
    }

    clean_there : HasNoMark op (locals_at there l)
    clean_there = subst (HasNoMark op) (sym (ap (λ i. locals_at i l) (leaves_there image l edits Clean v) ∙ locals_here image l v.0)) (settled_clean op (locals_at image l) v.0 v.2)

    settle_tried : (result : Result (Unit {0}) StepFault) (hs : List Happening) → IsTryOf (Shard l) edits result hs → Settles op l (IsOk result) image hs
    settle_tried result hs h = let r = tried_once (SettlesAt op) image (Shard l) edits settles result hs h in record { course = r.course; few = r.few; clean = λ k a. subst (λ i. HasNoMark op (locals_at i l)) (sym (r.made k)) clean_there }

  pub settle_some : (edits : List Edit) (change : Option (List Edit)) → change ≡ Some edits → change ≡ if_any settling → (result : Result (Unit {0}) StepFault) (hs : List Happening) → IsTryOf (Shard l) edits result hs → Settles op l (IsOk result) image hs
  settle_some edits change is e result hs h = settle_tried edits (sym is ∙ e) (subst (λ c. Leaves image l (edits_of c) Clean) is (settle_made image sound op l change e)) result hs h

-- ---- the calls

abbrev pub SettlesOne : Op → Text → Type 0 → Image → List Happening → Type 0
SettlesOne op l ok image hs = Sound image → IsOneOf (sites_of op) l → IsTrue (is_among image.locations l) → map.get (global image).log op.number ≡ None → Settles op l ok image hs

abbrev pub SettlesHere : Op → Text → Type 0 → Image → List Happening → Type 0
SettlesHere op l ok image hs = IsTrue (is_attached (map.get (global image).away l)) → SettlesOne op l ok image hs

pub settle_none : (op : Op) (l : Text) (e : StepFault) (a b : Outside) → b.told ≡ a.told → IsLater a b → Passes (SettlesHere op l (false ≡ true)) a b
settle_none op l e a b told later = passes_none (SettlesHere op l (false ≡ true)) a b told later
    (contents_all a.told (λ image. SettlesHere op l (false ≡ true) image []) (λ image at sound own known out. record { course = tt; few = omega arith; clean = λ k. absurd (err_not_ok e k) }))

pub settle_failed : (op : Op) (l : Text) (e : StepFault) (a b : Outside) → b.told ≡ a.told → IsLater a b → Passes (SettlesOne op l (false ≡ true)) a b
settle_failed op l e a b told later = passes_none (SettlesOne op l (false ≡ true)) a b told later
    (contents_all a.told (λ image. SettlesOne op l (false ≡ true) image []) (λ image sound own known out. record { course = tt; few = omega arith; clean = λ k. absurd (err_not_ok e k) }))

abbrev TellsSettle : Op → Text → Option (List Edit) → Image → Type 0
TellsSettle op l change image = change ≡ if_any (to_settle op (locals_at image l))

abbrev TellsAt : Outside → Site → Op → Option (List Edit) → Image → Type 0
TellsAt o site op change image = (l : Text) → IsSiteOf o site l → change ≡ if_any (to_settle op (locals_at image l))

tells_at : (o : Outside) (op : Op) (l : Text) (site : Site) (change : Option (List Edit)) → Some site ≡ site_number o.locations l → IfContents o.told (TellsAt o site op change) → IfContents o.told (TellsSettle op l change)
tells_at o op l site change e tells = contents_weaker o.told (TellsAt o site op change) (TellsSettle op l change) (λ image f. f l (place_of_site o l site e)) tells

pub settles_nothing : (op : Op) (l : Text) (site : Site) (a b : Outside) (change : Option (List Edit)) → change ≡ None → Some site ≡ site_number a.locations l → b.told ≡ a.told → IsLater a b → IfContents a.told (TellsAt a site op change) → Passes (SettlesHere op l (true ≡ true)) a b
settles_nothing op l site a b change is e told later tells = passes_none (SettlesHere op l (true ≡ true)) a b told later
    (contents_weaker a.told (TellsSettle op l change) (λ image. SettlesHere op l (true ≡ true) image []) (λ image f at sound own known out. settle_nothing image op sound out l own (record { known = known; attached = at }) change is f) (tells_at a op l site change e tells))

pub settles_some : (op : Op) (l : Text) (site : Site) (edits : List Edit) (result : Result (Unit {0}) StepFault) (a b c : Outside) (change : Option (List Edit)) → change ≡ Some edits → Some site ≡ site_number a.locations l → b.told ≡ a.told → IsLater a b
    → IfContents a.told (TellsAt a site op change) → TriesAt (Shard l) edits result b c → Passes (SettlesHere op l (IsOk result)) a c
settles_some op l site edits result a b c change is e told later tells tries =
    passes_found (TellsSettle op l change) (λ image hs. IsTryOf (Shard l) edits result hs) (SettlesHere op l (IsOk result)) a b c told later (tells_at a op l site change e tells) tries
    (λ image hs f h at sound own known out. settle_some image op sound out l own (record { known = known; attached = at }) edits change is f result hs h)

-- at a site that is attached, or isn't
pub settle_attached : (op : Op) (l : Text) (attached : Bool) (ok : Type 0) (a b c : Outside) → attached ≡ true → b.told ≡ a.told → IsLater a b → IfContents a.told (λ image. attached ≡ is_attached (map.get (global image).away l)) → Passes (SettlesHere op l ok) b c → Passes (SettlesOne op l ok) a c
settle_attached op l attached ok a b c is told later found p = passes_found (λ image. attached ≡ is_attached (map.get (global image).away l)) (SettlesHere op l ok) (SettlesOne op l ok) a b c told later found p (λ image hs e f. f (sym e ∙ is))

pub settle_away : (op : Op) (l : Text) (attached : Bool) (a b : Outside) → attached ≡ false → b.told ≡ a.told → IsLater a b → IfContents a.told (λ image. attached ≡ is_attached (map.get (global image).away l)) → Passes (SettlesOne op l (true ≡ true)) a b
settle_away op l attached a b is told later found = passes_none (SettlesOne op l (true ≡ true)) a b told later
    (contents_weaker a.told (λ image. attached ≡ is_attached (map.get (global image).away l)) (λ image. SettlesOne op l (true ≡ true) image []) (λ image e sound own known out. record { course = tt; few = omega arith; clean = λ k at. absurd (true≢false (sym at.attached ∙ sym e ∙ is)) }) found)

-- ---- at a site, if there is one

abbrev pub SettlesMaybe : Op → Option Text → Type 0 → Image → List Happening → Type 0
SettlesMaybe op o ok image hs = Sound image → IfSome o (λ l. IsOneOf (sites_of op) l × IsTrue (is_among image.locations l)) → map.get (global image).log op.number ≡ None → SettlesIf op o ok image hs

pub no_site : (op : Op) (o : Option Text) (a : Outside) → o ≡ None → Passes (SettlesMaybe op o (true ≡ true)) a a
no_site op o a is = subst (λ x. Passes (SettlesMaybe op x (true ≡ true)) a a) (sym is) (passes_none (SettlesMaybe op None (true ≡ true)) a a refl (later_same a)
    (contents_all a.told (λ image. SettlesMaybe op None (true ≡ true) image []) (λ image sound known out. record { course = tt; few = omega arith; clean = λ k l e. absurd (none-some l e) })))

pub some_site : (op : Op) (o : Option Text) (l : Text) (ok : Type 0) (a b : Outside) → o ≡ Some l → Passes (SettlesOne op l ok) a b → Passes (SettlesMaybe op o ok) a b
some_site op o l ok a b is p = subst (λ x. Passes (SettlesMaybe op x ok) a b) (sym is) (passes_weaker (SettlesOne op l ok) (SettlesMaybe op (Some l) ok) a b
    (λ image hs f sound known out. let r = f sound known.0 known.1 out in record { course = r.course; few = r.few; clean = λ k x e at. let same : l ≡ x = same_Some l x e in subst (λ y. HasNoMark op (locals_at (after_all image hs) y)) same (r.clean k (subst (IsAttachedIn image) (sym same) at)) }) p)

-- ---- at both sites

abbrev pub SettlesAll : Op → Type 0 → Image → List Happening → Type 0
SettlesAll op ok image hs = Sound image → AreAtMostTwo (sites_of op) → ((l : Text) → IsOneOf (sites_of op) l → IsTrue (is_among image.locations l)) → map.get (global image).log op.number ≡ None → SettlesBoth op ok image hs

-- what is listed of the sites
abbrev pub Gathered : Op → Sites → Type 0
Gathered op sites = AreAtMostTwo (sites_of op) → (l : Text) → (IsOneOf (locations_in sites) l → IsOneOf (sites_of op) l) × (IsOneOf (sites_of op) l → IsOneOf (locations_in sites) l)

known_one : (o : Option Text) (Known : Text → Type 0) → ((l : Text) → o ≡ Some l → Known l) → IfSome o Known
known_one None Known f = tt
known_one (Some l) Known f = f l refl

one_in : (one two : Option Text) (l : Text) → one ≡ Some l → IsOneOf (option_to_list one ++ option_to_list two) l
one_in None two l e = absurd (none-some l e)
one_in (Some x) two l e = inl (same_Some x l e)

two_in : (one two : Option Text) (l : Text) → two ≡ Some l → IsOneOf (option_to_list one ++ option_to_list two) l
two_in None None l e = absurd (none-some l e)
two_in None (Some x) l e = inl (same_Some x l e)
two_in (Some y) None l e = absurd (none-some l e)
two_in (Some y) (Some x) l e = inr (inl (same_Some x l e))

in_either : (one two : Option Text) (l : Text) → IsOneOf (option_to_list one ++ option_to_list two) l → (one ≡ Some l) ⊎ (two ≡ Some l)
in_either None None l h = absurd h
in_either None (Some x) l (inl e) = inr (ap Some e)
in_either None (Some x) l (inr h) = absurd h
in_either (Some x) two l (inl e) = inl (ap Some e)
in_either (Some x) None l (inr h) = absurd h
in_either (Some x) (Some y) l (inr (inl e)) = inr (ap Some e)
in_either (Some x) (Some y) l (inr (inr h)) = absurd h

module _ (op : Op) (sites : Sites) (gathered : Gathered op sites) (ok : Type 0) (image : Image) (hs gs : List Happening) where
  pub both_settled : SettlesMaybe op sites.one (true ≡ true) image hs → SettlesMaybe op sites.two ok (after_all image hs) gs → SettlesAll op ok image (hs ++ gs)
  both_settled p q sound most known out =
      let all = gathered most in
      let r = p sound (known_one sites.one (λ l. IsOneOf (sites_of op) l × IsTrue (is_among image.locations l)) (λ l e. let m = (all l).0 (one_in sites.one sites.two l e) in (m, known l m))) out in
      let s = course_clean op image hs sound r.course in
      let t = q s.sound (known_one sites.two (λ l. IsOneOf (sites_of op) l × IsTrue (is_among (after_all image hs).locations l)) (λ l e. let m = (all l).0 (two_in sites.one sites.two l e) in (m, subst (λ ls. IsTrue (is_among ls l)) (sym s.locations) (known l m)))) (ap (λ (g : Store). map.get g.log op.number) s.globals ∙ out) in
      let u = course_clean op (after_all image hs) gs s.sound t.course in
      record {
        course = course_then (SettlesAt op) image hs gs r.course t.course;
        few = let n : length (hs ++ gs) ≡ length hs + length gs = length-append hs gs in omega (arith, n, r.few, t.few);
        clean = λ k l h at. subst (λ i. HasNoMark op (locals_at i l)) (after_then image hs gs) (elim (in_either sites.one sites.two l ((all l).1 h)) [
          | inl e ↦ u.clean l (r.clean refl l e at)
          | inr e ↦ t.clean k l e (attached_after op image (after_all image hs) s l at)
        ]);
      }

pub first_failed : (op : Op) (sites : Sites) → Gathered op sites → (ok : Type 0) → (ok → ⊥) → (image : Image) (hs : List Happening) → SettlesMaybe op sites.one ok image hs → SettlesAll op ok image hs
first_failed op sites gathered ok never image hs p sound most known out =
    let r = p sound (known_one sites.one (λ l. IsOneOf (sites_of op) l × IsTrue (is_among image.locations l)) (λ l e. let m = (gathered most l).0 (one_in sites.one sites.two l e) in (m, known l m))) out in
    record { course = r.course; few = omega (arith, r.few); clean = λ k. absurd (never k) }
