-- The local step of an operation at a site, on images and in its calls.
use Rattle.std.proofs.Common.{◌≡◌, true, false, refl, sym, ap, ◌∙◌, subst, Some, None, Option, inl, inr, List, [], ◌∷◌, true≢false, arith}
use Rattle.std.specs.Prelude.{Result, Err, IsOk, option_to_list}
use Rattle.std.proofs.lemmas.Option.{none-some}
use Rattle.cell_world.specs.Texts.{Text}
use Rattle.cell_world.specs.Lists.{IsOneOf}
use Rattle.cell_world.specs.Keys.{same}
use Rattle.cell_world.specs.Stores.{Store, Locals, changed}
use Rattle.cell_world.specs.Images.{Image, Shard, Happening, global, with_store}
use Rattle.cell_world.specs.Operations.{locations_of}
use Rattle.cell_world.specs.Outside.{Outside, IfContents, IsLater, site_number}
use Rattle.cell_world.specs.Sound.{Sound, HasLog, locals_at}
use Rattle.cell_world.specs.UnderWay.{IsDone, IsUnderWay}
use Rattle.cell_world.specs.declared.cells.Site.{Site}
use Rattle.cell_world.specs.declared.operations.Op.{Op}
use Rattle.cell_world.specs.declared.operations.Piece.{Piece}
use Rattle.cell_world.specs.declared.changes.Edit.{Edit}
use Rattle.cell_world.proofs.ContentsLaws.{contents_all, contents_weaker}
use Rattle.cell_world.proofs.OutsideLaws.{later_same}
use Rattle.cell_world.proofs.SpanLaws.{same_is, same_self}
use Rattle.global_tables.specs.declared.faults.StepFault.{StepFault}
use Rattle.image_laws.specs.LocalSteps.{IsStepped, with_locals}
use Rattle.image_laws.specs.RowEdits.{Leaves}
use Rattle.image_laws.proofs.StepLaws.{stepped_done}
use Rattle.image_laws.proofs.UnderWayLaws.{step_leads}
use Rattle.local_tables.specs.Altering.{IsSiteOf, to_mark, if_any, edits_of}
use Rattle.local_tables.proofs.AlteredRows.{mark_made}
use Rattle.local_tables.proofs.NothingToDo.{nothing_to_mark}
use Rattle.op_steps.specs.Passing.{Passes, IsTryOf, FailsByMemory, TriesAt}
use Rattle.op_steps.specs.Undoing.{IsOwnSite, IsOwnAt}
use Rattle.op_steps.specs.Advancing.{StepsAt, Marks, sites_with}
use Rattle.op_steps.proofs.Courses.{tried_once}
use Rattle.op_steps.proofs.Passes.{passes_none, passes_found, passes_weaker}
use Rattle.op_steps.proofs.UndoLaws.{edits_are}
use Rattle.op_steps.proofs.UndoCalls.{err_not_ok, place_of_site}

-- ---- a local change

-- without edits the rows are so already
pub leaves_nothing : (image : Image) (l : Text) (Is : Locals → Type 0) → Leaves image l [] Is → Is (locals_at image l)
leaves_nothing image l Is v = subst Is (sym (ap (λ (s : Store). s.locals) v.1)) v.2

-- with edits the image has such rows
pub leaves_there : (image : Image) (l : Text) (edits : List Edit) (Is : Locals → Type 0) (v : Leaves image l edits Is) → with_store image (Shard l) (changed (image.at (Shard l)) edits) ≡ with_locals image l v.0
leaves_there image l edits Is v = ap (with_store image (Shard l)) v.1

-- ---- the step

done_of : (image : Image) (op : Op) (l : Text) (after : Locals) → IsStepped (global image).log op l (locals_at image l) after → IsDone op l after
done_of image op l after s = stepped_done (global image).log op l (locals_at image l) s.middle after s.swept s.born

-- one site more at which it is done
pub under_way_more : (image : Image) (op : Op) (sites : List Text) (l : Text) → IsUnderWay image op sites → IsDone op l (locals_at image l) → IsUnderWay image op (l ∷ sites)
under_way_more image op sites l w d = record {
  logged = w.logged;
  done = λ x h. by x h;
  unborn = λ x here out. w.unborn x here (λ m. out (inr m));
}
  where
    by : (x : Text) → IsOneOf (l ∷ sites) x → IsDone op x (locals_at image x)
    by x (inl e) = subst (λ y. IsDone op y (locals_at image y)) e d
    by x (inr m) = w.done x m

module _ (image : Image) (op : Op) (sites : List Text) (sound : Sound image) (w : IsUnderWay image op sites) (l : Text) (site : IsOwnSite op l image) (out : IsOneOf sites l → ⊥) where
  abbrev Stepped : Locals → Type 0
  Stepped = IsStepped (global image).log op l (locals_at image l)

  abbrev marks : List Edit
  marks = to_mark (global image).log op l (locals_at image l)

  pub mark_nothing : (change : Option (List Edit)) → change ≡ None → change ≡ if_any marks → Marks op (l ∷ sites) (true ≡ true) ⊥ image []
  mark_nothing change is e =
      let v = subst (λ c. Leaves image l (edits_of c) Stepped) is (mark_made image sound op w.logged l change e) in
      record { course = tt; few = omega arith; done = λ k. under_way_more image op sites l w (done_of image op l (locals_at image l) (leaves_nothing image l Stepped v)); untried = λ k. absurd k }

  module _ (edits : List Edit) (e : Some edits ≡ if_any marks) (v : Leaves image l edits Stepped) where
    abbrev there : Image
    there = with_store image (Shard l) (changed (image.at (Shard l)) edits)

    steps : StepsAt op image (Shard l) edits
    steps = record {
      logged = w.logged;
      location = l;
      site = site;
      unborn = w.unborn l site.here out;
      not_yet = λ done. none-some edits ((nothing_to_mark (global image).log op l (locals_at image l) (sound.keyed (Shard l)).locals (w.unborn l site.here out)).1 done ∙ sym e);
      place_is = refl;
      edits = edits_are edits marks e;
      last = v.0;
      stepped = v.2;
      is = leaves_there image l edits Stepped v;
    }

    leads : IsUnderWay there op (l ∷ sites)
    leads = subst (λ i. IsUnderWay i op (l ∷ sites)) (sym (leaves_there image l edits Stepped v)) (step_leads image op sites w l v.0 (done_of image op l v.0 v.2))

    mark_tried : (result : Result (Unit {0}) StepFault) (hs : List Happening) → IsTryOf (Shard l) edits result hs → Marks op (l ∷ sites) (IsOk result) (FailsByMemory result) image hs
    mark_tried result hs h = let r = tried_once (StepsAt op) image (Shard l) edits steps result hs h in record { course = r.course; few = r.few; done = λ k. subst (λ i. IsUnderWay i op (l ∷ sites)) (sym (r.made k)) leads; untried = r.untried }

  pub mark_some : (edits : List Edit) (change : Option (List Edit)) → change ≡ Some edits → change ≡ if_any marks → (result : Result (Unit {0}) StepFault) (hs : List Happening) → IsTryOf (Shard l) edits result hs → Marks op (l ∷ sites) (IsOk result) (FailsByMemory result) image hs
  mark_some edits change is e result hs h = mark_tried edits (sym is ∙ e) (subst (λ c. Leaves image l (edits_of c) Stepped) is (mark_made image sound op w.logged l change e)) result hs h

-- ---- the calls

-- What the step at a site makes of a sound image on which the operation is under way.
abbrev pub MarksOne : Op → Text → Type 0 → Type 0 → Image → List Happening → Type 0
MarksOne op l ok memory image hs = (sites : List Text) → Sound image → IsUnderWay image op sites → IsOwnSite op l image → (IsOneOf sites l → ⊥) → Marks op (l ∷ sites) ok memory image hs

-- it failed
abbrev failed : StepFault → Result (Unit {0}) StepFault
failed e = Err e

pub mark_none : (op : Op) (l : Text) (e : StepFault) (a b : Outside) → b.told ≡ a.told → IsLater a b → Passes (MarksOne op l (IsOk (failed e)) (FailsByMemory (failed e))) a b
mark_none op l e a b told later = passes_none (MarksOne op l (IsOk (failed e)) (FailsByMemory (failed e))) a b told later
    (contents_all a.told (λ image. MarksOne op l (IsOk (failed e)) (FailsByMemory (failed e)) image []) (λ image sites sound w here out. record { course = tt; few = omega arith; done = λ k. absurd (err_not_ok e k); untried = λ k. refl }))

abbrev TellsMark : Op → Text → Option (List Edit) → Image → Type 0
TellsMark op l change image = HasLog (global image).log op → change ≡ if_any (to_mark (global image).log op l (locals_at image l))

abbrev TellsAt : Outside → Site → Op → Option (List Edit) → Image → Type 0
TellsAt o site op change image = HasLog (global image).log op → (l : Text) → IsSiteOf o site l → change ≡ if_any (to_mark (global image).log op l (locals_at image l))

tells_at : (o : Outside) (op : Op) (l : Text) (site : Site) (change : Option (List Edit)) → Some site ≡ site_number o.locations l → IfContents o.told (TellsAt o site op change) → IfContents o.told (TellsMark op l change)
tells_at o op l site change e tells = contents_weaker o.told (TellsAt o site op change) (TellsMark op l change) (λ image f logged. f logged l (place_of_site o l site e)) tells

pub marks_nothing : (op : Op) (l : Text) (site : Site) (a b : Outside) (change : Option (List Edit)) → change ≡ None → Some site ≡ site_number a.locations l → b.told ≡ a.told → IsLater a b → IfContents a.told (TellsAt a site op change) → Passes (MarksOne op l (true ≡ true) ⊥) a b
marks_nothing op l site a b change is e told later tells = passes_none (MarksOne op l (true ≡ true) ⊥) a b told later
    (contents_weaker a.told (TellsMark op l change) (λ image. MarksOne op l (true ≡ true) ⊥ image []) (λ image f sites sound w here out. mark_nothing image op sites sound w l here out change is (f w.logged)) (tells_at a op l site change e tells))

pub marks_some : (op : Op) (l : Text) (site : Site) (edits : List Edit) (result : Result (Unit {0}) StepFault) (a b c : Outside) (change : Option (List Edit)) → change ≡ Some edits → Some site ≡ site_number a.locations l → b.told ≡ a.told → IsLater a b
    → IfContents a.told (TellsAt a site op change) → TriesAt (Shard l) edits result b c → Passes (MarksOne op l (IsOk result) (FailsByMemory result)) a c
marks_some op l site edits result a b c change is e told later tells tries =
    passes_found (TellsMark op l change) (λ image hs. IsTryOf (Shard l) edits result hs) (MarksOne op l (IsOk result) (FailsByMemory result)) a b c told later (tells_at a op l site change e tells) tries
    (λ image hs f h sites sound w here out. mark_some image op sites sound w l here out edits change is (f w.logged) result hs h)

-- ---- at the site of a mapping

abbrev pub MarksBeside : Op → Option Piece → Option Piece → Type 0 → Type 0 → Image → List Happening → Type 0
MarksBeside op piece done ok memory image hs = Sound image → IsUnderWay image op (locations_of (option_to_list done)) → IsOwnAt op piece image → Marks op (sites_with piece done) ok memory image hs

pub no_mark : (op : Op) (o done : Option Piece) (a : Outside) → o ≡ None → Passes (MarksBeside op o done (true ≡ true) ⊥) a a
no_mark op o done a is = subst (λ x. Passes (MarksBeside op x done (true ≡ true) ⊥) a a) (sym is) (passes_none (MarksBeside op None done (true ≡ true) ⊥) a a refl (later_same a)
    (contents_all a.told (λ image. MarksBeside op None done (true ≡ true) ⊥ image []) (λ image sound w here. record { course = tt; few = omega arith; done = λ k. w; untried = λ k. absurd k })))

pub mark_same : (op : Op) (o d : Option Piece) (piece done : Piece) (a : Outside) → o ≡ Some piece → d ≡ Some done → same piece.location done.location ≡ true → Passes (MarksBeside op o d (true ≡ true) ⊥) a a
mark_same op o d piece done a is was t = subst (λ (x : Option Piece × Option Piece). Passes (MarksBeside op x.0 x.1 (true ≡ true) ⊥) a a) (λ i. (sym is i, sym was i)) (passes_none (MarksBeside op (Some piece) (Some done) (true ≡ true) ⊥) a a refl (later_same a)
    (contents_all a.told (λ image. MarksBeside op (Some piece) (Some done) (true ≡ true) ⊥ image []) (λ image sound w here. record {
      course = tt;
      few = omega arith;
      done = λ k. under_way_more image op (done.location ∷ []) piece.location w (w.done piece.location (inl (sym (same_is piece.location done.location t))));
      untried = λ k. absurd k;
    })))

pub mark_first : (op : Op) (o d : Option Piece) (piece : Piece) (ok memory : Type 0) (a b : Outside) → o ≡ Some piece → d ≡ None → Passes (MarksOne op piece.location ok memory) a b → Passes (MarksBeside op o d ok memory) a b
mark_first op o d piece ok memory a b is was p = subst (λ (x : Option Piece × Option Piece). Passes (MarksBeside op x.0 x.1 ok memory) a b) (λ i. (sym is i, sym was i)) (passes_weaker (MarksOne op piece.location ok memory) (MarksBeside op (Some piece) None ok memory) a b
    (λ image hs f sound w here. f [] sound w (here piece refl) (λ m. m)) p)

pub mark_other : (op : Op) (o d : Option Piece) (piece done : Piece) (ok memory : Type 0) (a b : Outside) → o ≡ Some piece → d ≡ Some done → same piece.location done.location ≡ false → Passes (MarksOne op piece.location ok memory) a b → Passes (MarksBeside op o d ok memory) a b
mark_other op o d piece done ok memory a b is was t p = subst (λ (x : Option Piece × Option Piece). Passes (MarksBeside op x.0 x.1 ok memory) a b) (λ i. (sym is i, sym was i)) (passes_weaker (MarksOne op piece.location ok memory) (MarksBeside op (Some piece) (Some done) ok memory) a b
    (λ image hs f sound w here. f (done.location ∷ []) sound w (here piece refl) apart) p)
  where
    apart : IsOneOf (done.location ∷ []) piece.location → ⊥
    apart (inl e) = true≢false (sym (same_self piece.location) ∙ ap (same piece.location) (sym e) ∙ t)
    apart (inr e) = e
