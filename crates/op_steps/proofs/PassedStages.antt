-- A stage without a step is passed over, and from one with a step just one transaction is made.
use Rattle.std.proofs.Common.{◌≡◌, ◌≤◌, Bool, true, false, not, refl, sym, ap, ◌∙◌, subst, Some, None, Option, inl, inr, ℕ, List, [], ◌∷◌, length, true≢false, arith}
use Rattle.std.specs.Prelude.{option_to_list}
use Rattle.std.specs.FinMap as map
use Rattle.std.proofs.lemmas.Cmp.{nat_cmp_total}
use Rattle.std.proofs.lemmas.Option.{none-some}
use Rattle.cell_world.specs.Images.{Image, Place, Happening, Committed, Wrote, Reopened, global, after_all}
use Rattle.cell_world.specs.Keys.{same}
use Rattle.cell_world.specs.Lists.{IsOneOf}
use Rattle.cell_world.specs.Marked.{HasMarked, IsOld}
use Rattle.cell_world.specs.Meaning.{next_operation}
use Rattle.cell_world.specs.Operations.{locations_of}
use Rattle.cell_world.specs.Outside.{Outside}
use Rattle.cell_world.specs.Sound.{HasLog, Sound, locals_at}
use Rattle.cell_world.specs.Spelled.{listed}
use Rattle.cell_world.specs.UnderWay.{IsDone, IsUnborn, IsUnderWay, new_row}
use Rattle.cell_world.specs.declared.changes.Edit.{Edit}
use Rattle.cell_world.specs.declared.operations.Op.{Op}
use Rattle.cell_world.specs.declared.operations.Piece.{Piece}
use Rattle.cell_world.specs.declared.operations.StageName.{StageName}
use Rattle.cell_world.specs.declared.operations.StageName.TheVariants as stage
use Rattle.cell_world.proofs.ContentsLaws.{contents_all}
use Rattle.cell_world.proofs.ListLaws.{all_at}
use Rattle.cell_world.proofs.MappingLaws.{sound_mappings}
use Rattle.cell_world.proofs.OutsideLaws.{later_same}
use Rattle.cell_world.proofs.SpanLaws.{same_is, same_self}
use Rattle.cell_world.proofs.StoreLaws.{get-remove_same}
use Rattle.image_laws.proofs.MarkingLaws.{marked_from_done}
use Rattle.image_laws.proofs.SoundParts.{are_logged}
use Rattle.op_steps.specs.Passing.{IsCourse, Passes}
use Rattle.op_steps.specs.PassingOver.{MakesOne, has_step, is_beside}
use Rattle.op_steps.specs.Advancing.{Advances, AtStage, CommitsOp, StepsAt, most_tries, sites_with}
use Rattle.op_steps.specs.Stages.{next_stage}
use Rattle.op_steps.proofs.MarkLaws.{under_way_more}
use Rattle.op_steps.proofs.Passes.{passes_none}
use Rattle.op_steps.proofs.UndoLaws.{new_one, one_listed, own_one}

-- ---- a stage without a step

from_not : (b : Bool) → not b ≡ false → b ≡ true
from_not true e = refl
from_not false e = absurd cc

-- what is carried at it is carried at the next one
pub passed : (op : Op) (name : StageName) (image : Image) → has_step op name ≡ false → AtStage op name image → AtStage op (next_stage name) image
passed op stage.Logged image none w = by op.olds.one none w
  where
    by : (old : Option Piece) → is_beside old None ≡ false → IsUnderWay image op [] → IsUnderWay image op (locations_of (option_to_list old))
    by None none w = w
    by (Some piece) none w = absurd cc
passed op stage.SourceDone image none w = by op.news.one op.olds.one none w
  where
    by : (new old : Option Piece) → is_beside new old ≡ false → IsUnderWay image op (locations_of (option_to_list old)) → IsUnderWay image op (sites_with new old)
    by None old none w = w
    by (Some piece) None none w = absurd cc
    by (Some piece) (Some done) none w =
        under_way_more image op (done.location ∷ []) piece.location w (w.done piece.location (inl (sym (same_is piece.location done.location (from_not (same piece.location done.location) none)))))
passed op stage.TargetDone image none w = absurd cc
passed op stage.Committed image none w = absurd cc
passed op stage.Settled image none w = w

none_is_least : (n : ℕ) → 0 ≤ n
none_is_least n = omega arith

-- To pass it over is to go on from it, with nothing tried.
pub passed_over : (op : Op) (name : StageName) → has_step op name ≡ false → (a : Outside) → Passes (Advances op name (true ≡ true) ⊥) a a
passed_over op name none a = passes_none (Advances op name (true ≡ true) ⊥) a a refl (later_same a)
    (contents_all a.told (λ image. Advances op name (true ≡ true) ⊥ image []) (λ image sound at. record {
      course = tt;
      few = none_is_least (most_tries name);
      reached = λ k. passed op name image none at;
      committed = λ is k. absurd (true≢false (sym (ap (has_step op) is) ∙ none));
      untried = λ is k. absurd k;
    }))

-- A stage stays where nothing was tried for want of memory.
pub nothing_tried : (op : Op) (name : StageName) (a : Outside) → Passes (Advances op name (false ≡ true) (Unit {0})) a a
nothing_tried op name a = passes_none (Advances op name (false ≡ true) (Unit {0})) a a refl (later_same a)
    (contents_all a.told (λ image. Advances op name (false ≡ true) (Unit {0}) image []) (λ image sound at. record {
      course = tt;
      few = none_is_least (most_tries name);
      reached = λ k. absurd (true≢false (sym k));
      committed = λ is k. absurd (true≢false (sym k));
      untried = λ is k. refl;
    }))

-- ---- one transaction

-- At most one was tried, and the image is another one afterwards.
made_one : (Step : Image → Place → List Edit → Type 0) (image : Image) (hs : List Happening) → IsCourse Step image hs → length hs ≤ 1 → (after_all image hs ≡ image → ⊥) → MakesOne Step image hs
made_one Step image [] course few other = absurd (other refl)
made_one Step image (Committed place change true ∷ []) course few other = record { place = place; change = change; step = course.0; is = refl }
made_one Step image (Committed place change false ∷ []) course few other = absurd (other refl)
made_one Step image (Wrote bytes ∷ []) course few other = absurd course.0
made_one Step image (Reopened place cells ∷ []) course few other = absurd course.0
made_one Step image (h ∷ g ∷ hs) course few other = absurd (omega (arith, few))

-- Where the old mappings are to be marked, none is there before, and each is afterwards; so it is with the new rows that are to be put at another site.
module _ (op : Op) (image : Image) (sound : Sound image) where
  -- an old mapping stands, so once the step is done at its site its row there is Old of the operation
  old_rows : (piece : Piece) → op.olds.one ≡ Some piece → HasLog (global image).log op → IsUnborn op.number (locals_at image piece.location) → IsDone op piece.location (locals_at image piece.location) → ⊥
  old_rows piece is logged unborn done =
      let g = global image in
      let here = locals_at image piece.location in
      let marked = marked_from_done g.maps g.mappings (sound_mappings image sound) g.log (next_operation image) (are_logged image sound) op logged piece.location here (sound.locals piece.location (own_one image op sound logged piece is).here) done in
      let row = all_at (λ (old : Piece). old.location ≡ piece.location → HasMarked here (IsOld op.number) old) (listed op.olds) marked.olds piece (one_listed op.olds.one op.olds.two piece is) refl in
      (unborn row.0 row.1).1 row.3

  marked_image : has_step op stage.Logged ≡ true → AtStage op stage.Logged image → AtStage op stage.SourceDone image → ⊥
  marked_image step w v = by op.olds.one refl step v
    where
      by : (old : Option Piece) → op.olds.one ≡ old → is_beside old None ≡ true → IsUnderWay image op (locations_of (option_to_list old)) → ⊥
      by None is step v = absurd cc
      by (Some piece) is step v = old_rows piece is w.logged (w.unborn piece.location (own_one image op sound w.logged piece is).here (λ m. m)) (v.done piece.location (inl refl))

  new_rows : (piece : Piece) → op.news.one ≡ Some piece → IsUnborn op.number (locals_at image piece.location) → IsDone op piece.location (locals_at image piece.location) → ⊥
  new_rows piece is unborn done = (unborn (new_row op.number piece) (done.made piece (one_listed op.news.one op.news.two piece is) refl)).0 refl

  another_image : has_step op stage.SourceDone ≡ true → AtStage op stage.SourceDone image → AtStage op stage.TargetDone image → ⊥
  another_image step w v = by op.news.one op.olds.one refl step w v
    where
      apart : (piece done : Piece) → not (same piece.location done.location) ≡ true → IsOneOf (done.location ∷ []) piece.location → ⊥
      apart piece done other (inl e) = true≢false (sym other ∙ ap not (ap (same piece.location) e ∙ same_self piece.location))
      apart piece done other (inr e) = e

      by : (new old : Option Piece) → op.news.one ≡ new → is_beside new old ≡ true → IsUnderWay image op (locations_of (option_to_list old)) → IsUnderWay image op (sites_with new old) → ⊥
      by None old is step w v = absurd cc
      by (Some piece) None is step w v = new_rows piece is (w.unborn piece.location (new_one image op sound w.logged piece is).here (λ m. m)) (v.done piece.location (inl refl))
      by (Some piece) (Some done) is step w v = new_rows piece is (w.unborn piece.location (new_one image op sound w.logged piece is).here (apart piece done step)) (v.done piece.location (inl refl))

  pub logged_makes : AtStage op stage.Logged image → has_step op stage.Logged ≡ true → (ok memory : Type 0) → ok → (hs : List Happening) → Advances op stage.Logged ok memory image hs → MakesOne (StepsAt op) image hs
  logged_makes w step ok memory done hs advances =
      let a = advances sound w in
      made_one (StepsAt op) image hs a.course a.few (λ same. marked_image step w (subst (AtStage op stage.SourceDone) same (a.reached done)))

  pub source_makes : AtStage op stage.SourceDone image → has_step op stage.SourceDone ≡ true → (ok memory : Type 0) → ok → (hs : List Happening) → Advances op stage.SourceDone ok memory image hs → MakesOne (StepsAt op) image hs
  source_makes w step ok memory done hs advances =
      let a = advances sound w in
      made_one (StepsAt op) image hs a.course a.few (λ same. another_image step w (subst (AtStage op stage.TargetDone) same (a.reached done)))

  -- The commit takes the log row away.
  pub commit_makes : AtStage op stage.TargetDone image → (ok memory : Type 0) → ok → (hs : List Happening) → Advances op stage.TargetDone ok memory image hs → MakesOne (CommitsOp op) image hs
  commit_makes w ok memory done hs advances =
      let a = advances sound w in
      made_one (CommitsOp op) image hs a.course a.few
      (λ same. none-some op (sym (get-remove_same nat_cmp_total (global image).log op.number) ∙ ap (λ (i : Image). map.get (global i).log op.number) (sym (a.committed refl done) ∙ same) ∙ w.logged))
