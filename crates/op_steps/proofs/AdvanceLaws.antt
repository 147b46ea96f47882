-- An operation goes on from each stage to the next.
use Rattle.std.proofs.Common.{◌≡◌, ◌<◌, true, refl, sym, subst, Some, None, Option, [], arith}
use Rattle.std.specs.Prelude.{IsTrue, option_to_list}
use Rattle.std.specs.FinMap as map
use Rattle.std.proofs.lemmas.Cmp.{nat_cmp_total}
use Rattle.cell_world.specs.Keys.{is_among}
use Rattle.cell_world.specs.Stores.{Store}
use Rattle.cell_world.specs.Images.{Image, global, after_all}
use Rattle.cell_world.specs.Meaning.{counters_of}
use Rattle.cell_world.specs.Marked.{HasNoMark, committed_image}
use Rattle.cell_world.specs.Operations.{locations_of, sites_of}
use Rattle.cell_world.specs.Outside.{Outside}
use Rattle.cell_world.specs.Sound.{Sound, HasLog, IsAttachedIn, locals_at}
use Rattle.cell_world.specs.UnderWay.{IsUnderWay}
use Rattle.cell_world.specs.declared.operations.Op.{Op}
use Rattle.cell_world.specs.declared.operations.Piece.{Piece}
use Rattle.cell_world.specs.declared.operations.StageName.{StageName}
use Rattle.cell_world.specs.declared.operations.StageName.TheVariants.{Logged, SourceDone, TargetDone, Committed, Settled}
use Rattle.cell_world.proofs.ContentsLaws.{contents_all}
use Rattle.cell_world.proofs.ListLaws.{all_from}
use Rattle.cell_world.proofs.OutsideLaws.{later_same}
use Rattle.cell_world.proofs.StoreLaws.{get-remove_same}
use Rattle.image_laws.proofs.NoMarks.{none_elsewhere}
use Rattle.image_laws.proofs.Places.{site_attached}
use Rattle.op_log.proofs.TwoSites.{two_sites}
use Rattle.op_steps.specs.Passing.{Passes}
use Rattle.op_steps.specs.Advancing.{sites_with, IsCommitted, Advances}
use Rattle.op_steps.proofs.CommitLaws.{CommitsOne}
use Rattle.op_steps.proofs.MarkLaws.{MarksBeside}
use Rattle.op_steps.proofs.Passes.{passes_none, passes_weaker}
use Rattle.op_steps.proofs.SettleLaws.{SettlesAll, StaysClean, course_clean, attached_before}
use Rattle.op_steps.proofs.UndoLaws.{own_one, new_one}

-- ---- local steps

-- the site of a mapping alone
with_none : (piece : Option Piece) → sites_with piece None ≡ locations_of (option_to_list piece)
with_none None = refl
with_none (Some p) = refl

pub source_on : (op : Op) (ok memory : Type 0) (a b : Outside) → Passes (MarksBeside op op.olds.one None ok memory) a b → Passes (Advances op Logged ok memory) a b
source_on op ok memory a b p = passes_weaker (MarksBeside op op.olds.one None ok memory) (Advances op Logged ok memory) a b
    (λ image hs f sound w. let r = f sound w (own_one image op sound w.logged) in record {
      course = r.course;
      few = r.few;
      reached = λ k. subst (IsUnderWay (after_all image hs) op) (with_none op.olds.one) (r.done k);
      committed = λ e k. cc;
      untried = λ e. r.untried;
    }) p

pub target_on : (op : Op) (ok memory : Type 0) (a b : Outside) → Passes (MarksBeside op op.news.one op.olds.one ok memory) a b → Passes (Advances op SourceDone ok memory) a b
target_on op ok memory a b p = passes_weaker (MarksBeside op op.news.one op.olds.one ok memory) (Advances op SourceDone ok memory) a b
    (λ image hs f sound w. let r = f sound w (new_one image op sound w.logged) in record {
      course = r.course;
      few = r.few;
      reached = r.done;
      committed = λ e k. cc;
      untried = λ e. r.untried;
    }) p

-- ---- the commit

-- once it is committed it is out of the log, with no marks at other sites
is_committed : (image : Image) (op : Op) → Sound image → HasLog (global image).log op → IsCommitted op (committed_image image op)
is_committed image op sound logged = record {
  out = (get-remove_same nat_cmp_total (global image).log op.number, sound.logged.numbered op logged);
  elsewhere = none_elsewhere image sound op logged;
  sites = two_sites image sound op (sound.logged.lawful op logged);
  known = λ l h. (site_attached image op (sound.logged.lawful op logged) l h).known;
}

pub commit_on : (op : Op) (ok memory : Type 0) (a b : Outside) → Passes (CommitsOne op ok memory) a b → Passes (Advances op TargetDone ok memory) a b
commit_on op ok memory a b p = passes_weaker (CommitsOne op ok memory) (Advances op TargetDone ok memory) a b
    (λ image hs f sound w. let r = f sound w in record {
      course = r.course;
      few = r.few;
      reached = λ k. subst (IsCommitted op) (sym (r.committed k)) (is_committed image op sound w.logged);
      committed = λ e k. r.committed k;
      untried = λ e. r.untried;
    }) p

-- ---- settling

-- settling leaves it committed
stays_committed : (op : Op) (image now : Image) → IsCommitted op image → StaysClean op image now → IsCommitted op now
stays_committed op image now c s = record {
  out = subst (λ (g : Store). (map.get g.log op.number ≡ None) × ((op.number < (counters_of g.counter).operation))) (sym s.globals) c.out;
  elsewhere = λ l here out. s.clean l (c.elsewhere l (attached_before op image now s l here) out);
  sites = c.sites;
  known = λ l h. subst (λ ls. IsTrue (is_among ls l)) (sym s.locations) (c.known l h);
}

pub settle_on : (op : Op) (ok memory : Type 0) (a b : Outside) → Passes (SettlesAll op ok) a b → Passes (Advances op Committed ok memory) a b
settle_on op ok memory a b p = passes_weaker (SettlesAll op ok) (Advances op Committed ok memory) a b
    (λ image hs f sound c.
    let r = f sound c.sites c.known c.out.0 in
    let s = course_clean op image hs sound r.course in
    let now = stays_committed op image (after_all image hs) c s in
    record {
      course = r.course;
      few = r.few;
      reached = λ k. (now, (now.out, all_from (λ l. IsAttachedIn (after_all image hs) l → HasNoMark op (locals_at (after_all image hs) l)) (sites_of op) (λ l h at. r.clean k l h (attached_before op image (after_all image hs) s l at))));
      committed = λ e k. cc;
      untried = λ e k. absurd (omega (arith, e));
    }) p

pub stay_settled : (op : Op) (a : Outside) → Passes (Advances op Settled (true ≡ true) ⊥) a a
stay_settled op a = passes_none (Advances op Settled (true ≡ true) ⊥) a a refl (later_same a)
    (contents_all a.told (λ image. Advances op Settled (true ≡ true) ⊥ image []) (λ image sound c. record { course = tt; few = omega arith; reached = λ k. c; committed = λ e k. cc; untried = λ e k. absurd k }))

-- at the stage that it is
pub at_stage : (op : Op) (name is : StageName) (ok memory : Type 0) (a b : Outside) → name ≡ is → Passes (Advances op is ok memory) a b → Passes (Advances op name ok memory) a b
at_stage op name is ok memory a b e p = subst (λ s. Passes (Advances op s ok memory) a b) (sym e) p
