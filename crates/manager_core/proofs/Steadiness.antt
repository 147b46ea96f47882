-- The stores are steady through each course of transactions of operations, and a core goes on.
use Rattle.std.proofs.Common.{◌≡◌, ℕ, refl, sym, ap, ◌∙◌, subst, Some, List, [], ◌∷◌}
use Rattle.std.specs.FinMap as fin
use Rattle.cell_world.specs.Images.{Image, Place, Happening, after_one, after_all, global}
use Rattle.cell_world.specs.Marked.{jobs_after}
use Rattle.cell_world.specs.Meaning.{meaning}
use Rattle.cell_world.specs.Plain.{Connections, nobody}
use Rattle.cell_world.specs.Outside.{Outside, Told, IfContents, told_after}
use Rattle.cell_world.specs.Stores.{Store, Jobs}
use Rattle.cell_world.specs.declared.changes.Edit.{Edit}
use Rattle.cell_world.specs.declared.operations.Op.{Op}
use Rattle.cell_world.specs.declared.operations.Extra.TheVariants as extra
use Rattle.cell_world.proofs.ContentsLaws.{contents_weaker, contents_both}
use Rattle.global_tables.specs.Known.{Known, known_of}
use Rattle.plain_model.specs.Timelines.{Timeline, Past, image_of}
use Rattle.plain_model.specs.Written.{Mode}
use Rattle.plain_model.proofs.AloneLaws.{alone_begins}
use Rattle.op_steps.specs.Passing.{IsCourse, Passes, changed_at, told_after_all}
use Rattle.op_steps.specs.Undoing.{UndoStep, AtSite, LogRow, UndoStepOf}
use Rattle.op_steps.specs.Advancing.{AdvanceStep, Stepping, Committing, Settling, SettlesAt}
use Rattle.op_steps.specs.Beginning.{BeginStep, Clearing, Logging}
use Rattle.op_steps.proofs.Courses.{course_keeps}
use Rattle.session_laws.specs.Contract.{Seen}
use Rattle.session_laws.specs.Core.{Core, CoreAlone}
use Rattle.session_laws.specs.Doing.{AllDoing, Live, live_of}
use Rattle.session_laws.specs.Needs.{Needs}
use Rattle.session_laws.proofs.ContractLaws.{core_kept, core_kept_then, core_kept_to, core_kept_to_then}
use Rattle.operation_laws.specs.Courses.{happened_on}
use Rattle.operation_laws.specs.Leading.{Leads}
use Rattle.operation_laws.specs.Left.{AreLeft}
use Rattle.operation_laws.proofs.Lifts.{lifts, lifts_to}
use Rattle.manager_core.specs.Answering.{IsCopy}
use Rattle.manager_core.specs.Steady.{IsPlainOp, IsSteady, AreSteady, IsSettledOp, KeepsMeaning, KeepsSettled, Becomes, seen_with}
use Rattle.manager_core.proofs.SettledStays.{StaysSettled}
use Rattle.manager_core.proofs.Copies.{contents_after}

-- ---- the copy of the tables

module _ (known : Known) where
  abbrev Copied : Image → Type 0
  Copied image = known ≡ known_of (global image)

  -- the global store stays but for mappings, the log, the counter, and jobs where the operation goes on with one
  copy_undo : (op : Op) (image : Image) (place : Place) (change : List Edit) → Copied image → UndoStep op image place change → Copied (changed_at image place change)
  copy_undo op image place change copy (AtSite u) = subst Copied (sym u.is) copy
  copy_undo op image place change copy (LogRow d) = subst Copied (sym d.is) copy

  abbrev with_jobs : Store → Jobs → Known
  with_jobs s jobs = record { maps = (known_of s).maps; shards = (known_of s).shards; tables = (known_of s).tables; away = (known_of s).away; jobs = fin.values jobs }

  copy_advance : (op : Op) → op.extra ≡ extra.None → (image : Image) (place : Place) (change : List Edit) → Copied image → AdvanceStep op image place change → Copied (changed_at image place change)
  copy_advance op none image place change copy (Stepping s) = subst Copied (sym s.is) copy
  copy_advance op none image place change copy (Committing c) = subst Copied (sym c.is) (copy ∙ ap (λ e. with_jobs (global image) (jobs_after (global image).jobs e)) (sym none))
  copy_advance op none image place change copy (Settling s) = subst Copied (sym s.is) copy

  copy_begin : (live : List ℕ) (op : Op) (image : Image) (place : Place) (change : List Edit) → Copied image → BeginStep live op image place change → Copied (changed_at image place change)
  copy_begin live op image place change copy (Clearing u) = copy_undo u.0 image place change copy u.2
  copy_begin live op image place change copy (Logging l) = subst Copied (sym l.1.is) copy

  -- ---- courses

  module _ (image : Image) (copy : Copied image) (hs : List Happening) where
    pub copy_undone : (These : Op → Type 0) → IsCourse (UndoStepOf These) image hs → Copied (after_all image hs)
    copy_undone These c = course_keeps (UndoStepOf These) Copied (λ i place change k step. copy_undo step.0 i place change k step.2) image hs copy c

    pub copy_advanced : (op : Op) → op.extra ≡ extra.None → IsCourse (AdvanceStep op) image hs → Copied (after_all image hs)
    copy_advanced op none c = course_keeps (AdvanceStep op) Copied (copy_advance op none) image hs copy c

    pub copy_settled : (op : Op) → IsCourse (SettlesAt op) image hs → Copied (after_all image hs)
    copy_settled op c = course_keeps (SettlesAt op) Copied (λ i place change k s. subst Copied (sym s.is) k) image hs copy c

    pub copy_begun : (live : List ℕ) (op : Op) → IsCourse (BeginStep live op) image hs → Copied (after_all image hs)
    copy_begun live op c = course_keeps (BeginStep live op) Copied (copy_begin live op) image hs copy c

-- ---- a core could begin here

pub core_here : (doing : AllDoing) (image : Image) → IsSteady doing image → CoreAlone Needs image [] nobody image doing
core_here doing image s = record { run = alone_begins image s.sound; promises = tt; pendings = tt; stand = s.stand; one = s.one; one_job = s.one_job }

pub steady_of : (doing : AllDoing) (first : Image) (past : Past) (connections : Connections) (image : Image) → CoreAlone Needs first past connections image doing
    → ((session : ℕ) (l : Live) → live_of (doing session) ≡ Some l → IsPlainOp l) → AreLeft doing image → IsSteady doing image
steady_of doing first past connections image core none left = record { sound = core.run.sound; stand = core.stand; one = core.one; one_job = core.one_job; plain = none; left = left }

-- ---- over what is told

pub contents_after_all : (told : Told) (hs : List Happening) (P Q : Image → Type 0) → ((image : Image) → P image → Q (after_all image hs)) → IfContents told P → IfContents (told_after_all told hs) Q
contents_after_all told [] P Q more p = contents_weaker told P Q more p
contents_after_all told (h ∷ hs) P Q more p = contents_after_all (told_after told h) hs (λ next. (image : Image) × P image × (next ≡ after_one image h)) Q
    (λ next from. subst (λ i. Q (after_all i hs)) (sym from.2) (more from.0 from.1))
    (contents_after told h P (λ next. (image : Image) × P image × (next ≡ after_one image h)) (λ image here. (image, here, refl)) p)

pub passes_on : (P : Image → List Happening → Type 0) (old new : Outside) (passes : Passes P old new) (Q R : Image → Type 0) → ((image : Image) → Q image → P image passes.happened → R (after_all image passes.happened)) → IfContents old.told Q → IfContents new.told R
passes_on P old new passes Q R keeps q = subst (λ t. IfContents t R) (sym passes.told)
    (contents_after_all old.told passes.happened (λ image. Q image × P image passes.happened) R (λ image both. keeps image both.0 both.1)
    (contents_both old.told Q (λ image. P image passes.happened) q passes.each))

-- what is so of the contents may be said with what passes
abbrev pub passes_with : (P : Image → List Happening → Type 0) (old new : Outside) → Passes P old new → (Q : Image → Type 0) → IfContents old.told Q → Passes (λ image hs. Q image × P image hs) old new
passes_with P old new passes Q q = record {
  happened = passes.happened;
  told = passes.told;
  each = contents_both old.told Q (λ image. P image passes.happened) q passes.each;
  later = passes.later;
}

module _ (P : Image → List Happening → Type 0) (old new : Outside) (passes : Passes P old new) (before : AllDoing) where
  -- what stays of the contents stays of what is told
  pub keeps_meaning : ((image : Image) → IsSteady before image → P image passes.happened → meaning (after_all image passes.happened) ≡ meaning image) → AreSteady before old → KeepsMeaning old new
  keeps_meaning same steady facts is = passes_on P old new passes (λ image. IsSteady before image × (meaning image ≡ facts)) (λ image. meaning image ≡ facts)
      (λ image s p. same image s.0 p ∙ s.1) (contents_both old.told (IsSteady before) (λ image. meaning image ≡ facts) steady is)

  pub keeps_settled : ((image : Image) → IsSteady before image → P image passes.happened → StaysSettled image (after_all image passes.happened)) → AreSteady before old → KeepsSettled old new
  keeps_settled stays steady op is = passes_on P old new passes (λ image. IsSteady before image × IsSettledOp op image) (IsSettledOp op)
      (λ image s p. stays image s.0 p op s.1) (contents_both old.told (IsSteady before) (IsSettledOp op) steady is)

module _ (P : Image → List Happening → Type 0) (old new : Outside) (passes : Passes P old new) (before after : AllDoing) where
  -- what a law gives of a core, on its trail and by contents alone, and of what is left, is what the call makes of it
  pub becomes_by : ((t0 : ℕ) (start : Image) (mode : Mode) (past : Timeline) → IsSteady before (image_of start past) → P (image_of start past) passes.happened → Core Needs t0 start mode past nobody [] before → Core Needs t0 start mode (happened_on past passes.happened) nobody [] after)
      → ((first : Image) (past : Past) (image : Image) → IsSteady before image → P image passes.happened → CoreAlone Needs first past nobody image before → CoreAlone Needs first past nobody (after_all image passes.happened) after)
      → ((image : Image) → IsSteady before image → P image passes.happened → ((session : ℕ) (l : Live) → live_of (after session) ≡ Some l → IsPlainOp l) × AreLeft after (after_all image passes.happened))
      → ((image : Image) → IsSteady before image → P image passes.happened → (meaning (after_all image passes.happened) ≡ meaning image) × StaysSettled image (after_all image passes.happened))
      → ((known : Known) (image : Image) → IsSteady before image → P image passes.happened → known ≡ known_of (global image) → known ≡ known_of (global (after_all image passes.happened)))
      → Becomes old new before after
  becomes_by trail alone rest stays copy = record {
    same = keeps_meaning P old new passes before (λ image s p. (stays image s p).0);
    settled = keeps_settled P old new passes before (λ image s p. (stays image s p).1);
    steady = passes_on P old new passes (IsSteady before) (IsSteady after)
        (λ image s p. let r = rest image s p in steady_of after image [] nobody (after_all image passes.happened) (alone image [] image s p (core_here before image s)) r.0 r.1);
    copy = λ known steady here. passes_on P old new passes (λ image. IsSteady before image × (known ≡ known_of (global image))) (λ image. known ≡ known_of (global image))
        (λ image s p. copy known image s.0 p s.1) (contents_both old.told (IsSteady before) (λ image. known ≡ known_of (global image)) steady here);
    leads = λ steady mode history. record {
      keeps = lifts mode (λ image hs. IsSteady before image × P image hs) old new (passes_with P old new passes (IsSteady before) steady) (seen_with history before) (seen_with history after) refl
          (λ t0 start past p core. trail t0 start mode past p.0 p.1 core);
      keeps_to = lifts_to mode (λ image hs. IsSteady before image × P image hs) old new (passes_with P old new passes (IsSteady before) steady) (seen_with history before) (seen_with history after) refl
          (λ first past image p core. alone first past image p.0 p.1 core);
    };
  }

-- ---- one part after another

pub leads_then : (mode : Mode) (a b c : Told) (one two three : Seen) (rest : Rattle.cell_world.specs.Texts.Text) → Leads mode a b one two [] → Leads mode b c two three rest → Leads mode a c one three rest
leads_then mode a b c one two three rest first second = record {
  keeps = core_kept_then mode a b c one two three rest first.keeps second.keeps;
  keeps_to = core_kept_to_then a b c one two three first.keeps_to second.keeps_to;
}

pub becomes_then : (a b c : Outside) (one two three : AllDoing) → Becomes a b one two → Becomes b c two three → Becomes a c one three
becomes_then a b c one two three first second = record {
  steady = λ s. second.steady (first.steady s);
  same = λ s facts is. second.same (first.steady s) facts (first.same s facts is);
  settled = λ s op is. second.settled (first.steady s) op (first.settled s op is);
  copy = λ known s k. second.copy known (first.steady s) (first.copy known s k);
  leads = λ s mode history. leads_then mode a.told b.told c.told (seen_with history one) (seen_with history two) (seen_with history three) [] (first.leads s mode history) (second.leads (first.steady s) mode history);
}

pub becomes_same : (a b : Outside) (doing : AllDoing) → b.told ≡ a.told → Becomes a b doing doing
becomes_same a b doing same = record {
  steady = λ s. subst (λ t. IfContents t (IsSteady doing)) (sym same) s;
  same = λ s facts is. subst (λ t. IfContents t (λ image. meaning image ≡ facts)) (sym same) is;
  settled = λ s op is. subst (λ t. IfContents t (IsSettledOp op)) (sym same) is;
  copy = λ known s k. subst (IsCopy known) (sym same) k;
  leads = λ s mode history. subst (λ t. Leads mode a.told t (seen_with history doing) (seen_with history doing) []) (sym same)
      (record { keeps = core_kept mode a.told (seen_with history doing); keeps_to = core_kept_to a.told (seen_with history doing) });
}
