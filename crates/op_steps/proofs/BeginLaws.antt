-- The beginning of an operation.
use Rattle.std.proofs.Common.{◌≡◌, ◌<◌, ◌+◌, ◌^◌, ℕ, Bool, true, refl, sym, ap, ◌∙◌, subst, Some, None, Option, List, [], ◌∷◌, ◌++◌}
use Rattle.std.specs.Prelude.{Result, Ok, Err}
use Rattle.std.proofs.lemmas.Cmp.{nat_cmp_total}
use Rattle.cell_world.specs.Texts.{Text}
use Rattle.cell_world.specs.Stores.{Rows}
use Rattle.cell_world.specs.Images.{Image, Place, Global, Happening, Committed, global, after_all}
use Rattle.cell_world.specs.Lawful.{ReadTables, read_tables, LawfulOn, Lawful, IsOfJob, job_of_pieces}
use Rattle.cell_world.specs.Meaning.{next_operation, counters_of}
use Rattle.cell_world.specs.Operations.{reach_of}
use Rattle.cell_world.specs.Outside.{Outside, IfContents, IsLater}
use Rattle.cell_world.specs.Sound.{Sound, HasLog}
use Rattle.cell_world.specs.Spelled.{listed}
use Rattle.cell_world.specs.UnderWay.{IsUnderWay}
use Rattle.cell_world.specs.declared.operations.Op.{Op}
use Rattle.cell_world.specs.declared.operations.JobRow.{JobRow}
use Rattle.cell_world.specs.declared.cells.Counters.{Counters}
use Rattle.cell_world.specs.declared.changes.Edit.{Edit}
use Rattle.cell_world.proofs.ContentsLaws.{contents_all}
use Rattle.cell_world.proofs.OutsideLaws.{later_same}
use Rattle.cell_world.proofs.StoreLaws.{get-insert_same}
use Rattle.global_tables.specs.declared.faults.StepFault.{StepFault}
use Rattle.global_tables.specs.declared.faults.StepFault.TheVariants as fault
use Rattle.image_laws.specs.Transactions.{logged_image}
use Rattle.image_laws.proofs.LocalImages.{same_rows_at}
use Rattle.image_laws.proofs.UnderWayLaws.{begun}
use Rattle.op_steps.specs.declared.beginning.BeginFault.{BeginFault}
use Rattle.op_steps.specs.declared.beginning.BeginFault.TheVariants as begin
use Rattle.op_steps.specs.declared.beginning.Begun.{Begun}
use Rattle.op_steps.specs.declared.beginning.Begun.TheVariants.{Going, Pending}
use Rattle.op_steps.specs.Passing.{Passes, IsCourse, IsTryOf, TriesAt, changed_at}
use Rattle.op_steps.specs.Undoing.{UndoStep, AtSite, LogRow, UndoStepOf}
use Rattle.op_steps.specs.Clearing.{IsAbandonedInWay, IsCleared, Clears}
use Rattle.op_steps.specs.Beginning.{numbered, log_edits, IsClearOf, Logs, TriesLog, fault_before, fault_at, IsOfStore, LogsOp, BeginStep, Clearing, Logging, ClearsAndTries, HasBegun, Goes, Begins}
use Rattle.op_steps.proofs.Courses.{course_keeps, course_then, course_weaker, after_then}
use Rattle.op_steps.proofs.Passes.{passes_none, passes_found, passes_then, passes_weaker}
use Rattle.op_steps.proofs.RecoverLaws.{steps_sound}

-- ---- what is lawful under one number is so under another

pub lawful_numbered : (t : ReadTables) (op : Op) (n : ℕ) → LawfulOn t op → LawfulOn t (numbered op n)
lawful_numbered t op n law = record {
  map_stands = law.map_stands;
  olds_stand = law.olds_stand;
  of_map = law.of_map;
  olds_in_order = law.olds_in_order;
  news_in_order = law.news_in_order;
  attached = law.attached;
  on_shards = law.on_shards;
  spans = law.spans;
  disjoint = law.disjoint;
  free = law.free;
  hull = law.hull;
  shape = law.shape;
  job = by (job_of_pieces t.jobs (listed op.olds)) law.job;
  no_drop = law.no_drop;
}
  where
    by : (o : Option JobRow) → IsOfJob t op o → IsOfJob t (numbered op n) o
    by None s = s
    by (Some job) s = record { row = s.row; emptied = s.emptied }

-- ---- what undo leaves of what is read

pub record StaysRead (image now : Image) : Type 0 where
  pub reads : read_tables now ≡ read_tables image
  pub counter : (global now).counter ≡ (global image).counter

step_reads : (op : Op) (first image : Image) (place : Place) (change : List Edit) → StaysRead first image → UndoStep op image place change → StaysRead first (changed_at image place change)
step_reads op first image place change s (AtSite u) = subst (StaysRead first) (sym u.is) (record { reads = ap (λ (rows : Text → Rows). record (read_tables image) { rows_at = rows }) (same_rows_at image u.location u.last) ∙ s.reads; counter = s.counter })
step_reads op first image place change s (LogRow d) = subst (StaysRead first) (sym d.is) (record { reads = s.reads; counter = s.counter })

pub course_reads : (These : Op → Type 0) (image : Image) (hs : List Happening) → IsCourse (UndoStepOf These) image hs → StaysRead image (after_all image hs)
course_reads These image hs c = course_keeps (UndoStepOf These) (StaysRead image) (λ i p c s step. step_reads step.0 image i p c s step.2) image hs (record { reads = refl; counter = refl }) c

-- ---- the log row

module _ (op : Op) (image : Image) (lawful : Lawful image op) (below : next_operation image < 2 ^ 63) (clear : IsClearOf op image) where
  abbrev named_op : Op
  named_op = numbered op (next_operation image)

  abbrev row_edits : List Edit
  row_edits = log_edits named_op (counters_of (global image).counter)

  logs : Logs named_op image Global row_edits
  logs = record { lawful = lawful_numbered (read_tables image) op (next_operation image) lawful; number = refl; below = below; clear = clear; place_is = refl; edits = refl; is = refl }

  pub tries_log : (took : Bool) (hs : List Happening) → hs ≡ Committed Global row_edits took ∷ [] → TriesLog op named_op took image hs
  tries_log took hs e = record { named = refl; change = row_edits; logs = logs; is = e }

-- ---- the calls of the log row

-- what is made of a sound image whose next numbers are these
abbrev pub LogsUnder : Op → Counters → Result Op BeginFault → Image → List Happening → Type 0
LogsUnder op next result image hs = next ≡ counters_of (global image).counter → LogsOp op result image hs

-- the edits are those of the number that stands
edits_stand : (op made : Op) (next : Counters) (edits : List Edit) (image : Image) → made ≡ numbered op next.operation → edits ≡ log_edits made next → next ≡ counters_of (global image).counter → edits ≡ log_edits (numbered op (next_operation image)) (counters_of (global image).counter)
edits_stand op made next edits image m e n = e ∙ ap (λ x. log_edits x next) m ∙ ap (λ (x : Counters). log_edits (numbered op x.operation) x) n

-- the operation of the number that was read is the one of the number that stands
tries_under : (op made : Op) (next : Counters) (edits : List Edit) (took : Bool) (image : Image) (hs : List Happening) → made ≡ numbered op next.operation → edits ≡ log_edits made next → next ≡ counters_of (global image).counter → hs ≡ Committed Global edits took ∷ []
    → Lawful image op → next_operation image < 2 ^ 63 → IsClearOf op image → TriesLog op (numbered op next.operation) took image hs
tries_under op made next edits took image hs m e n h lawful below clear =
    subst (λ (x : Counters). TriesLog op (numbered op x.operation) took image hs) (sym n)
    (tries_log op image lawful below clear took hs (h ∙ ap (λ es. Committed Global es took ∷ []) (edits_stand op made next edits image m e n)))

pub logs_made : (op made : Op) (next : Counters) (edits : List Edit) (a b : Outside) → made ≡ numbered op next.operation → edits ≡ log_edits made next → Passes (λ image hs. hs ≡ Committed Global edits true ∷ []) a b → Passes (LogsUnder op next (Ok made)) a b
logs_made op made next edits a b m e p = passes_weaker (λ image hs. hs ≡ Committed Global edits true ∷ []) (LogsUnder op next (Ok made)) a b
    (λ image hs h n sound lawful below clear. subst (λ x. TriesLog op x true image hs) (sym m) (tries_under op made next edits true image hs m e n h lawful below clear)) p

pub logs_failed : (op made : Op) (next : Counters) (edits : List Edit) (f : StepFault) (a b : Outside) → made ≡ numbered op next.operation → edits ≡ log_edits made next → TriesAt Global edits (Err f) a b → Passes (LogsUnder op next (Err (fault_at next.operation f))) a b
logs_failed op made next edits fault.Store a b m e p = passes_weaker (λ image hs. IsTryOf Global edits (Err fault.Store) hs) (LogsUnder op next (Err (begin.Tried next.operation))) a b
    (λ image hs h n sound lawful below clear. (h.0, tries_under op made next edits h.0 image hs m e n h.1 lawful below clear)) p
logs_failed op made next edits fault.Memory a b m e p = passes_weaker (λ image hs. IsTryOf Global edits (Err fault.Memory) hs) (LogsUnder op next (Err begin.Memory)) a b (λ image hs h n. h) p

pub logs_none : (op : Op) (next : Counters) (a : Outside) → Passes (LogsUnder op next (Err begin.Memory)) a a
logs_none op next a = passes_none (LogsUnder op next (Err begin.Memory)) a a refl (later_same a) (contents_all a.told (λ image. LogsUnder op next (Err begin.Memory) image []) (λ image n. refl))

pub logs_found : (op : Op) (next : Counters) (result : Result Op BeginFault) (a b c : Outside) → b.told ≡ a.told → IsLater a b → IfContents a.told (λ image. next ≡ counters_of (global image).counter) → Passes (LogsUnder op next result) b c → Passes (LogsOp op result) a c
logs_found op next result a b c told later found p = passes_found (λ image. next ≡ counters_of (global image).counter) (LogsUnder op next result) (LogsOp op result) a b c told later found p (λ image hs n l. l n)

pub logs_not : (op : Op) (f : StepFault) (a b : Outside) → b.told ≡ a.told → IsLater a b → Passes (LogsOp op (Err (fault_before f))) a b
logs_not op fault.Store a b told later = passes_none (LogsOp op (Err begin.Store)) a b told later (contents_all a.told (λ image. LogsOp op (Err begin.Store) image []) (λ image. refl))
logs_not op fault.Memory a b told later = passes_none (LogsOp op (Err begin.Memory)) a b told later (contents_all a.told (λ image. LogsOp op (Err begin.Memory) image []) (λ image. refl))

-- the operation that was asked for
pub asked_of : (op made : Op) (number : ℕ) → made ≡ numbered op number → made ≡ numbered op made.number
asked_of op made number m = m ∙ ap (numbered op) (sym (ap (λ (o : Op). o.number) m))

-- a fault before the log row, and one at it, comes of a store only where the call's does
pub store_before : (f : StepFault) → IsOfStore (fault_before f) → f ≡ fault.Store
store_before fault.Store h = refl
store_before fault.Memory h = absurd h

pub store_at : (number : ℕ) (f : StepFault) → IsOfStore (fault_at number f) → f ≡ fault.Store
store_at number fault.Store h = refl
store_at number fault.Memory h = absurd h

-- ---- the beginning

module _ (live : List ℕ) (op : Op) (image : Image) (hs gs : List Happening) (sound : Sound image) (lawful : Lawful image op) (below : next_operation image < 2 ^ 63) where
  module _ (cleared : IsCleared live (reach_of op) image hs) where
    abbrev there : Image
    there = after_all image hs

    read : StaysRead image there
    read = course_reads (IsAbandonedInWay live (reach_of op)) image hs cleared.course

    there_sound : Sound there
    there_sound = steps_sound (IsAbandonedInWay live (reach_of op)) image hs sound cleared.course

    same_next : next_operation there ≡ next_operation image
    same_next = ap (λ c. (counters_of c).operation) read.counter

    there_lawful : Lawful there op
    there_lawful = subst (λ t. LawfulOn t op) (sym read.reads) lawful

    there_below : next_operation there < 2 ^ 63
    there_below = subst (λ n. n < 2 ^ 63) (sym same_next) below

    there_clear : IsClearOf op there
    there_clear other h = (cleared.clear other h).1

    pub clears_and_tries : (m : Op) (took : Bool) → TriesLog op m took there gs → ClearsAndTries live op m took image (hs ++ gs)
    clears_and_tries m took r = record { none = cleared.none; cleared = hs; course = cleared.course; named = r.named ∙ ap (numbered op) same_next; change = r.change; logs = r.logs; split = ap (λ xs. hs ++ xs) r.is }

    pub has_begun : (m : Op) → LogsOp op (Ok m) there gs → HasBegun live op m image (hs ++ gs)
    has_begun m l =
        let r = l there_sound there_lawful there_below there_clear in
        let number : m.number ≡ next_operation there = ap (λ (o : Op). o.number) r.named in
        let after : after_all image (hs ++ gs) ≡ logged_image there m = sym (after_then image hs gs) ∙ ap (after_all there) r.is ∙ r.logs.is in
        let row : HasLog (global (logged_image there m)).log m = get-insert_same nat_cmp_total (global there).log m.number m in
        record {
          tried = clears_and_tries m true r;
          counter = ap next_operation after ∙ ap (λ n. n + 1) same_next;
          marked = subst (λ i. HasLog (global i).log m) (sym after) row;
          unborn = subst (λ i. IsUnderWay i m []) (sym after) (begun there there_sound m number (global (logged_image there m)) row refl);
        }

    pub was_tried : (n : ℕ) → LogsOp op (Err (begin.Tried n)) there gs → (took : Bool) × ClearsAndTries live op (numbered op n) took image (hs ++ gs)
    was_tried n l = let r = l there_sound there_lawful there_below there_clear in (r.0, clears_and_tries (numbered op n) r.0 r.1)

-- as a course
pub begun_course : (live : List ℕ) (op m : Op) (took : Bool) (image : Image) (hs : List Happening) → ClearsAndTries live op m took image hs → IsCourse (BeginStep live op) image hs
begun_course live op m took image hs c = subst (IsCourse (BeginStep live op) image) (sym c.split) (course_then (BeginStep live op) image c.cleared (Committed Global c.change took ∷ [])
    (course_weaker (UndoStepOf (IsAbandonedInWay live (reach_of op))) (BeginStep live op) (λ i p e s. Clearing s) image c.cleared c.course)
    (Logging (next_operation image, subst (λ o. Logs o (after_all image c.cleared) Global c.change) c.named c.logs), tt))

-- ---- its calls

pub pending : (live : List ℕ) (op other : Op) (a b : Outside) → Passes (Clears live (reach_of op) (Ok (Some other))) a b → Passes (Begins live op (Ok (Pending other))) a b
pending live op other a b p = passes_weaker (Clears live (reach_of op) (Ok (Some other))) (Begins live op (Ok (Pending other))) a b (λ image hs f sound. f sound) p

pub going : (live : List ℕ) (op : Op) (result : Result Begun BeginFault) (a b c : Outside) → Passes (Clears live (reach_of op) (Ok None)) a b → Passes (Goes op result) b c → Passes (Begins live op result) a c
going live op result a b c p q = passes_then (Clears live (reach_of op) (Ok None)) (Goes op result) (Begins live op result) a b c p q (by result)
  where
    cleared_alone : (image : Image) (hs gs : List Happening) → IsCourse (UndoStepOf (IsAbandonedInWay live (reach_of op))) image hs → gs ≡ [] → IsCourse (UndoStepOf (IsAbandonedInWay live (reach_of op))) image (hs ++ gs)
    cleared_alone image hs gs course e = course_then (UndoStepOf (IsAbandonedInWay live (reach_of op))) image hs gs course (subst (IsCourse (UndoStepOf (IsAbandonedInWay live (reach_of op))) (after_all image hs)) (sym e) tt)

    by : (r : Result Begun BeginFault) (image : Image) (hs gs : List Happening) → Clears live (reach_of op) (Ok None) image hs → Goes op r (after_all image hs) gs → Begins live op r image (hs ++ gs)
    by (Ok (Going m stage)) image hs gs f l = λ sound lawful below. has_begun live op image hs gs sound lawful below (f sound) m l
    by (Ok (Pending other)) image hs gs f l = absurd l
    by (Err (begin.Tried n)) image hs gs f l = λ sound lawful below. was_tried live op image hs gs sound lawful below (f sound) n l
    by (Err begin.Memory) image hs gs f l = λ sound. cleared_alone image hs gs (f sound).course l
    by (Err begin.Store) image hs gs f l = λ sound. cleared_alone image hs gs (f sound).course l

pub way_not_cleared : (live : List ℕ) (op : Op) (f : StepFault) (a b : Outside) → Passes (Clears live (reach_of op) (Err f)) a b → Passes (Begins live op (Err (fault_before f))) a b
way_not_cleared live op fault.Store a b p = p
way_not_cleared live op fault.Memory a b p = p
