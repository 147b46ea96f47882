-- The commit of an operation, on images and in its calls.
use Rattle.std.proofs.Common.{◌≡◌, true, false, ◌||◌, refl, sym, ap, ◌∙◌, subst, Some, None, Option, is_some, inl, List, [], ◌∷◌, ◌++◌, append_assoc, arith}
use Rattle.std.specs.Prelude.{Result, IsOk, option_to_list}
use Rattle.std.specs.Option.{is_none}
use Rattle.cell_world.specs.Stores.{changed}
use Rattle.cell_world.specs.Lists.{IsOneOf}
use Rattle.cell_world.specs.Images.{Image, Global, Happening, global, with_store}
use Rattle.cell_world.specs.Lawful.{Lawful, rows_at}
use Rattle.cell_world.specs.Marked.{Marked, committed_image}
use Rattle.cell_world.specs.Operations.{locations_of}
use Rattle.cell_world.specs.Outside.{Outside}
use Rattle.cell_world.specs.Sound.{Sound}
use Rattle.cell_world.specs.Spelled.{listed}
use Rattle.cell_world.specs.UnderWay.{IsUnderWay}
use Rattle.cell_world.specs.declared.operations.Op.{Op}
use Rattle.cell_world.specs.declared.operations.Piece.{Piece}
use Rattle.cell_world.specs.declared.operations.StageName.TheVariants.{TargetDone}
use Rattle.cell_world.specs.declared.changes.Edit.{Edit}
use Rattle.cell_world.proofs.ContentsLaws.{contents_all}
use Rattle.cell_world.proofs.ListLaws.{in_first, in_second}
use Rattle.cell_world.proofs.OutsideLaws.{later_same}
use Rattle.global_tables.specs.declared.faults.StepFault.{StepFault}
use Rattle.global_tables.specs.declared.faults.StepFault.TheVariants as fault
use Rattle.image_laws.specs.CommitEdits.{commit_edits, deletes, puts}
use Rattle.image_laws.proofs.CommitEdits.{changed-commit}
use Rattle.image_laws.proofs.StepImages.{target_done}
use Rattle.image_laws.proofs.UnderWayLaws.{AreTogether, together}
use Rattle.op_steps.specs.Passing.{Passes, IsTryOf, FailsByMemory, TriesAt}
use Rattle.op_steps.specs.Advancing.{CommitsOp, Commits, sites_with}
use Rattle.op_steps.proofs.Courses.{tried_once}
use Rattle.op_steps.proofs.Passes.{passes_none, passes_weaker}
use Rattle.op_steps.proofs.UndoCalls.{err_not_ok}

-- ---- the edits

pub deletes-append : (xs ys : List Piece) → deletes (xs ++ ys) ≡ deletes xs ++ deletes ys
deletes-append [] ys = refl
deletes-append (x ∷ xs) ys = ap (λ es. deletes (x ∷ []) ++ es) (deletes-append xs ys)

pub puts-append : (xs ys : List Piece) → puts (xs ++ ys) ≡ puts xs ++ puts ys
puts-append [] ys = refl
puts-append (x ∷ xs) ys = ap (λ es. puts (x ∷ []) ++ es) (puts-append xs ys)

-- two changes one after another
pub edits_both : (f : List Piece → List Edit) → ((xs ys : List Piece) → f (xs ++ ys) ≡ f xs ++ f ys) → (a b c : List Edit) (one two : Option Piece) → b ≡ a ++ f (option_to_list one) → c ≡ b ++ f (option_to_list two) → c ≡ a ++ f (option_to_list one ++ option_to_list two)
edits_both f joins a b c one two e g = g ∙ ap (λ es. es ++ f (option_to_list two)) e ∙ append_assoc a (f (option_to_list one)) (f (option_to_list two)) ∙ ap (λ es. a ++ es) (sym (joins (option_to_list one) (option_to_list two)))

pub edits_all : (a b c d e : List Edit) (xs ys zs ws : List Edit) → a ≡ [] → b ≡ a ++ xs → c ≡ b ++ ys → d ≡ c ++ zs → e ≡ d ++ ws → e ≡ xs ++ (ys ++ (zs ++ ws))
edits_all a b c d e xs ys zs ws p q r s t =
    t ∙ ap (λ es. es ++ ws) (s ∙ ap (λ es. es ++ zs) (r ∙ ap (λ es. es ++ ys) (q ∙ ap (λ es. es ++ xs) p)))
    ∙ append_assoc (xs ++ ys) zs ws ∙ append_assoc xs ys (zs ++ ws)

-- ---- all marks

-- an old, and a new, is at the site of the first one
pub at_one : (one two : Option Piece) → (is_some one || is_none two) ≡ true → AreTogether (option_to_list one ++ option_to_list two) → (p : Piece) → IsOneOf (option_to_list one ++ option_to_list two) p → IsOneOf (locations_of (option_to_list one)) p.location
at_one None None f t p m = absurd m
at_one None (Some x) f t p m = cc
at_one (Some a) two f t p m = inl (t.one a (inl refl) p m)

module _ (image : Image) (op : Op) (sound : Sound image) (w : IsUnderWay image op (sites_with op.news.one op.olds.one)) where
  abbrev law : Lawful image op
  law = sound.logged.lawful op w.logged

  pub all_marked : Marked image op TargetDone
  all_marked = target_done image sound op w.logged
      (λ old h. w.done old.location (in_second (locations_of (option_to_list op.news.one)) (locations_of (option_to_list op.olds.one)) old.location (at_one op.olds.one op.olds.two law.olds_in_order (together (rows_at image) (listed op.olds) (listed op.news) law.shape).0 old h)))
      (λ new h. w.done new.location (in_first (locations_of (option_to_list op.news.one)) (locations_of (option_to_list op.olds.one)) new.location (at_one op.news.one op.news.two law.news_in_order (together (rows_at image) (listed op.olds) (listed op.news) law.shape).1 new h)))

  abbrev there : Image
  there = with_store image Global (changed (global image) (commit_edits op))

  made : there ≡ committed_image image op
  made = ap (with_store image Global) (changed-commit (global image) op)

  commits : CommitsOp op image Global (commit_edits op)
  commits = record { logged = w.logged; marked = all_marked; place_is = refl; edits = refl; is = made }

  pub commit_tried : (result : Result (Unit {0}) StepFault) (hs : List Happening) → IsTryOf Global (commit_edits op) result hs → Commits op (IsOk result) (FailsByMemory result) image hs
  commit_tried result hs h = let r = tried_once (CommitsOp op) image Global (commit_edits op) commits result hs h in record { course = r.course; few = r.few; committed = λ k. r.made k ∙ made; untried = r.untried }

-- ---- the call

-- what the commit makes of a sound image on which all steps are made
abbrev pub CommitsOne : Op → Type 0 → Type 0 → Image → List Happening → Type 0
CommitsOne op ok memory image hs = Sound image → IsUnderWay image op (sites_with op.news.one op.olds.one) → Commits op ok memory image hs

pub commits_tried : (op : Op) (edits : List Edit) (result : Result (Unit {0}) StepFault) (a b : Outside) → edits ≡ commit_edits op → TriesAt Global edits result a b → Passes (CommitsOne op (IsOk result) (FailsByMemory result)) a b
commits_tried op edits result a b is tries =
    passes_weaker (λ image hs. IsTryOf Global edits result hs) (CommitsOne op (IsOk result) (FailsByMemory result)) a b (λ image hs h sound w. commit_tried image op sound w result hs (subst (λ es. IsTryOf Global es result hs) is h)) tries

pub commits_none : (op : Op) (a : Outside) → Passes (CommitsOne op (false ≡ true) (Unit {0})) a a
commits_none op a = passes_none (CommitsOne op (false ≡ true) (Unit {0})) a a refl (later_same a) (contents_all a.told (λ image. CommitsOne op (false ≡ true) (Unit {0}) image []) (λ image sound w. record { course = tt; few = omega arith; committed = λ k. absurd (err_not_ok fault.Memory k); untried = λ k. refl }))
