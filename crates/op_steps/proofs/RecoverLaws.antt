-- The undo of several operations.
use Rattle.std.proofs.Common.{◌≡◌, ◌≢◌, ◌<◌, ◌+◌, ℕ, suc, true, refl, sym, ap, ◌∙◌, subst, Some, None, Option, inl, inr, List, [], ◌∷◌, ◌++◌, length, take, drop}
use Rattle.std.specs.Prelude.{IfSome}
use Rattle.std.specs.FinMap as map
use Rattle.std.specs.Ordering.{nat_cmp}
use Rattle.std.specs.declared.cmp.Ordering.TheVariants.{Less, Equal}
use Rattle.std.proofs.Math.ListN.{get_or}
use Rattle.std.proofs.lemmas.Cmp.{nat_cmp_total, tied_itself}
use Rattle.std.proofs.lemmas.List.{take_more, take-append-drop}
use Rattle.std.proofs.Math.Seq.{drop-cons}
use Rattle.std.proofs.lemmas.Map.Lookups.{exact_unsigned}
use Rattle.std.proofs.lemmas.Option.{none-some}
use Rattle.cell_world.specs.Lists.{IsOneOf}
use Rattle.cell_world.specs.Stores.{Log}
use Rattle.cell_world.specs.Images.{Image, Place, Happening, Global, global, after_all}
use Rattle.cell_world.specs.declared.changes.Edit.{Edit}
use Rattle.cell_world.specs.Sound.{Sound, HasLog}
use Rattle.cell_world.specs.declared.operations.Op.{Op}
use Rattle.cell_world.proofs.ListLaws.{one_of_two, in_first, in_second}
use Rattle.cell_world.proofs.StoreLaws.{get-remove_same, get-remove_other, get-remove_cases}
use Rattle.global_tables.proofs.GroupCells.{own, value_stands, value_there}
use Rattle.global_tables.proofs.Entries.{entry_stands, entries_rise}
use Rattle.global_tables.proofs.Rising.{Rising, rising_map_in}
use Rattle.image_laws.proofs.StepImages.{undo_sound, unlogged_sound}
use Rattle.op_steps.specs.Passing.{IsCourse, changed_at}
use Rattle.op_steps.specs.Undoing.{UndoStep, AtSite, LogRow, UndoStepOf, AnyUndoStep, Undoes, without_ops, AreLogged, OpsDiffer, UndoesOps, UndoesList, UndoesAll}
use Rattle.op_steps.proofs.Courses.{course_keeps, course_then, course_weaker, after_then}

-- ---- a step of undo keeps an image sound

pub undo_step_sound : (op : Op) (image : Image) (place : Place) (change : List Edit) → Sound image → UndoStep op image place change → Sound (changed_at image place change)
undo_step_sound op image place change sound (AtSite u) = subst Sound (sym u.is) (undo_sound image sound op u.logged u.location u.site.here u.last u.swept)
undo_step_sound op image place change sound (LogRow d) = subst Sound (sym d.is) (unlogged_sound image sound op d.logged d.undone)

pub steps_sound : (These : Op → Type 0) (image : Image) (hs : List Happening) → Sound image → IsCourse (UndoStepOf These) image hs → Sound (after_all image hs)
steps_sound These image hs sound c = course_keeps (UndoStepOf These) Sound (λ i p c s step. undo_step_sound step.0 i p c s step.2) image hs sound c

-- ---- logs without some of their rows

without-append : (log : Log) (xs ys : List Op) → without_ops (without_ops log xs) ys ≡ without_ops log (xs ++ ys)
without-append log [] ys = refl
without-append log (x ∷ xs) ys = without-append (map.remove log x.number) xs ys

-- a row of another number stands
pub without_keeps : (log : Log) (ops : List Op) (k : ℕ) → ((o : Op) → IsOneOf ops o → k ≢ o.number) → map.get (without_ops log ops) k ≡ map.get log k
without_keeps log [] k other = refl
without_keeps log (o ∷ ops) k other =
    without_keeps (map.remove log o.number) ops k (λ x h. other x (inr h)) ∙ get-remove_other nat_cmp_total exact_unsigned log o.number k (other o (inl refl))

-- none comes
without_none : (log : Log) (ops : List Op) (k : ℕ) → map.get log k ≡ None → map.get (without_ops log ops) k ≡ None
without_none log [] k e = e
without_none log (o ∷ ops) k e = without_none (map.remove log o.number) ops k (elim (get-remove_cases nat_cmp_total exact_unsigned log o.number k) [ inl h ↦ h.1 | inr h ↦ h ∙ e ])

-- and theirs are gone
pub without_gone : (log : Log) (ops : List Op) (op : Op) → IsOneOf ops op → map.get (without_ops log ops) op.number ≡ None
without_gone log [] op h = absurd h
without_gone log (o ∷ ops) op (inl e) = without_none (map.remove log o.number) ops op.number (elim (get-remove_cases nat_cmp_total exact_unsigned log o.number op.number) [
  | inl h ↦ h.1
  | inr h ↦ subst (λ (x : Op). map.get (map.remove log o.number) x.number ≡ None) e (removed log o.number)
])
  where
    removed : (log : Log) (k : ℕ) → map.get (map.remove log k) k ≡ None
    removed log k = get-remove_same nat_cmp_total log k
without_gone log (o ∷ ops) op (inr h) = without_gone (map.remove log o.number) ops op h

-- ---- one operation more

differ_front : (front rest : List Op) → OpsDiffer (front ++ rest) → OpsDiffer front
differ_front [] rest d = tt
differ_front (x ∷ xs) rest d = (λ o h. d.0 o (in_first xs rest o h), differ_front xs rest d.1)

differ_next : (front : List Op) (op : Op) (rest : List Op) → OpsDiffer (front ++ op ∷ rest) → (o : Op) → IsOneOf front o → op.number ≢ o.number
differ_next [] op rest d o h = absurd h
differ_next (x ∷ xs) op rest d o (inl e) = subst (λ (y : Op). op.number ≢ y.number) e (d.0 op (in_second xs (op ∷ rest) op (inl refl)))
differ_next (x ∷ xs) op rest d o (inr h) = differ_next xs op rest d.1 o h

module _ (front : List Op) (op : Op) (rest : List Op) (ok : Type 0) (image : Image) (hs gs : List Happening) where
  pub one_more : UndoesList front (true ≡ true) image hs → Undoes op ok (after_all image hs) gs → Sound image → AreLogged (global image).log (front ++ op ∷ rest) → UndoesOps (front ++ op ∷ []) ok image (hs ++ gs)
  one_more p q sound l =
      let r = p sound (record { logged = λ o h. l.logged o (in_first front (op ∷ rest) o h); once = differ_front front (op ∷ rest) l.once }) in
      let stands : HasLog (global (after_all image hs)).log op = ap (λ log. map.get log op.number) (r.gone refl) ∙ without_keeps (global image).log front op.number (differ_next front op rest l.once) ∙ l.logged op (in_second front (op ∷ rest) op (inl refl)) in
      let s = q (steps_sound (IsOneOf front) image hs sound r.course) stands in
      record {
        course = course_then (UndoStepOf (IsOneOf (front ++ op ∷ []))) image hs gs
            (course_weaker (UndoStepOf (IsOneOf front)) (UndoStepOf (IsOneOf (front ++ op ∷ []))) (λ i p c h. (h.0, in_first front (op ∷ []) h.0 h.1, h.2)) image hs r.course)
            (course_weaker (UndoStep op) (UndoStepOf (IsOneOf (front ++ op ∷ []))) (λ i p c h. (op, in_second front (op ∷ []) op (inl refl), h)) (after_all image hs) gs s.course);
        gone = λ k. ap (λ i. (global i).log) (sym (after_then image hs gs)) ∙ s.gone k ∙ ap (λ log. map.remove log op.number) (r.gone refl) ∙ without-append (global image).log front (op ∷ []);
      }

-- as the loop has it
pub next_done : (ops : List Op) (i : ℕ) (op : Op) → i < length ops → op ≡ get_or ops i op → (image : Image) (hs gs : List Happening) → UndoesList (take i ops) (true ≡ true) image hs → Undoes op (true ≡ true) (after_all image hs) gs
    → UndoesList (take (i + 1) ops) (true ≡ true) image (hs ++ gs)
next_done ops i op lt is image hs gs p q =
    subst (λ xs. UndoesList xs (true ≡ true) image (hs ++ gs)) (sym (take_more ops i op lt ∙ ap (λ o. take i ops ++ o ∷ []) (sym is)))
    (λ sound l. one_more (take i ops) op [] (true ≡ true) image hs gs p q sound l)

pub next_failed : (ops : List Op) (i : ℕ) (op : Op) → i < length ops → op ≡ get_or ops i op → (ok : Type 0) → (ok → ⊥) → (image : Image) (hs gs : List Happening) → UndoesList (take i ops) (true ≡ true) image hs → Undoes op ok (after_all image hs) gs
    → UndoesList ops ok image (hs ++ gs)
next_failed ops i op lt is ok never image hs gs p q sound l =
    let all : ops ≡ take i ops ++ op ∷ drop (suc i) ops = sym (take-append-drop i ops) ∙ ap (λ xs. take i ops ++ xs) (drop-cons ops i op lt ∙ ap (λ o. o ∷ drop (suc i) ops) (sym is)) in
    let r = one_more (take i ops) op (drop (suc i) ops) ok image hs gs p q sound (subst (AreLogged (global image).log) all l) in
    record {
      course = course_weaker (UndoStepOf (IsOneOf (take i ops ++ op ∷ []))) (UndoStepOf (IsOneOf ops)) (λ j p c h. (h.0, subst (λ xs. IsOneOf xs h.0) (sym all) (among h.0 h.1), h.2)) image (hs ++ gs) r.course;
      gone = λ k. absurd (never k);
    }
  where
    among : (o : Op) → IsOneOf (take i ops ++ op ∷ []) o → IsOneOf (take i ops ++ op ∷ drop (suc i) ops) o
    among o h = elim (one_of_two (take i ops) (op ∷ []) o h) [
      | inl m ↦ in_first (take i ops) (op ∷ drop (suc i) ops) o m
      | inr m ↦ in_second (take i ops) (op ∷ drop (suc i) ops) o (elim m [ inl e ↦ inl e | inr e ↦ absurd e ])
    ]

pub none_undone : (image : Image) → UndoesList [] (true ≡ true) image []
none_undone image sound l = record { course = tt; gone = λ k. refl }

-- ---- all that are logged

abbrev pub ByNumber : Op → Op → Type 0
ByNumber a b = nat_cmp a.number b.number ≡ Less

module _ (log : Log) (keyed : (k : ℕ) → IfSome (map.get log k) (λ op. op.number ≡ k)) where
  pub log_rises : Rising ByNumber (map.values log)
  log_rises = rising_map_in (λ (e : ℕ × Op). e.1) (λ a b. nat_cmp a.0 b.0 ≡ Less) ByNumber (map.entries log)
      (λ a b p q h. (λ i. nat_cmp (own nat_cmp_total (λ (op : Op). op.number) log keyed a.0 a.1 (entry_stands nat_cmp nat_cmp_total log a p) i) (own nat_cmp_total (λ (op : Op). op.number) log keyed b.0 b.1 (entry_stands nat_cmp nat_cmp_total log b q) i)) ∙ h)
      (entries_rise nat_cmp nat_cmp_total log)

  pub op_stands : (op : Op) → IsOneOf (map.values log) op → HasLog log op
  op_stands op h = value_stands nat_cmp_total (λ (o : Op). o.number) log keyed op h

  pub op_there : (op : Op) → HasLog log op → IsOneOf (map.values log) op
  op_there op h = value_there nat_cmp_total (λ (o : Op). o.number) log keyed exact_unsigned op.number op h

  pub number_is : (k : ℕ) (op : Op) → map.get log k ≡ Some op → op.number ≡ k
  number_is k op h = own nat_cmp_total (λ (o : Op). o.number) log keyed k op h

pub rising_differ : (ops : List Op) → Rising ByNumber ops → OpsDiffer ops
rising_differ [] r = tt
rising_differ (op ∷ ops) r = (λ o h e. let tie : nat_cmp op.number op.number ≡ Equal = tied_itself nat_cmp_total op.number in let less : nat_cmp op.number op.number ≡ Less = ap (nat_cmp op.number) (sym e) ∙ r.0 o h in cc, rising_differ ops r.1)

pub all_logged : (image : Image) → Sound image → AreLogged (global image).log (map.values (global image).log)
all_logged image sound = let keyed = (sound.keyed Global).log in record { logged = op_stands (global image).log keyed; once = rising_differ (map.values (global image).log) (log_rises (global image).log keyed) }

pub recovered : (ops : List Op) (ok : Type 0) (image : Image) (hs : List Happening) → ops ≡ map.values (global image).log → UndoesList ops ok image hs → Sound image → UndoesAll ok image hs
recovered ops ok image hs is p sound =
    let keyed = (sound.keyed Global).log in
    let r = p sound (subst (AreLogged (global image).log) (sym is) (all_logged image sound)) in
    record {
      course = course_weaker (UndoStepOf (IsOneOf ops)) AnyUndoStep (λ i p c h. (h.0, tt, h.2)) image hs r.course;
      empty = λ k. r.gone k ∙ ap (without_ops (global image).log) is ∙ map.same_map nat_cmp_total exact_unsigned (without_ops (global image).log (map.values (global image).log)) map.empty
          (λ n. nothing_left keyed n (map.get (global image).log n) refl ∙ sym (map.get-empty nat_cmp n));
    }
  where
    nothing_left : ((k : ℕ) → IfSome (map.get (global image).log k) (λ op. op.number ≡ k)) → (n : ℕ) (o : Option Op) → map.get (global image).log n ≡ o → map.get (without_ops (global image).log (map.values (global image).log)) n ≡ None
    nothing_left keyed n None e = without_none (global image).log (map.values (global image).log) n e
    nothing_left keyed n (Some op) e =
        let number : op.number ≡ n = number_is (global image).log keyed n op e in
        subst (λ m. map.get (without_ops (global image).log (map.values (global image).log)) m ≡ None) number
        (without_gone (global image).log (map.values (global image).log) op (op_there (global image).log keyed op (ap (map.get (global image).log) number ∙ e)))

-- ---- what stands without some of its rows stood

pub without_from : (log : Log) (ops : List Op) (k : ℕ) (op : Op) → map.get (without_ops log ops) k ≡ Some op → map.get log k ≡ Some op
without_from log [] k op h = h
without_from log (o ∷ ops) k op h = elim (get-remove_cases nat_cmp_total exact_unsigned log o.number k) [
  | inl g ↦ absurd (none-some op (sym g.1 ∙ without_from (map.remove log o.number) ops k op h))
  | inr g ↦ sym g ∙ without_from (map.remove log o.number) ops k op h
]
