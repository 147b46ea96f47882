-- The way of a command is cleared.
use Rattle.std.proofs.Common.{◌≡◌, ◌≢◌, ◌<◌, ◌≤◌, ◌+◌, ℕ, suc, Bool, true, false, ◌&&◌, refl, sym, ap, ◌∙◌, subst, Some, None, inl, inr, true≢false, List, [], ◌∷◌, ◌++◌, length, take, drop, arith}
use Rattle.std.specs.Prelude.{filter, Ok, Err, IfSome}
use Rattle.std.specs.FinMap as map
use Rattle.std.specs.Ordering.{nat_cmp}
use Rattle.std.specs.declared.cmp.Ordering.TheVariants.{Less}
use Rattle.std.proofs.Math.ListN.{get_or}
use Rattle.std.proofs.Math.Seq.{drop-cons}
use Rattle.std.proofs.lemmas.Bool.{cases_lt, cases_Bool}
use Rattle.std.proofs.lemmas.List.{take_more, take-append-drop}
use Rattle.std.proofs.lemmas.Option.{none-some}
use Rattle.cell_world.specs.Lists.{IsOneOf}
use Rattle.cell_world.specs.Images.{Image, Happening, Global, global, after_all}
use Rattle.cell_world.specs.Operations.{conflicts}
use Rattle.cell_world.specs.Outside.{Outside, IfContents, IsLater}
use Rattle.cell_world.specs.Sound.{Sound, HasLog}
use Rattle.cell_world.specs.declared.operations.Op.{Op}
use Rattle.cell_world.specs.declared.operations.Reach.{Reach}
use Rattle.cell_world.proofs.ContentsLaws.{contents_all, contents_weaker}
use Rattle.cell_world.proofs.OutsideLaws.{later_same}
use Rattle.cell_world.proofs.ListLaws.{one_of_two, in_second}
use Rattle.global_tables.specs.declared.faults.StepFault.{StepFault}
use Rattle.global_tables.proofs.Least.{number_least}
use Rattle.global_tables.proofs.Rising.{Rising, rising_filter, in_filter, from_filter}
use Rattle.op_steps.specs.Live.{is_live}
use Rattle.op_steps.specs.Passing.{Passes, IsCourse}
use Rattle.op_steps.specs.Undoing.{UndoStepOf, AreLogged, UndoesList, without_ops}
use Rattle.op_steps.specs.Clearing.{is_in_way, IsLeastInWay, IsFirstOf, IsAbandonedInWay, IsCleared, Clears}
use Rattle.op_steps.proofs.Courses.{course_weaker}
use Rattle.op_steps.proofs.Passes.{passes_none, passes_found}
use Rattle.op_steps.proofs.RecoverLaws.{ByNumber, log_rises, op_stands, op_there, rising_differ, without_gone, without_keeps, without_from}

-- ---- the search

-- none passes, and the next one doesn't
pub none_more : (test : Op → Bool) (ops : List Op) (i : ℕ) (op : Op) → i < length ops → op ≡ get_or ops i op → ((o : Op) → IsOneOf (take i ops) o → test o ≡ false) → test op ≡ false → (o : Op) → IsOneOf (take (i + 1) ops) o → test o ≡ false
none_more test ops i op lt is before e o h = elim (one_of_two (take i ops) (op ∷ []) o (subst (λ xs. IsOneOf xs o) (take_more ops i op lt ∙ ap (λ x. take i ops ++ x ∷ []) (sym is)) h)) [
  | inl m ↦ before o m
  | inr m ↦ elim m [ inl same ↦ ap test (sym same) ∙ e | inr never ↦ absurd never ]
]

-- none before passes, and this one does
pub first_found : (test : Op → Bool) (ops : List Op) (i : ℕ) (op : Op) → i < length ops → op ≡ get_or ops i op → ((o : Op) → IsOneOf (take i ops) o → test o ≡ false) → test op ≡ true → IsFirstOf test ops op
first_found test ops i op lt is before e = record {
  front = take i ops;
  rest = drop (suc i) ops;
  split = sym (take-append-drop i ops) ∙ ap (λ xs. take i ops ++ xs) (drop-cons ops i op lt ∙ ap (λ o. o ∷ drop (suc i) ops) (sym is));
  before = before;
  passes = e;
}

-- ---- what was found

module _ (live : List ℕ) (reach : Reach) (image : Image) (sound : Sound image) (ops : List Op) (is : ops ≡ map.values (global image).log) where
  abbrev keyed : (k : ℕ) → IfSome (map.get (global image).log k) (λ op. op.number ≡ k)
  keyed = (sound.keyed Global).log

  stands : (op : Op) → IsOneOf ops op → HasLog (global image).log op
  stands op h = op_stands (global image).log keyed op (subst (λ xs. IsOneOf xs op) is h)

  there : (op : Op) → HasLog (global image).log op → IsOneOf ops op
  there op h = subst (λ xs. IsOneOf xs op) (sym is) (op_there (global image).log keyed op h)

  rises : Rising ByNumber ops
  rises = subst (Rising ByNumber) (sym is) (log_rises (global image).log keyed)

  -- The first in the way has the least number.
  pub least_found : (op : Op) → IsFirstOf (is_in_way live reach) ops op → IsLeastInWay live reach (global image).log op
  least_found op f = record {
    logged = stands op (subst (λ xs. IsOneOf xs op) (sym f.split) (in_second f.front (op ∷ f.rest) op (inl refl)));
    in_way = f.passes;
    least = λ other h e. elim (one_of_two f.front (op ∷ f.rest) other (subst (λ xs. IsOneOf xs other) f.split (there other h))) [
      | inl m ↦ absurd (true≢false (sym e ∙ f.before other m))
      | inr m ↦ elim m [
        | inl same ↦ subst (λ (o : Op). op.number ≤ o.number) same (omega arith)
        | inr later ↦ less_of op.number other.number (later_rest other later)
      ]
    ];
  }
    where
      less_of : (a b : ℕ) → nat_cmp a b ≡ Less → a ≤ b
      less_of a b e = elim (cases_lt b a) [ inl lt ↦ absurd (number_least a b (omega (arith, lt)) e) | inr le ↦ le ]

      later_rest : (other : Op) → IsOneOf f.rest other → nat_cmp op.number other.number ≡ Less
      later_rest other h = (tail_rises f.front (subst (Rising ByNumber) f.split rises)).0 other h
        where
          tail_rises : (front : List Op) → Rising ByNumber (front ++ op ∷ f.rest) → Rising ByNumber (op ∷ f.rest)
          tail_rises [] r = r
          tail_rises (x ∷ xs) r = tail_rises xs r.1

  -- Where none is in the way, those that conflict are abandoned, and once they are undone the way is clear.
  module _ (none : (op : Op) → IsOneOf ops op → is_in_way live reach op ≡ false) where
    abandoned : (op : Op) → IsOneOf (filter (conflicts reach) ops) op → IsAbandonedInWay live reach op
    abandoned op h = let m = in_filter (conflicts reach) ops op h in record { conflict = m.1; abandoned = second (conflicts reach op) (is_live live op.number) m.1 (none op m.0) }
      where
        second : (a b : Bool) → a ≡ true → (a && b) ≡ false → b ≡ false
        second true b e f = f
        second false b e f = cc

    pub listed : AreLogged (global image).log (filter (conflicts reach) ops)
    listed = record { logged = λ op h. stands op (in_filter (conflicts reach) ops op h).0; once = rising_differ (filter (conflicts reach) ops) (rising_filter ByNumber (conflicts reach) ops rises) }

    pub conflicts_undone : (ok : Type 0) (hs : List Happening) → UndoesList (filter (conflicts reach) ops) ok image hs → IsCourse (UndoStepOf (IsAbandonedInWay live reach)) image hs
    conflicts_undone ok hs u = course_weaker (UndoStepOf (IsOneOf (filter (conflicts reach) ops))) (UndoStepOf (IsAbandonedInWay live reach)) (λ i p c h. (h.0, abandoned h.0 h.1, h.2)) image hs (u sound listed).course

    pub way_cleared : (hs : List Happening) → UndoesList (filter (conflicts reach) ops) (true ≡ true) image hs → IsCleared live reach image hs
    way_cleared hs u = record {
      none = λ op h. none op (there op h);
      course = conflicts_undone (true ≡ true) hs u;
      clear = λ op h. let was : HasLog (global image).log op = without_from (global image).log (filter (conflicts reach) ops) op.number op (subst (λ log. HasLog log op) log_is h) in (
        was,
        elim (cases_Bool (conflicts reach op)) [
          | inr t ↦ t
          | inl t ↦ absurd (none-some op (sym (without_gone (global image).log (filter (conflicts reach) ops) op (from_filter (conflicts reach) ops op (there op was) t)) ∙ subst (λ log. HasLog log op) log_is h))
        ],
      );
      kept = λ op h e. subst (λ log. HasLog log op) (sym log_is) (without_keeps (global image).log (filter (conflicts reach) ops) op.number (apart op h e) ∙ h);
    }
      where
        log_is : (global (after_all image hs)).log ≡ without_ops (global image).log (filter (conflicts reach) ops)
        log_is = (u sound listed).gone refl

        -- one that doesn't conflict has another number
        apart : (op : Op) → HasLog (global image).log op → conflicts reach op ≡ false → (o : Op) → IsOneOf (filter (conflicts reach) ops) o → op.number ≢ o.number
        apart op h e o m same =
            let w = in_filter (conflicts reach) ops o m in
            let one : Some op ≡ Some o = sym h ∙ ap (map.get (global image).log) same ∙ stands o w.0 in
            let is_one : op ≡ o = cc in
            true≢false (sym w.1 ∙ ap (conflicts reach) (sym is_one) ∙ e)

-- ---- the calls

abbrev Found : List Op → Image → Type 0
Found ops image = ops ≡ map.values (global image).log

pub finds_live : (live : List ℕ) (reach : Reach) (ops : List Op) (op : Op) (a b : Outside) → b.told ≡ a.told → IsLater a b → IfContents a.told (Found ops) → IsFirstOf (is_in_way live reach) ops op → Passes (Clears live reach (Ok (Some op))) a b
finds_live live reach ops op a b told later found f =
    passes_none (Clears live reach (Ok (Some op))) a b told later (contents_weaker a.told (Found ops) (λ image. Clears live reach (Ok (Some op)) image []) (λ image is sound. (refl, least_found live reach image sound ops is op f)) found)

pub clears : (live : List ℕ) (reach : Reach) (ops : List Op) (a b c : Outside) → b.told ≡ a.told → IsLater a b → IfContents a.told (Found ops) → ((op : Op) → IsOneOf ops op → is_in_way live reach op ≡ false) → Passes (UndoesList (filter (conflicts reach) ops) (true ≡ true)) b c → Passes (Clears live reach (Ok None)) a c
clears live reach ops a b c told later found none u =
    passes_found (Found ops) (UndoesList (filter (conflicts reach) ops) (true ≡ true)) (Clears live reach (Ok None)) a b c told later found u (λ image hs is p sound. way_cleared live reach image sound ops is none hs p)

pub clears_not : (live : List ℕ) (reach : Reach) (ops : List Op) (e : StepFault) (a b c : Outside) → b.told ≡ a.told → IsLater a b → IfContents a.told (Found ops) → ((op : Op) → IsOneOf ops op → is_in_way live reach op ≡ false) → Passes (UndoesList (filter (conflicts reach) ops) (false ≡ true)) b c
    → Passes (Clears live reach (Err e)) a c
clears_not live reach ops e a b c told later found none u =
    passes_found (Found ops) (UndoesList (filter (conflicts reach) ops) (false ≡ true)) (Clears live reach (Err e)) a b c told later found u (λ image hs is p sound. conflicts_undone live reach image sound ops is none (false ≡ true) hs p)

pub clears_none : (live : List ℕ) (reach : Reach) (e : StepFault) (a b : Outside) → b.told ≡ a.told → IsLater a b → Passes (Clears live reach (Err e)) a b
clears_none live reach e a b told later = passes_none (Clears live reach (Err e)) a b told later (contents_all a.told (λ image. Clears live reach (Err e) image []) (λ image sound. tt))

pub undoes_none : (ops : List Op) (a : Outside) → Passes (UndoesList ops (false ≡ true)) a a
undoes_none ops a = passes_none (UndoesList ops (false ≡ true)) a a refl (later_same a) (contents_all a.told (λ image. UndoesList ops (false ≡ true) image []) (λ image sound l. record { course = tt; gone = λ k. cc }))
