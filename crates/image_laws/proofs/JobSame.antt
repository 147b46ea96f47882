-- Two logged steps of one job have an old mapping in common.
use Rattle.std.proofs.Common.{◌≡◌, Bool, true, false, cond, refl, sym, ap, ◌∙◌, subst, Some, None, Option, inl, inr, List, [], ◌∷◌, option_map}
use Rattle.std.specs.Prelude.{option_and_then}
use Rattle.cell_world.specs.Texts.{Text}
use Rattle.cell_world.specs.Keys.{below, same_end, low_of}
use Rattle.cell_world.specs.Stores.{Mappings}
use Rattle.cell_world.specs.Plain.{Owner}
use Rattle.cell_world.specs.Jobs.{Step, Replace, Finish, TableRow, Always, UpTo, split_at, merge_of, move_of, online_of, ending_at, merge_due, batch_row, at_cursor, cursor_piece, cursor_row, idle_row, or_stuck, table_row, Gives}
use Rattle.cell_world.specs.declared.operations.Piece.{Piece}
use Rattle.cell_world.specs.declared.operations.JobRow.{JobRow}
use Rattle.cell_world.specs.declared.operations.Extra.{Extra}
use Rattle.cell_world.specs.declared.operations.Phase.{Phase}
use Rattle.cell_world.specs.declared.operations.Phase.TheVariants.{Idle, Copying, Moved}
use Rattle.cell_world.specs.declared.spans.High.{High}
use Rattle.cell_world.specs.declared.spans.High.TheVariants.{At, Max}
use Rattle.cell_world.specs.declared.spans.Span.{Span}
use Rattle.cell_world.specs.declared.spans.Span.TheVariants.{Range, Point}
use Rattle.image_laws.proofs.JobKinds.{olds_of, split_is, batch_is, batch_stuck}

-- Whatever the end of the batch, the olds are the same.
abbrev pub IsSteady : TableRow → Type 0
IsSteady (Always step) = Unit {0}
IsSteady (UpTo step) = (a b : High) → olds_of (step a) ≡ olds_of (step b)

steady_stuck : {A : Type 0} (f : A → Step) (o : Option A) → IsSteady (or_stuck (option_map (λ x. Always (f x)) o))
steady_stuck f None = tt
steady_stuck f (Some x) = tt

-- the olds of a batch's step are its mapping alone
batch_olds : (job : JobRow) (p : Piece) (s : Span) → p.span ≡ s → (end : High) → olds_of (batch_row job p end) ≡ olds_of (batch_row job p Max)
batch_olds job p (Point at) e end = ap olds_of (batch_stuck job p end at e) ∙ sym (ap olds_of (batch_stuck job p Max at e))
batch_olds job p (Range a b) e end = only end ∙ sym (only Max)
  where
    only : (x : High) → olds_of (batch_row job p x) ≡ p ∷ []
    only x = elim (batch_is job p x a b e) [
      | inl s ↦ ap olds_of (s.1 ∙ split_is p s.0 a b e)
      | inr o ↦ ap olds_of o.1
    ]

steady_cursor : (own : Owner) (job : JobRow) (key : Text) (o : Option Piece) → IsSteady (or_stuck (option_map (at_cursor job key) o))
steady_cursor own job key None = tt
steady_cursor own job key (Some p) = by (below (low_of p.span) key)
  where
    by : (b : Bool) → IsSteady (cond b (Always (split_at p key)) (UpTo (batch_row job p)))
    by true = tt
    by false = λ a b. batch_olds job p p.span refl a ∙ sym (batch_olds job p p.span refl b)

pub steady : (own : Owner) (mappings : Mappings) (job : JobRow) → IsSteady (table_row own mappings job)
steady own mappings job = by job.phase refl
  where
    cursor_steady : (f : Phase) (c : High) → job.cursor ≡ c → IsSteady (cursor_row own (record job { phase = f }))
    cursor_steady f Max e = subst (λ x. IsSteady (cursor_row own (record job { phase = f; cursor = x }))) (sym e) tt
    cursor_steady f (At key) e = subst (λ x. IsSteady (cursor_row own (record job { phase = f; cursor = x }))) (sym e) (steady_cursor own (record job { phase = f; cursor = At key }) key (own job.map key))

    due_steady : (o : Option Piece) (row : TableRow) → option_and_then (λ (p : Piece). cond (below job.low (low_of p.span)) (Some (or_stuck (option_map (λ earlier. Always (merge_of earlier p)) (ending_at mappings job.map (At (low_of p.span)))))) None) o ≡ Some row → IsSteady row
    due_steady None row e = absurd (cc)
    due_steady (Some p) row e = test (below job.low (low_of p.span)) e
      where
        test : (b : Bool) → cond b (Some (or_stuck (option_map (λ earlier. Always (merge_of earlier p)) (ending_at mappings job.map (At (low_of p.span)))))) None ≡ Some row → IsSteady row
        test false e = absurd (cc)
        test true e = let is : or_stuck (option_map (λ earlier. Always (merge_of earlier p)) (ending_at mappings job.map (At (low_of p.span)))) ≡ row = cc in subst IsSteady is (steady_stuck (λ earlier. merge_of earlier p) (ending_at mappings job.map (At (low_of p.span))))

    idle : (o : Option TableRow) → merge_due mappings job ≡ o → IsSteady (idle_row own (record job { phase = Idle }) o)
    idle (Some row) e = due_steady (ending_at mappings job.map job.cursor) row e
    idle None e = test (same_end job.cursor job.high)
      where
        test : (b : Bool) → IsSteady (cond b (Always Finish) (cursor_row own (record job { phase = Idle })))
        test true = tt
        test false = cursor_steady Idle job.cursor refl

    at_phase : (f : Phase) → job.phase ≡ f → IsSteady (table_row own mappings (record job { phase = f })) → IsSteady (table_row own mappings job)
    at_phase f e = subst (λ x. IsSteady (table_row own mappings (record job { phase = x }))) (sym e)

    by : (f : Phase) → job.phase ≡ f → IsSteady (table_row own mappings job)
    by Idle e = at_phase Idle e (idle (merge_due mappings job) refl)
    by (Copying end) e = at_phase (Copying end) e (steady_stuck (λ piece. move_of (record job { phase = Copying end }) piece end) (cursor_piece own job))
    by (Moved end) e = at_phase (Moved end) e (steady_stuck (λ piece. online_of (record job { phase = Moved end }) piece end) (cursor_piece own job))

-- Two steps that one row gives have the same olds.
pub same_olds : (MayEnd : High → Type 0) (row : TableRow) → IsSteady row → (a b c d : List Piece) (x y : Extra) → Gives MayEnd row (Replace a b x) → Gives MayEnd row (Replace c d y) → a ≡ c
same_olds MayEnd (Always step) s a b c d x y h g = ap olds_of (sym h ∙ g)
same_olds MayEnd (UpTo step) s a b c d x y h g = ap olds_of (sym h.2) ∙ s h.0 g.0 ∙ ap olds_of g.2
