-- What two values differ in, and what a step up to a batch end shows of its end.
use Rattle.std.proofs.Common.{◌≡◌, ℕ, Bool, true, false, true≢false, cond, refl, sym, ap, ◌∙◌, Some, None, Option, List, [], ◌∷◌, is_some, T, ◌&&◌}
use Rattle.std.specs.FinMap as map
use Rattle.std.specs.FinMap.{is_sorted}
use Rattle.std.specs.FinMap.Entries.{where_key}
use Rattle.cell_world.specs.Texts.{Text}
use Rattle.cell_world.specs.Keys.{before, end_below, same_end}
use Rattle.cell_world.specs.Jobs.{Step, Replace, Finish, Stuck, batch_row, split_at, offline_of}
use Rattle.cell_world.specs.Lawful.{rows_under}
use Rattle.cell_world.specs.Orders.{row_cmp}
use Rattle.cell_world.specs.declared.cells.RowName.{RowName}
use Rattle.cell_world.specs.declared.cells.Status.{Status}
use Rattle.cell_world.specs.declared.cells.Status.TheVariants.{Online, Offline}
use Rattle.cell_world.specs.declared.operations.Piece.{Piece}
use Rattle.cell_world.specs.declared.operations.JobRow.{JobRow}
use Rattle.cell_world.specs.declared.operations.Phase.{Phase}
use Rattle.cell_world.specs.declared.operations.Phase.TheVariants.{Idle, Copying, Moved}
use Rattle.cell_world.specs.declared.operations.Extra.{Extra}
use Rattle.cell_world.specs.declared.operations.Extra.TheVariants as extra
use Rattle.cell_world.specs.declared.spans.High.{High}
use Rattle.cell_world.specs.declared.spans.High.TheVariants.{At, Max}
use Rattle.cell_world.specs.declared.spans.Span.{Span}
use Rattle.cell_world.specs.declared.spans.Span.TheVariants.{Range, Point}
use Rattle.world_examples.specs.Examples.{int_key, job_piece, rows_of}
use Rattle.world_examples.proofs.Tables.{is_under, get_under}

-- equal values pass the same tests
pub differ : {A : Type 0} (test : A → Bool) (a b : A) → a ≡ b → test a ≡ true → test b ≡ false → ⊥
differ test a b e t f = true≢false (sym t ∙ ap test e ∙ f)

pub some_is : {A : Type 0} (a b : A) → Some a ≡ Some b → a ≡ b
some_is a b e = cc

abbrev pub is_online : Status → Bool
is_online Online = true
is_online Offline = false

-- something stands, and it passes
abbrev pub shows : (Piece → Bool) → Option Piece → Bool
shows test None = false
shows test (Some p) = test p

-- a row under a span
pub some_under : (name : Text) (span : Span) (entries : List (RowName × Text)) → T (is_sorted row_cmp entries) → (row : RowName) → is_some (map.find row_cmp row (where_key row_cmp (is_under name span) entries)) ≡ true
    → rows_under (rows_of entries) name span ≡ map.empty → ⊥
some_under name span entries sorted row there none = true≢false (sym there ∙ ap is_some (sym (get_under name span entries sorted row) ∙ ap (λ rows. map.get rows row) none ∙ map.get-empty row_cmp row))

-- ---- steps

abbrev pub olds_of : Step → List Piece
olds_of (Replace olds news put) = olds
olds_of Finish = []
olds_of Stuck = []

abbrev pub news_of : Step → List Piece
news_of (Replace olds news put) = news
news_of Finish = []
news_of Stuck = []

abbrev pub put_of : Step → Extra
put_of (Replace olds news put) = put
put_of Finish = extra.None
put_of Stuck = extra.None

abbrev pub has_two : List Piece → Bool
has_two (a ∷ b ∷ []) = true
has_two pieces = false

abbrev pub puts_job : Extra → Bool
puts_job (extra.JobPut job) = true
puts_job other = false

abbrev pub is_empty : List Piece → Bool
is_empty [] = true
is_empty (p ∷ ps) = false

-- a job is put without a batch, and its cursor is at this end
abbrev pub puts_idle_at : High → Extra → Bool
puts_idle_at end (extra.JobPut job) = idle job.phase && same_end end job.cursor
  where
    idle : Phase → Bool
    idle Idle = true
    idle (Copying end) = false
    idle (Moved end) = false
puts_idle_at end other = false

abbrev is_max : High → Bool
is_max Max = true
is_max (At key) = false

-- where the batch ends in the job that is put
abbrev end_in : Extra → High
end_in (extra.JobPut job) = ends job.phase
  where
    ends : Phase → High
    ends Idle = Max
    ends (Copying end) = end
    ends (Moved end) = end
end_in other = Max

-- where the first of the news ends
abbrev first_end : List Piece → High
first_end [] = Max
first_end (p ∷ ps) = ends p.span
  where
    ends : Span → High
    ends (Range low high) = high
    ends (Point at) = Max

module _ (job : JobRow) (low high : ℕ) (location : Text) (status : Status) where
  abbrev piece : Piece
  piece = job_piece low high location status

  -- a step up to a batch end changes one mapping
  pub one_old : (end : High) → has_two (olds_of (batch_row job piece end)) ≡ false
  one_old Max = refl
  one_old (At key) = by (before key (At (int_key high)))
    where
      by : (b : Bool) → has_two (olds_of (cond b (split_at piece key) (offline_of job piece (At key)))) ≡ false
      by true = refl
      by false = refl

  -- a split is at the end of the batch
  pub split_end : (end : High) (at : Text) → batch_row job piece end ≡ split_at piece at → end ≡ At at
  split_end Max at e = absurd (differ has_two _ _ (sym (ap news_of e)) refl refl)
  split_end (At key) at e = by (before key (At (int_key high))) e
    where
      by : (b : Bool) → cond b (split_at piece key) (offline_of job piece (At key)) ≡ split_at piece at → At key ≡ At at
      by true e = ap (λ step. first_end (news_of step)) e
      by false e = absurd (differ has_two _ _ (sym (ap news_of e)) refl refl)

  -- a mapping goes offline whole, up to an end that isn't below its own
  pub offline_end : (end : High) (at : Text) → batch_row job piece end ≡ offline_of job piece (At at) → before at (At (int_key high)) ≡ false
  offline_end Max at e = absurd (differ is_max _ _ (ap (λ step. end_in (put_of step)) e) refl refl)
  offline_end (At key) at e = by (before key (At (int_key high))) refl e
    where
      by : (b : Bool) → before key (At (int_key high)) ≡ b → cond b (split_at piece key) (offline_of job piece (At key)) ≡ offline_of job piece (At at) → before at (At (int_key high)) ≡ false
      by true f e = absurd (differ has_two _ _ (ap news_of e) refl refl)
      by false f e = ap (λ end. end_below end (At (int_key high))) (sym (ap (λ step. end_in (put_of step)) e)) ∙ f
