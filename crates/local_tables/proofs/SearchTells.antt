-- The whole search, over what is told.
use Rattle.std.proofs.Common.{◌≡◌, ℕ, ◌+◌, ◌≤◌, ◌<◌, ◌&&◌, List, Option, refl, sym, ap, ◌∙◌, subst, arith}
use Rattle.std.specs.Prelude.{Result, Ok, unwrap_or, option_map}
use Rattle.std.specs.FinMap as fin
use Rattle.std.specs.Ordering.{is_gt, nat_cmp}
use Rattle.std.proofs.lemmas.Bool.{and_parts}
use Rattle.cell_world.specs.Texts.{Text}
use Rattle.cell_world.specs.ByteOrder.{byte_cmp}
use Rattle.cell_world.specs.Images.{Image, global}
use Rattle.cell_world.specs.Keys.{same, contains, low_of}
use Rattle.cell_world.specs.Stores.{Store, IsStore, Log, Locals, empty_store}
use Rattle.cell_world.specs.Outside.{Outside, IfContents, TellsCells, IsSite, store_at, place_at}
use Rattle.cell_world.specs.declared.cells.CellKey.{CellKey}
use Rattle.cell_world.specs.declared.cells.CellKey.TheVariants as at
use Rattle.cell_world.specs.declared.cells.Site.{Site}
use Rattle.cell_world.specs.declared.cells.Status.{Status}
use Rattle.cell_world.proofs.SpanLaws.{same_is, at_most_self, low_at_most}
use Rattle.global_tables.specs.declared.faults.StepFault.{StepFault}
use Rattle.local_tables.specs.declared.judging.Look.{Look}
use Rattle.local_tables.specs.declared.judging.Look.TheVariants.{Ends, Goes}
use Rattle.local_tables.specs.Resolving.{is_over, is_marked, is_up_to, resolved, CountApart, marks_over, marks_left, IsFrom, NoneAbove, Looks, left_after}
use Rattle.local_tables.proofs.BelowRows.{local_order, not_gt_no, number_up, not_gt_is}
use Rattle.local_tables.proofs.KeysBelow.{not_greater}
use Rattle.local_tables.proofs.Searching.{local_typed, fewer}
use Rattle.local_tables.proofs.StepTells.{stored, told_both, nothing_more}

-- ---- the beginning

abbrev pub first : Text → Text → CellKey
first name key = at.Local name key 18446744073709551615

begins_from : (name key : Text) → IsFrom name key (first name key)
begins_from name key = record { low = key; number = 18446744073709551615; is = refl; below = at_most_self key }

begins_none : (s : Store) (store : IsStore s) (log : Log) (name key : Text) → NoneAbove log s.locals name key (first name key)
begins_none s store log name key q h c o =
    let over = and_parts (same name q.map) (contains q.span key) o in
    let lt : q.number < 18446744073709551616 = (local_typed s store log name key q h).number in
    not_gt_is _ (ap is_gt (local_order q.map name (low_of q.span) key q.number 18446744073709551615 (sym (same_is name q.map over.0)))
    ∙ not_greater (byte_cmp (low_of q.span) key) (nat_cmp q.number 18446744073709551615) (not_gt_no (byte_cmp (low_of q.span) key) (low_at_most q.span key over.1)) (λ e. number_up q.number 18446744073709551615 (omega (arith, lt))))

begins_left : (locals : Locals) (name key : Text) → marks_left locals name key (first name key) ≤ marks_over locals name key
begins_left locals name key = fewer (λ q. (is_marked q.mark && is_over name key q) && is_up_to (first name key) q) (λ q. is_marked q.mark && is_over name key q) (fin.values locals)
    (λ q among h. (and_parts (is_marked q.mark && is_over name key q) (is_up_to (first name key) q) h).0)

-- ---- over what is told

-- where the search stands
abbrev pub At : Text → Text → CellKey → Image → Type 0
At name key from image = IsFrom name key from

abbrev pub None_above : Outside → Site → Text → Text → CellKey → Image → Type 0
None_above o site name key from image = CountApart (global image).log (store_at o site image).locals name → NoneAbove (global image).log (store_at o site image).locals name key from

-- what has been read, and what may still be
abbrev pub Spent : Outside → Site → Text → Text → ℕ → CellKey → Image → Type 0
Spent o site name key reads from image = reads + marks_left (store_at o site image).locals name key from ≤ o.global_reads + marks_over (store_at o site image).locals name key

-- what is told of a world is told of it earlier
pub moved : (o later : Outside) (site : Site) → later.told ≡ o.told → later.locations ≡ o.locations → (F : Image → Store → Type 0) → IfContents later.told (λ image. F image (store_at later site image)) → IfContents o.told (λ image. F image (store_at o site image))
moved o later site told locations F h =
    subst (λ t. IfContents t (λ image. F image (store_at o site image))) told
    (subst (λ (ls : List Text). IfContents later.told (λ image. F image (unwrap_or (option_map image.at (place_at ls site.0)) empty_store))) locations h)

module _ (o : Outside) (site : Site) (cells : TellsCells o.told) (is_site : IsSite o site) (name key : Text) where
  pub search_at : IfContents o.told (At name key (first name key))
  search_at = told_both o.told cells (λ image. Unit {0}) (λ image. Unit {0}) (At name key (first name key)) (λ image all u v. begins_from name key) (nothing_more o.told) (nothing_more o.told)

  pub search_none : IfContents o.told (None_above o site name key (first name key))
  search_none = told_both o.told cells (λ image. Unit {0}) (λ image. Unit {0}) (None_above o site name key (first name key))
      (λ image all u v apart. begins_none (store_at o site image) (stored (place_at o.locations site.0) image all is_site) (global image).log name key) (nothing_more o.told) (nothing_more o.told)

  pub search_spent : IfContents o.told (Spent o site name key o.global_reads (first name key))
  search_spent = told_both o.told cells (λ image. Unit {0}) (λ image. Unit {0}) (Spent o site name key o.global_reads (first name key))
      (λ image all u v. let le = begins_left (store_at o site image).locals name key in omega (arith, le)) (nothing_more o.told) (nothing_more o.told)

  -- a step from a later state of the world
  module _ (later : Outside) (told : later.told ≡ o.told) (locations : later.locations ≡ o.locations) (from : CellKey) (at : IfContents o.told (At name key from)) where
    pub step_at : (next : CellKey) → IfContents later.told (λ image. IsFrom name key from → IsFrom name key next) → IfContents o.told (At name key next)
    step_at next h = told_both o.told cells (At name key from) (λ image. IsFrom name key from → IsFrom name key next) (At name key next) (λ image all a f. f a) at
        (moved o later site told locations (λ image s. IsFrom name key from → IsFrom name key next) h)

    abbrev Looked : Look → Image → Store → Type 0
    Looked look image s = IsFrom name key from → CountApart (global image).log s.locals name → NoneAbove (global image).log s.locals name key from → Looks (global image).log s.locals name key look

    looked : (look : Look) → IfContents o.told (None_above o site name key from) → IfContents later.told (λ image. Looked look image (store_at later site image))
        → IfContents o.told (λ image. CountApart (global image).log (store_at o site image).locals name → Looks (global image).log (store_at o site image).locals name key look)
    looked look none h = told_both o.told cells (λ image. At name key from image × None_above o site name key from image) (λ image. Looked look image (store_at o site image))
        (λ image. CountApart (global image).log (store_at o site image).locals name → Looks (global image).log (store_at o site image).locals name key look)
        (λ image all a f apart. f a.0 apart (a.1 apart))
        (told_both o.told cells (At name key from) (None_above o site name key from) (λ image. At name key from image × None_above o site name key from image) (λ image all a n. (a, n)) at none)
        (moved o later site told locations (Looked look) h)

    pub step_none : (next : CellKey) → IfContents o.told (None_above o site name key from) → IfContents later.told (λ image. Looked (Goes next) image (store_at later site image)) → IfContents o.told (None_above o site name key next)
    step_none next none h = looked (Goes next) none h

    pub step_ends : (status : Option Status) → IfContents o.told (None_above o site name key from) → IfContents later.told (λ image. Looked (Ends status) image (store_at later site image))
        → IfContents o.told (λ image. CountApart (global image).log (store_at o site image).locals name → status ≡ resolved (global image).log (store_at o site image).locals name key)
    step_ends status none h = looked (Ends status) none h

    abbrev Reads : ℕ → Result Look StepFault → Image → Store → Type 0
    Reads after r image s = IsFrom name key from → after + left_after s.locals name key r ≤ later.global_reads + marks_left s.locals name key from

    spent : (after : ℕ) (r : Result Look StepFault) → IfContents o.told (Spent o site name key later.global_reads from) → IfContents later.told (λ image. Reads after r image (store_at later site image))
        → IfContents o.told (λ image. after + left_after (store_at o site image).locals name key r ≤ o.global_reads + marks_over (store_at o site image).locals name key)
    spent after r before h = told_both o.told cells (λ image. At name key from image × Spent o site name key later.global_reads from image) (λ image. Reads after r image (store_at o site image))
        (λ image. after + left_after (store_at o site image).locals name key r ≤ o.global_reads + marks_over (store_at o site image).locals name key)
        (λ image all a f. let step = f a.0 in let sum = a.1 in omega (arith, step, sum))
        (told_both o.told cells (At name key from) (Spent o site name key later.global_reads from) (λ image. At name key from image × Spent o site name key later.global_reads from image) (λ image all a n. (a, n)) at before)
        (moved o later site told locations (Reads after r) h)

    pub step_spent : (after : ℕ) (next : CellKey) → IfContents o.told (Spent o site name key later.global_reads from) → IfContents later.told (λ image. Reads after (Ok (Goes next)) image (store_at later site image)) → IfContents o.told (Spent o site name key after next)
    step_spent after next before h = spent after (Ok (Goes next)) before h

    pub step_stops : (after : ℕ) (r : Result Look StepFault) → IfContents o.told (Spent o site name key later.global_reads from) → IfContents later.told (λ image. Reads after r image (store_at later site image))
        → IfContents o.told (λ image. after ≤ o.global_reads + marks_over (store_at o site image).locals name key)
    step_stops after r before h = told_both o.told cells (λ image. after + left_after (store_at o site image).locals name key r ≤ o.global_reads + marks_over (store_at o site image).locals name key) (λ image. Unit {0})
        (λ image. after ≤ o.global_reads + marks_over (store_at o site image).locals name key) (λ image all le u. omega (arith, le)) (spent after r before h) (nothing_more o.told)

  -- what was spent is within what may be
  pub spent_all : (reads : ℕ) (from : CellKey) → IfContents o.told (Spent o site name key reads from) → IfContents o.told (λ image. reads ≤ o.global_reads + marks_over (store_at o site image).locals name key)
  spent_all reads from h = told_both o.told cells (Spent o site name key reads from) (λ image. Unit {0}) (λ image. reads ≤ o.global_reads + marks_over (store_at o site image).locals name key) (λ image all le u. omega (arith, le)) h (nothing_more o.told)
