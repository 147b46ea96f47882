-- What a row that is put or deleted leaves of the operations of other sessions.
use Rattle.std.proofs.Common.{◌≡◌, Bool, true, false, cond, refl, sym, ap, ◌∙◌, subst, List, [], ◌∷◌}
use Rattle.cell_world.specs.Images.{Image, Shard, after_one, global, with_store}
use Rattle.cell_world.specs.Keys.{same}
use Rattle.cell_world.specs.Marked.{MarkTables, HasNoMark, IsOutOfLog, NoMarksElsewhereOn, mark_tables}
use Rattle.cell_world.specs.Sound.{Sound, IsAttachedIn, locals_at}
use Rattle.cell_world.specs.Stores.{Store, Locals, changed}
use Rattle.cell_world.specs.Texts.{Text}
use Rattle.cell_world.specs.declared.cells.Cell.TheVariants as cell
use Rattle.cell_world.specs.declared.cells.CellKey.TheVariants as at
use Rattle.cell_world.specs.declared.changes.Edit.{Edit}
use Rattle.cell_world.specs.declared.changes.Edit.TheVariants.{Put, Delete}
use Rattle.cell_world.specs.declared.operations.Op.{Op}
use Rattle.cell_world.specs.declared.operations.Reach.TheVariants as reach
use Rattle.cell_world.specs.declared.operations.StageName.TheVariants.{Committed}
use Rattle.cell_world.proofs.SpanLaws.{same_is}
use Rattle.plain_model.specs.OnTrail.{logs_put}
use Rattle.op_log.specs.ShortChanges.{ShortChange}
use Rattle.op_steps.specs.Advancing.{AtStage}
use Rattle.session_laws.specs.Core.{AllStand}
use Rattle.session_laws.specs.Doing.{AllDoing}
use Rattle.session_laws.specs.Needs.{Needs}
use Rattle.operation_laws.specs.Left.{AreLeft}
use Rattle.operation_laws.proofs.ShortStands.{all_stand_short}
use Rattle.session_rows.specs.Rows.{commit_at}
use Rattle.row_laws.specs.Commits.{IsRowChange}

-- what reaches nothing is in no operation's way
pub stand_nothing : (doing : AllDoing) (image after : Image) → Sound image → AllStand Needs doing image → ShortChange image reach.Nothing after → AllStand Needs doing after
stand_nothing doing image after sound stand change = all_stand_short doing image sound stand reach.Nothing after change (λ op logged. refl)

-- ---- the global store

pub global_same : (image : Image) (location : Text) (change : List Edit) (took : Bool) → global (after_one image (commit_at location change took)) ≡ global image
global_same image location change true = refl
global_same image location change false = refl

pub no_log_put : (change : List Edit) → IsRowChange change → logs_put change ≡ []
no_log_put (Put (cell.Row row bytes) ∷ []) is = refl
no_log_put (Delete (at.Row row) ∷ []) is = refl
no_log_put other is = absurd is

pub was_attached : (image : Image) (location : Text) (change : List Edit) (took : Bool) (site : Text) → IsAttachedIn (after_one image (commit_at location change took)) site → IsAttachedIn image site
was_attached image location change true site here = here
was_attached image location change false site here = here

-- ---- local rows

-- the store's local rows are what they were
store_locals : (s : Store) (change : List Edit) → IsRowChange change → (changed s change).locals ≡ s.locals
store_locals s (Put (cell.Row row bytes) ∷ []) is = refl
store_locals s (Delete (at.Row row) ∷ []) is = refl
store_locals s other is = absurd is

-- so at each site, whichever has that store
locals_by : (image : Image) (location : Text) (s : Store) → s.locals ≡ locals_at image location → (site : Text) → locals_at (with_store image (Shard location) s) site ≡ locals_at image site
locals_by image location s stay site = by (same location site) refl
  where
    by : (b : Bool) → same location site ≡ b → (cond b s (image.at (Shard site))).locals ≡ locals_at image site
    by true t = stay ∙ ap (locals_at image) (same_is location site t)
    by false t = refl

module _ (image : Image) (location : Text) (change : List Edit) (row : IsRowChange change) where
  pub locals_same : (took : Bool) (site : Text) → locals_at (after_one image (commit_at location change took)) site ≡ locals_at image site
  locals_same true site = locals_by image location (changed (image.at (Shard location)) change) (store_locals (image.at (Shard location)) change row) site
  locals_same false site = refl

  pub tables_same : (took : Bool) → mark_tables (after_one image (commit_at location change took)) ≡ mark_tables image
  tables_same true = ap (λ (f : Text → Locals). record (mark_tables image) { locals_at = f }) (λ i site. locals_same true site i)
  tables_same false = refl

  -- ---- operations

  pub left_alone : (doing : AllDoing) (took : Bool) → AreLeft doing image → AreLeft doing (after_one image (commit_at location change took))
  left_alone doing false left = left
  left_alone doing true left = λ session op is. by op (left session op is)
    where
      by : (op : Op) → AtStage op Committed image → AtStage op Committed (after_one image (commit_at location change true))
      by op c = record { out = c.out; elsewhere = subst (λ (t : MarkTables). NoMarksElsewhereOn t op) (sym (tables_same true)) c.elsewhere; sites = c.sites; known = c.known }

  pub clean_alone : (op : Op) (took : Bool) (site : Text) → HasNoMark op (locals_at image site) → HasNoMark op (locals_at (after_one image (commit_at location change took)) site)
  clean_alone op took site = subst (HasNoMark op) (sym (locals_same took site))

  pub out_alone : (op : Op) (took : Bool) → IsOutOfLog (mark_tables image) op → IsOutOfLog (mark_tables (after_one image (commit_at location change took))) op
  out_alone op took = subst (λ (t : MarkTables). IsOutOfLog t op) (sym (tables_same took))
