-- The changes that begin and that finish a job, and that detach a site, each with what it reaches and the image that it leaves.
use Rattle.std.specs.Prelude.{◌≡◌, ℕ}
use Rattle.cell_world.specs.Texts.{Text}
use Rattle.cell_world.specs.Stores.{Mappings, put}
use Rattle.cell_world.specs.Images.{Image, Global, global, with_store}
use Rattle.cell_world.specs.Sound.{HasJob, IsSiteOfJob}
use Rattle.cell_world.specs.declared.operations.Piece.{Piece}
use Rattle.cell_world.specs.declared.operations.JobRow.{JobRow}
use Rattle.cell_world.specs.declared.operations.Reach.{Reach}
use Rattle.cell_world.specs.declared.operations.Reach.TheVariants as reach
use Rattle.cell_world.specs.declared.operations.Phase.TheVariants.{Idle}
use Rattle.cell_world.specs.declared.cells.Away.TheVariants.{Detached}
use Rattle.cell_world.specs.declared.cells.Cell.TheVariants as cell
use Rattle.cell_world.specs.declared.spans.High.{High}
use Rattle.op_log.specs.JobChanges.{MayBegin, begun_image, IsAtFinish, IsFreed, finished_image}

-- What a command does to a job or to a site that is no operation, where it may be done.
pub data JobSiteChange (image : Image) (reached : Reach) (after : Image) : Type 0 where
  -- `job` begins a job that moves a range out of a mapping. It reaches the mapping's span.
  BeginJob : (p : Piece) → reached ≡ reach.Part p.map p.span → (low : Text) (high : High) (target : Text) (batch : ℕ) → MayBegin image p low high target → after ≡ begun_image image p low high target batch → JobSiteChange image reached after
  -- the last step of a job finishes it. It reaches nothing.
  FinishJob : reached ≡ reach.Nothing → (job : JobRow) → HasJob (global image).jobs job → IsAtFinish image job → (mappings : Mappings) → IsFreed job.number (global image).mappings mappings → after ≡ finished_image image job mappings → JobSiteChange image reached after
  -- `detach` detaches a site that no job has which is in the middle of a batch. It reaches the site.
  Detach : (location : Text) → reached ≡ reach.Whole location → ((job : JobRow) → HasJob (global image).jobs job → IsSiteOfJob location job → job.phase ≡ Idle) → after ≡ with_store image Global (put (global image) (cell.SiteState location Detached)) → JobSiteChange image reached after
