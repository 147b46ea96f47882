-- The one transaction of a command by a connection, at the connection's shard.
use Rattle.std.specs.Prelude.{ℕ, Bool, List, [], ◌∷◌}
use Rattle.cell_world.specs.Images.{Image, after_one}
use Rattle.cell_world.specs.Plain.{Connections}
use Rattle.cell_world.specs.Sound.{Sound, IsAttachedIn}
use Rattle.cell_world.specs.Texts.{Text}
use Rattle.cell_world.specs.declared.cells.Cell.TheVariants as cell
use Rattle.cell_world.specs.declared.cells.CellKey.TheVariants as at
use Rattle.cell_world.specs.declared.changes.Edit.{Edit}
use Rattle.cell_world.specs.declared.changes.Edit.TheVariants.{Put, Delete}
use Rattle.plain_model.specs.ShortCommands.{FollowsShort, standing_with}
use Rattle.plain_model.specs.declared.commands.Command.{Command}
use Rattle.plain_model.specs.declared.replies.Reply.{Reply}
use Rattle.session_laws.specs.Core.{AllStand}
use Rattle.session_laws.specs.Doing.{AllDoing}
use Rattle.session_laws.specs.Needs.{Needs}
use Rattle.session_rows.specs.Rows.{commit_at}

-- one row cell is put or deleted, and nothing else
abbrev pub IsRowChange : List Edit → Type 0
IsRowChange (Put (cell.Row row bytes) ∷ []) = Unit {0}
IsRowChange (Delete (at.Row row) ∷ []) = Unit {0}
IsRowChange other = ⊥

-- What the transaction, made or not, leaves of an image, and that the command's entry with this reply may come right after it.
pub record RowCommits (before : AllDoing) (session : ℕ) (c : Command) (connected : Connections) (location : Text) (change : List Edit) (took : Bool) (r : Reply) (image : Image) : Type 0 where
  -- its site is attached
  pub here : IsAttachedIn image location
  -- the stores are sound then
  pub sound : Sound (after_one image (commit_at location change took))
  -- the live operations of all sessions stand
  pub stand : AllStand Needs before (after_one image (commit_at location change took))
  -- and the entry follows, with the same connections
  pub follows : FollowsShort session c (standing_with image connected) (standing_with (after_one image (commit_at location change took)) connected) r
