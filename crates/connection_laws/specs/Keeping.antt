-- What is asked of a change, and of a state, where connections are to stay what they are.
use Rattle.std.specs.Prelude.{◌≡◌, Bool, true, false, List, Some, IsTrue}
use Rattle.cell_world.specs.Lists.{IsOneOf}
use Rattle.cell_world.specs.Keys.{contains}
use Rattle.cell_world.specs.Images.{Image}
use Rattle.cell_world.specs.Plain.{PlainState, Connection}
use Rattle.cell_world.specs.Meaning.{owner_of}
use Rattle.cell_world.specs.Sound.{HasPiece, HasShard, AreMappings, IsAttachedIn}
use Rattle.cell_world.specs.declared.operations.Piece.{Piece}
use Rattle.cell_world.specs.declared.cells.Status.TheVariants.{Online}
use Rattle.plain_model.specs.declared.commands.Command.{Command}
use Rattle.plain_model.specs.declared.commands.Command.TheVariants as command

-- where an old mapping over the connection's key is online, so is each new one over it
abbrev pub StaysOnline : List Piece → List Piece → Connection → Type 0
StaysOnline olds news c = (old new : Piece) → IsOneOf olds old → IsOneOf news new → old.map ≡ c.map → IsTrue (contains old.span c.key) → IsTrue (contains new.span c.key) → old.status ≡ Online → new.status ≡ Online

-- The mappings of a state are of maps that stand and disjoint, and each is on a shard of its map. What a sound image stands for is such a state.
pub record AreOnShards (s : PlainState) : Type 0 where
  pub mappings : AreMappings s.maps s.mappings
  pub on_shards : (p : Piece) → HasPiece s.mappings p → HasShard s.shards p.map p.location

-- what the laws of rows ask of the owner of a connection's key
pub record HasOwner (image : Image) (c : Connection) : Type 0 where
  pub piece : Piece
  pub owned : owner_of image c.map c.key ≡ Some piece
  pub here : piece.location ≡ c.location
  pub online : piece.status ≡ Online
  pub attached : IsAttachedIn image piece.location

-- a command that opens a connection, closes one, or goes by one
abbrev pub is_by_connection : Command → Bool
is_by_connection (command.Open number name key) = true
is_by_connection (command.Close number) = true
is_by_connection (command.Put number table id bytes) = true
is_by_connection (command.Get number table id) = true
is_by_connection (command.Del number table id) = true
is_by_connection other = false
