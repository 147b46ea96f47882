-- What one read of the global store leaves, and when its answer is the owner.
use Rattle.std.specs.Prelude.{IsTrue, Option, Some, None, if◌then◌else◌}
use Rattle.cell_world.specs.Texts.{Text}
use Rattle.cell_world.specs.Keys.{contains}
use Rattle.cell_world.specs.KeyForms.{is_normal}
use Rattle.cell_world.specs.Stores.{Maps}
use Rattle.cell_world.specs.Sound.{HasMap}
use Rattle.cell_world.specs.Outside.{Outside, SameButFaults, read_at}
use Rattle.cell_world.specs.declared.cells.MapKind.{MapKind}
use Rattle.cell_world.specs.declared.cells.KeyType.{KeyType}
use Rattle.cell_world.specs.declared.operations.Piece.{Piece}

-- The global store was read once, and nothing else happened.
abbrev pub ReadsOnce : Outside → Outside → Type 0
ReadsOnce old new = SameButFaults (read_at old (record { 0 = 0 })) new

-- where the map stands, the key is a normal form of its key type
abbrev pub IsKeyIfThere : Maps → Text → Text → Type 0
IsKeyIfThere maps name key = (kind : MapKind) (type : KeyType) → HasMap maps name kind type → IsTrue (is_normal type key)

-- the mapping, if it contains the key
abbrev pub if_over : Text → Option Piece → Option Piece
if_over key None = None
if_over key (Some p) = if contains p.span key then Some p else None
