-- The edits of a commit.
use Rattle.std.specs.Prelude.{List, [], ◌∷◌, ◌++◌}
use Rattle.cell_world.specs.Keys.{low_of}
use Rattle.cell_world.specs.Spelled.{listed}
use Rattle.cell_world.specs.declared.operations.Op.{Op}
use Rattle.cell_world.specs.declared.operations.Piece.{Piece}
use Rattle.cell_world.specs.declared.operations.Extra.{Extra}
use Rattle.cell_world.specs.declared.operations.Extra.TheVariants as extra
use Rattle.cell_world.specs.declared.cells.Cell.TheVariants as cell
use Rattle.cell_world.specs.declared.cells.CellKey.TheVariants as at
use Rattle.cell_world.specs.declared.changes.Edit.{Edit}
use Rattle.cell_world.specs.declared.changes.Edit.TheVariants.{Put, Delete}

-- mappings go
abbrev pub deletes : List Piece → List Edit
deletes [] = []
deletes (p ∷ ps) = Delete (at.Piece p.map (low_of p.span)) ∷ deletes ps

-- and mappings come
abbrev pub puts : List Piece → List Edit
puts [] = []
puts (p ∷ ps) = Put (cell.Piece p) ∷ puts ps

-- the job is put
abbrev pub extra_edits : Extra → List Edit
extra_edits extra.None = []
extra_edits (extra.JobPut job) = Put (cell.Job job) ∷ []
extra_edits (extra.JobDrop number) = Delete (at.Job number) ∷ []

-- the olds go, the news come, the job is put, and last the log row goes
abbrev pub commit_edits : Op → List Edit
commit_edits op = deletes (listed op.olds) ++ (puts (listed op.news) ++ (extra_edits op.extra ++ (Delete (at.Log op.number) ∷ [])))
