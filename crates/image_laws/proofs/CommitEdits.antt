-- What the edits of a commit make of the global store.
use Rattle.std.proofs.Common.{◌≡◌, refl, ap, ◌∙◌, List, [], ◌∷◌, ◌++◌}
use Rattle.std.specs.FinMap as map
use Rattle.cell_world.specs.Spelled.{listed}
use Rattle.cell_world.specs.Stores.{Store, changed, edited, without, with_all, exchanged}
use Rattle.cell_world.specs.declared.operations.Op.{Op}
use Rattle.cell_world.specs.declared.operations.Piece.{Piece}
use Rattle.cell_world.specs.declared.operations.Extra.{Extra}
use Rattle.cell_world.specs.declared.operations.Extra.TheVariants as extra
use Rattle.cell_world.specs.declared.cells.CellKey.TheVariants as at
use Rattle.cell_world.specs.declared.changes.Edit.{Edit}
use Rattle.cell_world.specs.declared.changes.Edit.TheVariants.{Delete}
use Rattle.cell_world.specs.Marked.{jobs_after}
use Rattle.image_laws.specs.CommitEdits.{deletes, puts, extra_edits, commit_edits}

pub changed-append : (s : Store) (xs ys : List Edit) → changed s (xs ++ ys) ≡ changed (changed s xs) ys
changed-append s [] ys = refl
changed-append s (x ∷ xs) ys = changed-append (edited s x) xs ys

changed-deletes : (s : Store) (ps : List Piece) → changed s (deletes ps) ≡ record s { mappings = without s.mappings ps }
changed-deletes s [] = refl
changed-deletes s (p ∷ ps) = changed-deletes (record s { mappings = map.remove s.mappings _ }) ps

changed-puts : (s : Store) (ps : List Piece) → changed s (puts ps) ≡ record s { mappings = with_all s.mappings ps }
changed-puts s [] = refl
changed-puts s (p ∷ ps) = changed-puts (record s { mappings = map.insert s.mappings _ p }) ps

changed-extra : (s : Store) (e : Extra) → changed s (extra_edits e) ≡ record s { jobs = jobs_after s.jobs e }
changed-extra s extra.None = refl
changed-extra s (extra.JobPut job) = refl
changed-extra s (extra.JobDrop number) = refl

pub changed-commit : (s : Store) (op : Op) → changed s (commit_edits op) ≡ record s { mappings = exchanged s.mappings (listed op.olds) (listed op.news); jobs = jobs_after s.jobs op.extra; log = map.remove s.log op.number }
changed-commit s op =
    let last : List Edit = Delete (at.Log op.number) ∷ [] in
    changed-append s (deletes (listed op.olds)) _
    ∙ ap (λ (x : Store). changed x (puts (listed op.news) ++ (extra_edits op.extra ++ last))) (changed-deletes s (listed op.olds))
    ∙ changed-append _ (puts (listed op.news)) _
    ∙ ap (λ (x : Store). changed x (extra_edits op.extra ++ last)) (changed-puts _ (listed op.news))
    ∙ changed-append _ (extra_edits op.extra) _
    ∙ ap (λ (x : Store). changed x last) (changed-extra _ op.extra)
