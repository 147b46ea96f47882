use Rattle.std.proofs.Common.{◌≡◌, Bool, true, false, refl, ap, subst, List, [], ◌∷◌, ◌++◌}
use Rattle.std.specs.Prelude.{IsTrue}
use Rattle.std.specs.List.{AllByRecursion}
use Rattle.cell_world.specs.Texts.{Text}
use Rattle.cell_world.specs.Keys.{is_among}
use Rattle.cell_world.specs.Spelled.{listed}
use Rattle.cell_world.specs.Images.{Image, global}
use Rattle.cell_world.specs.Lawful.{IsAttached}
use Rattle.cell_world.specs.Operations.{locations_of, sites_of_extra}
use Rattle.cell_world.specs.Sound.{IsAttachedIn, locals_at}
use Rattle.cell_world.specs.Marked.{Marked, HasNoMark, NoMarksElsewhere, marked_sites}
use Rattle.cell_world.specs.declared.operations.Op.{Op}
use Rattle.cell_world.specs.declared.operations.Piece.{Piece}
use Rattle.cell_world.specs.declared.operations.StageName.TheVariants.{Settled}
use Rattle.cell_world.proofs.ListLaws.{all_at, all_from, in_first}
use Rattle.world_examples.proofs.Standing.{each_site}
use Rattle.world_examples.proofs.stages.no_mark_anywhere.Goals as goal

locations_joined : (xs ys : List Piece) → locations_of (xs ++ ys) ≡ locations_of xs ++ locations_of ys
locations_joined [] ys = refl
locations_joined (x ∷ xs) ys = ap (λ ls. x.location ∷ ls) (locations_joined xs ys)

-- what holds of each of two lists in a row holds of each of the first
first_of_two : (P : Text → Type 0) (xs ys : List Text) → AllByRecursion P (xs ++ ys) → AllByRecursion P xs
first_of_two P xs ys all = all_from P xs (λ l one. all_at P (xs ++ ys) all l (in_first xs ys l one))

no_mark : (image : Image) (op : Op) → Marked image op Settled → NoMarksElsewhere image op → (location : Text) → IsAttachedIn image location → HasNoMark op (locals_at image location)
no_mark image op settled elsewhere location here = by (is_among (marked_sites op) location) refl
  where
    by : (b : Bool) → is_among (marked_sites op) location ≡ b → HasNoMark op (locals_at image location)
    by true among =
        let all = first_of_two (λ l. IsAttached image.locations (global image).away l → HasNoMark op (locals_at image l)) (locations_of (listed op.olds) ++ locations_of (listed op.news)) (sites_of_extra op.extra) settled.1 in
        each_site (λ l. IsAttached image.locations (global image).away l → HasNoMark op (locals_at image l)) (locations_of (listed op.olds) ++ locations_of (listed op.news)) all location
        (subst (λ ls. IsTrue (is_among ls location)) (locations_joined (listed op.olds) (listed op.news)) among) here
    by false off = elsewhere location here off

pub returns : goal.returns
returns c = no_mark
