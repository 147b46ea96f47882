-- The sites of an operation.
use Rattle.std.proofs.Common.{◌≡◌, true, ap, subst, sym, inl, inr, List, [], ◌∷◌, ◌++◌, ◌||◌}
use Rattle.cell_world.specs.Texts.{Text}
use Rattle.cell_world.specs.Keys.{same, is_among}
use Rattle.cell_world.specs.Lists.{IsOneOf}
use Rattle.cell_world.specs.Spelled.{listed}
use Rattle.cell_world.specs.Images.{Image}
use Rattle.cell_world.specs.Operations.{sites_of, locations_of, sites_of_extra}
use Rattle.cell_world.specs.Lawful.{Lawful}
use Rattle.cell_world.specs.Sound.{IsAttachedIn}
use Rattle.cell_world.specs.declared.operations.Piece.{Piece}
use Rattle.cell_world.specs.declared.operations.Op.{Op}
use Rattle.cell_world.proofs.ListLaws.{all_at, in_first, in_second}
use Rattle.cell_world.proofs.SpanLaws.{same_self}
use Rattle.image_laws.proofs.Lists.{or_true}

pub location_in : (pieces : List Piece) (p : Piece) → IsOneOf pieces p → IsOneOf (locations_of pieces) p.location
location_in [] p h = absurd h
location_in (q ∷ pieces) p (inl e) = inl (ap (λ (x : Piece). x.location) e)
location_in (q ∷ pieces) p (inr h) = inr (location_in pieces p h)

-- what is one of a list of texts is found there
pub is_among_of : (xs : List Text) (x : Text) → IsOneOf xs x → is_among xs x ≡ true
is_among_of [] x h = absurd h
is_among_of (y ∷ ys) x (inl e) = ap (λ b. b || is_among ys x) (subst (λ z. same x z ≡ true) (sym e) (same_self x))
is_among_of (y ∷ ys) x (inr h) = or_true (same x y) (is_among ys x) (is_among_of ys x h)

module _ (op : Op) where
  abbrev both : List Text
  both = locations_of (listed op.olds) ++ locations_of (listed op.news)

  -- where an old mapping is, and where a new one is, is a site of the operation
  pub old_site : (old : Piece) → IsOneOf (listed op.olds) old → IsOneOf (sites_of op) old.location
  old_site old h = in_first both (sites_of_extra op.extra) old.location (in_first (locations_of (listed op.olds)) (locations_of (listed op.news)) old.location (location_in (listed op.olds) old h))

  pub new_site : (new : Piece) → IsOneOf (listed op.news) new → IsOneOf (sites_of op) new.location
  new_site new h = in_first both (sites_of_extra op.extra) new.location (in_second (locations_of (listed op.olds)) (locations_of (listed op.news)) new.location (location_in (listed op.news) new h))

-- The sites of a lawful operation are attached.
module _ (image : Image) (op : Op) (lawful : Lawful image op) where
  abbrev Here : Text → Type 0
  Here l = IsAttachedIn image l

  pub site_attached : (l : Text) → IsOneOf (sites_of op) l → IsAttachedIn image l
  site_attached l h = all_at Here (sites_of op) lawful.attached l h

  pub old_attached : (old : Piece) → IsOneOf (listed op.olds) old → IsAttachedIn image old.location
  old_attached old h = site_attached old.location (old_site op old h)

  pub new_attached : (new : Piece) → IsOneOf (listed op.news) new → IsAttachedIn image new.location
  new_attached new h = site_attached new.location (new_site op new h)
