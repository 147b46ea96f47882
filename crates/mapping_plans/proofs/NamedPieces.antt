-- What is so of a mapping that was named, on a sound image.
use Rattle.std.proofs.Common.{◌≡◌, ◌<◌, ◌^◌, ℕ, Option, Some, None, refl, sym, ap, ◌∙◌, subst, arith}
use Rattle.std.specs.Prelude.{IsTrue, IfSome, option_and_then, option_map}
use Rattle.std.specs.FinMap as map
use Rattle.cell_world.specs.Texts.{Text}
use Rattle.cell_world.specs.Images.{Image, global}
use Rattle.cell_world.specs.Keys.{contains}
use Rattle.cell_world.specs.Lawful.{job_with_token}
use Rattle.cell_world.specs.Meaning.{meaning, owner_of}
use Rattle.cell_world.specs.Plain.{owner, is_location_of}
use Rattle.cell_world.specs.Sound.{Sound, HasPiece, IsKeyOf, IsAttachedIn}
use Rattle.cell_world.specs.Stores.{IsStore}
use Rattle.cell_world.specs.declared.cells.Cell.TheVariants as cell
use Rattle.cell_world.specs.declared.cells.MapKind.{MapKind}
use Rattle.cell_world.specs.declared.cells.Token.{Token}
use Rattle.cell_world.specs.declared.operations.JobRow.{JobRow}
use Rattle.cell_world.specs.declared.operations.Piece.{Piece}
use Rattle.cell_world.proofs.MappingLaws.{sound_mappings}
use Rattle.image_laws.proofs.OwnerLaws.{owner_key, owner_stands}
use Rattle.op_log.specs.ShortChanges.{IsFreeToken}
use Rattle.plain_model.specs.Refusing.{first_refusal, key_in, mapping_of}
use Rattle.map_ops.proofs.Checks.{NoneHolds, none_holds, attached}
use Rattle.mapping_plans.specs.Finding.{kind_checks, owner_checks, IsNamed}
use Rattle.mapping_plans.proofs.AfterChecks.{none_of_both}

module _ (image : Image) (sound : Sound image) (wanted : Option MapKind) (name text key : Text) (p : Piece) (named : IsNamed wanted name text key p (meaning image)) where
  -- it owns the key
  pub named_owns : owner_of image name key ≡ Some p
  named_owns = ap (option_and_then (owner (meaning image) name)) (sym named.read) ∙ named.owned

  -- which is one of the map
  pub named_key : IsKeyOf (global image).maps name key
  named_key = owner_key (global image).maps (global image).mappings (sound_mappings image sound).placed name key p named_owns

  -- it stands, is of the map, and contains the key
  pub named_stands : HasPiece (global image).mappings p × (p.map ≡ name) × IsTrue (contains p.span key)
  named_stands = owner_stands (global image).maps (global image).mappings (sound_mappings image sound).placed name key p named_owns

  parts : (first_refusal (kind_checks (meaning image) name wanted) ≡ None) × (first_refusal (owner_checks (meaning image) (key_in (meaning image) name text) (mapping_of (meaning image) name text)) ≡ None)
  parts = none_of_both (kind_checks (meaning image) name wanted) (owner_checks (meaning image) (key_in (meaning image) name text) (mapping_of (meaning image) name text)) named.passes

  -- its map is of the kind that is wanted
  pub named_kind : first_refusal (kind_checks (meaning image) name wanted) ≡ None
  named_kind = parts.0

  -- its site is attached, where the world knows it
  pub named_here : IsTrue (is_location_of (meaning image) p.location) → IsAttachedIn image p.location
  named_here known =
      let none : NoneHolds (owner_checks (meaning image) (Some key) (Some p)) = none_holds (owner_checks (meaning image) (Some key) (Some p)) (sym (λ i. first_refusal (owner_checks (meaning image) (named.read i) (named.owned i))) ∙ parts.1) in
      record { known = known; attached = attached (map.get (global image).away p.location) none.1.1.0 none.1.1.1.0 }

-- ---- tokens

below_jobs : (n : ℕ) → n < 2 ^ 32 → n < 2 ^ 64
below_jobs n h = omega arith

-- A token that is no job's is none of a standing job.
pub no_job_of : (image : Image) → IsStore (global image) → (p : Piece) → IsFreeToken p.token → job_with_token (global image).jobs p ≡ None
no_job_of image store p free = of_token p.token free
  where
    of_token : (token : Option Token) → IsFreeToken token → option_and_then (λ (t : Token). map.get (global image).jobs t.0) token ≡ None
    of_token None free = refl
    of_token (Some t) free = of_job (map.get (global image).jobs t.0) refl
      where
        of_job : (o : Option JobRow) → map.get (global image).jobs t.0 ≡ o → o ≡ None
        of_job None e = refl
        of_job (Some job) e =
            let number : job.number ≡ t.0 = subst (λ (o : Option JobRow). IfSome o (λ (j : JobRow). j.number ≡ t.0)) e (store.keyed.jobs t.0) in
            let stands : map.get (global image).jobs job.number ≡ Some job = ap (map.get (global image).jobs) number ∙ e in
            absurd (free (subst (λ (n : ℕ). n < 2 ^ 64) number (below_jobs job.number (store.cells (cell.Job job) (ap (option_map cell.Job) stands)).typed.number)))
