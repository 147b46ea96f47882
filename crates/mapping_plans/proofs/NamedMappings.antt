-- The mapping of a key that is read, and the first check that refuses.
use Rattle.std.proofs.Common.{◌≡◌, Option, Some, None, is_some, sym, ap, ◌∙◌}
use Rattle.std.specs.Prelude.{Ok, Err, option_and_then}
use Rattle.cell_world.specs.Texts.{Text}
use Rattle.cell_world.specs.Images.{Image, global}
use Rattle.cell_world.specs.Meaning.{meaning, owner_of}
use Rattle.cell_world.specs.Outside.{Told, IfContents}
use Rattle.cell_world.specs.Plain.{owner}
use Rattle.cell_world.specs.Sound.{Sound}
use Rattle.cell_world.specs.Stores.{Store}
use Rattle.cell_world.specs.declared.cells.MapKind.{MapKind}
use Rattle.cell_world.specs.declared.operations.Piece.{Piece}
use Rattle.cell_world.proofs.ContentsLaws.{contents_weaker}
use Rattle.global_tables.specs.Known.{Known, known_of}
use Rattle.global_tables.specs.Reads.{IsKeyIfThere}
use Rattle.plain_model.specs.declared.plans.PlanStop.TheVariants as stop
use Rattle.plain_model.specs.declared.replies.Refusal.{Refusal}
use Rattle.plain_model.specs.declared.replies.Refusal.TheVariants as refused
use Rattle.plain_model.specs.Refusing.{first_refusal, key_in, mapping_of}
use Rattle.map_ops.proofs.Checks.{first_else}
use Rattle.mapping_plans.specs.Finding.{kind_checks, owner_checks, first_checks, away_checks, ReadsKey, FindsWith}

-- the key of a map, as the copy of the tables reads it, and the mapping that was found
module _ (told : Told) (known : Known) (wanted : Option MapKind) (name text key : Text)
    (reads : (image : Image) → known ≡ known_of (global image) → ReadsKey wanted name text (Ok key) (meaning image))
    (normal : (s : Store) → known ≡ known_of s → IsKeyIfThere s.maps name key)
    (piece : Option Piece) (found : IfContents told (λ image. Sound image → IsKeyIfThere (global image).maps name key → piece ≡ owner_of image name key)) where
  abbrev Found : Image → Type 0
  Found image = Sound image → IsKeyIfThere (global image).maps name key → piece ≡ owner_of image name key

  owned : (image : Image) → Sound image → known ≡ known_of (global image) → Found image → mapping_of (meaning image) name text ≡ piece
  owned image sound copy finds = ap (option_and_then (owner (meaning image) name)) (reads image copy).1 ∙ sym (finds sound (normal (global image) copy))

  -- Past the kind the owner decides.
  decided : (image : Image) → Sound image → known ≡ known_of (global image) → Found image → first_refusal (first_checks (meaning image) wanted name text) ≡ first_refusal (owner_checks (meaning image) (Some key) piece)
  decided image sound copy finds =
      first_else (kind_checks (meaning image) name wanted) (owner_checks (meaning image) (key_in (meaning image) name text) (mapping_of (meaning image) name text)) (ap is_some (reads image copy).0)
      ∙ (λ i. first_refusal (owner_checks (meaning image) ((reads image copy).1 i) (owned image sound copy finds i)))

  -- no mapping contains the key
  pub none_named : piece ≡ None → IfContents told (FindsWith known wanted name text (Err (stop.Refused refused.NoMapping)))
  none_named none = contents_weaker told Found (FindsWith known wanted name text (Err (stop.Refused refused.NoMapping)))
      (λ image finds sound copy. decided image sound copy finds ∙ ap (λ (p : Option Piece). first_refusal (owner_checks (meaning image) (Some key) p)) none) found

  -- one does, and the state of its site decides
  module _ (p : Piece) (some : piece ≡ Some p) (away : Option Refusal) (first : (image : Image) → known ≡ known_of (global image) → away ≡ first_refusal (away_checks (meaning image) p.location)) where
    by_site : (image : Image) → Sound image → known ≡ known_of (global image) → Found image → first_refusal (first_checks (meaning image) wanted name text) ≡ away
    by_site image sound copy finds = decided image sound copy finds ∙ ap (λ (p : Option Piece). first_refusal (owner_checks (meaning image) (Some key) p)) some ∙ sym (first image copy)

    pub away_named : (r : Refusal) → away ≡ Some r → IfContents told (FindsWith known wanted name text (Err (stop.Refused r)))
    away_named r is = contents_weaker told Found (FindsWith known wanted name text (Err (stop.Refused r))) (λ image finds sound copy. by_site image sound copy finds ∙ is) found

    pub here_named : away ≡ None → IfContents told (FindsWith known wanted name text (Ok (record { key = key; piece = p })))
    here_named is = contents_weaker told Found (FindsWith known wanted name text (Ok (record { key = key; piece = p })))
        (λ image finds sound copy. record { read = (reads image copy).1; owned = owned image sound copy finds ∙ some; passes = by_site image sound copy finds ∙ is }) found
