-- Refusals for which more is asked than the copy of the tables.
use Rattle.std.proofs.Common.{◌≡◌, Bool, true, false, cond, not, ◌&&◌, ◌||◌, List, [], ◌∷◌, filter, Option, Some, is_some, refl, sym, ap, ◌∙◌}
use Rattle.std.specs.List.{list_any}
use Rattle.std.specs.FinMap as map
use Rattle.std.specs.FinSet as set
use Rattle.cell_world.specs.Texts.{Text}
use Rattle.cell_world.specs.Images.{Image, global}
use Rattle.cell_world.specs.Meaning.{meaning}
use Rattle.cell_world.specs.Outside.{Told, IfContents}
use Rattle.cell_world.specs.Keys.{same}
use Rattle.cell_world.specs.Plain.{Connections, is_location_of}
use Rattle.cell_world.specs.Sound.{Sound}
use Rattle.cell_world.specs.declared.operations.Piece.{Piece}
use Rattle.cell_world.specs.declared.spans.Span.{Span}
use Rattle.cell_world.specs.Stores.{Store}
use Rattle.cell_world.proofs.ContentsLaws.{contents_weaker, contents_both}
use Rattle.global_tables.specs.Groups.{pieces_in}
use Rattle.global_tables.specs.Known.{Known, known_of}
use Rattle.plain_model.specs.declared.commands.Command.TheVariants as command
use Rattle.plain_model.specs.declared.replies.Refusal.{Refusal}
use Rattle.plain_model.specs.declared.replies.Refusal.TheVariants as refused
use Rattle.plain_model.specs.Refusing.{first_refusal, refusal, is_detached, is_suspect, shard_in_use, overlap}
use Rattle.plain_model.specs.ShortCommands.{standing_with}
use Rattle.map_ops.specs.Adding.{site_checks, RefusesNew}
use Rattle.map_ops.specs.Changes.{has_mapping_at, is_in_use, unshard_checks}
use Rattle.map_ops.specs.Overlapping.{has_overlap}
use Rattle.map_ops.specs.Planning.{RefusesWith}
use Rattle.map_ops.proofs.Checks.{first_then, first_else}

-- a test that the copy of the tables decides
abbrev Known_by : Known → Bool → (Store → Bool) → Type 0
Known_by known test of = (s : Store) → known ≡ known_of s → test ≡ of s

module _ (told : Told) (known : Known) (name location : Text) (stands here gone unsure shard : Bool) (found : Option Refusal) where
  pub shard_refuses : found ≡ first_refusal ((not stands, refused.NoMap) ∷ (not here, refused.NoLocation) ∷ (gone, refused.Detached) ∷ (unsure, refused.Unresolved) ∷ (shard, refused.ShardExists) ∷ [])
      → Known_by known stands (λ s. map.contains_key s.maps name)
      → IfContents told (λ image. here ≡ is_location_of (meaning image) location)
      → Known_by known gone (λ s. is_detached (map.get s.away location))
      → Known_by known unsure (λ s. is_suspect (map.get s.away location))
      → Known_by known shard (λ s. set.contains s.shards (name, location))
      → IfContents told (RefusesWith known (command.Shard name location) found)
  unfolding refusal
  shard_refuses first m l d u s = contents_weaker told (λ image. here ≡ is_location_of (meaning image) location) (RefusesWith known (command.Shard name location) found)
      (λ image is copy session connections. sym (first ∙ (λ i. first_refusal ((not (m (global image) copy i), refused.NoMap) ∷ (not (is i), refused.NoLocation)
      ∷ (d (global image) copy i, refused.Detached) ∷ (u (global image) copy i, refused.Unresolved) ∷ (s (global image) copy i, refused.ShardExists) ∷ []))))
      l

-- ---- `unshard`

module _ (told : Told) (known : Known) (name location : Text) (stands here shard gone unsure : Bool) (found : Option Refusal) where
  pub unshard_first : found ≡ first_refusal ((not stands, refused.NoMap) ∷ (not here, refused.NoLocation) ∷ (not shard, refused.NotAShard) ∷ (gone, refused.Detached) ∷ (unsure, refused.Unresolved) ∷ [])
      → Known_by known stands (λ s. map.contains_key s.maps name)
      → IfContents told (λ image. here ≡ is_location_of (meaning image) location)
      → Known_by known shard (λ s. set.contains s.shards (name, location))
      → Known_by known gone (λ s. is_detached (map.get s.away location))
      → Known_by known unsure (λ s. is_suspect (map.get s.away location))
      → IfContents told (λ image. known ≡ known_of (global image) → (connections : Connections) → found ≡ first_refusal (unshard_checks (standing_with image connections) name location))
  unshard_first first m l s d u = contents_weaker told (λ image. here ≡ is_location_of (meaning image) location)
      (λ image. known ≡ known_of (global image) → (connections : Connections) → found ≡ first_refusal (unshard_checks (standing_with image connections) name location))
      (λ image is copy connections. first ∙ (λ i. first_refusal ((not (m (global image) copy i), refused.NoMap) ∷ (not (is i), refused.NoLocation)
      ∷ (not (s (global image) copy i), refused.NotAShard) ∷ (d (global image) copy i, refused.Detached) ∷ (u (global image) copy i, refused.Unresolved) ∷ [])))
      l

-- ---- the site of a new mapping

module _ (told : Told) (known : Known) (name location : Text) (here shard gone unsure : Bool) (found : Option Refusal) where
  pub site_first : found ≡ first_refusal ((not here, refused.NoLocation) ∷ (not shard, refused.NotAShard) ∷ (gone, refused.Detached) ∷ (unsure, refused.Unresolved) ∷ [])
      → IfContents told (λ image. here ≡ is_location_of (meaning image) location)
      → Known_by known shard (λ s. set.contains s.shards (name, location))
      → Known_by known gone (λ s. is_detached (map.get s.away location))
      → Known_by known unsure (λ s. is_suspect (map.get s.away location))
      → IfContents told (λ image. known ≡ known_of (global image) → (connections : Connections) → found ≡ first_refusal (site_checks (standing_with image connections) name location))
  site_first first l s d u = contents_weaker told (λ image. here ≡ is_location_of (meaning image) location)
      (λ image. known ≡ known_of (global image) → (connections : Connections) → found ≡ first_refusal (site_checks (standing_with image connections) name location))
      (λ image is copy connections. first ∙ (λ i. first_refusal ((not (is i), refused.NoLocation)
      ∷ (not (s (global image) copy i), refused.NotAShard) ∷ (d (global image) copy i, refused.Detached) ∷ (u (global image) copy i, refused.Unresolved) ∷ [])))
      l

module _ (told : Told) (known : Known) (name : Text) (span : Span) (location : Text) (early : Option Refusal)
    (first : IfContents told (λ image. known ≡ known_of (global image) → (connections : Connections) → early ≡ first_refusal (site_checks (standing_with image connections) name location))) where
  abbrev OfSite : Image → Type 0
  OfSite image = known ≡ known_of (global image) → (connections : Connections) → early ≡ first_refusal (site_checks (standing_with image connections) name location)

  -- where a check of the site holds it is the refusal
  pub new_early : is_some early ≡ true → IfContents told (RefusesNew known name span location early)
  new_early some = contents_weaker told OfSite (RefusesNew known name span location early)
      (λ image is sound copy connections. is copy connections
      ∙ sym (first_then (site_checks (standing_with image connections) name location) (overlap (standing_with image connections) name (Some span) ∷ []) (sym (ap is_some (is copy connections)) ∙ some))) first

  -- and else the overlap decides
  pub new_late : is_some early ≡ false → (over : Bool) → IfContents told (λ image. Sound image → over ≡ has_overlap (global image).mappings name span)
      → (found : Option Refusal) → found ≡ first_refusal ((over, refused.Overlap) ∷ []) → IfContents told (RefusesNew known name span location found)
  new_late none over by_world found is = contents_weaker told (λ image. OfSite image × (Sound image → over ≡ has_overlap (global image).mappings name span)) (RefusesNew known name span location found)
      (λ image both sound copy connections. is ∙ (λ i. first_refusal ((both.1 sound i, refused.Overlap) ∷ []))
      ∙ sym (first_else (site_checks (standing_with image connections) name location) (overlap (standing_with image connections) name (Some span) ∷ []) (sym (ap is_some (both.0 copy connections)) ∙ none)))
      (contents_both told OfSite (λ image. Sound image → over ≡ has_overlap (global image).mappings name span) first by_world)

-- ---- `unshard`

-- a test on those that pass another one is both tests
any_both : {A : Type 0} (f g : A → Bool) (xs : List A) → list_any g (filter f xs) ≡ list_any (λ x. f x && g x) xs
any_both f g [] = refl
any_both f g (x ∷ xs) = by (f x) (any_both f g xs)
  where
    by : (b : Bool) → list_any g (filter f xs) ≡ list_any (λ x. f x && g x) xs → list_any g (cond b (x ∷ filter f xs) (filter f xs)) ≡ ((b && g x) || list_any (λ x. f x && g x) xs)
    by true e = ap (λ b. g x || b) e
    by false e = e

module _ (told : Told) (name location : Text) (pieces : List Piece) (found : Bool) where
  -- Of the mappings of the map one is at the location.
  pub mapping_found : found ≡ list_any (λ (p : Piece). same p.location location) pieces → IfContents told (λ image. pieces ≡ pieces_in (global image).mappings name)
      → IfContents told (λ image. found ≡ has_mapping_at (global image).mappings name location)
  mapping_found is = contents_weaker told (λ image. pieces ≡ pieces_in (global image).mappings name) (λ image. found ≡ has_mapping_at (global image).mappings name location)
      (λ image those. is ∙ ap (list_any (λ (p : Piece). same p.location location)) those ∙ any_both (λ (p : Piece). same name p.map) (λ (p : Piece). same p.location location) (map.values (global image).mappings))

module _ (told : Told) (known : Known) (name location : Text) (early : Option Refusal)
    (first : IfContents told (λ image. known ≡ known_of (global image) → (connections : Connections) → early ≡ first_refusal (unshard_checks (standing_with image connections) name location))) where
  abbrev Early : Image → Type 0
  Early image = known ≡ known_of (global image) → (connections : Connections) → early ≡ first_refusal (unshard_checks (standing_with image connections) name location)

  pub unshard_early : is_some early ≡ true → IfContents told (RefusesWith known (command.Unshard name location) early)
  unfolding refusal
  unshard_early some = contents_weaker told Early (RefusesWith known (command.Unshard name location) early)
      (λ image is copy session connections. first_then (unshard_checks (standing_with image connections) name location) (shard_in_use (standing_with image connections) name location ∷ []) (sym (ap is_some (is copy connections)) ∙ some)
      ∙ sym (is copy connections)) first

  pub unshard_used : is_some early ≡ false → (used : Bool) → IfContents told (λ image. known ≡ known_of (global image) → used ≡ is_in_use (global image) name location)
      → (found : Option Refusal) → found ≡ first_refusal ((used, refused.ShardInUse) ∷ []) → IfContents told (RefusesWith known (command.Unshard name location) found)
  unfolding refusal
  unshard_used none used by_world found is = contents_weaker told (λ image. Early image × (known ≡ known_of (global image) → used ≡ is_in_use (global image) name location)) (RefusesWith known (command.Unshard name location) found)
      (λ image both copy session connections. first_else (unshard_checks (standing_with image connections) name location) (shard_in_use (standing_with image connections) name location ∷ []) (sym (ap is_some (both.0 copy connections)) ∙ none)
      ∙ sym (is ∙ (λ i. first_refusal ((both.1 copy i, refused.ShardInUse) ∷ []))))
      (contents_both told Early (λ image. known ≡ known_of (global image) → used ≡ is_in_use (global image) name location) first by_world)
