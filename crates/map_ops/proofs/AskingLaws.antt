-- What is answered to those who ask of one map: its shards, its mappings, the mapping of a key.
use Rattle.std.proofs.Common.{◌≡◌, Bool, cond, not, List, [], ◌∷◌, Option, Some, None, is_some, option_map, refl, sym, ap, ◌∙◌, subst}
use Rattle.std.specs.Prelude.{Ok, Err, IsTrue, option_and_then, unwrap_or}
use Rattle.std.specs.Option.{is_none}
use Rattle.std.specs.FinMap as map
use Rattle.cell_world.specs.Texts.{Text}
use Rattle.cell_world.specs.Images.{Image, global}
use Rattle.cell_world.specs.KeyForms.{normal_of, is_normal}
use Rattle.cell_world.specs.Meaning.{owner_of}
use Rattle.cell_world.specs.Outside.{Told, IfContents}
use Rattle.cell_world.specs.Plain.{Connections, owner}
use Rattle.cell_world.specs.Sound.{Sound}
use Rattle.cell_world.specs.Stores.{Store}
use Rattle.cell_world.specs.declared.cells.KeyType.{KeyType}
use Rattle.cell_world.specs.declared.cells.KeyType.TheVariants as types
use Rattle.cell_world.specs.declared.cells.MapKind.{MapKind}
use Rattle.cell_world.specs.declared.operations.Piece.{Piece}
use Rattle.cell_world.proofs.ContentsLaws.{contents_all, contents_weaker}
use Rattle.global_tables.specs.Groups.{locations_in, pieces_in}
use Rattle.global_tables.specs.Known.{Known, known_of}
use Rattle.global_tables.specs.Reads.{IsKeyIfThere}
use Rattle.plain_model.specs.declared.commands.Command.TheVariants as command
use Rattle.plain_model.specs.declared.plans.Plan.TheVariants as plan
use Rattle.plain_model.specs.declared.plans.PlanStop.TheVariants as stop
use Rattle.plain_model.specs.declared.replies.Reply.TheVariants as reply
use Rattle.plain_model.specs.declared.replies.Refusal.TheVariants as refused
use Rattle.plain_model.specs.Refusing.{Check, first_refusal, refusal, no_map, no_mapping, key_in, mapping_of}
use Rattle.plain_model.specs.Steps.{shown_mapping}
use Rattle.plain_model.specs.ShortCommands.{standing_with}
use Rattle.map_ops.specs.Planning.{PlansWith}

some_of : {A B : Type 0} (f : A → B) (o : Option A) → is_some (option_map f o) ≡ is_some o
some_of f None = refl
some_of f (Some a) = refl

-- the key type of a map, by the copy of the tables
module _ (told : Told) (known : Known) (name : Text) (type : Option KeyType) (by_copy : (s : Store) → known ≡ known_of s → type ≡ option_map (λ m. m.1) (map.get s.maps name)) where
  stands : (image : Image) → known ≡ known_of (global image) → map.contains_key (global image).maps name ≡ is_some type
  stands image copy = sym (some_of (λ (m : MapKind × KeyType). m.1) (map.get (global image).maps name)) ∙ sym (ap is_some (by_copy (global image) copy))

  -- ---- no map has the name

  module _ (none : type ≡ None) where
    unknown : (image : Image) → known ≡ known_of (global image) → (connections : Connections) (more : List Check) → first_refusal (no_map (standing_with image connections) name ∷ more) ≡ Some refused.NoMap
    unknown image copy connections more = ap (λ (b : Bool). cond (not b) (Some refused.NoMap) (first_refusal more)) (stands image copy ∙ ap is_some none)

    pub no_map_of_shards : IfContents told (PlansWith known (command.Shards name) (Err (stop.Refused refused.NoMap)))
    unfolding refusal
    no_map_of_shards = contents_all told (PlansWith known (command.Shards name) (Err (stop.Refused refused.NoMap))) (λ image sound copy session connections. unknown image copy connections [])

    pub no_map_of_list : IfContents told (PlansWith known (command.List name) (Err (stop.Refused refused.NoMap)))
    unfolding refusal
    no_map_of_list = contents_all told (PlansWith known (command.List name) (Err (stop.Refused refused.NoMap))) (λ image sound copy session connections. unknown image copy connections [])

    pub no_map_of_find : (text : Text) → IfContents told (PlansWith known (command.Find name text) (Err (stop.Refused refused.NoMap)))
    unfolding refusal
    no_map_of_find text = contents_all told (PlansWith known (command.Find name text) (Err (stop.Refused refused.NoMap)))
        (λ image sound copy session connections. unknown image copy connections
        ((is_none (key_in (standing_with image connections) name text), refused.BadKey) ∷ no_mapping (mapping_of (standing_with image connections) name text) ∷ []))

  -- ---- one has

  module _ (t : KeyType) (some : type ≡ Some t) where
    past : (image : Image) → known ≡ known_of (global image) → (connections : Connections) (more : List Check) → first_refusal (no_map (standing_with image connections) name ∷ more) ≡ first_refusal more
    past image copy connections more = ap (λ (b : Bool). cond (not b) (Some refused.NoMap) (first_refusal more)) (stands image copy ∙ ap is_some some)

    typed : (image : Image) → known ≡ known_of (global image) → option_map (λ (m : MapKind × KeyType). m.1) (map.get (global image).maps name) ≡ Some t
    typed image copy = sym (by_copy (global image) copy) ∙ some

    pub answers_shards : (locations shown : List Text) → shown ≡ locations → IfContents told (λ image. locations ≡ locations_in (global image).shards name) → IfContents told (PlansWith known (command.Shards name) (Ok (plan.Answer (reply.Shards shown))))
    unfolding refusal
    answers_shards locations shown is = contents_weaker told (λ image. locations ≡ locations_in (global image).shards name) (PlansWith known (command.Shards name) (Ok (plan.Answer (reply.Shards shown))))
        (λ image these sound copy session connections. (past image copy connections [], λ i. (standing_with image connections, reply.Shards (sym (is ∙ these) i))))

    pub answers_list : (pieces shown : List Piece) → shown ≡ pieces → IfContents told (λ image. pieces ≡ pieces_in (global image).mappings name) → IfContents told (PlansWith known (command.List name) (Ok (plan.Answer (reply.Mappings t shown))))
    unfolding refusal
    answers_list pieces shown is = contents_weaker told (λ image. pieces ≡ pieces_in (global image).mappings name) (PlansWith known (command.List name) (Ok (plan.Answer (reply.Mappings t shown))))
        (λ image these sound copy session connections. (past image copy connections [], λ i. (standing_with image connections, reply.Mappings (unwrap_or (typed image copy i) types.Int) (sym (is ∙ these) i))))

    -- ---- the mapping of a key

    module _ (text : Text) (key : Option Text) (read : key ≡ normal_of t text) where
      keyed : (image : Image) → known ≡ known_of (global image) → (connections : Connections) → key_in (standing_with image connections) name text ≡ key
      keyed image copy connections = ap (option_and_then (λ (type : KeyType). normal_of type text)) (typed image copy) ∙ sym read

      -- the checks past the map
      abbrev checks_of : Option Text → Option Piece → List Check
      checks_of k piece = (is_none k, refused.BadKey) ∷ no_mapping piece ∷ []

      pub bad_key_of_find : key ≡ None → IfContents told (PlansWith known (command.Find name text) (Err (stop.Refused refused.BadKey)))
      unfolding refusal
      bad_key_of_find none = contents_all told (PlansWith known (command.Find name text) (Err (stop.Refused refused.BadKey)))
          (λ image sound copy session connections. past image copy connections (checks_of (key_in (standing_with image connections) name text) (mapping_of (standing_with image connections) name text))
          ∙ ap (λ (k : Option Text). first_refusal (checks_of k (mapping_of (standing_with image connections) name text))) (keyed image copy connections ∙ none))

      module _ (k : Text) (is : key ≡ Some k) (normal : IsTrue (is_normal t k)) (piece : Option Piece)
          (found : IfContents told (λ image. Sound image → IsKeyIfThere (global image).maps name k → piece ≡ owner_of image name k)) where
        abbrev Found : Image → Type 0
        Found image = Sound image → IsKeyIfThere (global image).maps name k → piece ≡ owner_of image name k

        is_key : (image : Image) → known ≡ known_of (global image) → IsKeyIfThere (global image).maps name k
        is_key image copy kind type has = let same : type ≡ t = by (map.get (global image).maps name) has (typed image copy) in subst (λ (x : KeyType). IsTrue (is_normal x k)) (sym same) normal
          where
            by : (o : Option (MapKind × KeyType)) → o ≡ Some (kind, type) → option_map (λ (m : MapKind × KeyType). m.1) o ≡ Some t → type ≡ t
            by None e g = cc
            by (Some m) e g = let a : m.1 ≡ type = cc in let b : m.1 ≡ t = cc in sym a ∙ b

        mapped : (image : Image) → Sound image → known ≡ known_of (global image) → Found image → (connections : Connections) → mapping_of (standing_with image connections) name text ≡ piece
        mapped image sound copy finds connections = ap (option_and_then (owner (standing_with image connections) name)) (keyed image copy connections ∙ is) ∙ sym (finds sound (is_key image copy))

        decided : (image : Image) → Sound image → known ≡ known_of (global image) → Found image → (connections : Connections)
            → first_refusal (no_map (standing_with image connections) name ∷ checks_of (key_in (standing_with image connections) name text) (mapping_of (standing_with image connections) name text)) ≡ first_refusal (checks_of (Some k) piece)
        decided image sound copy finds connections =
            past image copy connections (checks_of (key_in (standing_with image connections) name text) (mapping_of (standing_with image connections) name text))
            ∙ (λ i. first_refusal (checks_of ((keyed image copy connections ∙ is) i) (mapped image sound copy finds connections i)))

        pub no_mapping_of_find : piece ≡ None → IfContents told (PlansWith known (command.Find name text) (Err (stop.Refused refused.NoMapping)))
        unfolding refusal
        no_mapping_of_find none = contents_weaker told Found (PlansWith known (command.Find name text) (Err (stop.Refused refused.NoMapping)))
            (λ image finds sound copy session connections. decided image sound copy finds connections ∙ ap (λ (p : Option Piece). first_refusal (checks_of (Some k) p)) none) found

        pub answers_find : (p : Piece) → piece ≡ Some p → IfContents told (PlansWith known (command.Find name text) (Ok (plan.Answer (reply.Mapping t p))))
        unfolding refusal
        answers_find p owned = contents_weaker told Found (PlansWith known (command.Find name text) (Ok (plan.Answer (reply.Mapping t p))))
            (λ image finds sound copy session connections. (
              decided image sound copy finds connections ∙ ap (λ (q : Option Piece). first_refusal (checks_of (Some k) q)) owned,
              λ i. (standing_with image connections, shown_mapping (unwrap_or (typed image copy i) types.Int) ((mapped image sound copy finds connections ∙ owned) i)),
            )) found
