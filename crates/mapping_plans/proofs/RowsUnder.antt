-- The rows under the keys of a mapping: where an attached site has them, they are the owner's, and so rows of the plain state.
use Rattle.std.proofs.Common.{◌≡◌, Bool, true, false, cond, Option, Some, None, is_some, inl, inr, refl, sym, ap, ◌∙◌, subst}
use Rattle.std.specs.Prelude.{IsTrue, IsSome, option_and_then, ◌&&◌}
use Rattle.std.specs.FinMap as map
use Rattle.std.proofs.lemmas.Bool.{and_parts, and_from}
use Rattle.std.proofs.lemmas.Option.{same_Some, none-some}
use Rattle.cell_world.specs.Texts.{Text}
use Rattle.cell_world.specs.Finding.{IsNextKey}
use Rattle.cell_world.specs.Images.{Image, global}
use Rattle.cell_world.specs.Keys.{same, contains, low_of}
use Rattle.cell_world.specs.Lawful.{rows_at, rows_under, job_with_token}
use Rattle.cell_world.specs.Meaning.{meaning, owner_of, is_attached_at, next_job}
use Rattle.cell_world.specs.Orders.{row_cmp}
use Rattle.cell_world.specs.Sound.{Sound, HasPiece, HasRow, IsAttachedIn, IsKeyOf, AreMappings, IsBeingMoved}
use Rattle.cell_world.specs.Stores.{Rows}
use Rattle.cell_world.specs.declared.cells.RowName.{RowName}
use Rattle.cell_world.specs.declared.cells.Token.{Token}
use Rattle.cell_world.specs.declared.operations.Piece.{Piece}
use Rattle.cell_world.specs.declared.spans.Span.{Span}
use Rattle.cell_world.proofs.MappingLaws.{sound_mappings}
use Rattle.cell_world.proofs.OrderLaws.{rows_total, exact_rows}
use Rattle.cell_world.proofs.SpanLaws.{same_is, same_self, contains_between, low_at_most}
use Rattle.image_laws.proofs.Lists.{any_from, any_gives}
use Rattle.image_laws.proofs.MeaningLaws.{get-rows}
use Rattle.image_laws.proofs.OwnerLaws.{owner_is, owner_key}
use Rattle.image_laws.proofs.RowOwners.{rows_owned}
use Rattle.image_laws.proofs.JobRange.{batch_in_range, in_span}
use Rattle.global_tables.proofs.Entries.{entry_there, entry_stands}
use Rattle.global_tables.proofs.Rising.{in_map, into_map}
use Rattle.plain_model.specs.Refusing.{rows_present}
use Rattle.mapping_plans.specs.SiteRows.{is_over}

-- there are none, where none stands
pub none_under : (rows : Rows) (name : Text) (span : Span) → ((row : RowName) → HasRow rows row → row.map ≡ name → IsTrue (contains span row.key) → ⊥) → rows_under rows name span ≡ map.empty
none_under rows name span never = map.same_map rows_total exact_rows (rows_under rows name span) map.empty
    (λ row. map.get-retain_keys rows test row (λ x tie. ap test (sym (exact_rows row x tie))) ∙ by row (test row) refl (map.get rows row) refl ∙ sym (map.get-empty row_cmp row))
  where
    test : RowName → Bool
    test row = same name row.map && contains span row.key

    by : (row : RowName) (b : Bool) → test row ≡ b → (o : Option Text) → map.get rows row ≡ o → cond (test row) (map.get rows row) None ≡ None
    by row false t o e = ap (λ b. cond b (map.get rows row) None) t
    by row true t None e = ap (λ b. cond b (map.get rows row) None) t ∙ e
    by row true t (Some bytes) e = let both = and_parts (same name row.map) (contains span row.key) t in absurd (never row (ap is_some e) (sym (same_is name row.map both.0)) both.1)

module _ (image : Image) (sound : Sound image) (p : Piece) (stands : HasPiece (global image).mappings p) where
  m : AreMappings (global image).maps (global image).mappings
  m = sound_mappings image sound

  -- a key under the mapping that has an owner is the mapping's
  pub owner_under : (name key : Text) → IsSome (owner_of image name key) → name ≡ p.map → IsTrue (contains p.span key) → owner_of image name key ≡ Some p
  owner_under name key some of_map inside = by (owner_of image name key) refl some
    where
      by : (o : Option Piece) → owner_of image name key ≡ o → IsSome o → owner_of image name key ≡ Some p
      by None e h = cc
      by (Some q) e h = owner_is (global image).maps (global image).mappings m.placed name key m.disjoint (owner_key (global image).maps (global image).mappings m.placed name key q e) p stands (sym of_map) inside

  -- a row under the mapping, at any attached site, is under a key of it
  pub row_owner : (location : Text) → IsAttachedIn image location → (row : RowName) → HasRow (rows_at image location) row → row.map ≡ p.map → IsTrue (contains p.span row.key) → owner_of image row.map row.key ≡ Some p
  row_owner location there row has of_map inside = owner_under row.map row.key (rows_owned image sound location there row has) of_map inside

  -- ---- at its own site

  module _ (here : IsAttachedIn image p.location) where
    attached : is_attached_at image.locations (global image).away p.location ≡ true
    attached = and_from _ _ here.known here.attached

    -- the plain state has the row as the site has it
    as_there : (row : RowName) → owner_of image row.map row.key ≡ Some p → map.get (meaning image).rows row ≡ map.get (rows_at image p.location) row
    as_there row owned = get-rows image row
        ∙ ap (option_and_then (λ (q : Piece). cond (is_attached_at image.locations (global image).away q.location) (map.get (rows_at image q.location) row) None)) owned
        ∙ ap (λ b. cond b (map.get (rows_at image p.location) row) None) attached

    -- a row of the plain state has an owner
    has_owner : (row : RowName) (bytes : Text) → map.get (meaning image).rows row ≡ Some bytes → IsSome (owner_of image row.map row.key)
    has_owner row bytes e = by (owner_of image row.map row.key) (sym (get-rows image row) ∙ e)
      where
        by : (o : Option Piece) → option_and_then (λ (q : Piece). cond (is_attached_at image.locations (global image).away q.location) (map.get (rows_at image q.location) row) None) o ≡ Some bytes → IsSome o
        by None e = cc
        by (Some q) e = refl

    abbrev test : RowName → Bool
    test row = same p.map row.map && contains p.span row.key

    -- a row at the site is found in the plain state
    pub present_by : (row : RowName) → HasRow (rows_at image p.location) row → row.map ≡ p.map → IsTrue (contains p.span row.key) → (rows_present (meaning image) (Some p)).0 ≡ true
    present_by row has of_map inside = by (map.get (rows_at image p.location) row) refl has
      where
        by : (o : Option Text) → map.get (rows_at image p.location) row ≡ o → IsSome o → (rows_present (meaning image) (Some p)).0 ≡ true
        by None e h = cc
        by (Some bytes) e h =
            let got = as_there row (row_owner p.location here row has of_map inside) ∙ e in
            any_from test (map.keys (meaning image).rows) row (into_map (λ (e : RowName × Text). e.0) (map.entries (meaning image).rows) (row, bytes) (entry_there row_cmp rows_total exact_rows (meaning image).rows row bytes got))
            (and_from _ _ (subst (λ n. same p.map n ≡ true) (sym of_map) (same_self p.map)) inside)

    -- and one of the plain state at the site
    pub present_at : (rows_present (meaning image) (Some p)).0 ≡ true → (row : RowName) × HasRow (rows_at image p.location) row × (row.map ≡ p.map) × IsTrue (contains p.span row.key)
    present_at e =
        let g = any_gives test (map.keys (meaning image).rows) e in
        let entry = in_map (λ (e : RowName × Text). e.0) (map.entries (meaning image).rows) g.0 g.1 in
        let got : map.get (meaning image).rows g.0 ≡ Some entry.0.1 = ap (map.get (meaning image).rows) (sym entry.2) ∙ entry_stands row_cmp rows_total (meaning image).rows entry.0 entry.1 in
        let both = and_parts (same p.map g.0.map) (contains p.span g.0.key) g.2 in
        let of_map = sym (same_is p.map g.0.map both.0) in
        let owned = owner_under g.0.map g.0.key (has_owner g.0 entry.0.1 got) of_map both.1 in
        (g.0, ap is_some (sym (as_there g.0 owned) ∙ got), of_map, both.1)

    -- where the plain state has none the site has none
    pub none_here : (rows_present (meaning image) (Some p)).0 ≡ false → rows_under (rows_at image p.location) p.map p.span ≡ map.empty
    none_here none = none_under (rows_at image p.location) p.map p.span (λ row has of_map inside. let wrong : true ≡ false = sym (present_by row has of_map inside) ∙ none in absurd cc)

    -- The least key with a row from the low key on is one of the mapping exactly where a row stands under one.
    pub next_decides : (found : Option Text) → IsNextKey (rows_at image p.location) p.map (low_of p.span) false found → is_over p.span found ≡ (rows_present (meaning image) (Some p)).0
    next_decides found next = same_tests (is_over p.span found) (rows_present (meaning image) (Some p)).0 (over found next) (λ e. there found next (present_at e))
      where
        same_tests : (a b : Bool) → (a ≡ true → b ≡ true) → (b ≡ true → a ≡ true) → a ≡ b
        same_tests true b f g = sym (f refl)
        same_tests false true f g = g refl
        same_tests false false f g = refl

        over : (o : Option Text) → IsNextKey (rows_at image p.location) p.map (low_of p.span) false o → is_over p.span o ≡ true → (rows_present (meaning image) (Some p)).0 ≡ true
        over None next e = cc
        over (Some key) next e = present_by (record { map = p.map; key = key; table = next.0.table; number = next.0.number }) next.0.stands refl e

        of_map : (row : RowName) → row.map ≡ p.map → HasRow (rows_at image p.location) row → HasRow (rows_at image p.location) (record { map = p.map; key = row.key; table = row.table; number = row.number })
        of_map row e has = subst (λ (n : Text). HasRow (rows_at image p.location) (record { map = n; key = row.key; table = row.table; number = row.number })) e has

        there : (o : Option Text) → IsNextKey (rows_at image p.location) p.map (low_of p.span) false o → (row : RowName) × HasRow (rows_at image p.location) row × (row.map ≡ p.map) × IsTrue (contains p.span row.key) → is_over p.span o ≡ true
        there None next row = absurd (next row.0.key (record { table = row.0.table; number = row.0.number; stands = of_map row.0 row.2 row.1; above = low_at_most p.span row.0.key row.3 }))
        there (Some key) next row = contains_between p.span row.0.key key row.3 next.0.above (next.1 row.0.key (record { table = row.0.table; number = row.0.number; stands = of_map row.0 row.2 row.1; above = low_at_most p.span row.0.key row.3 }))

  -- ---- at another site

  -- A mapping without a job's token has no row at another attached site.
  pub none_elsewhere : job_with_token (global image).jobs p ≡ None → (location : Text) → IsAttachedIn image location → (location ≡ p.location → ⊥) → rows_under (rows_at image location) p.map p.span ≡ map.empty
  none_elsewhere free location there other = none_under (rows_at image location) p.map p.span (λ row has of_map inside.
      let owned = row_owner location there row has of_map inside in
      elim ((sound.rows location there).placed row has) [
        | inl o ↦ other (sym o.2 ∙ ap (λ (q : Piece). q.location) (same_Some o.0 p (sym o.1 ∙ owned)))
        | inr moved ↦ never row owned location moved
      ])
    where
      never : (row : RowName) → owner_of image row.map row.key ≡ Some p → (location : Text) → IsBeingMoved (global image).maps (global image).jobs row.map row.key location → ⊥
      never row owned location moved =
          let job = moved.job in
          let cells = sound.jobs job moved.stands in
          let of_type : IsKeyOf (global image).maps job.map row.key = subst (λ n. IsKeyOf (global image).maps n row.key) (sym moved.of_map) moved.of_type in
          let range = batch_in_range (global image).maps (global image).mappings m (global image).shards (next_job image) job cells image.locations (global image).away (sound.progress job moved.stands) row.key moved.in_batch of_type in
          let holder = cells.tokens row.key range.normal (in_span (global image).maps (global image).mappings m (global image).shards (next_job image) job cells row.key range) in
          let is : holder.0 ≡ p = same_Some holder.0 p (sym holder.1 ∙ ap (λ n. owner_of image n row.key) moved.of_map ∙ owned) in
          let token : p.token ≡ Some (record { 0 = job.number }) = sym (ap (λ (q : Piece). q.token) is) ∙ holder.2 in
          absurd (none-some job (sym free ∙ ap (option_and_then (λ (t : Token). map.get (global image).jobs t.0)) token ∙ moved.stands))
