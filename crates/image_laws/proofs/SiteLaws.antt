-- The number of a site and its place.
use Rattle.std.proofs.Common.{◌≡◌, ℕ, suc, ◌+◌, ◌-◌, Bool, true, false, cond, not, refl, sym, ap, ◌∙◌, Some, None, option_map, is_some, inl, inr, List, [], ◌∷◌, ◌||◌, length, arith}
use Rattle.std.specs.Prelude.{nat_lt, nat_eq, slice_get}
use Rattle.std.specs.List.{list_any, position_or_len}
use Rattle.std.proofs.Math.ListN.{get_or}
use Rattle.std.proofs.lemmas.Bool.{cases_Bool, lt-ltb, ltb-true, le-ltb, ltb-false}
use Rattle.std.proofs.lemmas.Option.{slice_get-get_or}
use Rattle.std.proofs.lemmas.List.Sums.{passes_at_first}
use Rattle.cell_world.specs.Texts.{Text}
use Rattle.cell_world.specs.Keys.{same, is_among}
use Rattle.cell_world.specs.Images.{Global, Shard}
use Rattle.cell_world.specs.Outside.{site_number, place_at}
use Rattle.cell_world.specs.declared.cells.Site.{Site}
use Rattle.cell_world.proofs.SpanLaws.{same_is}

-- the first place of a location in the list, where it is one of them
module _ (locations : List Text) (location : Text) where
  abbrev first : ℕ
  first = position_or_len (same location) locations

  abbrev within : Bool
  within = nat_lt first (length locations)

  at_first : within ≡ true → slice_get locations first ≡ Some location
  at_first e =
      let lt = ltb-true first (length locations) e in
      slice_get-get_or locations first location lt ∙ ap Some (sym (same_is location (get_or locations first location) (passes_at_first (same location) locations location lt)))

  -- the place of a number past that of the global store
  place_of_next : (n : ℕ) → place_at locations (n + 1) ≡ option_map Shard (slice_get locations n)
  place_of_next n =
      let more : nat_eq (n + 1) 0 ≡ false = grind arith in
      let back : (n + 1) - 1 ≡ n = omega arith in
      ap (λ b. cond b (Some Global) (option_map Shard (slice_get locations ((n + 1) - 1)))) more ∙ ap (λ k. option_map Shard (slice_get locations k)) back

  -- The place of a location's site is the shard there.
  pub place_of_number : (site : Site) → site_number locations location ≡ Some site → place_at locations site.0 ≡ Some (Shard location)
  place_of_number site = by within refl
    where
      by : (b : Bool) → within ≡ b → option_map (λ n. record { 0 = n + 1 }) (cond b (Some first) None) ≡ Some site → place_at locations site.0 ≡ Some (Shard location)
      by true e h =
          let number : first + 1 ≡ site.0 = cc in
          ap (place_at locations) (sym number) ∙ place_of_next first ∙ ap (option_map Shard) (at_first e)
      by false e h = cc

  -- A location has a site exactly where it is one of the world's.
  pub number_known : is_some (site_number locations location) ≡ is_among locations location
  number_known = by within ∙ sym (known locations)
    where
      known : (xs : List Text) → list_any (same location) xs ≡ nat_lt (position_or_len (same location) xs) (length xs)
      known [] = refl
      known (x ∷ xs) = choose (same location x) (known xs)
        where
          shifted : (a b : ℕ) → nat_lt a b ≡ nat_lt (1 + a) (suc b)
          shifted a b = elim (cases_Bool (nat_lt a b)) [
            | inl t ↦ t ∙ sym (lt-ltb (1 + a) (suc b) (let h = ltb-true a b t in omega arith))
            | inr t ↦ t ∙ sym (le-ltb (1 + a) (suc b) (let h = ltb-false a b t in omega arith))
          ]

          choose : (b : Bool) → list_any (same location) xs ≡ nat_lt (position_or_len (same location) xs) (length xs)
              → (b || list_any (same location) xs) ≡ nat_lt (cond (not b) (1 + position_or_len (same location) xs) 0) (suc (length xs))
          choose true h = sym (lt-ltb 0 (suc (length xs)) (omega arith))
          choose false h = h ∙ shifted (position_or_len (same location) xs) (length xs)

      numbered : ℕ → Site
      numbered n = record { 0 = n + 1 }

      by : (b : Bool) → is_some (option_map numbered (cond b (Some first) None)) ≡ b
      by true = refl
      by false = refl
