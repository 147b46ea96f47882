-- Images: one store is exchanged, and what comes later changes no earlier one.
use Rattle.std.proofs.Common.{◌≡◌, ◌≢◌, ℕ, ◌≤◌, true, cond, refl, ap, [], ◌∷◌}
use Rattle.std.proofs.lemmas.List.{take-append-le}
use Rattle.std.proofs.lemmas.Bool.{false_from_ne_true}
use Rattle.cell_world.specs.Stores.{Store}
use Rattle.cell_world.specs.Images.{Place, Global, Shard, same_place, Image, with_store, Happening, Trail, after_all, extended, image_at, end_of_trail}
use Rattle.cell_world.proofs.SpanLaws.{same_is, same_self}

pub same_place_self : (p : Place) → same_place p p ≡ true
same_place_self Global = refl
same_place_self (Shard location) = same_self location

pub same_place_is : (p q : Place) → same_place p q ≡ true → p ≡ q
same_place_is Global Global h = refl
same_place_is (Shard a) (Shard b) h = ap Shard (same_is a b h)
same_place_is Global (Shard b) h = cc
same_place_is (Shard a) Global h = cc

pub store_there : (image : Image) (p : Place) (store : Store) → (with_store image p store).at p ≡ store
store_there image p store = ap (λ b. cond b store (image.at p)) (same_place_self p)

pub store_elsewhere : (image : Image) (p q : Place) (store : Store) → p ≢ q → (with_store image p store).at q ≡ image.at q
store_elsewhere image p q store ne = ap (λ b. cond b store (image.at q)) (false_from_ne_true _ (λ h. ne (same_place_is p q h)))

pub earlier_images : (trail : Trail) (h : Happening) (moment : ℕ) → moment ≤ end_of_trail trail → image_at (extended trail h) moment ≡ image_at trail moment
earlier_images trail h moment within = ap (after_all trail.start) (take-append-le moment trail.happened (h ∷ []) within)
