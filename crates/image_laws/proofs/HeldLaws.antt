-- What a site that is away holds stays, whatever store an attached site gets.
use Rattle.std.proofs.Common.{◌≡◌, Bool, true, false, cond, not, refl, sym, subst, ◌&&◌}
use Rattle.std.specs.FinMap as map
use Rattle.cell_world.specs.Texts.{Text}
use Rattle.cell_world.specs.Keys.{same, is_among}
use Rattle.cell_world.specs.Stores.{Store}
use Rattle.cell_world.specs.Images.{Image, Shard, global, with_store}
use Rattle.cell_world.specs.Plain.{Held, holds_nothing, is_attached}
use Rattle.cell_world.specs.Meaning.{held_at}
use Rattle.cell_world.specs.Sound.{IsAttachedIn}
use Rattle.cell_world.proofs.SpanLaws.{same_is}

pub held_stays : (image : Image) (location : Text) (store : Store) → IsAttachedIn image location → (other : Text) → held_at (with_store image (Shard location) store) other ≡ held_at image other
held_stays image location store here other = by (is_among image.locations other) (is_attached (map.get (global image).away other)) (same location other) refl refl
  where
    held_of : Store → Held
    held_of s = record { locals = s.locals; rows = s.rows }

    by : (a b c : Bool) → is_attached (map.get (global image).away other) ≡ b → same location other ≡ c
        → ◌≡◌ {A = Held} (cond (a && not b) (held_of (cond c store (image.at (Shard other)))) holds_nothing) (cond (a && not b) (held_of (image.at (Shard other))) holds_nothing)
    by false b c e f = refl
    by true true c e f = refl
    by true false false e f = refl
    by true false true e f =
        let off : is_attached (map.get (global image).away location) ≡ false = subst (λ l. is_attached (map.get (global image).away l) ≡ false) (sym (same_is location other f)) e in
        let on : is_attached (map.get (global image).away location) ≡ true = here.attached in
        cc
