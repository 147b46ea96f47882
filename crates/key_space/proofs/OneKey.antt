-- The form of a key is normal, and one key's alone.
use Rattle.std.proofs.Common.{◌≡◌, ℕ, suc, ◌^◌, ◌≤◌, List, [], ◌∷◌, refl, sym, ap, ◌∙◌, arith, ℤ, pos}
use Rattle.std.specs.Prelude.{IsTrue, map, slice_index, negsuc, FitsSigned}
use Rattle.std.specs.Int.{w32, w64, to_be_bytes, from_be_bytes}
use Rattle.std.proofs.lemmas.Bool.{lt-ltb, le-leb}
use Rattle.std.proofs.lemmas.Nat.{from_be_bytes-to_be_bytes_4, from_be_bytes-to_be_bytes_8}
use Rattle.cell_world.specs.Texts.{Text, are_bytes}
use Rattle.cell_world.specs.KeyForms.{is_normal, last_tick, guid_form, guid_order}
use Rattle.cell_world.specs.KeyPrinting.{guid_unformed}
use Rattle.key_space.specs.Guids.{IsGuid}
use Rattle.key_space.specs.Values.{type_of, form_of, moved_up, IsKey}
use Rattle.key_space.specs.declared.keys.Key.{Key}
use Rattle.key_space.specs.declared.keys.Key.TheVariants.{Int, Long, Guid, Bytes, Datetime, Timespan}
use Rattle.key_space.proofs.KeyForms.{unformed}
use Rattle.key_space.proofs.DecimalValues.{Within, within_32, within_64}
use Rattle.key_space.proofs.DecimalPrinting.{moved_below}
use Rattle.key_space.proofs.HexPrinting.{byte_at}
use Rattle.key_space.proofs.Order.{IsBytes, bytes_4, bytes_8}

all_small : (xs : Text) → IsBytes xs → IsTrue (are_bytes xs)
all_small [] h = refl
all_small (b ∷ bs) h = rw (lt-ltb b 256 (h 0), all_small bs (λ i. h (suc i))) refl

placed_small : (places : List ℕ) (bytes : Text) → IsTrue (are_bytes bytes) → IsTrue (are_bytes (map (slice_index bytes) places))
placed_small [] bytes h = refl
placed_small (place ∷ places) bytes h = rw (lt-ltb (slice_index bytes place) 256 (byte_at bytes h place), placed_small places bytes h) refl

pub normal_form : (key : Key) → IsKey key → IsTrue (is_normal (type_of key) (form_of key))
normal_form (Int x) is = rw (all_small (form_of (Int x)) (bytes_4 (moved_up (2 ^ 31) x))) refl
normal_form (Long x) is = rw (all_small (form_of (Long x)) (bytes_8 (moved_up (2 ^ 63) x))) refl
normal_form (Timespan x) is = rw (all_small (form_of (Timespan x)) (bytes_8 (moved_up (2 ^ 63) x))) refl
normal_form (Datetime ticks) is = rw (all_small (to_be_bytes w64 ticks) (bytes_8 ticks), from_be_bytes-to_be_bytes_8 ticks (omega (arith, is)), le-leb ticks last_tick is) refl
normal_form (Guid bytes) is = rw (placed_small guid_order bytes is.all_bytes) refl
normal_form (Bytes bytes) is = is

moved_one : (half : ℕ) (x y : ℤ) → Within half x → Within half y → moved_up half x ≡ moved_up half y → x ≡ y
moved_one half (pos a) (pos b) hx hy e = ap pos (omega arith)
moved_one half (pos a) (negsuc b) hx hy e = absurd (omega arith)
moved_one half (negsuc a) (pos b) hx hy e = absurd (omega arith)
moved_one half (negsuc a) (negsuc b) hx hy e = ap negsuc (omega arith)

int_one : (x y : ℤ) → FitsSigned w32 x → FitsSigned w32 y → to_be_bytes w32 (moved_up (2 ^ 31) x) ≡ to_be_bytes w32 (moved_up (2 ^ 31) y) → x ≡ y
int_one x y fx fy e =
    let hx = within_32 x fx in
    let hy = within_32 y fy in
    let bx = moved_below (2 ^ 31) x hx in
    let by = moved_below (2 ^ 31) y hy in
    moved_one (2 ^ 31) x y hx hy (sym (from_be_bytes-to_be_bytes_4 (moved_up (2 ^ 31) x) (omega (arith, bx))) ∙ (ap (from_be_bytes w32) e ∙ from_be_bytes-to_be_bytes_4 (moved_up (2 ^ 31) y) (omega (arith, by))))

long_one : (x y : ℤ) → FitsSigned w64 x → FitsSigned w64 y → to_be_bytes w64 (moved_up (2 ^ 63) x) ≡ to_be_bytes w64 (moved_up (2 ^ 63) y) → x ≡ y
long_one x y fx fy e =
    let hx = within_64 x fx in
    let hy = within_64 y fy in
    let bx = moved_below (2 ^ 63) x hx in
    let by = moved_below (2 ^ 63) y hy in
    moved_one (2 ^ 63) x y hx hy (sym (from_be_bytes-to_be_bytes_8 (moved_up (2 ^ 63) x) (omega (arith, bx))) ∙ (ap (from_be_bytes w64) e ∙ from_be_bytes-to_be_bytes_8 (moved_up (2 ^ 63) y) (omega (arith, by))))

ticks_one : (m n : ℕ) → m ≤ last_tick → n ≤ last_tick → to_be_bytes w64 m ≡ to_be_bytes w64 n → m ≡ n
ticks_one m n hm hn e = sym (from_be_bytes-to_be_bytes_8 m (omega (arith, hm))) ∙ (ap (from_be_bytes w64) e ∙ from_be_bytes-to_be_bytes_8 n (omega (arith, hn)))

guid_one : (a b : Text) → IsGuid a → IsGuid b → guid_form a ≡ guid_form b → a ≡ b
guid_one a b ha hb e = sym (unformed a ha.count) ∙ (ap guid_unformed e ∙ unformed b hb.count)

pub one_key : (a b : Key) → IsKey a → IsKey b → type_of a ≡ type_of b → form_of a ≡ form_of b → a ≡ b
one_key (Int x) (Int y) ha hb t e = ap Int (int_one x y ha hb e)
one_key (Long x) (Long y) ha hb t e = ap Long (long_one x y ha hb e)
one_key (Guid a) (Guid b) ha hb t e = ap Guid (guid_one a b ha hb e)
one_key (Bytes a) (Bytes b) ha hb t e = ap Bytes e
one_key (Datetime m) (Datetime n) ha hb t e = ap Datetime (ticks_one m n ha hb e)
one_key (Timespan x) (Timespan y) ha hb t e = ap Timespan (long_one x y ha hb e)
one_key a b ha hb t e = absurd cc
