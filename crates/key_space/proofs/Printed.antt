-- What is printed is the one text of the key, and it is read again as the same key.
use Rattle.std.proofs.Common.{◌≡◌, ◌^◌, ◌&&◌, length, Some, refl, sym, ap, ◌∙◌, arith}
use Rattle.std.specs.Prelude.{IsTrue, nat_le, not, ℤ, FitsSigned}
use Rattle.std.specs.Int.{w32, w64}
use Rattle.std.specs.Fmt.{decimal, signed_decimal}
use Rattle.std.proofs.lemmas.Bool.{and_parts, not-true}
use Rattle.std.proofs.lemmas.Nat.{from_be_bytes-to_be_bytes_4, from_be_bytes-to_be_bytes_8}
use Rattle.cell_world.specs.Texts.{Text, are_bytes}
use Rattle.cell_world.specs.KeyForms.{signed_number, last_is_zero, normal_of}
use Rattle.cell_world.specs.KeyPrinting.{signed_text, guid_text, key_text}
use Rattle.cell_world.specs.declared.cells.KeyType.TheVariants as types
use Rattle.key_space.specs.Values.{type_of, form_of, moved_up, IsKey}
use Rattle.key_space.specs.Printing.{printed_text}
use Rattle.key_space.specs.declared.keys.Key.{Key}
use Rattle.key_space.specs.declared.keys.Key.TheVariants.{Int, Long, Guid, Bytes, Datetime, Timespan}
use Rattle.key_space.proofs.KeyForms.{unformed}
use Rattle.key_space.proofs.Zeros.{kept}
use Rattle.key_space.proofs.DecimalValues.{within_32, within_64}
use Rattle.key_space.proofs.DecimalPrinting.{moved_below, printed_signed, signed_again, number_again}
use Rattle.key_space.proofs.HexPrinting.{bytes_again, guid_again}
use Rattle.key_space.proofs.Readings.{int_some, long_some, timespan_as_long, datetime_some, guid_some}

int_text : (x : ℤ) → FitsSigned w32 x → signed_decimal x ≡ key_text types.Int (form_of (Int x))
unfolding key_text
int_text x fits =
    let h = within_32 x fits in
    let below = moved_below (2 ^ 31) x h in
    printed_signed (2 ^ 31) x h ∙ ap (signed_text (2 ^ 31)) (sym (from_be_bytes-to_be_bytes_4 (moved_up (2 ^ 31) x) (omega (arith, below))))

long_text : (x : ℤ) → FitsSigned w64 x → signed_decimal x ≡ key_text types.Long (form_of (Long x))
unfolding key_text
long_text x fits =
    let h = within_64 x fits in
    let below = moved_below (2 ^ 63) x h in
    printed_signed (2 ^ 63) x h ∙ ap (signed_text (2 ^ 63)) (sym (from_be_bytes-to_be_bytes_8 (moved_up (2 ^ 63) x) (omega (arith, below))))

pub printed_key : (key : Key) → IsKey key → printed_text key ≡ key_text (type_of key) (form_of key)
unfolding key_text
printed_key (Int x) is = int_text x is
printed_key (Long x) is = long_text x is
printed_key (Guid bytes) is = ap guid_text (sym (unformed bytes is.count))
printed_key (Bytes bytes) is = refl
printed_key (Datetime ticks) is = ap decimal (sym (from_be_bytes-to_be_bytes_8 ticks (omega (arith, is))))
printed_key (Timespan x) is = long_text x is

int_again : (x : ℤ) → FitsSigned w32 x → signed_number (2 ^ 31) (signed_decimal x) ≡ Some (moved_up (2 ^ 31) x)
int_again x fits =
    let h = within_32 x fits in
    ap (signed_number (2 ^ 31)) (printed_signed (2 ^ 31) x h) ∙ signed_again (2 ^ 31) (moved_up (2 ^ 31) x) (omega arith) (moved_below (2 ^ 31) x h)

long_again : (x : ℤ) → FitsSigned w64 x → signed_number (2 ^ 63) (signed_decimal x) ≡ Some (moved_up (2 ^ 63) x)
long_again x fits =
    let h = within_64 x fits in
    ap (signed_number (2 ^ 63)) (printed_signed (2 ^ 63) x h) ∙ signed_again (2 ^ 63) (moved_up (2 ^ 63) x) (omega arith) (moved_below (2 ^ 63) x h)

bytes_read : (bytes : Text) → IsTrue (are_bytes bytes && (nat_le (length bytes) 128 && not (last_is_zero bytes))) → normal_of types.Bytes (printed_text (Bytes bytes)) ≡ Some bytes
unfolding normal_of
bytes_read bytes is =
    let p = and_parts (are_bytes bytes) (nat_le (length bytes) 128 && not (last_is_zero bytes)) is in
    let q = and_parts (nat_le (length bytes) 128) (not (last_is_zero bytes)) p.1 in
    rw (bytes_again bytes p.0, q.0) (ap Some (kept bytes (not-true (last_is_zero bytes) q.1)))

pub read_again : (key : Key) → IsKey key → normal_of (type_of key) (printed_text key) ≡ Some (form_of key)
read_again (Int x) is = int_some (signed_decimal x) (moved_up (2 ^ 31) x) (int_again x is)
read_again (Long x) is = long_some (signed_decimal x) (moved_up (2 ^ 63) x) (long_again x is)
read_again (Guid bytes) is = guid_some (guid_text bytes) bytes (guid_again bytes is)
read_again (Bytes bytes) is = bytes_read bytes is
read_again (Datetime ticks) is = datetime_some (decimal ticks) ticks (number_again ticks (omega (arith, is))) is
read_again (Timespan x) is = timespan_as_long (signed_decimal x) ∙ long_some (signed_decimal x) (moved_up (2 ^ 63) x) (long_again x is)
