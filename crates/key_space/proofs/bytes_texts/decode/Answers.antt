use Rattle.std.proofs.Common.{arith, length, take, length-take, sym, ap, ◌∙◌, ◌≡◌, ◌/◌, ℕ, Some, Ok, refl}
use Rattle.std.proofs.lemmas.List.{take_at}
use Rattle.key_space.proofs.HexDigits.{some_value, pairs_of}
use Rattle.key_space.proofs.BytesTexts.{decoded}
use Rattle.cell_world.specs.KeyForms.{hex_bytes}
use Rattle.key_space.proofs.bytes_texts.decode.Goals as goal

pub unwrap-requires : goal.unwrap-requires
unwrap-requires c =
    let digits = c.args.digits.now in
    let found = some_value (hex_bytes digits) c.requires.pairs in
    let n : ℕ = length (take (length digits / 2) c.args.room.now) in
    let twice = (pairs_of digits found.0 found.1).twice in
    let room = c.told-room in
    let fits = c.requires.fits in
    let count : length found.0 ≡ n = omega (arith, length-take (length digits / 2) c.args.room.now, room, fits, twice) in
    let ok : c.decode_to_slice.result ≡ Ok tt = (rw (decoded digits found.0 n found.1 count) at c.decode_to_slice.ensures.value).0 in
    rw ok refl

pub returns-clause-bytes : goal.returns-clause-bytes
returns-clause-bytes c =
    let digits = c.args.digits.now in
    let found = some_value (hex_bytes digits) c.requires.pairs in
    let n : ℕ = length (take (length digits / 2) c.args.room.now) in
    let twice = (pairs_of digits found.0 found.1).twice in
    let room = c.told-room in
    let fits = c.requires.fits in
    let count : length found.0 ≡ n = omega (arith, length-take (length digits / 2) c.args.room.now, room, fits, twice) in
    let out : c.decode_to_slice.new.out ≡ found.0 = (rw (decoded digits found.0 n found.1 count) at c.decode_to_slice.ensures.value).1 in
    let half : length found.0 ≡ length digits / 2 = omega (arith, twice) in
    rw out (found.1 ∙ ap Some (sym (take_at found.0 _ (length digits / 2) half)))
