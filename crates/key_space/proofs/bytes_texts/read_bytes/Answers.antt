use Rattle.std.proofs.Common.{◌≡◌, ◌-◌, length, drop, take, Some, refl, sym, ap, ◌∙◌, arith, length-take, length-drop}
use Rattle.std.proofs.lemmas.Bool.{le-leb}
use Rattle.std.proofs.lemmas.List.{take_all}
use Rattle.cell_world.specs.KeyForms.{normal_of, hex_bytes}
use Rattle.key_space.specs.Texts.{written_bytes}
use Rattle.key_space.proofs.HexDigits.{some_value, pairs_of}
use Rattle.key_space.proofs.BytesTexts.{digits_behind}
use Rattle.key_space.proofs.bytes_texts.read_bytes.Goals as goal

pub returns-then-digits-clause-err : goal.returns-then-digits-clause-err
returns-then-digits-clause-err c =
    let text = c.args.text.now in
    let found = some_value (written_bytes text) c.in_ok-check.ensures.ok in
    let behind = digits_behind text c.in_ok-check.ensures.ok in
    let twice = (pairs_of (drop 2 text) found.0 (sym behind.1 ∙ found.1)).twice in
    let more = c.if-digits.true in
    (refl, (found.0, found.1, omega (arith, twice, more, length-drop 2 text, behind.0)))

pub returns-clause-ok : goal.returns-clause-ok
unfolding normal_of
returns-clause-ok c =
    let text = c.args.text.now in
    let behind = digits_behind text c.in_ok-check.ensures.ok in
    let count = c.decode-count.result in
    let back : take (length text - 2) (drop 2 text) ≡ drop 2 text = take_all (length text - 2) (drop 2 text) (omega (arith, length-drop 2 text)) in
    let written : written_bytes text ≡ Some (take count c.decode-count.new.room) = behind.1 ∙ (ap hex_bytes (sym back) ∙ c.decode-count.ensures.bytes) in
    let fits = c.decode-count.ensures.fits in
    rw (written, le-leb (length (take count c.decode-count.new.room)) 128 (omega (arith, fits, length-take count c.decode-count.new.room))) (ap Some (sym c.key_of_written.ensures))
