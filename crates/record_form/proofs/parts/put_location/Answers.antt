use Rattle.std.proofs.Common.{◌≡◌, length, ap, arith}
use Rattle.record_form.proofs.Lengths.{location_short}
use Rattle.record_form.proofs.parts.put_location.Goals as goal

pub put_text-requires : goal.put_text-requires
put_text-requires c =
    let most = location_short c.args.location.now c.known.ensures in
    let same : length c.as_slice.result.now ≡ length c.args.location.now = ap length c.as_slice.ensures in
    omega (arith, most, same)
