use Rattle.std.proofs.Common.{◌≡◌, length, ap, ◌∙◌, arith}
use Rattle.std.specs.Prelude.{vec_len}
use Rattle.global_tables.specs.Known.{Known}
use Rattle.global_tables.proofs.CopyLaws.{maps_counted}
use Rattle.global_tables.proofs.known.KnownTables.map_count.Goals as goal

pub returns : goal.returns
returns c = λ s is.
    let long : vec_len c.self.inside.maps ≡ length c.self.inside.maps.items = omega (arith, c.self.inside.maps.ok.0) in
    c.len.ensures ∙ long ∙ ap (λ (k : Known). length k.maps) c.self.view_is ∙ maps_counted c.args.self.now s is
