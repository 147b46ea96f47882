-- In a sound image at most one local row counts over a key.
use Rattle.std.proofs.Common.{◌≡◌, true, sym, ap, ◌∙◌, subst}
use Rattle.cell_world.specs.Texts.{Text}
use Rattle.cell_world.specs.Images.{Image, Shard, global}
use Rattle.cell_world.specs.Keys.{contains, low_of}
use Rattle.cell_world.specs.Sound.{Sound, IsAttachedIn, IsSuspectIn}
use Rattle.cell_world.specs.declared.operations.Piece.{Piece}
use Rattle.cell_world.proofs.SpanLaws.{overlaps_shared, holds_low}
use Rattle.local_tables.specs.Resolving.{CountApart}

pub attached_apart : (image : Image) (location name : Text) → Sound image → IsAttachedIn image location → CountApart (global image).log (image.at (Shard location)).locals name
attached_apart image location name sound attached = record {
  proper = λ a h c e.
      let m = (sound.locals location attached).counted a h c in
      let span = sound.globals.spans m.0 m.1 in
      subst (λ s. contains s (low_of s) ≡ true) (sym m.3.span) (holds_low span.0 span.1 m.0.span span.3);
  once = λ a b key h g c d e f x y.
      let m = (sound.locals location attached).counted a h c in
      let n = (sound.locals location attached).counted b g d in
      let one : m.0 ≡ n.0 = sound.globals.disjoint m.0 n.0 m.1 n.1 (sym m.3.map ∙ e ∙ sym f ∙ n.3.map)
      (overlaps_shared m.0.span n.0.span key (subst (λ s. contains s key ≡ true) m.3.span x) (subst (λ s. contains s key ≡ true) n.3.span y)) in
      (sound.locals location attached).once a b h g c d (e ∙ sym f) (ap low_of m.3.span ∙ ap (λ (p : Piece). low_of p.span) one ∙ sym (ap low_of n.3.span));
}

pub suspect_apart : (image : Image) (location name : Text) → Sound image → IsSuspectIn image location → CountApart (global image).log (image.at (Shard location)).locals name
suspect_apart image location name sound suspect = record {
  proper = λ a h c e. let span = (sound.suspect location suspect).spans a h in holds_low span.0 span.1 a.span span.3;
  once = λ a b key h g c d e f x y. (sound.suspect location suspect).disjoint a b h g (e ∙ sym f) (overlaps_shared a.span b.span key x y);
}
