-- What of a sound image the laws on tables use.
use Rattle.std.proofs.Common.{◌≡◌, ◌≢◌, true, sym, ap, ◌∙◌}
use Rattle.cell_world.specs.Lists.{IsOneOf}
use Rattle.cell_world.specs.Keys.{same, overlaps}
use Rattle.std.proofs.lemmas.Bool.{and_parts}
use Rattle.cell_world.proofs.MappingLaws.{sound_mappings}
use Rattle.cell_world.proofs.SpanLaws.{same_is, overlaps_shared, shared_of_overlap}
use Rattle.cell_world.specs.Sound.{Sound, HasLog}
use Rattle.cell_world.specs.Sweep.{reaches}
use Rattle.cell_world.specs.UnderWay.{new_row}
use Rattle.image_laws.specs.Fits.{AreLogged}
use Rattle.image_laws.proofs.FitLaws.{fit_of_lawful}
use Rattle.cell_world.specs.Spelled.{listed}
use Rattle.cell_world.specs.Images.{Image, global}
use Rattle.cell_world.specs.Meaning.{next_operation}
use Rattle.cell_world.specs.Lawful.{read_tables}
use Rattle.cell_world.specs.declared.operations.Piece.{Piece}
use Rattle.cell_world.specs.declared.operations.Op.{Op}

module _ (image : Image) (sound : Sound image) where
  pub are_logged : AreLogged (global image).maps (global image).mappings (global image).log (next_operation image)
  are_logged = record {
    fits = λ op h. fit_of_lawful (read_tables image) (sound_mappings image sound) op (sound.logged.lawful op h);
    numbered = sound.logged.numbered;
    hulls = sound.logged.hulls;
  }

-- the news of a logged operation are out of the hull of another one
module _ (image : Image) (sound : Sound image) where
  pub births_apart : (p q : Op) → HasLog (global image).log p → HasLog (global image).log q → p.number ≢ q.number → (n : Piece) → IsOneOf (listed q.news) n → reaches p (new_row q.number n) ≡ true → ⊥
  births_apart p q h k ne n among r =
      let both = and_parts (same n.map p.map) (overlaps n.span p.hull) r in
      let fit = (are_logged image sound).fits q k in
      let s = shared_of_overlap n.span p.hull both.1 in
      let over = overlaps_shared p.hull q.hull s.0 s.2 (fit.shaped.new_in n among s.0 s.1) in
      ne (ap (λ (o : Op). o.number) (sound.logged.hulls p q h k (sym (same_is n.map p.map both.0) ∙ fit.new_map n among) over))
