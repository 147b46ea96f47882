-- Where no row has a mark of an operation: at the attached sites of none of its mappings, and others put none there.
use Rattle.std.proofs.Common.{◌≡◌, ◌≢◌, ◌⊎◌, ℕ, false, refl, sym, ap, ◌∙◌, subst, inl, inr, true≢false, List, ◌++◌}
use Rattle.cell_world.specs.Texts.{Text}
use Rattle.cell_world.specs.Lists.{IsOneOf}
use Rattle.cell_world.specs.Keys.{is_among}
use Rattle.cell_world.specs.Spelled.{listed}
use Rattle.cell_world.specs.Stores.{Log, Locals}
use Rattle.cell_world.specs.Images.{Image, Shard, global}
use Rattle.cell_world.specs.Meaning.{next_operation}
use Rattle.cell_world.specs.Sound.{Sound, HasLog, HasLocal}
use Rattle.cell_world.specs.Sweep.{marked_as, IsSwept}
use Rattle.cell_world.specs.Marked.{HasNoMark, IsNew, marked_sites, NoMarksElsewhere}
use Rattle.cell_world.specs.declared.operations.Piece.{Piece}
use Rattle.cell_world.specs.declared.operations.Op.{Op}
use Rattle.cell_world.specs.declared.cells.LocalRow.{LocalRow}
use Rattle.cell_world.specs.declared.cells.Mark.{Mark}
use Rattle.cell_world.specs.declared.cells.Mark.TheVariants.{Plain, Old, New}
use Rattle.cell_world.proofs.ListLaws.{in_first, in_second}
use Rattle.image_laws.specs.LocalSteps.{AreBorn, IsSettled}
use Rattle.image_laws.proofs.CommitSites.{IsElsewhere, old_of_mark, new_of_mark}
use Rattle.image_laws.proofs.OthersStay.{settle_row}
use Rattle.image_laws.proofs.Places.{location_in, is_among_of}
use Rattle.cell_world.proofs.MappingLaws.{sound_mappings}
use Rattle.image_laws.proofs.SoundParts.{are_logged}
use Rattle.image_laws.proofs.StepLaws.{Swept, In, Out, swept_back}

-- ---- at other sites

-- the sites where an operation has no mapping
pub elsewhere : (op : Op) (location : Text) → is_among (marked_sites op) location ≡ false → IsElsewhere op location
elsewhere op location out = record {
  no_old = λ o among there. never o (in_first (listed op.olds) (listed op.news) o among) there;
  no_new = λ n among there. never n (in_second (listed op.olds) (listed op.news) n among) there;
}
  where
    never : (p : Piece) → IsOneOf (listed op.olds ++ listed op.news) p → p.location ≡ location → ⊥
    never p among there = true≢false (sym (is_among_of (marked_sites op) p.location (location_in (listed op.olds ++ listed op.news) p among)) ∙ ap (is_among (marked_sites op)) there ∙ out)

-- No row there has a mark of a logged operation.
pub none_elsewhere : (image : Image) → Sound image → (op : Op) → HasLog (global image).log op → NoMarksElsewhere image op
none_elsewhere image sound op logged location here out row has = (
  (λ e. let o = old_of_mark (global image).maps (global image).mappings (sound_mappings image sound) (global image).log (next_operation image) (are_logged image sound) op logged location (image.at (Shard location)).locals (sound.locals location here) row has e in
      (elsewhere op location out).no_old o.0 o.1 o.3),
  (λ e. let n = new_of_mark (global image).maps (global image).mappings (sound_mappings image sound) (global image).log (next_operation image) (are_logged image sound) op logged location (image.at (Shard location)).locals (sound.locals location here) row has e.0 e.1 in
      (elsewhere op location out).no_new n.0 n.1 n.3),
)

-- ---- what others do

-- a mark that a sweep of another operation puts
pub data IsOtherMark (number : ℕ) (mark : Mark) : Type 0 where
  Undo : mark ≡ Plain → IsOtherMark number mark
  Step : (other : ℕ) → mark ≡ Old other → other ≢ number → IsOtherMark number mark

abbrev NoMark : ℕ → LocalRow → Type 0
NoMark number row = (row.mark ≢ Old number) × (IsNew number row → ⊥)

-- a row with such a mark has none of the operation
other_mark : (number : ℕ) (mark : Mark) → IsOtherMark number mark → (was : LocalRow) → NoMark number (marked_as mark was)
other_mark number mark (Undo e) was = ((λ f. let g : Plain ≡ Old number = sym e ∙ f in absurd (cc)), (λ n. let g : Plain ≡ New = sym e ∙ n.0 in absurd (cc)))
other_mark number mark (Step other e ne) was = ((λ f. let g : Old other ≡ Old number = sym e ∙ f in ne (cc)), (λ n. let g : Old other ≡ New = sym e ∙ n.0 in absurd (cc)))

pub none_swept : (op other : Op) (log : Log) (mark : Mark) → IsOtherMark op.number mark → (before after : Locals) → IsSwept log other mark before after → HasNoMark op before → HasNoMark op after
none_swept op other log mark is before after swept none row has = let b = swept_back log other mark before after swept row has in by b.0 row b.1 b.2
  where
    by : (was row : LocalRow) → HasLocal before was → Swept log other mark was row → NoMark op.number row
    by was row h (Out m e) = subst (NoMark op.number) (sym e) (none was h)
    by was row h (In m c e) = subst (NoMark op.number) (sym e) (other_mark op.number mark is was)

pub none_born : (op : Op) (number : ℕ) → number ≢ op.number → (location : Text) (news : List Piece) (before after : Locals) → AreBorn number location news before after → HasNoMark op before → HasNoMark op after
none_born op number ne location news before after born none row has = elim (born.back row has) [
  | inl b ↦ (
    (λ e. let f : New ≡ Old op.number = sym (ap (λ (r : LocalRow). r.mark) b.3) ∙ e in absurd (cc)),
    (λ n. ne (sym (ap (λ (r : LocalRow). r.number) b.3) ∙ n.1)),
  )
  | inr was ↦ none row was
]

pub none_settled : (op : Op) (number : ℕ) (before after : Locals) → IsSettled number before after → HasNoMark op before → HasNoMark op after
none_settled op number before after settled none row has = let b = settle_row number before after settled row has in by b.0 row b.1 b.2
  where
    by : (was row : LocalRow) → HasLocal before was → (row ≡ was) ⊎ ((row ≡ marked_as Plain was) × (was.mark ≡ New) × (was.number ≡ number)) → NoMark op.number row
    by was row h (inl e) = subst (NoMark op.number) (sym e) (none was h)
    by was row h (inr e) = subst (NoMark op.number) (sym e.0) (other_mark op.number Plain (Undo refl) was)
