-- What stays between two events: the copy of the tables is what the global cells say.
use Rattle.std.proofs.Common.{◌≡◌, sym, ap, ◌∙◌, subst, arith, true, List, [], ◌∷◌, ◌++◌}
use Rattle.std.proofs.lemmas.List.{take_all}
use Rattle.cell_world.specs.Stores.{Store, IsKeyed, changed}
use Rattle.cell_world.specs.Images.{Image, Happening, Trail, after_one, image_at, end_of_trail, extended, global}
use Rattle.cell_world.specs.Outside.{Told, TellsNothing, TellsContents, TellsTrail, IfContents, TellsCells, told_after}
use Rattle.cell_world.specs.declared.changes.Edit.{Edit}
use Rattle.cell_world.proofs.ContentsLaws.{contents_both, contents_store}
use Rattle.global_tables.specs.Known.{Known, known_of}
use Rattle.plain_model.specs.ShortCommands.{short_commit}
use Rattle.plain_model.proofs.Moments.{after_push}
use Rattle.manager_core.specs.Answering.{IsCopy}

-- ---- one thing more

-- the stores after it
pub image_extended : (trail : Trail) (h : Happening) → image_at (extended trail h) (end_of_trail (extended trail h)) ≡ after_one (image_at trail (end_of_trail trail)) h
image_extended trail h =
    ap (Rattle.cell_world.specs.Images.after_all trail.start) (take_all (end_of_trail (extended trail h)) (trail.happened ++ h ∷ []) (omega arith))
    ∙ after_push trail.start trail.happened h
    ∙ ap (λ hs. after_one (Rattle.cell_world.specs.Images.after_all trail.start hs) h) (sym (take_all (end_of_trail trail) trail.happened (omega arith)))

pub contents_after : (told : Told) (h : Happening) (P Q : Image → Type 0) → ((image : Image) → P image → Q (after_one image h)) → IfContents told P → IfContents (told_after told h) Q
contents_after TellsNothing h P Q more p = tt
contents_after (TellsContents image) h P Q more p = more image p
contents_after (TellsTrail trail) h P Q more p = subst Q (sym (image_extended trail h)) (more (image_at trail (end_of_trail trail)) p)

-- ---- the copy of the tables

-- a change is made, and the copy is what it was and the change
pub copy_made : (old new : Told) (known fresh : Known) (change : List Edit) → TellsCells old → new ≡ told_after old (short_commit change true) → ((s : Store) → IsKeyed s → known ≡ known_of s → fresh ≡ known_of (changed s change))
    → IsCopy known old → IsCopy fresh new
copy_made old new known fresh change cells made follows copy = subst (IsCopy fresh) (sym made)
    (contents_after old (short_commit change true) (λ image. Rattle.cell_world.specs.Stores.IsStore (global image) × (known ≡ known_of (global image))) (λ image. fresh ≡ known_of (global image))
    (λ image both. follows (global image) both.0.keyed both.1)
    (contents_both old (λ image. Rattle.cell_world.specs.Stores.IsStore (global image)) (λ image. known ≡ known_of (global image)) (contents_store old cells) copy))
