-- Facts of the contents that a world tells.
use Rattle.cell_world.specs.Stores.{IsStore}
use Rattle.cell_world.specs.Images.{Image, Global, global, image_at, end_of_trail}
use Rattle.cell_world.specs.Outside.{Told, TellsNothing, TellsContents, TellsTrail, IfContents, TellsCells}

-- what is so of every image is so of them
pub contents_all : (told : Told) (P : Image → Type 0) → ((image : Image) → P image) → IfContents told P
contents_all TellsNothing P all = tt
contents_all (TellsContents image) P all = all image
contents_all (TellsTrail trail) P all = all (image_at trail (end_of_trail trail))

-- what follows from a fact of the contents is so of them
pub contents_weaker : (told : Told) (P Q : Image → Type 0) → ((image : Image) → P image → Q image) → IfContents told P → IfContents told Q
contents_weaker TellsNothing P Q weaker p = tt
contents_weaker (TellsContents image) P Q weaker p = weaker image p
contents_weaker (TellsTrail trail) P Q weaker p = weaker (image_at trail (end_of_trail trail)) p

-- two facts of the contents are one
pub contents_both : (told : Told) (P Q : Image → Type 0) → IfContents told P → IfContents told Q → IfContents told (λ image. P image × Q image)
contents_both TellsNothing P Q p q = tt
contents_both (TellsContents image) P Q p q = (p, q)
contents_both (TellsTrail trail) P Q p q = (p, q)

-- nothing but cells stands in the global store
pub contents_store : (told : Told) → TellsCells told → IfContents told (λ image. IsStore (global image))
contents_store TellsNothing cells = tt
contents_store (TellsContents image) cells = cells Global
contents_store (TellsTrail trail) cells = cells (end_of_trail trail) Global
