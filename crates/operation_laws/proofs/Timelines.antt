-- Timelines on which several things happened.
use Rattle.std.proofs.Common.{◌≡◌, refl, sym, ap, ◌∙◌, List, [], ◌∷◌, ◌++◌, append_assoc}
use Rattle.cell_world.specs.Images.{Image, Happening, after_all}
use Rattle.plain_model.specs.Timelines.{Timeline, Happened, image_of, facts_of, happened_of, history_of, past_of}
use Rattle.operation_laws.specs.Courses.{happened_on}

-- one list after another
pub on_then : (past : Timeline) (hs gs : List Happening) → happened_on past (hs ++ gs) ≡ happened_on (happened_on past hs) gs
on_then past [] gs = refl
on_then past (h ∷ hs) gs = on_then (Happened h ∷ past) hs gs

-- what happened
pub on_happened : (past : Timeline) (hs : List Happening) → happened_of (happened_on past hs) ≡ happened_of past ++ hs
on_happened past [] = sym (append_nil (happened_of past))
  where
    append_nil : (xs : List Happening) → xs ++ [] ≡ xs
    append_nil [] = refl
    append_nil (x ∷ xs) = ap (λ ys. x ∷ ys) (append_nil xs)
on_happened past (h ∷ hs) = on_happened (Happened h ∷ past) hs ∙ append_assoc (happened_of past) (h ∷ []) hs

module _ (start : Image) where
  -- the stores
  pub image_on : (past : Timeline) (hs : List Happening) → image_of start (happened_on past hs) ≡ after_all (image_of start past) hs
  image_on past [] = refl
  image_on past (h ∷ hs) = image_on (Happened h ∷ past) hs

  -- the latest entry stays, and all before it
  pub facts_on : (past : Timeline) (hs : List Happening) → facts_of start (happened_on past hs) ≡ facts_of start past
  facts_on past [] = refl
  facts_on past (h ∷ hs) = facts_on (Happened h ∷ past) hs

  pub past_on : (past : Timeline) (hs : List Happening) → past_of start (happened_on past hs) ≡ past_of start past
  past_on past [] = refl
  past_on past (h ∷ hs) = past_on (Happened h ∷ past) hs

pub history_on : (past : Timeline) (hs : List Happening) → history_of (happened_on past hs) ≡ history_of past
history_on past [] = refl
history_on past (h ∷ hs) = history_on (Happened h ∷ past) hs
