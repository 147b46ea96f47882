-- What was added is what was to be written.
use Rattle.std.proofs.Common.{◌≡◌, ℕ, ◌<◌, suc, [], ◌∷◌, ◌++◌, length, get_or, map, List, Option, codes, Result, refl, ap, subst, ◌∙◌, append_assoc}
use Rattle.std.specs.Prelude.{OnOk, IsTrue}
use Rattle.std.specs.List.{flat_map}
use Rattle.std.proofs.lemmas.Bool.{lt-ltb}
use Rattle.cell_world.specs.Texts.{Text, are_bytes}
use Rattle.cell_world.specs.KeyPrinting.{key_text, guid_text, guid_unformed}
use Rattle.cell_world.specs.declared.cells.KeyType.{KeyType}
use Rattle.cell_world.specs.declared.cells.KeyType.TheVariants.{Guid}
use Rattle.plain_model.specs.declared.replies.Difference.{Difference}
use Rattle.plain_model.specs.declared.replies.Reply.TheVariants as reply
use Rattle.plain_model.specs.Lines.{numbered, whole_line, difference_line, lines_of, reply_lines}

-- the same bytes, told otherwise
pub as_told : {T E : Type 0} (result : Result T E) (new a b : Text) → a ≡ b → OnOk result (new ≡ a) → OnOk result (new ≡ b)
as_told result new a b same is = subst (λ t. OnOk result (new ≡ t)) same is

pub all_bytes : (bytes : Text) → ((i : ℕ) → get_or bytes i 0 < 256) → IsTrue (are_bytes bytes)
all_bytes [] fits = refl
all_bytes (b ∷ bs) fits = rw (lt-ltb b 256 (fits 0)) (all_bytes bs (λ i. let at = fits (suc i) in at))

pub guid_key : (form : Text) → guid_text (guid_unformed form) ≡ key_text Guid form
unfolding key_text
guid_key form = refl

-- how many differences there are, and then their lines
pub difference_list : (tag : Option ℕ) (keys : KeyType) (differences : List Difference) (old counted : Text) → counted ≡ old ++ whole_line tag (numbered (codes "differences") (length differences))
    → counted ++ flat_map (whole_line tag) (map (difference_line keys) differences) ≡ old ++ reply_lines tag (reply.Differences keys differences)
unfolding lines_of
difference_list tag keys differences old counted is =
    let rest = flat_map (whole_line tag) (map (difference_line keys) differences) in
    ap (λ t. t ++ rest) is ∙ append_assoc old (whole_line tag (numbered (codes "differences") (length differences))) rest
