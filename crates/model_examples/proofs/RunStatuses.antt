-- Runs over good words, a good script and known locations: their status has its cause.
use Rattle.std.proofs.Common.{◌≡◌, ◌≤◌, ◌<◌, arith, false, true≢false, refl, sym, ◌∙◌, subst, inr, ℕ, List, [], ◌∷◌}
use Rattle.cell_world.specs.Texts.{Text}
use Rattle.cell_world.specs.Outside.{Told, StoreRoseBy}
use Rattle.plain_model.specs.declared.finish.RunStatus.{RunStatus}
use Rattle.plain_model.specs.declared.finish.RunStatus.TheVariants as status
use Rattle.plain_model.specs.declared.history.Entry.{Entry}
use Rattle.plain_model.specs.Headline.{StatusCause, StatusHasCause, TellsUnknown, EndsWithMemory, faults, did_nothing}
use Rattle.model_examples.specs.Values.{map_entry}
use Rattle.model_examples.specs.Runs.{world_of, nothing_wrong, list_refused}

-- where no entry is a fault, what the status says is all that is left to say
pub caused : (before after : Told) → ((location : Text) → TellsUnknown (world_of before) location → ⊥) → (history : List Entry) (ending : RunStatus) → faults history ≡ 0 → EndsWithMemory history → did_nothing ending ≡ false
    → StatusCause nothing_wrong (world_of before) (world_of after) history ending → StatusHasCause nothing_wrong (world_of before) (world_of after) history ending
caused before after known history ending no_fault ends did says =
    let none : 0 ≤ 0 = omega arith in record {
      cause = says;
      by_input = record { words = λ place wrong. absurd wrong; reading = λ long. absurd long; script = λ line reason wrong. absurd wrong };
      by_opening = λ location unknown. absurd (known location unknown);
      unknown = λ location unknown. absurd (known location unknown);
      kept = record {
        few_faults = subst (λ (n : ℕ). StoreRoseBy n (world_of before) (world_of after)) (sym no_fault) (inr none);
        ends_with_memory = ends;
        nothing = λ nothing. absurd (true≢false (sym nothing ∙ did));
        unchanged = λ nothing. absurd (true≢false (sym nothing ∙ did));
      };
    }

-- the run of `list m`, which is refused
pub list_caused : (before after : Told) → ((location : Text) → TellsUnknown (world_of before) location → ⊥) → StatusHasCause nothing_wrong (world_of before) (world_of after) (list_refused ∷ []) status.Refused
list_caused before after known = let one : 0 < 1 = omega arith in caused before after known (list_refused ∷ []) status.Refused refl tt refl (one, refl, refl)

-- the run of `map m`, which is done
pub map_caused : (before after : Told) → ((location : Text) → TellsUnknown (world_of before) location → ⊥) → StatusHasCause nothing_wrong (world_of before) (world_of after) (map_entry ∷ []) status.Done
map_caused before after known = caused before after known (map_entry ∷ []) status.Done refl tt refl (refl, refl, refl)
