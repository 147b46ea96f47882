-- A write leaves what the stores hold, and a core goes on by it.
use Rattle.std.proofs.Common.{◌≡◌, ◌≤◌, ℕ, ap, sym, ◌∙◌, subst, arith, ◌++◌, Option, Some, None}
use Rattle.std.specs.Prelude.{Result}
use Rattle.cell_world.specs.Counts.{Rose}
use Rattle.cell_world.specs.Texts.{Text}
use Rattle.cell_world.specs.Images.{Image, Trail, Wrote, extended}
use Rattle.cell_world.specs.Outside.{Told, IfContents, told_after}
use Rattle.cell_world.specs.declared.outside.WorldError.{WorldError}
use Rattle.plain_model.specs.declared.replies.Reply.{Reply}
use Rattle.plain_model.specs.Lines.{reply_lines}
use Rattle.plain_model.specs.Written.{Mode}
use Rattle.plain_model.proofs.RunSoFar.{goes_on_more}
use Rattle.session_laws.specs.Contract.{Seen, CoreOn, CoreGoesOn, CoreGoesTo}
use Rattle.session_laws.proofs.ContractLaws.{core_wrote}
use Rattle.manager_core.specs.Answering.{WritesText}
use Rattle.manager_core.specs.Events.{WritesOnce, front_of}
use Rattle.manager_core.proofs.Copies.{contents_after}

module _ (old new : Told) where
  -- what holds of the contents holds after a write
  pub contents_written : (written : Option Text) → WritesOnce written old new → (P : Image → Type 0) → IfContents old P → IfContents new P
  contents_written None same P p = subst (λ t. IfContents t P) (sym same) p
  contents_written (Some front) writes P p = subst (λ t. IfContents t P) (sym writes) (contents_after old (Wrote front) P P (λ image here. here) p)

  -- a front of the lines is written, and the rest is still to be written
  pub core_goes_on_written : (written : Option Text) → WritesOnce written old new → (mode : Mode) (t0 : ℕ) (start : Image) (before : Trail) (seen : Seen) (rest text : Text) → front_of written ++ rest ≡ text
      → CoreGoesOn mode t0 start before old seen text → CoreGoesOn mode t0 start before new seen rest
  core_goes_on_written None same mode t0 start before seen rest text split goes = record {
    trail = goes.trail;
    told = same ∙ goes.told;
    goes_on = goes.goes_on;
    core = subst (CoreOn mode t0 start goes.trail seen) (sym split) goes.core;
  }
  core_goes_on_written (Some front) writes mode t0 start before seen rest text split goes = record {
    trail = extended goes.trail (Wrote front);
    told = writes ∙ ap (λ t. told_after t (Wrote front)) goes.told;
    goes_on = goes_on_more before goes.trail (Wrote front) goes.goes_on;
    core = core_wrote mode t0 start goes.trail seen text front rest split goes.core;
  }

  pub core_goes_to_written : (written : Option Text) → WritesOnce written old new → (first : Image) (seen : Seen) → CoreGoesTo first old seen → CoreGoesTo first new seen
  core_goes_to_written None same first seen goes = record { image = goes.image; told = same ∙ goes.told; core = goes.core }
  core_goes_to_written (Some front) writes first seen goes = record { image = goes.image; told = writes ∙ ap (λ t. told_after t (Wrote front)) goes.told; core = goes.core }

-- a count that doesn't fall and then rose has risen
pub rose_then : (a b c : ℕ) → a ≤ b → Rose b c → Rose a c
rose_then a b c up rose = omega (arith, up, rose)

-- what a write did, with the lines of the same number in front and by what it answered
pub wrote : (old new : Told) (tag number : Option ℕ) (r : Reply) (result answered : Result (Unit {0}) WorldError) → tag ≡ number → result ≡ answered → WritesText old new (reply_lines tag r) result → WritesText old new (reply_lines number r) answered
wrote old new tag number r result answered same is writes = subst (λ t. WritesText old new (reply_lines t r) answered) same (subst (WritesText old new (reply_lines tag r)) is writes)
