-- How words and a script were read, before the stores are looked at.
use Rattle.std.specs.Prelude.{◌≡◌, ℕ, ◌≤◌, false, true, List, [], length, Option, option_map}
use Rattle.cell_world.specs.Texts.{Text}
use Rattle.cell_world.specs.Outside.{Outside}
use Rattle.plain_model.specs.declared.commands.Asked.{Asked}
use Rattle.plain_model.specs.declared.finish.RunStatus.{RunStatus}
use Rattle.plain_model.specs.declared.finish.RunStatus.TheVariants as status
use Rattle.plain_model.specs.Headline.{StatusCause, ComesByInput, ends_by_opening}
use Rattle.script_lang.specs.declared.programs.Program.TheVariants.{Ctl}
use Rattle.script_lang.specs.CommandLine.{options_built, IsAccepted}
use Rattle.script_lang.specs.Scripts.{built, IsScript}
use Rattle.script_lang.specs.Sources.{script_limit, IfTold, TookAtMost}
use Rattle.manager_core.specs.declared.opening.StartFault.{StartFault}
use Rattle.manager_core.specs.declared.opening.StartFault.TheVariants as start
use Rattle.script_shell.specs.Promises.{has_begun, was_read, causes_of}

-- The words are accepted, and the source had this script.
pub record IsReadScript (words : List Text) (left after : Option Text) (faults_before faults_after : ℕ) (script : List Asked) : Type 0 where
  pub accepted : IsAccepted Ctl options_built words
  -- what the source had left, all of it
  pub bytes : Text
  pub given : IfTold left bytes
  pub drained : after ≡ option_map (λ b. []) left
  pub short : length bytes ≤ script_limit
  pub grammar : IsScript Ctl built bytes script
  -- the source's count doesn't fall
  pub source : faults_before ≤ faults_after

-- The run stops before the stores are looked at, with this status.
pub record StopsReading (words : List Text) (left after : Option Text) (faults_before faults_after : ℕ) (ending : RunStatus) : Type 0 where
  pub bytes : Text
  pub given : IfTold left bytes
  -- bad words are found before the source is touched
  pub untouched : (place : ℕ) → ending ≡ status.BadWords place → (after ≡ left) × (faults_after ≡ faults_before)
  pub in_time : ending ≡ status.ReadFault → TookAtMost script_limit left after
  pub drained : was_read ending ≡ true → after ≡ option_map (λ b. []) left
  pub source : faults_before ≤ faults_after
  -- it is a status of the reading, or want of memory, and has its cause
  pub unbegun : has_begun ending ≡ false
  pub before_opening : ends_by_opening ending ≡ true
  pub cause : (old new : Outside) → StatusCause (causes_of words bytes faults_before faults_after) old new [] ending
  pub by_input : ComesByInput (causes_of words bytes faults_before faults_after) ending

-- the status of a run whose stores can't be opened
abbrev pub unopened : StartFault → RunStatus
unopened start.Store = status.StoreFault
unopened start.Memory = status.Memory
unopened (start.UnknownLocation location) = status.UnknownLocation location
