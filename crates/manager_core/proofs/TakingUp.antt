-- A session that rests takes up a command that asks for no job, for the while until it is answered.
use Rattle.std.proofs.Common.{◌≡◌, ⊎_elim, ℕ, sym, ap, ◌∙◌, Some, None, Option, List, []}
use Rattle.cell_world.specs.Images.{Image}
use Rattle.cell_world.specs.Plain.{nobody}
use Rattle.cell_world.specs.declared.operations.Op.{Op}
use Rattle.plain_model.specs.declared.commands.Command.{Command}
use Rattle.plain_model.specs.JobSteps.{asked_number}
use Rattle.plain_model.specs.Timelines.{Timeline, Past}
use Rattle.plain_model.specs.Written.{Mode}
use Rattle.session_laws.specs.Core.{Core, CoreAlone}
use Rattle.session_laws.specs.Doing.{Resting, Working, AllDoing, Live, live_of, command_of, IsThen, doing_then}
use Rattle.session_laws.specs.Needs.{Needs}
use Rattle.session_laws.proofs.AloneCore.{alone_core_takes}
use Rattle.session_laws.proofs.CoreLaws.{core_takes}
use Rattle.session_laws.proofs.SessionLaws.{this_or_other, then_is}
use Rattle.operation_laws.specs.LiveNumbers.{AreTheLive}

none_some : {A : Type 0} (a : A) → None ≡ Some a → ⊥
none_some a is = cc

module _ (session : ℕ) (c : Command) (no_job : asked_number c ≡ None) (before : AllDoing) (left : Option Op) (rests : before session ≡ Resting left) where
  -- while the command is going
  abbrev pub working : AllDoing
  working = doing_then before session (Working c left)

  pub takes : IsThen before session (Working c left) working
  takes = then_is before session (Working c left)

  -- and then the session rests again
  pub gives : IsThen working session (Resting left) before
  gives = record { here = rests; others = λ other apart. sym (takes.others other apart) }

  only : (t : ℕ) (d : Command) (number : ℕ) → (session ≡ t → ⊥) → command_of (before t) ≡ Some d → asked_number c ≡ Some number → asked_number d ≡ Some number → ⊥
  only t d number apart at asked other = none_some number (sym no_job ∙ asked)

  pub taken_alone : (first : Image) (past : Past) (image : Image) → CoreAlone Needs first past nobody image before → CoreAlone Needs first past nobody image working
  taken_alone first past image core = alone_core_takes Needs first past nobody image before core session c left working (ap command_of rests) takes only

  pub taken_on : (t0 : ℕ) (start : Image) (mode : Mode) (past : Timeline) → Core Needs t0 start mode past nobody [] before → Core Needs t0 start mode past nobody [] working
  taken_on t0 start mode past core = core_takes Needs t0 start mode past nobody [] before core session c left working (ap command_of rests) takes only

  still_live : (t : ℕ) (l : Live) → live_of (before t) ≡ Some l → live_of (working t) ≡ Some l
  still_live t l is = ap live_of (takes.others t (λ same. none_some l (sym (ap live_of rests) ∙ ap (λ i. live_of (before i)) same ∙ is))) ∙ is

  was_live : (t : ℕ) (l : Live) → live_of (working t) ≡ Some l → live_of (before t) ≡ Some l
  was_live t l is = ⊎_elim
      (λ same. absurd (none_some l (sym (ap live_of takes.here) ∙ ap (λ i. live_of (working i)) same ∙ is)))
      (λ other. ap live_of (sym (takes.others t other)) ∙ is)
      (this_or_other before session (Working c left) working takes t)

  pub live_works : (live : List ℕ) → AreTheLive live before → AreTheLive live working
  live_works live are = record {
    listed = λ t l is. are.listed t l (was_live t l is);
    had = λ number is. let h = are.had number is in record { session = h.session; live = h.live; here = still_live h.session h.live h.here; named = h.named };
  }
