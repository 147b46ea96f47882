-- Histories in which each entry has a reply: they serve the script that they are of.
use Rattle.std.proofs.Common.{◌≡◌, ℕ, Bool, true, false, cond, true≢false, refl, sym, ap, ◌∙◌, subst, Some, None, is_some, List, [], ◌∷◌, ◌++◌, zero, suc, ◌&&◌, slice_get}
use Rattle.std.proofs.lemmas.List.{append-nil}
use Rattle.std.specs.Prelude.{◌==◌}
use Rattle.cell_world.specs.Keys.{same}
use Rattle.plain_model.specs.declared.commands.Asked.{Asked}
use Rattle.plain_model.specs.declared.commands.Command.{Command}
use Rattle.plain_model.specs.declared.commands.Command.TheVariants as command
use Rattle.plain_model.specs.declared.finish.RunStatus.{RunStatus}
use Rattle.plain_model.specs.declared.history.Entry.{Entry}
use Rattle.plain_model.specs.Headline.{script_of, answered_by, has_stopped, InOrder, AllAnswered, EachOnceInOrder}
use Rattle.world_examples.specs.Examples.{map_n}

-- the commands of the entries
abbrev pub asked_of : List Entry → List Asked
asked_of [] = []
asked_of (e ∷ es) = record { session = e.session; command = e.command } ∷ asked_of es

abbrev pub AllReplied : List Entry → Type 0
AllReplied [] = Unit {0}
AllReplied (e ∷ es) = (is_some e.reply ≡ true) × AllReplied es

pub served : (history : List Entry) (later : List Asked) → AllReplied history → (session : ℕ) → answered_by session history ++ script_of session later ≡ script_of session (asked_of history ++ later)
served [] later all session = refl
served (e ∷ es) later all session = by (e.session == session) (is_some e.reply) all.0 (served es later all.1 session)
  where
    by : (mine replied : Bool) → replied ≡ true → answered_by session es ++ script_of session later ≡ script_of session (asked_of es ++ later)
        → cond (mine && replied) (e.command ∷ answered_by session es) (answered_by session es) ++ script_of session later ≡ cond mine (e.command ∷ script_of session (asked_of es ++ later)) (script_of session (asked_of es ++ later))
    by true true is later_too = ap (λ cs. e.command ∷ cs) later_too
    by false replied is later_too = later_too
    by true false is later_too = absurd (true≢false (sym is))

pub none_silent : (history : List Entry) → AllReplied history → (i : ℕ) (e : Entry) → slice_get history i ≡ Some e → e.reply ≡ None → ⊥
none_silent [] all i e at silent = absurd cc
none_silent (f ∷ fs) all zero e at silent = let is : f ≡ e = cc in true≢false (sym all.0 ∙ ap (λ (g : Entry). is_some g.reply) is ∙ ap is_some silent)
none_silent (f ∷ fs) all (suc i) e at silent = none_silent fs all.1 i e at silent

-- such a history is in order
pub in_order : (stopped : Bool) (history : List Entry) (later : List Asked) → AllReplied history → InOrder stopped (asked_of history ++ later) history
in_order stopped history later all = record {
  front = λ session. (script_of session later, served history later all session);
  silent = λ i e at silent after split. absurd (none_silent history all i e at silent);
}

-- a history of all of the script, whatever its status
pub serves : (history : List Entry) (ending : RunStatus) → AllReplied history → EachOnceInOrder (asked_of history) history ending
serves history ending all = record {
  in_order = subst (λ (script : List Asked). InOrder (has_stopped ending) script history) (append-nil (asked_of history)) (in_order (has_stopped ending) history [] all);
  all = λ done. all_served;
  all_after_fault = λ failed fault. all_served;
}
  where
    all_served : AllAnswered (asked_of history) history
    all_served session = sym (append-nil (answered_by session history)) ∙ served history [] all session ∙ ap (script_of session) (append-nil (asked_of history))

-- the first command is `map n`
abbrev pub begins_with_n : List Command → Bool
begins_with_n (command.Map name kind type ∷ cs) = same map_n name
begins_with_n other = false

abbrev pub has_two : List Command → Bool
has_two (c ∷ d ∷ cs) = true
has_two other = false
