use Rattle.std.proofs.Common.{◌≡◌, ℕ, Bool, true, false, cond, ◌&&◌, slice_get, take, true≢false, refl, sym, subst, Some, None, List, ◌++◌, [], ◌∷◌, zero, suc}
use Rattle.std.specs.Prelude.{◌==◌}
use Rattle.plain_model.specs.declared.commands.Command.TheVariants as command
use Rattle.model_examples.specs.Values.{make_map, map_entry}
use Rattle.world_examples.specs.Examples.{map_m, map_n}
use Rattle.model_examples.specs.Runs.{asks, two_asked, silent_step, step_done}
use Rattle.model_examples.proofs.Served.{none_silent}
use Rattle.plain_model.specs.declared.history.Entry.{Entry}
use Rattle.plain_model.specs.Headline.{script_of, first_answered, HasItsCommand}
use Rattle.model_examples.proofs.headline.silent_in_order.Goals as goal

done_in_order : (mine : Bool) → cond (mine && false) (command.Step 1 ∷ cond (mine && true) (command.Step 1 ∷ []) []) (cond (mine && true) (command.Step 1 ∷ []) []) ++ [] ≡ cond mine (command.Step 1 ∷ []) []
done_in_order true = refl
done_in_order false = refl

none_done : (mine : Bool) → cond (mine && false) (command.Step 1 ∷ []) [] ++ cond mine (command.Step 1 ∷ []) [] ≡ cond mine (command.Step 1 ∷ []) []
none_done true = refl
none_done false = refl

-- the one entry without a reply is the first
silent_there : (i : ℕ) (e : Entry) → slice_get (silent_step ∷ step_done ∷ []) i ≡ Some e → e.reply ≡ None
    → (later : List Entry) → take i (silent_step ∷ step_done ∷ []) ++ e ∷ later ≡ silent_step ∷ step_done ∷ [] → HasItsCommand false (asks 1 (command.Step 1) ∷ []) (silent_step ∷ step_done ∷ []) e (first_answered e.session later)
silent_there zero e at silent later split =
    let is : silent_step ≡ e = cc in let rest : step_done ∷ [] ≡ later = cc in
    subst (λ (f : Entry). HasItsCommand false (asks 1 (command.Step 1) ∷ []) (silent_step ∷ step_done ∷ []) f (first_answered f.session later)) is
    (subst (λ (es : List Entry). HasItsCommand false (asks 1 (command.Step 1) ∷ []) (silent_step ∷ step_done ∷ []) silent_step (first_answered 1 es)) rest refl)
silent_there (suc i) e at silent later split = absurd (none_silent (step_done ∷ []) (refl, tt) i e at silent)

silent_alone : (i : ℕ) (e : Entry) → slice_get (silent_step ∷ []) i ≡ Some e → e.reply ≡ None
    → (later : List Entry) → take i (silent_step ∷ []) ++ e ∷ later ≡ silent_step ∷ [] → HasItsCommand true (asks 1 (command.Step 1) ∷ []) (silent_step ∷ []) e (first_answered e.session later)
silent_alone zero e at silent later split =
    let is : silent_step ≡ e = cc in let rest : [] ≡ later = cc in
    subst (λ (f : Entry). HasItsCommand true (asks 1 (command.Step 1) ∷ []) (silent_step ∷ []) f (first_answered f.session later)) is
    (subst (λ (es : List Entry). HasItsCommand true (asks 1 (command.Step 1) ∷ []) (silent_step ∷ []) silent_step (first_answered 1 es)) rest (refl, ([], refl)))
silent_alone (suc i) e at silent later split = absurd (none_silent [] tt i e at silent)

pub returns-clause-before_the_reply : goal.returns-clause-before_the_reply
returns-clause-before_the_reply c = record { front = λ session. ([], done_in_order (1 == session)); silent = silent_there }

pub returns-clause-where_it_stopped : goal.returns-clause-where_it_stopped
returns-clause-where_it_stopped c = record { front = λ session. (script_of session (asks 1 (command.Step 1) ∷ []), none_done (1 == session)); silent = silent_alone }

pub returns-clause-never_without_a_reply : goal.returns-clause-never_without_a_reply
returns-clause-never_without_a_reply c o = let h : HasItsCommand false (asks 1 (command.Step 1) ∷ []) (silent_step ∷ []) silent_step None = o.silent 0 silent_step refl refl [] refl in true≢false (sym h.0)

pub returns-clause-never_of_another_command : goal.returns-clause-never_of_another_command
returns-clause-never_of_another_command c o = let e : command.Step 1 ≡ make_map map_m = o.silent 0 silent_step refl refl (map_entry ∷ []) refl in cc

pub returns-clause-never_of_one_that_is_not_next : goal.returns-clause-never_of_one_that_is_not_next
returns-clause-never_of_one_that_is_not_next c o = let h : HasItsCommand true two_asked (map_entry ∷ silent_step ∷ []) silent_step None = o.silent 1 silent_step refl refl [] refl in let e : make_map map_m ∷ command.Step 1 ∷ h.1.0 ≡ make_map map_m ∷ make_map map_n ∷ [] = h.1.1 in cc
