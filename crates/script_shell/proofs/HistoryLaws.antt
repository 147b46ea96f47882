-- The entries of a run are the answers to the first commands of its script.
use Rattle.std.proofs.Common.{◌≡◌, ℕ, zero, suc, Bool, true, false, cond, ◌&&◌, ◌==◌, List, [], ◌∷◌, ◌++◌, slice_get, Some, None, is_some, refl, sym, ap, ◌∙◌}
use Rattle.std.proofs.lemmas.List.{append-nil}
use Rattle.std.specs.Prelude.{option_map}
use Rattle.std.specs.List.{AllByRecursion}
use Rattle.map_ops.specs.Planning.{is_long}
use Rattle.plain_model.specs.declared.commands.Asked.{Asked}
use Rattle.plain_model.specs.declared.commands.Command.{Command}
use Rattle.plain_model.specs.declared.commands.Command.TheVariants as command
use Rattle.plain_model.specs.declared.history.Entry.{Entry}
use Rattle.plain_model.specs.Headline.{script_of, answered_by, InOrder, AllAnswered}
use Rattle.plain_runs.specs.PlainRuns.{is_plain, AreAnswersTo}
use Rattle.script_shell.specs.Promises.{IsUnnumbered}
use Rattle.script_shell.specs.Ran.{IsServedBy, AreServed}

pub answers_push : (script : List Asked) (history : List Entry) (asked : Asked) (e : Entry) → AreServed script history → IsServedBy asked e → AreServed (script ++ asked ∷ []) (history ++ e ∷ [])
answers_push [] [] asked e all one = (one, tt)
answers_push [] (x ∷ history) asked e all one = absurd all
answers_push (a ∷ script) [] asked e all one = absurd all
answers_push (a ∷ script) (x ∷ history) asked e all one = (all.0, answers_push script history asked e all.1 one)

-- ---- each once and in order

module _ (session : ℕ) where
  both_true : (b : Bool) → (b && true) ≡ b
  both_true true = refl
  both_true false = refl

  pub answered_are : (script : List Asked) (history : List Entry) → AreServed script history → answered_by session history ≡ script_of session script
  answered_are [] [] all = refl
  answered_are [] (e ∷ history) all = absurd all
  answered_are (asked ∷ script) [] all = absurd all
  answered_are (asked ∷ script) (e ∷ history) all =
      let one = all.0 in
      (λ i. cond ((one.session i == session) && is_some (one.reply i)) (one.command i ∷ answered_are script history all.1 i) (answered_are script history all.1 i))
      ∙ ap (λ b. cond b (asked.command ∷ script_of session script) (script_of session script)) (both_true (asked.session == session))

  pub script_splits : (script rest : List Asked) → script_of session script ++ script_of session rest ≡ script_of session (script ++ rest)
  script_splits [] rest = refl
  script_splits (asked ∷ script) rest = by (asked.session == session) (script_splits script rest)
    where
      by : (b : Bool) → script_of session script ++ script_of session rest ≡ script_of session (script ++ rest)
          → cond b (asked.command ∷ script_of session script) (script_of session script) ++ script_of session rest
          ≡ cond b (asked.command ∷ script_of session (script ++ rest)) (script_of session (script ++ rest))
      by true more = ap (λ cs. asked.command ∷ cs) more
      by false more = more

-- each entry has a reply
pub never_silent : (script : List Asked) (history : List Entry) → AreServed script history → (i : ℕ) (e : Entry) → slice_get history i ≡ Some e → e.reply ≡ None → ⊥
never_silent [] [] all i e at silent = let no : false ≡ true = ap is_some at in absurd cc
never_silent [] (x ∷ history) all i e at silent = absurd all
never_silent (asked ∷ script) [] all i e at silent = absurd all
never_silent (asked ∷ script) (x ∷ history) all zero e at silent =
    let same : Some x ≡ Some e = at in
    let reply : Some x.reply ≡ Some e.reply = ap (λ o. option_map (λ (y : Entry). y.reply) o) same in
    let no : Some (Some all.0.answer) ≡ Some None = ap Some (sym all.0.reply) ∙ reply ∙ ap Some silent in absurd cc
never_silent (asked ∷ script) (x ∷ history) all (suc i) e at silent = never_silent script history all.1 i e at silent

module _ (script done rest : List Asked) (split : script ≡ done ++ rest) (history : List Entry) (all : AreServed done history) where
  front : (session : ℕ) → answered_by session history ++ script_of session rest ≡ script_of session script
  front session = ap (λ cs. cs ++ script_of session rest) (answered_are session done history all) ∙ script_splits session done rest ∙ ap (script_of session) (sym split)

  pub in_order : (stopped : Bool) → InOrder stopped script history
  in_order stopped = record {
    front = λ session. (script_of session rest, front session);
    silent = λ i e at silent later is. absurd (never_silent done history all i e at silent);
  }

  pub all_answered : rest ≡ [] → AllAnswered script history
  all_answered none session = sym (append-nil (answered_by session history)) ∙ ap (λ others. answered_by session history ++ script_of session others) (sym none) ∙ front session

-- ---- entries of plain commands

-- a plain command is no long one
plain_is_short : (c : Command) → is_plain c ≡ true → is_long c ≡ false
plain_is_short (command.Add name low high location) plain = absurd cc
plain_is_short (command.Addpoint name key location) plain = absurd cc
plain_is_short (command.Delete name key token) plain = absurd cc
plain_is_short (command.Offline name key token) plain = absurd cc
plain_is_short (command.Online name key token) plain = absurd cc
plain_is_short (command.Move name key location token) plain = absurd cc
plain_is_short (command.Split name key token) plain = absurd cc
plain_is_short (command.Merge name key token) plain = absurd cc
plain_is_short c plain = refl

pub answers_plain : (script : List Asked) (history : List Entry) → AreServed script history → AllByRecursion (λ (asked : Asked). is_plain asked.command ≡ true) script → AllByRecursion IsUnnumbered history → AreAnswersTo script history
answers_plain [] [] all plain numbered = tt
answers_plain [] (e ∷ history) all plain numbered = absurd all
answers_plain (asked ∷ script) [] all plain numbered = absurd all
answers_plain (asked ∷ script) (e ∷ history) all plain numbered = (
  record { session = all.0.session; command = all.0.command; answer = all.0.answer; reply = all.0.reply; operation = numbered.0 (ap is_long all.0.command ∙ plain_is_short asked.command plain.0) },
  answers_plain script history all.1 plain.1 numbered.1,
)

-- ---- one entry more

pub all_push : (P : Entry → Type 0) (history : List Entry) (e : Entry) → AllByRecursion P history → P e → AllByRecursion P (history ++ e ∷ [])
all_push P [] e all one = (one, tt)
all_push P (x ∷ history) e all one = (all.0, all_push P history e all.1 one)

pub all_weaker : (P Q : Entry → Type 0) (history : List Entry) → ((e : Entry) → P e → Q e) → AllByRecursion P history → AllByRecursion Q history
all_weaker P Q [] weaker all = tt
all_weaker P Q (e ∷ history) weaker all = (weaker e all.0, all_weaker P Q history weaker all.1)
