-- What callers rely on: a script has no faulty line, other bytes have one first, and what is asked are commands in force.
use Rattle.std.proofs.Common.{◌≡◌, inl, inr, ℕ, suc, Bool, true, false, cond, ◌&&◌, List, [], ◌∷◌, ◌++◌, length, map, Option, Some, None, refl, sym, ap, ◌∙◌, subst, arith}
use Rattle.std.specs.Prelude.{Result, Ok, Err, is_ok, IsTrue, nat_lt, codes}
use Rattle.std.specs.List.{list_all, find, AllByRecursion}
use Rattle.std.specs.Str.Lines.{lines}
use Rattle.cell_world.specs.Texts.{Text}
use Rattle.cell_world.specs.Lists.{IsOneOf}
use Rattle.cell_world.specs.ByteOrder.{byte_eq}
use Rattle.plain_model.specs.declared.commands.Asked.{Asked}
use Rattle.plain_model.specs.declared.finish.Reason.{Reason}
use Rattle.plain_model.specs.declared.finish.Reason.TheVariants.{LongLine, BadByte}
use Rattle.script_lang.specs.declared.programs.Program.{Program}
use Rattle.script_lang.specs.declared.programs.Program.TheVariants.{Ctl}
use Rattle.script_lang.specs.declared.script_lines.Said.{Said}
use Rattle.script_lang.specs.declared.script_lines.Said.TheVariants as said
use Rattle.script_lang.specs.declared.verbs.Verb.{Verb}
use Rattle.script_lang.specs.Commands.{verb_of, verb_word, word_kinds, said_by}
use Rattle.script_lang.specs.Values.{Value}
use Rattle.script_lang.specs.Words.{line_limit, is_line_byte, words}
use Rattle.script_lang.specs.Scripts.{Meaning, Nothing, OfSession, Asks, meaning_of, verb_in, is_comment, meant, session_means, command_means, words_mean, line_means, IsScript, IsFirstFaulty, asked_from}

module _ (program : Program) (in_force : List Verb) where
  abbrev means : Text → Result Meaning Reason
  means = line_means program in_force

  -- ---- a script has no faulty line

  no_fault : (ls : List Text) (says : List Said) → map means ls ≡ map (λ s. Ok (meaning_of s)) says → (before : List Text) (faulty : Text) (behind : List Text) (reason : Reason) → ls ≡ before ++ faulty ∷ behind → means faulty ≡ Err reason → ⊥
  no_fault [] says each [] faulty behind reason split fault = absurd cc
  no_fault [] says each (b ∷ before) faulty behind reason split fault = absurd cc
  no_fault (l ∷ ls) [] each before faulty behind reason split fault = absurd cc
  no_fault (l ∷ ls) (s ∷ says) each [] faulty behind reason split fault =
      let line : l ≡ faulty = cc in
      let head : means l ≡ Ok (meaning_of s) = cc in
      let both : Ok (meaning_of s) ≡ Err reason = sym head ∙ ap means line ∙ fault in absurd cc
  no_fault (l ∷ ls) (s ∷ says) each (b ∷ before) faulty behind reason split fault =
      let more : ls ≡ before ++ faulty ∷ behind = cc in
      let tail : map means ls ≡ map (λ s. Ok (meaning_of s)) says = cc in
      no_fault ls says tail before faulty behind reason more fault

  pub script_is_whole : (bytes : Text) (script : List Asked) (line : ℕ) (reason : Reason) → IsScript program in_force bytes script → IsFirstFaulty program in_force bytes line reason → ⊥
  script_is_whole bytes script line reason is faulty = no_fault (lines bytes) is.said is.each faulty.before faulty.faulty faulty.behind reason faulty.split faulty.fault

  -- ---- other bytes have one first faulty line, for one reason

  err_not_ok : (r : Result Meaning Reason) (reason : Reason) → r ≡ Err reason → is_ok r ≡ true → ⊥
  err_not_ok r reason is ok = let no_ok : false ≡ true = sym (ap is_ok is) ∙ ok in absurd cc

  head_true : (a b : Bool) → IsTrue (a && b) → (a ≡ true) × IsTrue b
  head_true true b is = (refl, is)
  head_true false b is = absurd cc

  one_front : (a : List Text) (f : Text) (x b : List Text) (g : Text) (y : List Text) (r s : Reason) → a ++ f ∷ x ≡ b ++ g ∷ y → IsTrue (list_all (λ line. is_ok (means line)) a) → IsTrue (list_all (λ line. is_ok (means line)) b)
      → means f ≡ Err r → means g ≡ Err s → (length a ≡ length b) × (r ≡ s)
  one_front [] f x [] g y r s same fine also fails fails' = let line : f ≡ g = cc in let both : Err r ≡ Err s = sym fails ∙ ap means line ∙ fails' in (refl, cc)
  one_front [] f x (l ∷ b) g y r s same fine also fails fails' = let line : f ≡ l = cc in absurd (err_not_ok (means l) r (sym (ap means line) ∙ fails) (head_true _ _ also).0)
  one_front (k ∷ a) f x [] g y r s same fine also fails fails' = let line : k ≡ g = cc in absurd (err_not_ok (means k) s (ap means line ∙ fails') (head_true _ _ fine).0)
  one_front (k ∷ a) f x (l ∷ b) g y r s same fine also fails fails' =
      let tail : a ++ f ∷ x ≡ b ++ g ∷ y = cc in
      let more = one_front a f x b g y r s tail (head_true _ _ fine).1 (head_true _ _ also).1 fails fails' in (ap suc more.0, more.1)

  pub one_fault : (bytes : Text) (m n : ℕ) (r s : Reason) → IsFirstFaulty program in_force bytes m r → IsFirstFaulty program in_force bytes n s → (m ≡ n) × (r ≡ s)
  one_fault bytes m n r s a b =
      let both = one_front a.before a.faulty a.behind b.before b.faulty b.behind r s (sym a.split ∙ b.split) a.fine b.fine a.fault b.fault in
      (omega (arith, a.count, b.count, both.0), both.1)

-- ---- what is asked are commands in force, of session 1 in the program with one

module _ (in_force : List Verb) where
  -- what is said in one line
  abbrev Fits : Meaning → Type 0
  Fits Nothing = Unit {0}
  Fits (OfSession values) = ⊥
  Fits (Asks first values) = IsOneOf in_force first

  abbrev IfRead : Result Meaning Reason → Type 0
  IfRead (Ok m) = Fits m
  IfRead (Err reason) = Unit {0}

  abbrev IfFound : List Verb → Option Verb → Type 0
  IfFound verbs None = Unit {0}
  IfFound verbs (Some v) = IsOneOf verbs v

  later_found : (v : Verb) (vs : List Verb) (found : Option Verb) → IfFound vs found → IfFound (v ∷ vs) found
  later_found v vs None found = tt
  later_found v vs (Some w) found = inr found

  found_in_force : (test : Verb → Bool) (vs : List Verb) → IfFound vs (find test vs)
  found_in_force test [] = tt
  found_in_force test (v ∷ vs) = by (test v) (found_in_force test vs)
    where
      by : (b : Bool) → IfFound vs (find test vs) → IfFound (v ∷ vs) (cond b (Some v) (find test vs))
      by true more = inl refl
      by false more = later_found v vs (find test vs) more

  said_fits : (first : Verb) (values : Result (List Value) Reason) → IsOneOf in_force first → IfRead (meant (Asks first) values)
  said_fits first (Ok values) found = found
  said_fits first (Err reason) found = tt

  command_fits : (first : Option Verb) (words : List Text) → IfFound in_force first → IfRead (command_means first words)
  command_fits None words found = tt
  command_fits (Some first) words found = said_fits first (said_by (word_kinds first) words) found

  words_fit : (words : List Text) → IfRead (words_mean Ctl in_force words)
  words_fit [] = tt
  words_fit (first ∷ words) = by (is_comment first) (byte_eq first (codes "session"))
    where
      by : (comment session : Bool) → IfRead (cond comment (Ok Nothing) (cond session (session_means Ctl words) (command_means (verb_in in_force first) words)))
      by true session = tt
      by false true = tt
      by false false = command_fits (verb_in in_force first) words (found_in_force (λ v. byte_eq (verb_word v) first) in_force)

  line_fits : (line : Text) → IfRead (line_means Ctl in_force line)
  unfolding line_means
  line_fits line = by (nat_lt line_limit (length line)) (list_all is_line_byte line)
    where
      by : (long fine : Bool) → IfRead (cond long (Err LongLine) (cond fine (words_mean Ctl in_force (words line)) (Err BadByte)))
      by true fine = tt
      by false true = words_fit (words line)
      by false false = tt

  all_fit : (ls : List Text) (says : List Said) → map (line_means Ctl in_force) ls ≡ map (λ s. Ok (meaning_of s)) says → AllByRecursion (λ s. Fits (meaning_of s)) says
  all_fit [] [] each = tt
  all_fit [] (s ∷ says) each = absurd cc
  all_fit (l ∷ ls) [] each = absurd cc
  all_fit (l ∷ ls) (s ∷ says) each =
      let head : line_means Ctl in_force l ≡ Ok (meaning_of s) = cc in
      let tail : map (line_means Ctl in_force) ls ≡ map (λ s. Ok (meaning_of s)) says = cc in
      (subst IfRead head (line_fits l), all_fit ls says tail)

  abbrev pub IsInForce : Asked → Type 0
  IsInForce asked = IsOneOf in_force (verb_of asked.command) × (asked.session ≡ 1)

  asked_in_force : (says : List Said) → AllByRecursion (λ s. Fits (meaning_of s)) says → AllByRecursion IsInForce (asked_from 1 says)
  asked_in_force [] all = tt
  asked_in_force (said.Nothing ∷ says) all = asked_in_force says all.1
  asked_in_force (said.Session number ∷ says) all = absurd all.0
  asked_in_force (said.Command c ∷ says) all = ((all.0, refl), asked_in_force says all.1)

  pub script_is_in_force : (bytes : Text) (script : List Asked) → IsScript Ctl in_force bytes script → AllByRecursion IsInForce script
  script_is_in_force bytes script is = subst (AllByRecursion IsInForce) (sym is.commands) (asked_in_force is.said (all_fit (lines bytes) is.said is.each))
