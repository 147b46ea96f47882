-- A script is read line by line.
use Rattle.std.proofs.Common.{◌≡◌, ℕ, ◌+◌, true, List, [], ◌∷◌, ◌++◌, length, map, Ok, Err, refl, sym, ap, ◌∙◌, arith, append_assoc, length-append}
use Rattle.std.specs.Prelude.{is_ok}
use Rattle.std.specs.List.{list_all}
use Rattle.std.specs.Str.Lines.{lines}
use Rattle.std.proofs.lemmas.List.{map-append, append-nil}
use Rattle.cell_world.specs.Texts.{Text}
use Rattle.plain_model.specs.declared.commands.Asked.{Asked}
use Rattle.plain_model.specs.declared.finish.Reason.{Reason}
use Rattle.script_lang.specs.declared.programs.Program.{Program}
use Rattle.script_lang.specs.declared.script_lines.Said.{Said}
use Rattle.script_lang.specs.declared.verbs.Verb.{Verb}
use Rattle.script_lang.specs.declared.stops.LineStop.{LineStop}
use Rattle.script_lang.specs.declared.stops.LineStop.TheVariants as stop
use Rattle.script_lang.specs.Reading.{IsStop, fault_at}
use Rattle.script_lang.specs.Scripts.{meaning_of, line_means, asked_from, IsScript, IsFirstFaulty, IsScriptFault}

-- What was read so far: these lines, which say this, so that these commands were asked and this session is next.
pub record SoFar (program : Program) (in_force : List Verb) (bytes rest : Text) (asked : List Asked) (session number : ℕ) : Type 0 where
  pub before : List Text
  pub says : List Said
  pub split : lines bytes ≡ before ++ lines rest
  pub count : number ≡ length before
  pub each : map (line_means program in_force) before ≡ map (λ s. Ok (meaning_of s)) says
  pub commands : (more : List Said) → asked_from 1 (says ++ more) ≡ asked ++ asked_from session more

pub nothing_read : (program : Program) (in_force : List Verb) (bytes : Text) → SoFar program in_force bytes bytes [] 1 0
nothing_read program in_force bytes = record { before = []; says = []; split = refl; count = refl; each = refl; commands = λ more. refl }

-- one line more
pub one_line : (program : Program) (in_force : List Verb) (bytes rest line behind : Text) (asked after : List Asked) (session next number : ℕ) (says : Said)
    → lines rest ≡ line ∷ lines behind → line_means program in_force line ≡ Ok (meaning_of says)
    → ((more : List Said) → asked ++ asked_from session (says ∷ more) ≡ after ++ asked_from next more)
    → SoFar program in_force bytes rest asked session number → SoFar program in_force bytes behind after next (number + 1)
one_line program in_force bytes rest line behind asked after session next number says first means goes far = record {
  before = far.before ++ line ∷ [];
  says = far.says ++ says ∷ [];
  split = far.split ∙ (ap (λ l. far.before ++ l) first ∙ sym (append_assoc far.before (line ∷ []) (lines behind)));
  count = omega (arith, far.count, length-append far.before (line ∷ []));
  each = map-append (line_means program in_force) far.before (line ∷ [])
      ∙ ((λ i. far.each i ++ means i ∷ []) ∙ sym (map-append (λ s. Ok (meaning_of s)) far.says (says ∷ [])));
  commands = λ more. ap (asked_from 1) (append_assoc far.says (says ∷ []) more) ∙ (far.commands (says ∷ more) ∙ goes more);
}

-- the end
pub all_read : (program : Program) (in_force : List Verb) (bytes rest : Text) (asked : List Asked) (session number : ℕ) → rest ≡ [] → SoFar program in_force bytes rest asked session number
    → IsScript program in_force bytes asked
all_read program in_force bytes rest asked session number none far = record {
  said = far.says;
  each = ap (map (line_means program in_force)) (far.split ∙ (ap (λ r. far.before ++ lines r) none ∙ append-nil far.before)) ∙ far.each;
  commands = sym (ap (asked_from 1) (sym (append-nil far.says)) ∙ (far.commands [] ∙ append-nil asked));
}

all_fine : (program : Program) (in_force : List Verb) (before : List Text) (says : List Said) → map (line_means program in_force) before ≡ map (λ s. Ok (meaning_of s)) says
    → list_all (λ line. is_ok (line_means program in_force line)) before ≡ true
all_fine program in_force [] says each = refl
all_fine program in_force (line ∷ before) [] each = absurd cc
all_fine program in_force (line ∷ before) (s ∷ says) each =
    let head : line_means program in_force line ≡ Ok (meaning_of s) = cc in
    let tail : map (line_means program in_force) before ≡ map (λ s. Ok (meaning_of s)) says = cc in
    rw head (all_fine program in_force before says tail)

-- a faulty line
pub first_faulty : (program : Program) (in_force : List Verb) (bytes rest line behind : Text) (asked : List Asked) (session number : ℕ) (reason : Reason)
    → lines rest ≡ line ∷ lines behind → line_means program in_force line ≡ Err reason → SoFar program in_force bytes rest asked session number
    → IsFirstFaulty program in_force bytes (number + 1) reason
first_faulty program in_force bytes rest line behind asked session number reason first means far = record {
  before = far.before;
  faulty = line;
  behind = lines behind;
  split = far.split ∙ ap (λ l. far.before ++ l) first;
  count = omega (arith, far.count);
  fine = all_fine program in_force far.before far.says far.each;
  fault = means;
}

-- a line that isn't taken
pub stopped : (program : Program) (in_force : List Verb) (bytes rest line behind : Text) (asked : List Asked) (session number : ℕ) (why : LineStop)
    → lines rest ≡ line ∷ lines behind → IsStop (line_means program in_force line) why → SoFar program in_force bytes rest asked session number
    → IsScriptFault program in_force bytes (fault_at (number + 1) why)
stopped program in_force bytes rest line behind asked session number (stop.Faulty reason) first means far = first_faulty program in_force bytes rest line behind asked session number reason first means far
stopped program in_force bytes rest line behind asked session number stop.Memory first means far = tt
