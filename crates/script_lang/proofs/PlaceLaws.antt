-- Where lists of words stop being accepted: the place in a rest is the place in the whole.
use Rattle.std.proofs.Common.{◌≡◌, ℕ, ◌+◌, Bool, false, List, [], ◌∷◌, ◌++◌, length, refl, sym, ap, subst, ◌∙◌, arith, append_assoc}
use Rattle.std.proofs.lemmas.List.{length-append}
use Rattle.cell_world.specs.Texts.{Text}
use Rattle.script_lang.specs.CommandLine.{Stops, IsBadAt}

stops_behind : (L R : List Text → Type 0) (front before behind : List Text) → ((rest : List Text) → L (front ++ rest) → R rest) → Stops R before behind → Stops L (front ++ before) behind
stops_behind L R front before [] from stops = λ h. stops (from before h)
stops_behind L R front before (word ∷ more) from stops = λ rest h. stops rest (from (before ++ word ∷ rest) (subst L (append_assoc front before (word ∷ rest)) h))

-- The words in front are the same in all lists: the whole list is accepted where its rest is.
pub behind_front : (L R : List Text → Type 0) (front words : List Text) (place : ℕ) → ((rest : List Text) → R rest → L (front ++ rest)) → ((rest : List Text) → L (front ++ rest) → R rest)
    → IsBadAt R words place → IsBadAt L (front ++ words) (length front + place)
behind_front L R front words place to from bad = record {
  before = front ++ bad.before;
  behind = bad.behind;
  split = ap (λ w. front ++ w) bad.split ∙ sym (append_assoc front bad.before bad.behind);
  count = let count = bad.count in omega (arith, length-append front bad.before);
  rest = bad.rest;
  accepted = subst L (sym (append_assoc front bad.before bad.rest)) (to (bad.before ++ bad.rest) bad.accepted);
  stops = stops_behind L R front bad.before bad.behind from bad.stops;
}

-- the first word passes the test
abbrev pub first_passes : (Text → Bool) → List Text → Bool
first_passes test [] = false
first_passes test (word ∷ more) = test word

stops_same : (L R : List Text → Type 0) (test : Text → Bool) (before behind : List Text) → ((rest : List Text) → first_passes test rest ≡ false → L rest → R rest) → first_passes test (before ++ behind) ≡ false
    → Stops R before behind → Stops L before behind
stops_same L R test [] [] from first stops = λ h. stops (from [] refl h)
stops_same L R test (b ∷ before) [] from first stops = λ h. stops (from (b ∷ before) first h)
stops_same L R test [] (word ∷ more) from first stops = λ rest h. stops rest (from (word ∷ rest) first h)
stops_same L R test (b ∷ before) (word ∷ more) from first stops = λ rest h. stops rest (from (b ∷ (before ++ word ∷ rest)) first h)

-- Lists whose first word fails a test are accepted where the others are.
pub without_front : (L R : List Text → Type 0) (test : Text → Bool) (words : List Text) (place : ℕ) → ((rest : List Text) → R rest → L rest) → ((rest : List Text) → first_passes test rest ≡ false → L rest → R rest)
    → first_passes test words ≡ false → IsBadAt R words place → IsBadAt L words place
without_front L R test words place to from first bad = record {
  before = bad.before;
  behind = bad.behind;
  split = bad.split;
  count = bad.count;
  rest = bad.rest;
  accepted = to (bad.before ++ bad.rest) bad.accepted;
  stops = stops_same L R test bad.before bad.behind from (subst (λ w. first_passes test w ≡ false) bad.split first) bad.stops;
}
