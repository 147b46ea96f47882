-- Accepted words have no bad place, and bad words one.
use Rattle.std.proofs.Common.{◌≡◌, ⊎_elim, ℕ, ◌<◌, List, [], ◌∷◌, ◌++◌, length, refl, sym, ap, ◌∙◌, subst, arith}
use Rattle.std.proofs.lemmas.List.{append-nil, append_assoc}
use Rattle.std.proofs.lemmas.Bool.{cases_lt}
use Rattle.cell_world.specs.Texts.{Text}
use Rattle.script_lang.specs.CommandLine.{Stops, IsBadAt}

module _ (Accepted : List Text → Type 0) (words : List Text) where
  -- no accepted list goes on from the words before a bad place with the word there
  goes_no_further : (before behind rest : List Text) → Stops Accepted before behind → (word : Text) (more : List Text) → behind ≡ word ∷ more → Accepted (before ++ word ∷ rest) → ⊥
  goes_no_further before [] rest stops word more is accepted = absurd cc
  goes_no_further before (w ∷ ws) rest stops word more is accepted = let same : w ≡ word = cc in stops rest (subst (λ x. Accepted (before ++ x ∷ rest)) (sym same) accepted)

  ends_no_sooner : (before behind : List Text) → Stops Accepted before behind → Accepted (before ++ behind) → ⊥
  ends_no_sooner before [] stops accepted = stops (subst Accepted (append-nil before) accepted)
  ends_no_sooner before (w ∷ ws) stops accepted = stops ws accepted

  pub accepted_is_not_bad : (place : ℕ) → IsBadAt Accepted words place → Accepted words → ⊥
  accepted_is_not_bad place bad accepted = ends_no_sooner bad.before bad.behind bad.stops (subst Accepted bad.split accepted)

  -- of two cuts of a list the earlier one is a front of the later
  record Further (before behind later : List Text) : Type 0 where
    word : Text
    more : List Text
    rest : List Text
    next : behind ≡ word ∷ more
    split : later ≡ before ++ word ∷ rest

  further : (before behind later left : List Text) → before ++ behind ≡ later ++ left → length before < length later → Further before behind later
  further [] behind [] left same less = absurd (omega (arith, less))
  further [] behind (w ∷ later) left same less = record { word = w; more = later ++ left; rest = later; next = same; split = refl }
  further (b ∷ before) behind [] left same less = absurd (omega (arith, less))
  further (b ∷ before) behind (w ∷ later) left same less =
      let head : b ≡ w = cc in
      let tail : before ++ behind ≡ later ++ left = cc in
      let more = further before behind later left tail (omega (arith, less)) in
      record { word = more.word; more = more.more; rest = more.rest; next = more.next; split = (λ i. sym head i ∷ more.split i) }

  not_before : (p q : ℕ) (a : IsBadAt Accepted words p) (b : IsBadAt Accepted words q) → length a.before < length b.before → ⊥
  not_before p q a b less =
      let f = further a.before a.behind b.before b.behind (sym a.split ∙ b.split) less in
      goes_no_further a.before a.behind (f.rest ++ b.rest) a.stops f.word f.more f.next
      (subst Accepted (ap (λ xs. xs ++ b.rest) f.split ∙ append_assoc a.before (f.word ∷ f.rest) b.rest) b.accepted)

  pub one_bad_place : (p q : ℕ) → IsBadAt Accepted words p → IsBadAt Accepted words q → p ≡ q
  one_bad_place p q a b = ⊎_elim
      (λ less. absurd (not_before p q a b less))
      (λ more. ⊎_elim (λ less. absurd (not_before q p b a less)) (λ other. omega (arith, a.count, b.count, more, other)) (cases_lt (length b.before) (length a.before)))
      (cases_lt (length a.before) (length b.before))
