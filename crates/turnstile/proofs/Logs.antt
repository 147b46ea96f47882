-- Logs, and lists that begin with others.
use Rattle.std.proofs.Common.{◌≡◌, ◌≢◌, ℕ, ◌+◌, eqb, eq-eqb, ne_eqb, cond, true, false, List, [], ◌∷◌, ◌++◌, length, drop, refl, sym, ap, subst, ◌∙◌, append_assoc, append-nil, length-append}
use Rattle.turnstile.specs.Entries.{entries_of, entries_by, tagged, StartsWith}

module _ {E : Type 0} where
  pub entries_of-append : (a b : List (ℕ × E)) → entries_of (a ++ b) ≡ entries_of a ++ entries_of b
  entries_of-append [] b = refl
  entries_of-append (x ∷ a) b = ap (λ (l : List E). x.1 ∷ l) (entries_of-append a b)

  pub entries_by-append : (by : ℕ) (a b : List (ℕ × E)) → entries_by by (a ++ b) ≡ entries_by by a ++ entries_by by b
  entries_by-append by [] b = refl
  entries_by-append by (x ∷ a) b = let h = entries_by-append by a b in
      elim (eqb x.0 by) as (λ t. cond t (x.1 ∷ entries_by by (a ++ b)) (entries_by by (a ++ b)) ≡ cond t (x.1 ∷ entries_by by a) (entries_by by a) ++ entries_by by b)
      [ true ↦ ap (λ (l : List E). x.1 ∷ l) h | false ↦ h ]

  pub entries_of-tagged : (by : ℕ) (xs : List E) → entries_of (tagged by xs) ≡ xs
  entries_of-tagged by [] = refl
  entries_of-tagged by (x ∷ xs) = ap (λ (l : List E). x ∷ l) (entries_of-tagged by xs)

  pub entries_by-tagged : (by : ℕ) (xs : List E) → entries_by by (tagged by xs) ≡ xs
  entries_by-tagged by [] = refl
  entries_by-tagged by (x ∷ xs) = let h = entries_by-tagged by xs in
      subst (λ t. cond t (x ∷ entries_by by (tagged by xs)) (entries_by by (tagged by xs)) ≡ x ∷ xs) (sym (eq-eqb by by refl)) (ap (λ (l : List E). x ∷ l) h)

  pub entries_by-else : (by n : ℕ) (xs : List E) → by ≢ n → entries_by n (tagged by xs) ≡ []
  entries_by-else by n [] ne = refl
  entries_by-else by n (x ∷ xs) ne = let h = entries_by-else by n xs ne in
      subst (λ t. cond t (x ∷ entries_by n (tagged by xs)) (entries_by n (tagged by xs)) ≡ []) (sym (ne_eqb by n ne)) h

  -- one pass leaves some more: its own entries, those of another, and all
  pub more_own : (by : ℕ) (log : List (ℕ × E)) (xs : List E) → entries_by by (log ++ tagged by xs) ≡ entries_by by log ++ xs
  more_own by log xs = entries_by-append by log (tagged by xs) ∙ ap (λ (l : List E). entries_by by log ++ l) (entries_by-tagged by xs)

  pub more_else : (by n : ℕ) (log : List (ℕ × E)) (xs : List E) → by ≢ n → entries_by n (log ++ tagged by xs) ≡ entries_by n log
  more_else by n log xs ne = entries_by-append n log (tagged by xs) ∙ (ap (λ (l : List E). entries_by n log ++ l) (entries_by-else by n xs ne) ∙ append-nil (entries_by n log))

  pub more_all : (by : ℕ) (first : List E) (log : List (ℕ × E)) (xs : List E) → (first ++ entries_of log) ++ xs ≡ first ++ entries_of (log ++ tagged by xs)
  more_all by first log xs = append_assoc first (entries_of log) xs
      ∙ ap (λ (l : List E). first ++ l) (ap (λ (l : List E). entries_of log ++ l) (sym (entries_of-tagged by xs)) ∙ sym (entries_of-append log (tagged by xs)))

  pub starts_refl : (xs : List E) → StartsWith xs xs
  starts_refl xs = ([], sym (append-nil xs))

  pub starts_more : (xs ys rest : List E) → StartsWith xs ys → StartsWith (xs ++ rest) ys
  starts_more xs ys rest p = (p.0 ++ rest, ap (λ (l : List E). l ++ rest) p.1 ∙ append_assoc ys p.0 rest)

  pub drop_append : (xs ys : List E) → drop (length xs) (xs ++ ys) ≡ ys
  drop_append [] ys = refl
  drop_append (x ∷ xs) ys = drop_append xs ys

  pub starts_split : (xs ys : List E) → StartsWith xs ys → xs ≡ ys ++ drop (length ys) xs
  starts_split xs ys p = p.1 ∙ ap (λ (l : List E). ys ++ l) (sym (ap (λ (l : List E). drop (length ys) l) p.1 ∙ drop_append ys p.0))

  pub starts_long : (xs ys : List E) → StartsWith xs ys → (n : ℕ) × (length ys + n ≡ length xs)
  starts_long xs ys p = (length p.0, sym (length-append ys p.0) ∙ ap length (sym p.1))
