-- Texts of a known length, a byte after the other.
use Rattle.std.proofs.Common.{◌≡◌, ℕ, zero, suc, ◌+◌, List, [], ◌∷◌, ◌++◌, length, Option, Some, None, Ok, Err, refl, sym, ap, subst, ◌∙◌, ◌⊎◌, inl, inr}
use Rattle.record_form.specs.Reading.{◌>>=◌, text_at, then_byte}
use Rattle.record_form.proofs.Readers.{IsReader, Stops, bind_ok, bind_err, err_of, ok_is, not_both, head_is, tail_is, not_cons}

-- ---- texts of a known length

-- the bytes of a text lead on, one after the other
abbrev pub Walks : {S : Type 0} → (ℕ → S → ℕ → Option S) → ℕ → S → List ℕ → Type 0
Walks next zero s [] = Unit {0}
Walks next zero s (b ∷ bs) = ⊥
Walks next (suc m) s [] = ⊥
Walks {S} next (suc m) s (b ∷ bs) = (t : S) × (next m s b ≡ Some t) × Walks next m t bs

pub walk_length : {S : Type 0} (next : ℕ → S → ℕ → Option S) (m : ℕ) (s : S) (text : List ℕ) → Walks next m s text → length text ≡ m
walk_length next zero s [] w = refl
walk_length next zero s (b ∷ bs) w = absurd w
walk_length next (suc m) s [] w = absurd w
walk_length next (suc m) s (b ∷ bs) w = ap (λ (k : ℕ). suc k) (walk_length next m w.0 bs w.2)

-- from each state that can be reached there is a way on
pub record IsLive {S : Type 0} (next : ℕ → S → ℕ → Option S) (Live : ℕ → S → Type 0) : Type 0 where
  pub way : (m : ℕ) (s : S) → Live (suc m) s → (b : ℕ) × (t : S) × (next m s b ≡ Some t)
  pub keeps : (m : ℕ) (s : S) (b : ℕ) (t : S) → Live (suc m) s → next m s b ≡ Some t → Live m t

some_text : {S : Type 0} (next : ℕ → S → ℕ → Option S) (Live : ℕ → S → Type 0) → IsLive next Live → (m : ℕ) (s : S) → Live m s → (text : List ℕ) × Walks next m s text
some_text next Live live zero s h = ([], tt)
some_text next Live live (suc m) s h =
    let w = live.way m s h in
    let rest = some_text next Live live m w.1 (live.keeps m s w.0 w.1 h w.2) in
    (w.0 ∷ rest.0, (w.1, w.2, rest.1))

abbrev state_of : {S : Type 0} → S → Option S → S
state_of d None = d
state_of d (Some s) = s

option_cases : {S : Type 0} (o : Option S) → (o ≡ None) ⊎ ((t : S) × (o ≡ Some t))
option_cases None = inl refl
option_cases (Some t) = inr (t, refl)

none_some : {S : Type 0} (o : Option S) (t : S) → o ≡ None → o ≡ Some t → ⊥
none_some o t p q = let e : None ≡ Some t = sym p ∙ q in cc

pub text_bad : {S : Type 0} (next : ℕ → S → ℕ → Option S) (m : ℕ) (s : S) (b : ℕ) (bs : List ℕ) → next m s b ≡ None → text_at next (suc m) s (b ∷ bs) ≡ Err (suc (length bs))
unfolding text_at
text_bad next m s b bs h = rw (h, text_at) refl

pub text_more : {S : Type 0} (next : ℕ → S → ℕ → Option S) (m : ℕ) (s : S) (b : ℕ) (bs : List ℕ) (t : S) → next m s b ≡ Some t → text_at next (suc m) s (b ∷ bs) ≡ then_byte b (text_at next m t bs)
unfolding text_at
text_more next m s b bs t h = rw (h, text_at) refl

pub text_takes : {S : Type 0} (next : ℕ → S → ℕ → Option S) (m : ℕ) (s : S) (bytes : List ℕ) (x : List ℕ × List ℕ) → text_at next m s bytes ≡ Ok x → (bytes ≡ x.0 ++ x.1) × Walks next m s x.0
unfolding text_at
text_takes next zero s bytes x e =
    let it : List ℕ × List ℕ = ([], bytes) in
    subst (λ (y : List ℕ × List ℕ). (bytes ≡ y.0 ++ y.1) × Walks next zero s y.0) (ok_is (Ok it) it x refl e) (refl, tt)
text_takes next (suc m) s [] x e = absurd cc
text_takes next (suc m) s (b ∷ bs) x e =
    elim (option_cases (next m s b)) [
      | inl bad ↦ absurd (not_both (text_at next (suc m) s (b ∷ bs)) x (suc (length bs)) e (text_bad next m s b bs bad))
      | inr good ↦
          let p = bind_ok (text_at next m good.0 bs) (λ x. Ok (b ∷ x.0, x.1)) x (sym (text_more next m s b bs good.0 good.1) ∙ e) in
          let t = text_takes next m good.0 bs p.0 p.1 in
          let it : List ℕ × List ℕ = (b ∷ p.0.0, p.0.1) in
          subst (λ (y : List ℕ × List ℕ). (b ∷ bs ≡ y.0 ++ y.1) × Walks next (suc m) s y.0) (ok_is (Ok it) it x refl p.2) (ap (λ (l : List ℕ). b ∷ l) t.0, (good.0, good.1, t.1))
    ]

text_again : {S : Type 0} (next : ℕ → S → ℕ → Option S) (m : ℕ) (s : S) (text rest : List ℕ) → Walks next m s text → text_at next m s (text ++ rest) ≡ Ok (text, rest)
unfolding text_at
text_again next zero s [] rest w = refl
text_again next zero s (b ∷ bs) rest w = absurd w
text_again next (suc m) s [] rest w = absurd w
text_again next (suc m) s (b ∷ bs) rest w = text_more next m s b (bs ++ rest) w.0 w.1 ∙ rw (text_again next m w.0 bs rest w.2) refl

-- the first byte is one that a text leads on with
led : {S : Type 0} (next : ℕ → S → ℕ → Option S) (m : ℕ) (s : S) (c : ℕ) (more text after : List ℕ) → Walks next (suc m) s text → c ∷ more ≡ text ++ after
    → (t : S) × (rest : List ℕ) × (next m s c ≡ Some t) × Walks next m t rest × (more ≡ rest ++ after)
led next m s c more [] after w q = absurd w
led next m s c more (b ∷ bs) after w q = (w.0, bs, rw (head_is c b more (bs ++ after) q) w.1, w.2, tail_is c b more (bs ++ after) q)

text_stops : {S : Type 0} (next : ℕ → S → ℕ → Option S) (Live : ℕ → S → Type 0) → IsLive next Live → (m : ℕ) (s : S) → Live m s → (bytes : List ℕ) (n : ℕ) → text_at next m s bytes ≡ Err n → Stops (λ (t : List ℕ). t) (Walks next m s) bytes n
unfolding text_at
text_stops next Live live zero s h bytes n e = absurd (not_both (text_at next zero s bytes) ([], bytes) n refl e)
text_stops next Live live (suc m) s h [] n e =
    let t = some_text next Live live (suc m) s h in
    record { front = []; left = []; parts = refl; count = ap err_of e; value = t.0; fits = t.1; more = t.0; goes_on = refl; no_more = λ b rest l a more after f q. not_cons b rest l }
text_stops {S} next Live live (suc m) s h (b ∷ bs) n e =
    elim (option_cases (next m s b)) [
      | inl bad ↦
          let t = some_text next Live live (suc m) s h in
          record {
            front = [];
            left = b ∷ bs;
            parts = refl;
            count = ap err_of (sym (text_bad next m s b bs bad) ∙ e);
            value = t.0;
            fits = t.1;
            more = t.0;
            goes_on = refl;
            no_more = λ c rest l a more after f q.
                let d = led next m s c more a after f q in
                none_some (next m s b) d.0 bad (ap (next m s) (head_is b c bs rest l) ∙ d.2);
          }
      | inr good ↦
          elim (bind_err (text_at next m good.0 bs) (λ x. Ok (b ∷ x.0, x.1)) n (sym (text_more next m s b bs good.0 good.1) ∙ e)) [
            | inl early ↦
                let u = text_stops next Live live m good.0 (live.keeps m s b good.0 h good.1) bs n early in
                record {
                  front = b ∷ u.front;
                  left = u.left;
                  parts = ap (λ (l : List ℕ). b ∷ l) u.parts;
                  count = u.count;
                  value = b ∷ u.value;
                  fits = (good.0, good.1, u.fits);
                  more = u.more;
                  goes_on = ap (λ (l : List ℕ). b ∷ l) u.goes_on;
                  no_more = λ c rest l a more after f q.
                      let d = led next m s b (u.front ++ c ∷ more) a after f q in
                      let same : d.0 ≡ good.0 = ap (state_of good.0) (sym d.2 ∙ good.1) in
                      u.no_more c rest l d.1 more after (subst (λ (t : S). Walks next m t d.1) same d.3) d.4;
                }
            | inr never ↦ absurd (not_both {A = List ℕ × List ℕ} (Ok (b ∷ never.0.0, never.0.1)) (b ∷ never.0.0, never.0.1) n refl never.2)
          ]
    ]

pub text_reader : {S : Type 0} (next : ℕ → S → ℕ → Option S) (Live : ℕ → S → Type 0) → IsLive next Live → (m : ℕ) (s : S) → Live m s → IsReader (text_at next m s) (λ (t : List ℕ). t) (Walks next m s)
text_reader next Live live m s h = record {
  takes = λ bytes x fits e. text_takes next m s bytes x e;
  again = λ a rest w. text_again next m s a rest w;
  stops = λ bytes n fits e. text_stops next Live live m s h bytes n e;
  one = some_text next Live live m s h;
}
