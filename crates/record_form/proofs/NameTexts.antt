-- Names are read exactly.
use Rattle.std.proofs.Common.{◌≡◌, ℕ, zero, suc, ◌+◌, ◌<◌, ◌≤◌, Bool, true, false, cond, List, [], ◌∷◌, ◌++◌, length, Option, Some, None, true≢false, refl, sym, ap, subst, arith}
use Rattle.std.specs.Prelude.{IsTrue, IsSome}
use Rattle.std.specs.Option.{SomeIff}
use Rattle.std.specs.List.{list_all}
use Rattle.std.proofs.lemmas.Bool.{and_parts, leb-true, le-leb, ltb-true, lt-ltb}
use Rattle.cell_world.specs.Texts.{is_letter, is_name_byte, is_name}
use Rattle.record_form.specs.Reading.{is_from, byte_at, text_at}
use Rattle.record_form.specs.Layout.{text_bytes}
use Rattle.record_form.specs.Fields.{name_next, name_at}
use Rattle.record_form.specs.declared.names.InName.{InName}
use Rattle.record_form.specs.declared.names.InName.TheVariants.{First, Later}
use Rattle.record_form.proofs.Readers.{IsReader, byte_reader, both_reader, made_reader}
use Rattle.record_form.proofs.Walks.{IsLive, Walks, text_reader}

-- what is told of a `Some` exactly where P holds
pub some_if : {A : Type 0} (o : Option A) (P : Type 0) (x : A) → SomeIff o P x → P → IsSome o
some_if None P x h p = absurd (h p)
some_if (Some y) P x h p = refl

-- the state that a test chooses
pub chosen : {S : Type 0} (b : Bool) (s t : S) → cond b (Some s) None ≡ Some t → (b ≡ true) × (s ≡ t)
chosen true s t e = (refl, ap (some_of s) e)
  where
    some_of : {S : Type 0} → S → Option S → S
    some_of d None = d
    some_of d (Some s) = s
chosen false s t e = absurd cc

-- a number in its bounds
pub bounds : (first last n : ℕ) → is_from first last n ≡ true → (first ≤ n) × (n ≤ last)
bounds first last n h = let p = and_parts _ _ h in (leb-true first n p.0, leb-true n last p.1)

pub in_bounds : (first last n : ℕ) → first ≤ n → n ≤ last → is_from first last n ≡ true
in_bounds first last n a b = rw (le-leb first n a, le-leb n last b) refl

name_live : IsLive name_next (λ m s. Unit {0})
name_live = record { way = λ m s h. elim s as (λ s. (b : ℕ) × (t : InName) × (name_next m s b ≡ Some t)) [ First ↦ (97, Later, refl) | Later ↦ (97, Later, refl) ]; keeps = λ m s b t h e. tt }

later_walk : (m : ℕ) (text : List ℕ) → Walks name_next m Later text → (length text ≡ m) × (list_all is_name_byte text ≡ true)
later_walk zero [] w = (refl, refl)
later_walk zero (b ∷ bs) w = absurd w
later_walk (suc m) [] w = absurd w
later_walk (suc m) (b ∷ bs) w =
    let n = chosen (is_name_byte b) Later w.0 w.1 in
    let rest = later_walk m bs (subst (λ (t : InName). Walks name_next m t bs) (sym n.1) w.2) in
    (ap (λ (k : ℕ). suc k) rest.0, rw (n.0, rest.1) refl)

pub walked_name : (m : ℕ) (text : List ℕ) → is_from 1 32 m ≡ true → Walks name_next m First text → (length text ≡ m) × IsTrue (is_name text)
walked_name zero text in_it w = let low = (bounds 1 32 0 in_it).0 in absurd (omega arith)
walked_name (suc m) [] in_it w = absurd w
walked_name (suc m) (b ∷ bs) in_it w =
    let n = chosen (is_letter b) Later w.0 w.1 in
    let rest = later_walk m bs (subst (λ (t : InName). Walks name_next m t bs) (sym n.1) w.2) in
    let long = rest.0 in
    let high = (bounds 1 32 (suc m) in_it).1 in
    (ap (λ (k : ℕ). suc k) rest.0, rw (n.0, lt-ltb (length bs) 32 (omega arith), rest.1) refl)

later_walks : (text : List ℕ) → list_all is_name_byte text ≡ true → Walks name_next (length text) Later text
later_walks [] h = tt
later_walks (b ∷ bs) h =
    let p = and_parts (is_name_byte b) (list_all is_name_byte bs) h in
    let good = p.0 in
    (Later, rw good refl, later_walks bs p.1)

pub name_walks : (text : List ℕ) → IsTrue (is_name text) → (is_from 1 32 (length text) ≡ true) × Walks name_next (length text) First text
name_walks [] h = absurd (true≢false (sym h))
name_walks (b ∷ bs) h =
    let p = and_parts (is_letter b) _ h in
    let q = and_parts _ (list_all is_name_byte bs) p.1 in
    let good = p.0 in
    let short = ltb-true (length bs) 32 q.0 in
    (in_bounds 1 32 (suc (length bs)) (omega arith) (omega arith), (Later, rw good refl, later_walks bs q.1))

pub name_reader : IsReader name_at text_bytes (λ name. IsTrue (is_name name))
unfolding name_at
name_reader =
    made_reader {f = λ p. p.1} (both_reader (byte_at (is_from 1 32)) (λ b. b ∷ []) (λ b. is_from 1 32 b ≡ true) (λ n. text_at name_next n First) (λ n t. t) (λ n t. Walks name_next n First t)
    (byte_reader (is_from 1 32) 1 refl) (λ n h. text_reader name_next (λ m s. Unit {0}) name_live n First tt))
    (record {
      same = λ p h. ap (λ (n : ℕ). n ∷ p.1) (walked_name p.0 p.1 h.0 h.1).0;
      fits = λ p h. (walked_name p.0 p.1 h.0 h.1).1;
      from = λ name h. ((length name, name), name_walks name h, refl);
    })
