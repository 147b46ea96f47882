-- From the greatest cell at or below a key to the cell of that key.
use Rattle.std.proofs.Common.{◌≡◌, ◌⊎◌, inl, inr, ℕ, ◌==◌, ◌&&◌, List, [], ◌∷◌, Bool, true, false, cond, Some, None, Option, Vec, Global, Ok, Err, Result, IfOk, slice_get, refl, sym, ap, subst, subst₂, ◌∙◌, true≢false, All, Less, Equal, Greater, Ordering, nat_cmp, is_eq, is_le}
use Rattle.std.specs.Prelude.{Contains, find, option_map}
use Rattle.std.specs.List.{AllByRecursion}
use Rattle.std.specs.Ordering.{ordering_reverse}
use Rattle.std.specs.Cmp.Lexicographic.{slice_cmp}
use Rattle.std.proofs.lemmas.Bool.{and_parts, and_from, eqb-true}
use Rattle.std.proofs.lemmas.Slice.Eq.{bytes_eq-Decides}
use Rattle.std.proofs.lemmas.Map.Text.{is_eq-slice_cmp}
use Rattle.std.proofs.lemmas.Cmp.{nat_list_cmp_total}
use Rattle.std.proofs.lemmas.List.Elements.{All-contains}
use Rattle.std.specs.Str.{bytes_eq}
use Rattle.sqlite.specs.Effect.{Database}
use Rattle.sqlite.specs.declared.error.Error.{Error}
use Rattle.sqlite_value.specs.declared.value.Value.TheVariants.{Blob}
use Rattle.sqlite_value.specs.Order.{Row}
use Rattle.sqlite_rules.specs.Lists.{Has}
use Rattle.sqlite_rules.proofs.ListLemmas.{has_contained, contains_had, all_has}
use Rattle.cell_table.proofs.DeleteLemmas.{own_id}
use Rattle.cell_table.specs.Cells.{Entry, is_at, is_below, is_up_to, look, AreApart, IsFloor, Holds}

same_key : (a b : List ℕ) → is_eq (slice_cmp nat_cmp a b) ≡ true → a ≡ b
same_key a b h = (bytes_eq-Decides a b).0 (sym (is_eq-slice_cmp a b) ∙ h)

equal_self : (a : List ℕ) → is_eq (slice_cmp nat_cmp a a) ≡ true
equal_self a = own_id (slice_cmp nat_cmp a a) (nat_list_cmp_total.antisymm a a)

equal_up : (o : Ordering) → is_eq o ≡ true → is_le o ≡ true
equal_up Less h = absurd (true≢false (sym h))
equal_up Equal h = refl
equal_up Greater h = absurd (true≢false (sym h))

never : (b : Bool) → (b ≡ true → ⊥) → b ≡ false
never true f = absurd (f refl)
never false f = refl

both_up : (o : Ordering) → is_le o ≡ true → is_le (ordering_reverse o) ≡ true → is_eq o ≡ true
both_up Less h k = absurd (true≢false (sym k))
both_up Equal h k = refl
both_up Greater h k = absurd (true≢false (sym h))

between : (a b : List ℕ) → is_up_to a b ≡ true → is_up_to b a ≡ true → a ≡ b
between a b h k = same_key a b (both_up _ h (subst (λ o. is_le o ≡ true) (nat_list_cmp_total.antisymm b a) k))

found_step : (kind : ℕ) (key : List ℕ) (x c : Entry) (xs : List Entry) (b : Bool) → is_at kind key x ≡ b → is_at kind key c ≡ true → AllByRecursion (λ d. is_at x.kind x.key d ≡ false) xs → Has xs c
    → option_map (λ (d : Entry). d.value) (find (is_at kind key) xs) ≡ Some c.value → option_map (λ (d : Entry). d.value) (cond b (Some x) (find (is_at kind key) xs)) ≡ Some c.value
found_step kind key x c xs true e at apart later rest =
    let parts = and_parts (x.kind == kind) _ e in
    let kinds : x.kind ≡ kind = eqb-true x.kind kind parts.0 in
    let keys : x.key ≡ key = same_key x.key key parts.1 in
    absurd (true≢false (sym (subst₂ (λ n k. is_at n k c ≡ true) (sym kinds) (sym keys) at) ∙ all_has (λ d. is_at x.kind x.key d ≡ false) xs c apart later))
found_step kind key x c xs false e at apart later rest = rest

-- the cell that is there is the one that is found
found_is : (kind : ℕ) (key : List ℕ) (all : List Entry) (c : Entry) → AreApart all → Has all c → is_at kind key c ≡ true → look all kind key ≡ Some c.value
found_is kind key [] c apart here at = absurd here
found_is kind key (x ∷ xs) c apart (inl same) at = rw (← same, at) refl
found_is kind key (x ∷ xs) c apart (inr later) at = found_step kind key x c xs (is_at kind key x) refl at apart.0 later (found_is kind key xs c apart.1 later at)

none_is : (kind : ℕ) (key : List ℕ) (all : List Entry) → ((c : Entry) → Has all c → is_at kind key c ≡ false) → look all kind key ≡ None
none_is kind key [] none = refl
none_is kind key (c ∷ cs) none = rw (none c (inl refl)) (none_is kind key cs (λ d here. none d (inr here)))

-- the cell below is the one of the key, or there is none
pub there_is : (kind : ℕ) (key : List ℕ) (all : List Entry) (c : Entry) → AreApart all → Contains all c → is_below kind key c ≡ true → c.key ≡ key → look all kind key ≡ Some c.value
there_is kind key all c apart here below same =
    let own : is_eq (slice_cmp nat_cmp c.key key) ≡ true = subst (λ k. is_eq (slice_cmp nat_cmp c.key k) ≡ true) same (equal_self c.key) in
    found_is kind key all c apart (has_contained all c here) (and_from _ _ (and_parts (c.kind == kind) _ below).0 own)

pub not_there : (kind : ℕ) (key : List ℕ) (all : List Entry) (c : Entry) → is_below kind key c ≡ true → (c.key ≡ key → ⊥) → All (λ d. is_below kind key d ≡ true → is_up_to d.key c.key ≡ true) all → look all kind key ≡ None
not_there kind key all c below other least = none_is kind key all (λ d here. never (is_at kind key d) (λ at.
    let parts = and_parts (d.kind == kind) _ at in
    let same : d.key ≡ key = same_key d.key key parts.1 in
    let up = All-contains (λ e. is_below kind key e ≡ true → is_up_to e.key c.key ≡ true) all d least (contains_had all d here) (and_from _ _ parts.0 (equal_up _ parts.1)) in
    other (between c.key key (and_parts (c.kind == kind) _ below).1 (subst (λ k. is_up_to k c.key ≡ true) same up))))

pub none_below : (kind : ℕ) (key : List ℕ) (all : List Entry) → All (λ c. is_below kind key c ≡ false) all → look all kind key ≡ None
none_below kind key all none = none_is kind key all (λ d here. never (is_at kind key d) (λ at.
    let parts = and_parts (d.kind == kind) _ at in true≢false (sym (and_from _ _ parts.0 (equal_up _ parts.1)) ∙ All-contains (λ c. is_below kind key c ≡ false) all d none (contains_had all d here))))

pub no_row : (kind : ℕ) (key : List ℕ) (all : List Entry) (rows : List Row) → rows ≡ [] → IsFloor all kind key rows → look all kind key ≡ None
no_row kind key all rows none floor = none_below kind key all (subst (IsFloor all kind key) none floor)

abbrev items_of : Option (Vec ℕ Global) → Option (List ℕ)
items_of v = option_map (λ b. b.items) v

pub first_row : (kind : ℕ) (key : List ℕ) (all : List Entry) (row : Row) (more : List Row) (v : Option (Vec ℕ Global)) → AreApart all → IsFloor all kind key (row ∷ more)
    → ((w : List ℕ) → row ≡ Blob key ∷ Blob w ∷ [] → items_of v ≡ Some w) → ((k w : List ℕ) → row ≡ Blob k ∷ Blob w ∷ [] → (k ≡ key → ⊥) → items_of v ≡ None) → items_of v ≡ look all kind key
first_row kind key all row [] v apart floor there other = split (bytes_eq floor.0.key key) refl
  where
    c : Entry
    c = floor.0

    split : (b : Bool) → bytes_eq floor.0.key key ≡ b → items_of v ≡ look all kind key
    split true e =
        let same : floor.0.key ≡ key = (bytes_eq-Decides floor.0.key key).0 e in
        there floor.0.value (floor.3 ∙ ap (λ k. Blob k ∷ Blob floor.0.value ∷ []) same) ∙ sym (there_is kind key all floor.0 apart floor.1 floor.2 same)
    split false e =
        let apart_key : floor.0.key ≡ key → ⊥ = λ same. true≢false (sym ((bytes_eq-Decides floor.0.key key).1 same) ∙ e) in
        other floor.0.key floor.0.value floor.3 apart_key ∙ sym (not_there kind key all floor.0 floor.2 apart_key floor.4)
first_row kind key all row (second ∷ more) v apart floor there other = absurd floor

pub no_first : (rows : List Row) → None ≡ slice_get rows 0 → rows ≡ []
no_first [] e = refl
no_first (row ∷ more) e = absurd cc

pub reads : (kind : ℕ) (key : List ℕ) (db : Database) (rows : List Row) (row : Row) (r : Result (Option (Vec ℕ Global)) Error) → Some row ≡ slice_get rows 0 → ((all : List Entry) → Holds db all → IsFloor all kind key rows)
    → IfOk r (λ v. (w : List ℕ) → row ≡ Blob key ∷ Blob w ∷ [] → option_map (λ b. b.items) v ≡ Some w)
    → IfOk r (λ v. (k w : List ℕ) → row ≡ Blob k ∷ Blob w ∷ [] → (k ≡ key → ⊥) → option_map (λ b. b.items) v ≡ None)
    → IfOk r (λ v. (all : List Entry) → Holds db all → option_map (λ b. b.items) v ≡ look all kind key)
reads kind key db [] row r e floor there other = absurd cc
reads kind key db (x ∷ more) row (Ok v) e floor there other =
    let same : row ≡ x = cc in
    λ all has. first_row kind key all x more v has.apart (floor all has) (λ w is. there w (same ∙ is)) (λ k w is apart. other k w (same ∙ is) apart)
reads kind key db (x ∷ more) row (Err error) e floor there other = tt
