-- The table of cells: what an edit leaves in it.
use Rattle.std.proofs.Common.{◌≡◌, ◌≢◌, ℕ, ◌==◌, Bool, true, false, cond, if◌then◌else◌, refl, sym, ap, ◌∙◌, Some, None, Option, rules, arith, IsTrue, Result, Ok, Err, OnOk}
use Rattle.std.specs.Prelude.{◌↔◌}
use Rattle.std.specs.BTreeMap.{BTreeMap, get, is_at}
use Rattle.std.proofs.lemmas.Bool.{eqb-true}
use Rattle.std.specs.Result.{is_err}
use Rattle.cell_world.proofs.OrderLaws.{tied}
use Rattle.cell_world.specs.Stores.{Store, cell_at, edited, own_key}
use Rattle.cell_world.specs.declared.cells.Cell.{Cell}
use Rattle.cell_world.specs.declared.cells.CellKey.{CellKey}
use Rattle.cell_world.specs.declared.changes.Edit.{Edit}
use Rattle.cell_world.specs.declared.changes.Edit.TheVariants.{Put, Delete}
use Rattle.cell_world.proofs.StoreLaws.{cell_at-put_same, cell_at-put_other, cell_at-delete_same, cell_at-delete_other}
use Rattle.world_memory.specs.declared.contents.SiteKey.{SiteKey}
use Rattle.world_memory.specs.contracts.contents.SiteKeyOrd.TheImpl.{ghosts}
use Rattle.world_memory.specs.contracts.contents.SiteKeyOrd.TheImpl.Laws.{total-law, matches_eq-law}
use Rattle.world_memory.specs.contracts.contents.SiteKeyPartialEq.TheImpl as equal
use Rattle.world_memory.specs.Kept.{Holds}

-- the order finds equal only what is the same
same_is : (a b : SiteKey) → IsTrue (equal.ghosts.eq a b) ↔ a ≡ b
same_is a b = search rules

pub tied_is : (a b : SiteKey) → is_at (ghosts.cmp a) b ≡ true → a ≡ b
tied_is a b h = (same_is a b).0 (matches_eq-law a b ∙ h)

pub tied_same : (a b : SiteKey) → a ≡ b → is_at (ghosts.cmp a) b ≡ false → ⊥
tied_same a b e f = let s : is_at (ghosts.cmp a) a ≡ true = tied total-law a in let t : is_at (ghosts.cmp a) b ≡ true = sym (ap (λ x. is_at (ghosts.cmp a) x) e) ∙ s in cc

apart : (a b : ℕ) → a ≡ b → (a == b) ≡ false → ⊥
apart a b e f = grind (arith, e, f)

-- After a key has what an edit leaves there, and the others have what they had, the table holds the edited store.
pub updated : (m n : BTreeMap SiteKey Cell) (k : SiteKey) (w : Option Cell) (f : Store → Store)
    → ((s : Store) → cell_at (f s) k.key ≡ w)
    → ((s : Store) (q : CellKey) → q ≢ k.key → cell_at (f s) q ≡ cell_at s q)
    → ((q : SiteKey) → get ghosts.cmp n q ≡ cond (is_at (ghosts.cmp k) q) w (get ghosts.cmp m q))
    → (stores : ℕ → Store) → Holds m stores → Holds n (λ j. if j == k.site then f (stores j) else stores j)
updated m n k w f there elsewhere is stores holds q = by (is_at (ghosts.cmp k) q) refl (q.site == k.site) refl
  where
    by : (t : Bool) → is_at (ghosts.cmp k) q ≡ t → (b : Bool) → (q.site == k.site) ≡ b → get ghosts.cmp n q ≡ cell_at (if b then f (stores q.site) else stores q.site) q.key
    by true t true e = is q ∙ ap (λ x. cond x w (get ghosts.cmp m q)) t ∙ sym (there (stores q.site)) ∙ ap (λ x. cell_at (f (stores q.site)) x.key) (tied_is k q t)
    by true t false e = absurd (apart q.site k.site (sym (ap (λ x. x.site) (tied_is k q t))) e)
    by false t true e = is q ∙ ap (λ x. cond x w (get ghosts.cmp m q)) t ∙ holds q ∙ sym (elsewhere (stores q.site) q.key (λ h. tied_same k q (λ i. record { site = sym (eqb-true q.site k.site e) i; key = sym h i }) t))
    by false t false e = is q ∙ ap (λ x. cond x w (get ghosts.cmp m q)) t ∙ holds q

pub put_holds : (m n : BTreeMap SiteKey Cell) (site : ℕ) (edit : Edit) (c copy : Cell) (key : CellKey)
    → edit ≡ Put c → copy ≡ c → key ≡ own_key c
    → ((q : SiteKey) → get ghosts.cmp n q ≡ cond (is_at (ghosts.cmp (record { site = site; key = key })) q) (Some copy) (get ghosts.cmp m q))
    → (stores : ℕ → Store) → Holds m stores → Holds n (λ j. if j == site then edited (stores j) edit else stores j)
put_holds m n site edit c copy key is same own = updated m n (record { site = site; key = key }) (Some copy) (λ s. edited s edit)
    (λ s. (λ i. cell_at (edited s (is i)) (own i)) ∙ cell_at-put_same s c ∙ sym (ap Some same))
    (λ s q ne. ap (λ e. cell_at (edited s e) q) is ∙ cell_at-put_other s c q (λ h. ne (h ∙ sym own)) ∙ refl)

pub delete_holds : (m n : BTreeMap SiteKey Cell) (site : ℕ) (edit : Edit) (key : CellKey)
    → edit ≡ Delete key
    → ((q : SiteKey) → get ghosts.cmp n q ≡ cond (is_at (ghosts.cmp (record { site = site; key = key })) q) None (get ghosts.cmp m q))
    → (stores : ℕ → Store) → Holds m stores → Holds n (λ j. if j == site then edited (stores j) edit else stores j)
delete_holds m n site edit key is = updated m n (record { site = site; key = key }) None (λ s. edited s edit)
    (λ s. ap (λ e. cell_at (edited s e) key) is ∙ cell_at-delete_same s key)
    (λ s q ne. ap (λ e. cell_at (edited s e) q) is ∙ cell_at-delete_other s key q ne)

-- what follows an answer that isn't an error
pub of_ok : {T E : Type 0} {P : Type 0} (r : Result T E) → false ≡ is_err r → OnOk r P → P
of_ok (Ok x) e h = h
of_ok (Err y) e h = cc
