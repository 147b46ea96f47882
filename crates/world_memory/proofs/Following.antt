-- How the table follows what happened.
use Rattle.std.proofs.Common.{◌≡◌, ℕ, suc, zero, ◌+◌, ◌≤◌, ◌<◌, ◌==◌, Bool, true, false, if◌then◌else◌, List, [], ◌∷◌, ◌++◌, length, take, get_or, refl, sym, ap, ◌∙◌, subst, Some, None, arith, ⊎_elim, length-append}
use Rattle.std.specs.List.{slice_get}
use Rattle.std.specs.BTreeMap.{BTreeMap, IsEmpty, is_at}
use Rattle.std.specs.Map.{lookup}
use Rattle.std.proofs.lemmas.List.{take_all, take-append-le}
use Rattle.std.proofs.lemmas.Bool.{cases_lt}
use Rattle.std.proofs.lemmas.Option.{slice_get_past, slice_get-get_or}
use Rattle.cell_world.specs.Stores.{Store, changed, edited, cell_at, empty_store}
use Rattle.cell_world.specs.declared.cells.Cell.{Cell}
use Rattle.cell_world.specs.declared.cells.Site.{Site}
use Rattle.cell_world.specs.declared.changes.Edit.{Edit}
use Rattle.cell_world.proofs.KeyedLaws.{cell_at-empty}
use Rattle.world_memory.specs.declared.contents.SiteKey.{SiteKey}
use Rattle.world_memory.specs.declared.contents.Made.{Made}
use Rattle.world_memory.specs.declared.contents.Made.TheVariants.{Committed, Tried, Wrote, Reopened}
use Rattle.world_memory.specs.contracts.contents.SiteKeyOrd.TheImpl.{ghosts}
use Rattle.world_memory.specs.Kept.{Holds, IsAt, edits_at, all_edits, edits_of, next_edits, store_after}

-- what a table holds is the same where the stores are
pub same_holds : (m : BTreeMap SiteKey Cell) (s t : ℕ → Store) → ((n : ℕ) → s n ≡ t n) → Holds m s → Holds m t
same_holds m s t same h q = h q ∙ ap (λ x. cell_at x q.key) (same q.site)

pub take_none : (i : ℕ) → take i [] ≡ (let none : List Edit = [] in none)
take_none zero = refl
take_none (suc i) = refl

-- one edit more
pub edit_more : (s : Store) (i : ℕ) (edits : List Edit) (d : Edit) → i < length edits → changed s (take (i + 1) edits) ≡ edited (changed s (take i edits)) (get_or edits i d)
edit_more s i [] d less = absurd (omega arith)
edit_more s zero (e ∷ es) d less = refl
edit_more s (suc i) (e ∷ es) d less = ap (λ n. changed s (take n (e ∷ es))) (let is : suc i + 1 ≡ suc (i + 1) = omega arith in is) ∙ edit_more (edited s e) i es d (omega arith)

-- one entry more
pub entry_more : (n : ℕ) (s : Store) (i : ℕ) (hs : List Made) (d : Made) → i < length hs → store_after n s (take (i + 1) hs) ≡ changed (store_after n s (take i hs)) (edits_at n (get_or hs i d))
entry_more n s i [] d less = absurd (omega arith)
entry_more n s zero (h ∷ hs) d less = refl
entry_more n s (suc i) (h ∷ hs) d less = ap (λ j. store_after n s (take j (h ∷ hs))) (let is : suc i + 1 ≡ suc (i + 1) = omega arith in is) ∙ entry_more n (changed s (edits_at n h)) i hs d (omega arith)

pub entry_added : (n : ℕ) (s : Store) (hs : List Made) (h : Made) → store_after n s (hs ++ h ∷ []) ≡ changed (store_after n s hs) (edits_at n h)
entry_added n s [] h = refl
entry_added n s (e ∷ es) h = entry_added n (changed s (edits_at n e)) es h

-- ---- a table

none_found : (entries : List (SiteKey × Cell)) (test : SiteKey → Bool) → entries ≡ [] → lookup test entries ≡ None
none_found entries test is = ap (lookup test) is

pub at_start : (m : BTreeMap SiteKey Cell) → IsEmpty m → (happened : List Made) → IsAt happened m 0 0
at_start m empty happened = record {
  done_within = omega arith;
  part_within = omega arith;
  holds = λ q. none_found m.entries (is_at (ghosts.cmp q)) empty ∙ sym (cell_at-empty q.key);
}

-- one edit more of a change
pub made_more : (m : BTreeMap SiteKey Cell) (stores : ℕ → Store) (site i : ℕ) (edits : List Edit) (edit : Edit) → edit ≡ get_or edits i edit → i < length edits
    → Holds m (λ n. if n == site then edited (changed (stores n) (take i (if n == site then edits else []))) edit else changed (stores n) (take i (if n == site then edits else [])))
    → Holds m (λ n. changed (stores n) (take (i + 1) (if n == site then edits else [])))
made_more m stores site i edits edit is less = same_holds m _ _ (λ n. by n (n == site))
  where
    by : (n : ℕ) (b : Bool) → (if b then edited (changed (stores n) (take i (if b then edits else []))) edit else changed (stores n) (take i (if b then edits else []))) ≡ changed (stores n) (take (i + 1) (if b then edits else []))
    by n true = ap (edited (changed (stores n) (take i edits))) is ∙ sym (edit_more (stores n) i edits edit less)
    by n false = ap (changed (stores n)) (take_none i ∙ sym (take_none (i + 1)))

-- what an entry is
pub entry_is : (happened : List Made) (done : ℕ) (h : Made) → h ≡ get_or happened done h → done < length happened → slice_get happened done ≡ Some h
entry_is happened done h is less = slice_get-get_or happened done h less ∙ ap Some (sym is)

-- All of the next entry is made.
pub next_entry : (happened : List Made) (m : BTreeMap SiteKey Cell) (done : ℕ) (h : Made) → h ≡ get_or happened done h → done < length happened
    → Holds m (λ n. changed (store_after n empty_store (take done happened)) (edits_at n h))
    → IsAt happened m (done + 1) 0
next_entry happened m done h is less holds = record {
  done_within = omega arith;
  part_within = omega arith;
  holds = same_holds m _ _ (λ n. ap (λ e. changed (store_after n empty_store (take done happened)) (edits_at n e)) is ∙ sym (entry_more n empty_store done happened h less) ∙ refl) holds;
}

-- before the edits of the next entry
pub in_entry : (happened : List Made) (m : BTreeMap SiteKey Cell) (done part : ℕ) (h : Made) → h ≡ get_or happened done h → done < length happened
    → IsAt happened m done part → Holds m (λ n. changed (store_after n empty_store (take done happened)) (take part (edits_at n h)))
in_entry happened m done part h is less at = same_holds m _ _ (λ n. ap (λ e. changed (store_after n empty_store (take done happened)) (take part (next_edits n e))) (entry_is happened done h is less)) at.holds

pub within_entry : (happened : List Made) (m : BTreeMap SiteKey Cell) (done part : ℕ) (h : Made) → h ≡ get_or happened done h → done < length happened
    → IsAt happened m done part → part ≤ length (all_edits h)
within_entry happened m done part h is less at = subst (λ e. part ≤ length (edits_of e)) (entry_is happened done h is less) at.part_within

-- an entry without edits is made
pub no_edits : (happened : List Made) (m : BTreeMap SiteKey Cell) (done part : ℕ) (h : Made) → h ≡ get_or happened done h → done < length happened
    → ((n : ℕ) → edits_at n h ≡ []) → IsAt happened m done part → IsAt happened m (done + 1) 0
no_edits happened m done part h is less none at = next_entry happened m done h is less (same_holds m _ _
    (λ n. ap (λ es. changed (store_after n empty_store (take done happened)) (take part es)) (none n) ∙ ap (changed (store_after n empty_store (take done happened))) (take_none part ∙ sym (none n)))
    (in_entry happened m done part h is less at))

-- some edits of a change are made
module _ (happened : List Made) (m n : BTreeMap SiteKey Cell) (done part part' : ℕ) (h : Made) (at : Site) (change edits : List Edit)
    (is : h ≡ get_or happened done h) (less : done < length happened) (commit : h ≡ Committed at change) (same : edits ≡ change)
    (made : (stores : ℕ → Store) → Holds m (λ k. changed (stores k) (take part (if k == at.0 then edits else []))) → Holds n (λ k. changed (stores k) (take part' (if k == at.0 then edits else []))))
    (before : IsAt happened m done part) where
  abbrev stores : ℕ → Store
  stores k = store_after k empty_store (take done happened)

  are : (k : ℕ) → edits_at k h ≡ (if k == at.0 then edits else [])
  are k = ap (edits_at k) commit ∙ ap (λ es. if k == at.0 then es else []) (sym same)

  holds_part : Holds n (λ k. changed (stores k) (take part' (if k == at.0 then edits else [])))
  holds_part = made stores (same_holds m _ _ (λ k. ap (λ es. changed (stores k) (take part es)) (are k)) (in_entry happened m done part h is less before))

  pub part_made : part' ≤ length edits → IsAt happened n done part'
  part_made within = record {
    done_within = before.done_within;
    part_within = subst (λ e. part' ≤ length (edits_of e)) (sym (entry_is happened done h is less)) (subst (λ e. part' ≤ length (all_edits e)) (sym commit) (subst (λ es. part' ≤ length es) same within));
    holds = same_holds n _ _ (λ k. ap (λ es. changed (stores k) (take part' es)) (sym (are k)) ∙ ap (λ e. changed (stores k) (take part' (next_edits k e))) (sym (entry_is happened done h is less))) holds_part;
  }

  pub all_made : part' ≡ length edits → IsAt happened n (done + 1) 0
  all_made whole = next_entry happened n done h is less (same_holds n _ _ (λ k. by k (k == at.0) (are k)) holds_part)
    where
      by : (k : ℕ) (b : Bool) → edits_at k h ≡ (if b then edits else []) → changed (stores k) (take part' (if b then edits else [])) ≡ changed (stores k) (edits_at k h)
      by k true e = ap (changed (stores k)) (take_all part' edits (omega (arith, whole)) ∙ sym e)
      by k false e = ap (changed (stores k)) (take_none part' ∙ sym e)

-- At the end the table holds the stores.
pub at_end : (happened : List Made) (m : BTreeMap SiteKey Cell) (done part : ℕ) → IsAt happened m done part → length happened ≤ done → Holds m (λ n. store_after n empty_store happened)
at_end happened m done part at all = same_holds m _ _
    (λ n. ap (λ e. changed (store_after n empty_store (take done happened)) (take part (next_edits n e))) (slice_get_past happened done all) ∙ ap (changed (store_after n empty_store (take done happened))) (take_none part) ∙ ap (store_after n empty_store) (take_all done happened all))
    at.holds

-- an entry stays where it is
slice_get-append : (hs : List Made) (h : Made) (i : ℕ) → i < length hs → slice_get (hs ++ h ∷ []) i ≡ slice_get hs i
slice_get-append [] h i less = absurd (omega arith)
slice_get-append (e ∷ es) h zero less = refl
slice_get-append (e ∷ es) h (suc i) less = slice_get-append es h i (omega arith)

take_zero : (edits : List Edit) → take 0 edits ≡ []
take_zero edits = refl

-- What happens next is to be made.
pub one_more : (happened : List Made) (h : Made) (m : BTreeMap SiteKey Cell) (done part : ℕ) → IsAt happened m done part → IsAt (happened ++ h ∷ []) m done part
one_more happened h m done part at = ⊎_elim
    (λ less. record {
      done_within = omega (arith, length-append happened (h ∷ []), at.done_within);
      part_within = subst (λ e. part ≤ length (edits_of e)) (sym (slice_get-append happened h done less)) at.part_within;
      holds = same_holds m _ _ (λ n. ap (λ hs. changed (store_after n empty_store hs) (take part (next_edits n (slice_get happened done)))) (sym (take-append-le done happened (h ∷ []) at.done_within)) ∙ ap (λ e. changed (store_after n empty_store (take done (happened ++ h ∷ []))) (take part (next_edits n e))) (sym (slice_get-append happened h done less))) at.holds;
    })
    (λ all. let none : part ≡ 0 = start all in record {
      done_within = omega (arith, length-append happened (h ∷ []), at.done_within);
      part_within = omega (arith, none);
      holds = same_holds m _ _ (λ n. ap (store_after n empty_store) (sym (take_all done happened all) ∙ sym (take-append-le done happened (h ∷ []) at.done_within)) ∙ ap (λ p. changed (store_after n empty_store (take done (happened ++ h ∷ []))) (take p (next_edits n (slice_get (happened ++ h ∷ []) done)))) (sym none)) (at_end happened m done part at all);
    })
    (cases_lt done (length happened))
  where
    start : length happened ≤ done → part ≡ 0
    start all = let few : part ≤ 0 = subst (λ e. part ≤ length (edits_of e)) (slice_get_past happened done all) at.part_within in omega (arith, few)

-- What isn't a commit has no edits.
pub not_commit : (h : Made) → ((at : Site) (change : List Edit) → h ≡ Committed at change → ⊥) → (n : ℕ) → edits_at n h ≡ []
not_commit (Committed at change) other n = absurd (other at change refl)
not_commit (Tried at change) other n = refl
not_commit (Wrote bytes) other n = refl
not_commit (Reopened at) other n = refl
