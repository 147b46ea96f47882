-- The sweep over short tables of local rows, and the move of [0, 5) done or not done at a site.
use Rattle.std.proofs.Common.{◌≡◌, ◌≢◌, ℕ, refl, sym, ap, ◌∙◌, Some, None, Option, List, [], ◌∷◌, T, arith, ◌⊎◌, ⊎_elim, inr}
use Rattle.std.specs.Prelude.{IsTrue, option_and_then}
use Rattle.std.specs.List.{AllByRecursion}
use Rattle.std.specs.FinMap as fin
use Rattle.std.specs.FinMap.{is_sorted}
use Rattle.cell_world.specs.Texts.{Text}
use Rattle.cell_world.specs.Orders.{local_cmp}
use Rattle.cell_world.specs.Spelled.{listed}
use Rattle.cell_world.specs.Stores.{Log, local_key}
use Rattle.cell_world.specs.Sound.{HasLocal}
use Rattle.cell_world.specs.Marked.{IsOld, IsNew}
use Rattle.cell_world.specs.Sweep.{reaches, sweep, IsSwept}
use Rattle.cell_world.specs.UnderWay.{IsUnborn, IsDone}
use Rattle.cell_world.specs.UnderWay as under
use Rattle.cell_world.specs.declared.cells.LocalRow.{LocalRow}
use Rattle.cell_world.specs.declared.cells.Mark.TheVariants.{Plain, Old, New}
use Rattle.cell_world.proofs.ListLaws.{all_at}
use Rattle.world_examples.specs.Examples.{site_a, site_b, log_of, locals_of}
use Rattle.world_examples.specs.Sounds.{move_logged}
use Rattle.world_examples.proofs.Accepting.{b_not_a}
use Rattle.world_examples.proofs.Tables.{get_of}
use Rattle.world_examples.proofs.ImageParts.{keyed_locals}
use Rattle.world_examples.proofs.ShortTables.{local_in}
use Rattle.world_examples.proofs.Marking.{old_number, new_row, each_row}

-- ---- the sweep

abbrev pub log : Log
log = log_of (move_logged ∷ [])

-- a lookup before and after the sweep
pub swept_at : (before after : List LocalRow) → T (is_sorted local_cmp (keyed_locals before)) → T (is_sorted local_cmp (keyed_locals after)) → IsSwept log move_logged (Old 1) (locals_of before) (locals_of after)
    → (k : Text × (Text × ℕ)) → fin.find local_cmp k (keyed_locals after) ≡ option_and_then (sweep log move_logged (Old 1)) (fin.find local_cmp k (keyed_locals before))
swept_at before after first second h k = sym (get_of local_cmp (keyed_locals after) second k) ∙ h k ∙ ap (option_and_then (sweep log move_logged (Old 1))) (get_of local_cmp (keyed_locals before) first k)

pub swept_from : (before after : List LocalRow) → T (is_sorted local_cmp (keyed_locals before)) → T (is_sorted local_cmp (keyed_locals after))
    → ((k : Text × (Text × ℕ)) → fin.find local_cmp k (keyed_locals after) ≡ option_and_then (sweep log move_logged (Old 1)) (fin.find local_cmp k (keyed_locals before)))
    → IsSwept log move_logged (Old 1) (locals_of before) (locals_of after)
swept_from before after first second h k = get_of local_cmp (keyed_locals after) second k ∙ h k ∙ sym (ap (option_and_then (sweep log move_logged (Old 1))) (get_of local_cmp (keyed_locals before) first k))

-- the number of the operation by which what is found is Old
abbrev pub old_in : Option LocalRow → ℕ
old_in None = 0
old_in (Some row) = old_number row.mark

-- ---- done or not

module _ (rows : List LocalRow) (sorted : T (is_sorted local_cmp (keyed_locals rows))) where
  -- the rows have other numbers, and none is Old of 1
  pub unborn : AllByRecursion (λ e. (e.1.number ≢ 1) × (IsOld 1 e.1 → ⊥)) (keyed_locals rows) → IsUnborn 1 (locals_of rows)
  unborn all row h = each_row rows sorted (λ row. (row.number ≢ 1) × (IsOld 1 row → ⊥)) all row h

  -- done at the source, which gets no new mapping
  pub done_at_source : AllByRecursion (λ e. IsTrue (reaches move_logged e.1) → IsOld 1 e.1 ⊎ IsNew 1 e.1) (keyed_locals rows) → IsDone move_logged site_a (locals_of rows)
  done_at_source all = record {
    only = λ row h. each_row rows sorted (λ row. IsTrue (reaches move_logged row) → IsOld 1 row ⊎ IsNew 1 row) all row h;
    made = all_at (λ new. new.location ≡ site_a → HasLocal (locals_of rows) (under.new_row 1 new)) (listed move_logged.news) ((λ l. absurd (b_not_a l)), tt);
  }

  -- a row of the hull that is neither Old nor New of the operation
  pub not_done : (location : Text) (row : LocalRow) → fin.find local_cmp (local_key row) (keyed_locals rows) ≡ Some row → IsTrue (reaches move_logged row) → (IsOld 1 row → ⊥) → (IsNew 1 row → ⊥) → IsDone move_logged location (locals_of rows) → ⊥
  not_done location row there inside no_old no_new h = ⊎_elim no_old no_new (h.only row (local_in rows sorted row there) inside)

-- done at the target, with its new row alone
pub done_at_target : IsDone move_logged site_b (locals_of (new_row ∷ []))
done_at_target = record {
  only = λ row h. each_row (new_row ∷ []) tt (λ row. IsTrue (reaches move_logged row) → IsOld 1 row ⊎ IsNew 1 row) ((λ r. inr (refl, refl)), tt) row h;
  made = all_at (λ new. new.location ≡ site_b → HasLocal (locals_of (new_row ∷ [])) (under.new_row 1 new)) (listed move_logged.news) ((λ l. local_in (new_row ∷ []) tt new_row refl), tt);
}

pub zero_not_one : ◌≡◌ {A = ℕ} 0 1 → ⊥
zero_not_one e = omega arith

pub two_not_one : ◌≡◌ {A = ℕ} 2 1 → ⊥
two_not_one e = omega arith

pub plain_not_old : Plain ≡ Old 1 → ⊥
plain_not_old e = absurd (cc)

pub new_not_old : New ≡ Old 1 → ⊥
new_not_old e = absurd (cc)
