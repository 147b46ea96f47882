use Rattle.std.proofs.Common.{◌≡◌, ℕ, arith, true, false, refl, sym, ap, ◌∙◌, Some, inl, inr, ⊎_elim}
use Rattle.std.specs.Prelude.{codes}
use Rattle.cell_world.specs.Texts.{Text}
use Rattle.cell_world.specs.Keys.{same, contains}
use Rattle.cell_world.specs.KeyForms.{normal_of}
use Rattle.cell_world.specs.declared.cells.KeyType.TheVariants.{Int}
use Rattle.plain_model.specs.Caches.{Learnt}
use Rattle.plain_model.specs.Worked.{small_key, small_range}
use Rattle.world_examples.specs.Examples.{site_a}
use Rattle.model_examples.proofs.Lookups.{differ}
use Rattle.model_examples.proofs.Learning.{drops_lost, drops_replaced, is_known, only_known, word_of, key_7, key_10}
use Rattle.model_examples.proofs.caches.known.Goals as goal

pub returns-clause-learnt_before : goal.returns-clause-learnt_before
returns-clause-learnt_before c = record { text = codes "7"; asked = refl; same = refl; key = small_key 7; form = key_7; contained = refl; learnt = inl (refl, is_known) }

not_one : ◌≡◌ {A = ℕ} 2 1 → ⊥
not_one e = omega arith

pub returns-clause-dropped_by_another_session : goal.returns-clause-dropped_by_another_session
returns-clause-dropped_by_another_session c = record {
  text = codes "7";
  asked = refl;
  same = refl;
  key = small_key 7;
  form = key_7;
  contained = refl;
  learnt = inr (omega arith, (λ mine drops. not_one mine), inl (refl, is_known));
}

-- what was learnt at place 0 wasn't learnt by the entry at place 1
not_now : ◌≡◌ {A = ℕ} 0 1 → ⊥
not_now e = omega arith

pub returns-clause-never_lost_by_itself : goal.returns-clause-never_lost_by_itself
returns-clause-never_lost_by_itself c f = ⊎_elim (λ here. not_now here.0) (λ before. before.1 refl drops_lost) f.learnt

pub returns-clause-never_replaced_by_itself : goal.returns-clause-never_replaced_by_itself
returns-clause-never_replaced_by_itself c f = ⊎_elim (λ here. not_now here.0) (λ before. before.1 refl drops_replaced) f.learnt

pub returns-clause-replaced_by_another_session : goal.returns-clause-replaced_by_another_session
returns-clause-replaced_by_another_session c = record {
  text = codes "7";
  asked = refl;
  same = refl;
  key = small_key 7;
  form = key_7;
  contained = refl;
  learnt = inr (omega arith, (λ mine drops. not_one mine), inl (refl, is_known));
}

pub returns-clause-never_another_span : goal.returns-clause-never_another_span
returns-clause-never_another_span c f = ⊎_elim
    (λ here. differ (λ (k : Learnt). contains k.span (small_key 15)) _ _ (sym (only_known _ here.1)) refl refl)
    (λ before. before.2)
    f.learnt

pub returns-clause-never_another_location : goal.returns-clause-never_another_location
returns-clause-never_another_location c f = ⊎_elim
    (λ here. differ (λ (k : Learnt). same site_a k.location) _ _ (only_known _ here.1) refl refl)
    (λ before. before.2)
    f.learnt

pub returns-clause-never_of_a_key_beside : goal.returns-clause-never_of_a_key_beside
returns-clause-never_of_a_key_beside c f =
    let key : Some (small_key 10) ≡ Some f.key = sym key_10 ∙ ap (normal_of Int) (ap word_of f.asked) ∙ f.form in
    let e : false ≡ true = ap (contains (small_range 0 10)) (some_is (small_key 10) f.key key) ∙ f.contained in cc
  where
    some_is : (a b : Text) → Some a ≡ Some b → a ≡ b
    some_is a b e = cc
