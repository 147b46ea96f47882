use Rattle.std.proofs.Common.{◌≡◌, true, false, refl, sym, ap, ◌∙◌, Some, None}
use Rattle.std.specs.Prelude.{codes}
use Rattle.cell_world.specs.Texts.{Text}
use Rattle.cell_world.specs.KeyForms.{normal_of}
use Rattle.cell_world.specs.declared.cells.KeyType.TheVariants.{Int}
use Rattle.plain_model.specs.Caches.{Learnt, knows}
use Rattle.plain_model.specs.Worked.{small_key}
use Rattle.model_examples.specs.Values.{learnt}
use Rattle.world_examples.specs.Examples.{map_m}
use Rattle.model_examples.proofs.Learning.{is_known, only_known, name_of, word_of, key_5, key_10}
use Rattle.model_examples.proofs.caches.unknown.Goals as goal

no_key_x : normal_of Int (codes "x") ≡ None
unfolding normal_of
no_key_x = refl

pub returns-clause-no_key : goal.returns-clause-no_key
returns-clause-no_key c = record {
  name = map_m;
  text = codes "x";
  asked = refl;
  same = refl;
  unknown = λ k key one form. let e : None ≡ Some key = sym no_key_x ∙ ap (λ (k : Learnt). normal_of k.type (codes "x")) (only_known k one) ∙ form in absurd cc;
}

pub returns-clause-beside : goal.returns-clause-beside
returns-clause-beside c = record {
  name = map_m;
  text = codes "10";
  asked = refl;
  same = refl;
  unknown = λ k key one form.
      let e : Some (small_key 10) ≡ Some key = sym key_10 ∙ ap (λ (k : Learnt). normal_of k.type (codes "10")) (only_known k one) ∙ form in
      let is : small_key 10 ≡ key = some_is (small_key 10) key e in
      ap (λ (key : Text). knows map_m key k) (sym is) ∙ ap (knows map_m (small_key 10)) (sym (only_known k one));
}
  where
    some_is : (a b : Text) → Some a ≡ Some b → a ≡ b
    some_is a b e = cc

pub returns-clause-never_over_a_span : goal.returns-clause-never_over_a_span
returns-clause-never_over_a_span c f =
    let e : true ≡ false = ap (λ (name : Text). knows name (small_key 5) (learnt 0 10 0)) (ap name_of f.asked)
    ∙ f.unknown (learnt 0 10 0) (small_key 5) is_known (ap (normal_of Int) (sym (ap word_of f.asked)) ∙ key_5) in cc
