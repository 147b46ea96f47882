-- Near is an equivalence.
use Rattle.std.proofs.Common.{◌≡◌, refl, sym, ap, ◌∙◌, subst}
use Rattle.std.specs.FinMap as map
use Rattle.cell_world.specs.Stores.{AwaySites}
use Rattle.cell_world.specs.Plain.{PlainState}
use Rattle.plain_model.specs.Near.{Near}

pub near_itself : (a : PlainState) → Near a a
near_itself a = record { same = refl; here = λ location stays. refl; rows = λ location suspect. refl; status = λ location name key suspect. refl }

pub near_of : (a b : PlainState) → a ≡ b → Near a b
near_of a b e = subst (λ x. Near a x) e (near_itself a)

-- the same sites are away
same_away : (a b : PlainState) → Near a b → a.away ≡ b.away
same_away a b near = ap (λ (s : PlainState). s.away) near.same

pub near_back : (a b : PlainState) → Near a b → Near b a
near_back a b near =
    let sites : a.away ≡ b.away = same_away a b near in
    record {
      same = ap (λ (s : PlainState). record s { held = a.held }) (sym near.same);
      here = λ location stays. sym (near.here location (sym (ap (λ (s : AwaySites). map.get s location) sites) ∙ stays));
      rows = λ location suspect. sym (near.rows location (sym (ap (λ (s : AwaySites). map.get s location) sites) ∙ suspect));
      status = λ location name key suspect. sym (near.status location name key (sym (ap (λ (s : AwaySites). map.get s location) sites) ∙ suspect));
    }

pub near_on : (a b c : PlainState) → Near a b → Near b c → Near a c
near_on a b c first second =
    let sites : b.away ≡ c.away = same_away b c second in
    record {
      same = ap (λ (s : PlainState). record s { held = c.held }) first.same ∙ second.same;
      here = λ location stays. first.here location (ap (λ (s : AwaySites). map.get s location) sites ∙ stays) ∙ second.here location stays;
      rows = λ location suspect. first.rows location (ap (λ (s : AwaySites). map.get s location) sites ∙ suspect) ∙ second.rows location suspect;
      status = λ location name key suspect. first.status location name key (ap (λ (s : AwaySites). map.get s location) sites ∙ suspect) ∙ second.status location name key suspect;
    }
