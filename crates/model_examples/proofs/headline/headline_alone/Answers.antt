use Rattle.std.proofs.Common.{ℕ, ◌≡◌, ◌≤◌, arith, true, false, refl, sym, ap, ◌∙◌, subst, None, [], ◌∷◌}
use Rattle.std.specs.FinMap as fin
use Rattle.cell_world.specs.ByteOrder.{byte_cmp}
use Rattle.cell_world.specs.Images.{Image}
use Rattle.cell_world.specs.Meaning.{meaning}
use Rattle.cell_world.specs.declared.cells.KeyType.{KeyType}
use Rattle.cell_world.specs.declared.cells.KeyType.TheVariants.{Int}
use Rattle.cell_world.specs.declared.cells.MapKind.{MapKind}
use Rattle.cell_world.specs.declared.cells.MapKind.TheVariants as kind
use Rattle.image_laws.proofs.CatalogCommits.{map_keeps_sound}
use Rattle.plain_model.specs.declared.finish.RunStatus.TheVariants as status
use Rattle.plain_model.specs.Headline.{IsLegalByStates}
use Rattle.cell_world.specs.Outside.{TellsNothing, TellsContents}
use Rattle.cell_world.specs.Sound.{Sound}
use Rattle.plain_model.specs.declared.commands.Command.TheVariants as command
use Rattle.model_examples.specs.Values.{make_map, two_sites, with_global, image_m, map_entry, empty_state, nothing_going}
use Rattle.world_examples.specs.Examples.{map_m, map_n, site_a, site_b}
use Rattle.model_examples.specs.Runs.{without_number, asks}
use Rattle.model_examples.proofs.Closing.{makes_first}
use Rattle.model_examples.proofs.LegalRuns.{enters_m}
use Rattle.model_examples.proofs.Maps.{has_map, has_it, has_none}
use Rattle.model_examples.proofs.Served.{serves}
use Rattle.model_examples.proofs.ListRun.{before_it, follows, sound_sites, once}
use Rattle.model_examples.proofs.UnknownLocations.{none_unknown}
use Rattle.model_examples.proofs.RunStatuses.{list_caused, map_caused}
use Rattle.model_examples.proofs.headline.headline_alone.Goals as goal

pub returns-clause-one_refused : goal.returns-clause-one_refused
returns-clause-one_refused c = record { last = two_sites; told = refl; sound = sound_sites; legal = record { end = before_it; follows = (before_it, follows, refl); stands = refl; going = λ session. None; left = λ session. record { none = λ ran. refl; next = tt }; promises = (tt, tt) }; served = once; status = list_caused (TellsContents two_sites) (TellsContents two_sites) (none_unknown (site_a ∷ site_b ∷ [])) }

pub returns-clause-never_unsound : goal.returns-clause-never_unsound
returns-clause-never_unsound c h = let told : TellsContents (with_global without_number) ≡ TellsContents h.last = h.told in let is : with_global without_number ≡ h.last = cc in let e : 1 ≤ 0 = (subst Sound (sym is) h.sound).globals.operations.0 in omega arith

pub returns-clause-never_untold : goal.returns-clause-never_untold
returns-clause-never_untold c h = let e : TellsNothing ≡ TellsContents h.last = h.told in cc

pub returns-clause-never_of_another_script : goal.returns-clause-never_of_another_script
returns-clause-never_of_another_script c h = let e : command.List map_m ∷ (h.served.in_order.front 1).0 ≡ make_map map_m ∷ make_map map_n ∷ [] = (h.served.in_order.front 1).1 in cc

pub returns-clause-never_as_done : goal.returns-clause-never_as_done
returns-clause-never_as_done c h = let e : ◌≡◌ {A = ℕ} 1 0 = h.status.cause.0 in omega arith

pub returns-clause-one_map : goal.returns-clause-one_map
returns-clause-one_map c = record {
  last = image_m;
  told = refl;
  sound = map_keeps_sound two_sites sound_sites map_m kind.Range Int (fin.get-empty byte_cmp map_m);
  legal = record {
    end = meaning image_m;
    follows = (meaning image_m, enters_m.follows, refl);
    stands = refl;
    going = nothing_going;
    left = λ session. record { none = λ ran. refl; next = tt };
    promises = (tt, tt);
  };
  served = serves (map_entry ∷ []) status.Done (refl, tt);
  status = map_caused (TellsContents two_sites) (TellsContents image_m) (none_unknown (site_a ∷ site_b ∷ []));
}

-- after the `map` was answered its map stands
must_stand : (last : Image) → IsLegalByStates false two_sites last (asks 1 (make_map map_m) ∷ []) (map_entry ∷ []) → has_map map_m (meaning last) ≡ true
must_stand last legal =
    let f = legal.follows.1 in
    sym (ap (has_map map_m) legal.stands) ∙ sym (ap (has_map map_m) legal.follows.2)
    ∙ sym (ap (λ r. has_map map_m r.0) (sym (makes_first f.held (meaning two_sites) (fin.get-empty byte_cmp map_m) (fin.len-empty byte_cmp (MapKind × KeyType))) ∙ f.step))
    ∙ has_it empty_state map_m

pub returns-clause-never_without_the_map : goal.returns-clause-never_without_the_map
returns-clause-never_without_the_map c h =
    let told : TellsContents two_sites ≡ TellsContents h.last = h.told in let is : two_sites ≡ h.last = cc in
    let e : true ≡ false = sym (must_stand h.last h.legal) ∙ ap (λ (image : Image). has_map map_m (meaning image)) (sym is) ∙ has_none map_m in cc
