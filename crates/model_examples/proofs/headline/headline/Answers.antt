use Rattle.std.proofs.Common.{true, ℕ, ◌≡◌, arith, false, refl, sym, subst, [], ◌∷◌, ◌≤◌, inl}
use Rattle.cell_world.specs.Images.{Trail, Global, Wrote, Reopened}
use Rattle.cell_world.specs.Outside.{TellsNothing, TellsTrail}
use Rattle.plain_model.specs.declared.commands.Command.TheVariants as command
use Rattle.plain_model.specs.declared.finish.RunStatus.TheVariants as status
use Rattle.plain_model.specs.Lines.{lines_of, refusal_text}
use Rattle.plain_model.specs.Written.{EachReply, AllWritten}
use Rattle.plain_model.specs.Headline.{SoundAtEachMoment, IsLegalHistory, GoesOnFrom}
use Rattle.plain_model.proofs.LegalAtMoments.{legal_by_moments}
use Rattle.plain_model.proofs.RunsAtMoments.{sound_by_moments}
use Rattle.model_examples.specs.Values.{make_map, trail_of, nothing_going, map_commit, map_trail, map_entry}
use Rattle.world_examples.specs.Examples.{map_m, map_n, site_a, site_b}
use Rattle.model_examples.specs.Runs.{list_trail, list_refused, no_map_line, ok_line, nothing_done, without_number, asks}
use Rattle.model_examples.proofs.LegalRuns.{one_map, map_sound, map_written}
use Rattle.model_examples.proofs.Served.{serves}
use Rattle.model_examples.proofs.ListRun.{runs, is_legal, only_this, once}
use Rattle.model_examples.proofs.UnknownLocations.{none_unknown}
use Rattle.model_examples.proofs.RunStatuses.{list_caused, map_caused}
use Rattle.model_examples.proofs.headline.headline.Goals as goal

-- what is told is the trail
told_is : (told trail : Trail) → TellsTrail told ≡ TellsTrail trail → told ≡ trail
told_is told trail e = cc

pub returns-clause-one_refused : goal.returns-clause-one_refused
unfolding lines_of refusal_text
returns-clause-one_refused c = record { trail = list_trail; told = refl; goes_on = record { start = refl; front = refl }; sound = record { sound = runs.sound }; legal = is_legal; written = only_this; served = once; status = list_caused (TellsTrail (trail_of [])) (TellsTrail list_trail) (none_unknown (site_a ∷ site_b ∷ [])) }

pub returns-clause-never_untold : goal.returns-clause-never_untold
unfolding lines_of refusal_text
returns-clause-never_untold c h = let e : TellsNothing ≡ TellsTrail h.trail = h.told in cc

pub returns-clause-never_unwritten : goal.returns-clause-never_unwritten
unfolding lines_of refusal_text
returns-clause-never_unwritten c h = let told : TellsTrail (trail_of []) ≡ TellsTrail h.trail = h.told in let is : trail_of [] ≡ h.trail = cc in let e : [] ≡ no_map_line = subst (λ (trail : Trail). AllWritten (EachReply false) trail 0 (list_refused ∷ [])) (sym is) (h.written.all refl) in cc

pub returns-clause-never_of_another_script : goal.returns-clause-never_of_another_script
unfolding lines_of refusal_text
returns-clause-never_of_another_script c h = let e : command.List map_m ∷ (h.served.in_order.front 1).0 ≡ make_map map_m ∷ make_map map_n ∷ [] = (h.served.in_order.front 1).1 in cc

pub returns-clause-never_as_done : goal.returns-clause-never_as_done
unfolding lines_of refusal_text
returns-clause-never_as_done c h = let e : ◌≡◌ {A = ℕ} 1 0 = h.status.cause.0 in omega arith

pub returns-clause-never_from_another_trail : goal.returns-clause-never_from_another_trail
returns-clause-never_from_another_trail c h =
    let from : GoesOnFrom (trail_of (nothing_done ∷ [])) list_trail = subst (GoesOnFrom (trail_of (nothing_done ∷ []))) (sym (told_is list_trail h.trail h.told)) h.goes_on in
    let e : Wrote no_map_line ∷ [] ≡ nothing_done ∷ [] = from.front in cc

pub returns-clause-never_unsound : goal.returns-clause-never_unsound
returns-clause-never_unsound c h =
    let sound : SoundAtEachMoment (trail_of (Reopened Global without_number ∷ [])) 1 = subst (λ (trail : Trail). SoundAtEachMoment trail 1) (sym (told_is (trail_of (Reopened Global without_number ∷ [])) h.trail h.told)) h.sound in
    let now : 1 ≤ 1 = omega arith in let e : 1 ≤ 0 = (sound.sound 1 now now).globals.operations.0 in omega arith

pub returns-clause-never_past_the_end : goal.returns-clause-never_past_the_end
returns-clause-never_past_the_end c h =
    let legal : IsLegalHistory true (trail_of []) 0 (asks 1 (make_map map_m) ∷ []) (map_entry ∷ []) = subst (λ (trail : Trail). IsLegalHistory true trail 0 (asks 1 (make_map map_m) ∷ []) (map_entry ∷ [])) (sym (told_is (trail_of []) h.trail h.told)) h.legal in
    let e : 1 ≤ 0 = legal.legal.ends in omega arith

pub returns-clause-one_map : goal.returns-clause-one_map
unfolding lines_of
returns-clause-one_map c = record {
  trail = map_trail;
  told = refl;
  goes_on = record { start = refl; front = refl };
  sound = record { sound = sound_by_moments map_trail 0 one_map.timeline (omega arith) refl map_sound };
  legal = record {
    going = nothing_going;
    left = λ session. record { none = λ ran. refl; next = tt };
    legal = legal_by_moments map_trail 0 nothing_going (map_entry ∷ []) (omega arith) one_map;
  };
  written = record { written = map_written; all = λ ran. refl; last = inl refl };
  served = serves (map_entry ∷ []) status.Done (refl, tt);
  status = map_caused (TellsTrail (trail_of [])) (TellsTrail map_trail) (none_unknown (site_a ∷ site_b ∷ []));
}

pub returns-clause-never_without_its_line : goal.returns-clause-never_without_its_line
unfolding lines_of
returns-clause-never_without_its_line c h =
    let e : [] ≡ ok_line = subst (λ (trail : Trail). AllWritten (EachReply false) trail 0 (map_entry ∷ [])) (sym (told_is (trail_of (map_commit ∷ [])) h.trail h.told)) (h.written.all refl) in cc
