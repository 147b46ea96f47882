use Rattle.std.proofs.Common.{◌≡◌, refl, inl, inr, ◌⊎◌, List, [], ◌∷◌}
use Rattle.std.specs.Prelude.{IsTrue}
use Rattle.std.specs.List.{AllByRecursion}
use Rattle.cell_world.specs.Texts.{Text}
use Rattle.cell_world.specs.Lists.{IsOneOf}
use Rattle.cell_world.specs.Spelled.{listed}
use Rattle.cell_world.specs.Lawful.{IsAttached}
use Rattle.cell_world.specs.Sound.{HasLog, HasLocal}
use Rattle.cell_world.specs.Sweep.{reaches}
use Rattle.cell_world.specs.Marked.{IsOld, IsNew, MarkTables, mark_tables}
use Rattle.cell_world.specs.UnderWay.{IsUnborn, IsDone, UnderWayOn}
use Rattle.cell_world.specs.UnderWay as under
use Rattle.cell_world.specs.declared.cells.Away.TheVariants.{Detached}
use Rattle.cell_world.specs.declared.cells.LocalRow.{LocalRow}
use Rattle.cell_world.specs.declared.cells.Mark.TheVariants.{Plain, Old, New}
use Rattle.cell_world.specs.declared.cells.Status.TheVariants.{Online, Offline}
use Rattle.cell_world.specs.declared.operations.Op.{Op}
use Rattle.cell_world.proofs.ListLaws.{all_at}
use Rattle.world_examples.specs.Examples.{site_a, site_b, local_row, away_of}
use Rattle.world_examples.specs.Sounds.{move_logged, offline_logged, image_logged, a_logged, marks_with}
use Rattle.world_examples.proofs.Standing.{each_site}
use Rattle.world_examples.proofs.ShortTables.{not_attached}
use Rattle.world_examples.proofs.Marking.{old_row, new_row, in_log, each_row}
use Rattle.world_examples.proofs.Logged.{offline_stands, new_there}
use Rattle.world_examples.proofs.Sweeping.{unborn, done_at_source, done_at_target, zero_not_one, plain_not_old, new_not_old, two_not_one}
use Rattle.world_examples.proofs.steps.operations_under_way.Goals as goal

-- an operation is under way, by what is so at each site of the two
under_way : (t : MarkTables) (op : Op) (sites : List Text) → HasLog t.log op → AllByRecursion (λ l. IsDone op l (t.locals_at l)) sites
    → AllByRecursion (λ l. IsAttached t.locations t.away l → (IsOneOf sites l → ⊥) → IsUnborn op.number (t.locals_at l)) t.locations → UnderWayOn t op sites
under_way t op sites logged done others = record {
  logged = logged;
  done = all_at (λ l. IsDone op l (t.locals_at l)) sites done;
  unborn = λ l here apart. each_site (λ l. IsAttached t.locations t.away l → (IsOneOf sites l → ⊥) → IsUnborn op.number (t.locals_at l)) t.locations others l here.known here apart;
}

abbrev plain_row : LocalRow
plain_row = local_row 0 5 0 Offline Plain

pub returns-clause-begun : goal.returns-clause-begun
returns-clause-begun c = under_way (marks_with (move_logged ∷ []) 2 (plain_row ∷ []) []) move_logged [] in_log tt ((λ here apart. unborn (plain_row ∷ []) tt ((zero_not_one, plain_not_old), tt)), ((λ here apart. unborn [] tt tt), tt))

pub returns-clause-source : goal.returns-clause-source
returns-clause-source c = under_way (marks_with (move_logged ∷ []) 2 (old_row ∷ []) []) move_logged (site_a ∷ []) in_log (done_at_source (old_row ∷ []) tt ((λ r. inl refl), tt), tt) ((λ here apart. absurd (apart (inl refl))), ((λ here apart. unborn [] tt tt), tt))

pub returns-clause-target : goal.returns-clause-target
returns-clause-target c = under_way (marks_with (move_logged ∷ []) 2 (old_row ∷ []) (new_row ∷ [])) move_logged (site_b ∷ site_a ∷ []) in_log (done_at_target, (done_at_source (old_row ∷ []) tt ((λ r. inl refl), tt), tt))
    ((λ here apart. absurd (apart (inr (inl refl)))), ((λ here apart. absurd (apart (inl refl))), tt))

pub returns-clause-site_away : goal.returns-clause-site_away
returns-clause-site_away c = under_way (record (marks_with (move_logged ∷ []) 2 (plain_row ∷ []) (local_row 5 9 1 Online Plain ∷ [])) { away = away_of ((site_b, Detached) ∷ []) }) move_logged [] in_log tt
    ((λ here apart. unborn (plain_row ∷ []) tt ((zero_not_one, plain_not_old), tt)), ((λ here apart. absurd (not_attached ((site_b, Detached) ∷ []) tt site_b refl here)), tt))

done_at_a : IsDone offline_logged site_a a_logged.locals
done_at_a = record {
  only = each_row (local_row 0 5 0 Online (Old 1) ∷ local_row 0 5 1 Offline New ∷ []) tt (λ row. IsTrue (reaches offline_logged row) → IsOld 1 row ⊎ IsNew 1 row) ((λ r. inl refl), ((λ r. inr (refl, refl)), tt));
  made = all_at (λ new. new.location ≡ site_a → HasLocal a_logged.locals (under.new_row 1 new)) (listed offline_logged.news) ((λ l. new_there), tt);
}

pub returns-clause-whole_image : goal.returns-clause-whole_image
returns-clause-whole_image c = under_way (mark_tables image_logged) offline_logged (site_a ∷ []) offline_stands (done_at_a, tt)
    ((λ here apart. absurd (apart (inl refl))), ((λ here apart. unborn (local_row 5 10 2 Online New ∷ []) tt ((two_not_one, new_not_old), tt)), tt))
