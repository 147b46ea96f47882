use Rattle.std.proofs.Common.{◌≡◌, true≢false, refl, sym, ap, [], ◌∷◌, is_some, ⊎_elim}
use Rattle.cell_world.specs.declared.cells.Mark.TheVariants.{Plain, New}
use Rattle.cell_world.specs.declared.cells.Status.TheVariants.{Online}
use Rattle.world_examples.proofs.Accepting.{b_not_a}
use Rattle.world_examples.specs.Examples.{int_key, range, map_m, site_a, site_b, free_piece, local_row}
use Rattle.world_examples.specs.Sounds.{add_logged}
use Rattle.world_examples.proofs.Standing.{not_both, owner_there}
use Rattle.world_examples.proofs.ShortTables.{local_in, span_of_m, key_of_m, nothing_comes, not_coming, no_owner}
use Rattle.world_examples.proofs.sound.refused_online_rows.Goals as goal

pub returns-clause-empty_span : goal.returns-clause-empty_span
returns-clause-empty_span c = λ h. true≢false (sym (span_of_m (range 5 5) (h.spans (local_row 5 5 0 Online Plain) (local_in (local_row 5 5 0 Online Plain ∷ []) tt (local_row 5 5 0 Online Plain) refl) refl)))

pub returns-clause-elsewhere : goal.returns-clause-elsewhere
returns-clause-elsewhere c = λ h. ⊎_elim
    (λ own. no_owner (free_piece 0 5 site_b Online ∷ []) tt (int_key 1) (λ p. p.location ≡ site_a) ((λ holds l. b_not_a l), tt) own.0 own.1 own.2)
    (λ none. nothing_comes map_m (int_key 1) site_a none.1)
    (h.owned (local_row 0 5 0 Online Plain) (int_key 1) (local_in (local_row 0 5 0 Online Plain ∷ []) tt (local_row 0 5 0 Online Plain) refl) refl refl (key_of_m (int_key 1) refl))

pub returns-clause-nobody : goal.returns-clause-nobody
returns-clause-nobody c = λ h. ⊎_elim
    (λ own. no_owner [] tt (int_key 1) (λ p. p.location ≡ site_a) tt own.0 own.1 own.2)
    (λ none. nothing_comes map_m (int_key 1) site_a none.1)
    (h.owned (local_row 0 5 0 Online Plain) (int_key 1) (local_in (local_row 0 5 0 Online Plain ∷ []) tt (local_row 0 5 0 Online Plain) refl) refl refl (key_of_m (int_key 1) refl))

pub returns-clause-coming_but_owned : goal.returns-clause-coming_but_owned
returns-clause-coming_but_owned c = λ h. ⊎_elim
    (λ own. no_owner (free_piece 0 5 site_b Online ∷ []) tt (int_key 1) (λ p. p.location ≡ site_a) ((λ holds l. b_not_a l), tt) own.0 own.1 own.2)
    (λ none. let owned = owner_there (free_piece 0 5 site_b Online ∷ []) tt (((λ e f. refl), tt), tt) (free_piece 0 5 site_b Online) refl refl (int_key 1) refl refl in not_both _ (ap is_some none.0) (ap is_some owned))
    (h.owned (local_row 0 5 1 Online New) (int_key 1) (local_in (local_row 0 5 1 Online New ∷ []) tt (local_row 0 5 1 Online New) refl) refl refl (key_of_m (int_key 1) refl))

pub returns-clause-coming_elsewhere : goal.returns-clause-coming_elsewhere
returns-clause-coming_elsewhere c = λ h. ⊎_elim
    (λ own. no_owner [] tt (int_key 7) (λ p. p.location ≡ site_a) tt own.0 own.1 own.2)
    (λ none. not_coming (add_logged ∷ []) tt map_m (int_key 7) site_a ((λ some. ⊎_elim (λ new. b_not_a new.0) (λ new. new) some), tt) none.1)
    (h.owned (local_row 5 10 2 Online New) (int_key 7) (local_in (local_row 5 10 2 Online New ∷ []) tt (local_row 5 10 2 Online New) refl) refl refl (key_of_m (int_key 7) refl))
