use Rattle.std.proofs.Common.{◌≡◌, ℕ, Bool, true, false, true≢false, cond, refl, sym, ap, ◌∙◌, subst, Some, None, Option, List, [], ◌∷◌, is_some}
use Rattle.std.specs.Ordering.{nat_cmp, eq_by_cmp}
use Rattle.std.specs.FinMap as fin
use Rattle.std.proofs.lemmas.Cmp.{nat_cmp_total}
use Rattle.std.proofs.lemmas.Map.Lookups.{exact_unsigned}
use Rattle.cell_world.specs.Texts.{Text}
use Rattle.cell_world.specs.Orders.{pair_cmp}
use Rattle.cell_world.specs.Stores.{Mappings, Log, exchanged}
use Rattle.cell_world.specs.declared.cells.Status.TheVariants.{Online, Offline}
use Rattle.cell_world.specs.declared.operations.Op.{Op}
use Rattle.cell_world.specs.declared.operations.Piece.{Piece}
use Rattle.cell_world.proofs.OrderLaws.{pairs_total, exact_text_pairs, tied_is}
use Rattle.world_examples.specs.Examples.{int_key, map_m, site_a, site_b, free_piece, keyed_pieces, mappings_of, log_of}
use Rattle.world_examples.specs.Sounds.{move_logged, add_logged, global_moves}
use Rattle.world_examples.proofs.Accepting.{b_not_a}
use Rattle.world_examples.proofs.Tables.{get_of}
use Rattle.world_examples.proofs.ImageParts.{numbered_ops}
use Rattle.world_examples.proofs.stages.global_store_as_it_commits.Goals as goal

-- ---- the mappings

abbrev old : Piece
old = free_piece 0 5 site_a Offline

abbrev new : Piece
new = free_piece 0 5 site_b Offline

abbrev rest : Piece
rest = free_piece 5 9 site_a Online

abbrev mappings : Mappings
mappings = exchanged (mappings_of (old ∷ rest ∷ [])) (old ∷ []) (new ∷ [])

-- a lookup in what the mappings become
looked_up : (q : Text × Text) → fin.get mappings q ≡ cond (eq_by_cmp pair_cmp q (map_m, int_key 0)) (Some new) (cond (eq_by_cmp pair_cmp q (map_m, int_key 0)) None (fin.find pair_cmp q (keyed_pieces (old ∷ rest ∷ []))))
looked_up q = fin.get-insert pairs_total (fin.remove (mappings_of (old ∷ rest ∷ [])) (map_m, int_key 0)) (map_m, int_key 0) new q
    ∙ ap (cond (eq_by_cmp pair_cmp q (map_m, int_key 0)) (Some new)) (fin.get-remove pairs_total (mappings_of (old ∷ rest ∷ [])) (map_m, int_key 0) q ∙ ap (cond (eq_by_cmp pair_cmp q (map_m, int_key 0)) None) (get_of pair_cmp (keyed_pieces (old ∷ rest ∷ [])) tt q))

by : (q : Text × Text) (b : Bool) → cond b (Some new) (fin.find pair_cmp q (keyed_pieces (rest ∷ []))) ≡ cond b (Some new) (cond b None (cond b (Some old) (fin.find pair_cmp q (keyed_pieces (rest ∷ [])))))
by q true = refl
by q false = refl

mappings_after : mappings_of (new ∷ rest ∷ []) ≡ mappings
mappings_after = fin.same_map pairs_total exact_text_pairs _ _ (λ q. get_of pair_cmp (keyed_pieces (new ∷ rest ∷ [])) tt q ∙ by q (eq_by_cmp pair_cmp q (map_m, int_key 0)) ∙ sym (looked_up q))

-- ---- the log

abbrev ops : List Op
ops = move_logged ∷ add_logged ∷ []

abbrev log : Log
log = fin.remove (log_of ops) 1

-- a lookup in what the log becomes
logged : (q : ℕ) → fin.get log q ≡ cond (eq_by_cmp nat_cmp q 1) None (fin.find nat_cmp q (numbered_ops ops))
logged q = fin.get-remove nat_cmp_total (log_of ops) 1 q ∙ ap (cond (eq_by_cmp nat_cmp q 1) None) (get_of nat_cmp (numbered_ops ops) tt q)

other : (q : ℕ) (b : Bool) → eq_by_cmp nat_cmp q 1 ≡ b → fin.find nat_cmp q (numbered_ops (add_logged ∷ [])) ≡ cond b None (cond b (Some move_logged) (fin.find nat_cmp q (numbered_ops (add_logged ∷ []))))
other q true t = subst (λ p. fin.find nat_cmp p (numbered_ops (add_logged ∷ [])) ≡ None) (sym (tied_is exact_unsigned q 1 t)) refl
other q false t = refl

log_after : log_of (add_logged ∷ []) ≡ log
log_after = fin.same_map nat_cmp_total exact_unsigned _ _ (λ q. get_of nat_cmp (numbered_ops (add_logged ∷ [])) tt q ∙ other q (eq_by_cmp nat_cmp q 1) refl ∙ sym (logged q))

-- the log row of the operation is gone
gone : fin.get (fin.remove (log_of (move_logged ∷ [])) 1) 1 ≡ None
gone = fin.get-remove nat_cmp_total (log_of (move_logged ∷ [])) 1 1

-- ---- the store

abbrev place_in : Option Piece → Text
place_in None = []
place_in (Some p) = p.location

pub returns-clause-accepted : goal.returns-clause-accepted
returns-clause-accepted c = ap (λ m. record (global_moves ops) { mappings = m; log = log_of (add_logged ∷ []) }) mappings_after ∙ ap (λ l. record (global_moves ops) { mappings = mappings; log = l }) log_after

pub returns-clause-not_replaced : goal.returns-clause-not_replaced
returns-clause-not_replaced c = λ h. b_not_a (ap place_in (sym (looked_up (map_m, int_key 0)) ∙ sym (ap (λ s. fin.get s.mappings (map_m, int_key 0)) h) ∙ get_of pair_cmp (keyed_pieces (old ∷ rest ∷ [])) tt (map_m, int_key 0)))

pub returns-clause-one_more_changed : goal.returns-clause-one_more_changed
returns-clause-one_more_changed c = λ h. true≢false (sym (ap is_some (looked_up (map_m, int_key 5))) ∙ ap is_some (sym (ap (λ s. fin.get s.mappings (map_m, int_key 5)) h)) ∙ ap is_some (get_of pair_cmp (keyed_pieces (new ∷ [])) tt (map_m, int_key 5)))

pub returns-clause-log_row_left : goal.returns-clause-log_row_left
returns-clause-log_row_left c = λ h. true≢false (sym (ap is_some (get_of nat_cmp (numbered_ops (move_logged ∷ [])) tt 1)) ∙ ap (λ s. is_some (fin.get s.log 1)) h ∙ ap is_some gone)

pub returns-clause-other_log_row_gone : goal.returns-clause-other_log_row_gone
returns-clause-other_log_row_gone c = λ h. true≢false (sym (ap is_some (logged 2)) ∙ sym (ap (λ s. is_some (fin.get s.log 2)) h) ∙ ap is_some (get_of nat_cmp (numbered_ops []) tt 2))

pub returns-clause-counter : goal.returns-clause-counter
returns-clause-counter c = λ h. true≢false (sym (ap (λ s. is_some s.counter) h))
