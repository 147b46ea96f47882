-- What the run has learnt of its first entry, and the words of a `peek`.
use Rattle.std.proofs.Common.{◌≡◌, ℕ, refl, sym, subst, Some, [], ◌∷◌, inl, inr, ap, ◌∙◌, ⊎_elim}
use Rattle.std.specs.Prelude.{codes}
use Rattle.std.specs.FinMap as fin
use Rattle.cell_world.specs.Texts.{Text}
use Rattle.cell_world.specs.ByteOrder.{byte_cmp}
use Rattle.cell_world.specs.KeyForms.{normal_of}
use Rattle.cell_world.specs.Lists.{IsOneOf}
use Rattle.cell_world.specs.Orders.{pair_cmp}
use Rattle.cell_world.specs.declared.cells.Away.{Away}
use Rattle.cell_world.specs.declared.cells.KeyType.TheVariants.{Int}
use Rattle.cell_world.specs.declared.cells.Status.TheVariants.{Online}
use Rattle.plain_model.specs.Caches.{Cache, Learnt, cache_after, forget_key}
use Rattle.plain_model.specs.declared.commands.Command.{Command}
use Rattle.plain_model.specs.declared.commands.Command.TheVariants as command
use Rattle.plain_model.specs.declared.replies.Refusal.TheVariants as refused
use Rattle.plain_model.specs.declared.replies.Reply.TheVariants as reply
use Rattle.plain_model.specs.Follows.{cache_of, Drops}
use Rattle.plain_model.specs.Worked.{small_key, small_range, mapping_over}
use Rattle.model_examples.specs.Values.{answered, made, state_with_jobs, finished_state, owned_state, learnt, open_5, opened_past}
use Rattle.world_examples.specs.Examples.{map_m, site_b, site_a, keyed_pieces}
use Rattle.model_examples.proofs.Lookups.{entries_of}
use Rattle.model_examples.proofs.JobStates.{m_stands}

pub opens : (place : ℕ) → cache_after [] owned_state place open_5 (Some (reply.At site_a)) ≡ learnt 0 10 place ∷ []
unfolding normal_of
opens place = rw (m_stands, m_stands, entries_of pair_cmp (keyed_pieces (mapping_over (small_range 0 10) Online ∷ [])) tt) refl

pub opens_offline : (place : ℕ) → cache_after [] owned_state place open_5 (Some (reply.Refused refused.Offline)) ≡ learnt 0 10 place ∷ []
unfolding normal_of
opens_offline place = rw (m_stands, m_stands, entries_of pair_cmp (keyed_pieces (mapping_over (small_range 0 10) Online ∷ [])) tt) refl

pub opens_by_no_key : cache_after (learnt 0 10 1 ∷ []) owned_state 3 (command.Open 1 map_m (codes "x")) (Some (reply.Refused refused.BadKey)) ≡ learnt 0 10 1 ∷ []
unfolding normal_of
opens_by_no_key = rw m_stands refl

-- the span of the first entry is known
pub is_known : IsOneOf (cache_of opened_past) (learnt 0 10 0)
is_known = subst (λ (cache : Cache). IsOneOf cache (learnt 0 10 0)) (sym (opens 0)) (inl refl)

-- and no other
pub only_known : (k : Learnt) → IsOneOf (cache_of opened_past) k → learnt 0 10 0 ≡ k
only_known k one = ⊎_elim (λ e. e) (λ none. absurd none) (subst (λ (cache : Cache). IsOneOf cache k) (opens 0) one)

-- where the owner is lost the span is forgotten, and where it moved another is learnt in its place
loses : (cache : Cache) (place : ℕ) → cache_after cache (state_with_jobs [] []) place open_5 (Some (reply.Refused refused.NoMapping)) ≡ forget_key cache map_m (small_key 5)
unfolding normal_of
loses cache place = rw (m_stands, m_stands, entries_of pair_cmp (keyed_pieces []) tt) refl

pub forgets : cache_of (made (answered 1 open_5 (reply.Refused refused.NoMapping)) (state_with_jobs [] []) ∷ opened_past) ≡ []
forgets = loses (cache_of opened_past) 1 ∙ ap (λ (cache : Cache). forget_key cache map_m (small_key 5)) (opens 0)

-- the span at the other site
abbrev pub moved : Learnt
moved = record (learnt 0 10 1) { location = site_b }

replaces : (cache : Cache) → cache ≡ learnt 0 10 0 ∷ [] → cache_after cache finished_state 1 open_5 (Some (reply.At site_b)) ≡ moved ∷ []
unfolding normal_of
replaces cache is = rw (is, m_stands, m_stands, entries_of pair_cmp (keyed_pieces (record (mapping_over (small_range 0 10) Online) { location = site_b } ∷ [])) tt, fin.get-empty {X = Away} byte_cmp site_a) refl

pub replaced : (session : ℕ) → cache_of (made (answered session open_5 (reply.At site_b)) finished_state ∷ opened_past) ≡ moved ∷ []
replaced session = replaces (cache_of opened_past) (opens 0)

-- each of the three ways to drop it
pub drops_lost : Drops (made (answered 1 open_5 (reply.Refused refused.NoMapping)) (state_with_jobs [] [])) opened_past (learnt 0 10 0)
drops_lost = inl (is_known, λ still. subst (λ (cache : Cache). IsOneOf cache (learnt 0 10 0)) forgets still)

pub drops_replaced : Drops (made (answered 1 open_5 (reply.At site_b)) finished_state) opened_past (learnt 0 10 0)
drops_replaced = inr (inl (moved, subst (λ (cache : Cache). IsOneOf cache moved) (sym (replaced 1)) (inl refl), refl, refl, refl))

-- ---- the words of a `peek`

abbrev pub name_of : Command → Text
name_of (command.Peek name text) = name
name_of other = []

abbrev pub word_of : Command → Text
word_of (command.Peek name text) = text
word_of other = []

pub key_5 : normal_of Int (codes "5") ≡ Some (small_key 5)
unfolding normal_of
key_5 = refl

pub key_7 : normal_of Int (codes "7") ≡ Some (small_key 7)
unfolding normal_of
key_7 = refl

pub key_10 : normal_of Int (codes "10") ≡ Some (small_key 10)
unfolding normal_of
key_10 = refl
