-- The command `map` on a state without maps, and states with other maps.
use Rattle.std.proofs.Common.{◌≡◌, Bool, true, false, refl, ap, ◌∙◌, Some, None, is_some}
use Rattle.std.specs.FinMap as fin
use Rattle.cell_world.specs.Texts.{Text}
use Rattle.cell_world.specs.ByteOrder.{byte_cmp, byte_cmp_total}
use Rattle.cell_world.specs.Plain.{PlainState, Held}
use Rattle.cell_world.specs.declared.cells.KeyType.{KeyType}
use Rattle.cell_world.specs.declared.cells.KeyType.TheVariants.{Int}
use Rattle.cell_world.specs.declared.cells.MapKind.{MapKind}
use Rattle.cell_world.specs.declared.cells.MapKind.TheVariants as kind
use Rattle.plain_model.specs.declared.replies.Reply.TheVariants as reply
use Rattle.plain_model.specs.declared.replies.Refusal.TheVariants as refused
use Rattle.plain_model.specs.Refusing.{refusal}
use Rattle.plain_model.specs.Steps.{plain_step}
use Rattle.plain_model.proofs.StepLaws.{map_refused, stands_after_insert}
use Rattle.model_examples.specs.Values.{make_map, empty_state, with_map}
use Rattle.world_examples.specs.Examples.{map_m, map_n}
use Rattle.model_examples.proofs.Lookups.{differ}

-- a map of this name stands
abbrev pub has_map : Text → PlainState → Bool
has_map name s = fin.contains_key s.maps name

pub has_none : (name : Text) → has_map name empty_state ≡ false
has_none name = ap is_some (fin.get-empty byte_cmp name)

pub has_it : (s : PlainState) (name : Text) → has_map name (with_map s name) ≡ true
has_it s name = stands_after_insert s.maps name (kind.Range, Int)

pub has_not_m : has_map map_m (with_map empty_state map_n) ≡ false
has_not_m = ap is_some (fin.get-insert byte_cmp_total fin.empty map_n (kind.Range, Int) map_m ∙ fin.get-empty byte_cmp map_m)

pub has_not_n : has_map map_n (with_map empty_state map_m) ≡ false
has_not_n = ap is_some (fin.get-insert byte_cmp_total fin.empty map_m (kind.Range, Int) map_n ∙ fin.get-empty byte_cmp map_n)

-- a state with the map isn't one without maps
pub m_is_more : with_map empty_state map_m ≡ empty_state → ⊥
m_is_more e = differ (has_map map_m) _ _ e (has_it empty_state map_m) (has_none map_m)

pub m_is_not_n : with_map empty_state map_m ≡ with_map empty_state map_n → ⊥
m_is_not_n e = differ (has_map map_m) _ _ e (has_it empty_state map_m) has_not_m

-- ---- the command

pub makes_m : (held_then : Held) → plain_step held_then empty_state 1 (make_map map_m) ≡ (with_map empty_state map_m, reply.Ok)
unfolding refusal
makes_m held_then = rw (fin.get-empty byte_cmp map_m, fin.len-empty byte_cmp (MapKind × KeyType)) refl

pub makes_m_once : (held_then : Held) → plain_step held_then (with_map empty_state map_m) 1 (make_map map_m) ≡ (with_map empty_state map_m, reply.Refused refused.MapExists)
makes_m_once held_then = map_refused held_then (with_map empty_state map_m) 1 map_m kind.Range Int (has_it empty_state map_m)

pub m_accepted : refusal empty_state 1 (make_map map_m) ≡ None
unfolding refusal
m_accepted = rw (fin.get-empty byte_cmp map_m, fin.len-empty byte_cmp (MapKind × KeyType)) refl

pub m_refused : refusal (with_map empty_state map_m) 1 (make_map map_m) ≡ Some refused.MapExists
unfolding refusal
m_refused = rw (has_it empty_state map_m) refl
