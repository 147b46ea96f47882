-- Which spans a run has learnt, and at which place of its history.
use Rattle.std.specs.Prelude.{ℕ, Bool, true, false, ◌&&◌, not, nat_le, List, [], ◌∷◌, length, Option, Some, None, if◌then◌else◌, filter}
use Rattle.std.specs.List.{list_any}
use Rattle.std.specs.FinMap as map
use Rattle.cell_world.specs.Texts.{Text}
use Rattle.cell_world.specs.Keys.{same, contains, overlaps}
use Rattle.cell_world.specs.Stores.{AwaySites}
use Rattle.cell_world.specs.Plain.{PlainState, is_attached}
use Rattle.cell_world.specs.declared.operations.Piece.{Piece}
use Rattle.cell_world.specs.declared.cells.KeyType.{KeyType}
use Rattle.cell_world.specs.declared.spans.Span.{Span}
use Rattle.plain_model.specs.declared.commands.Command.{Command}
use Rattle.plain_model.specs.declared.commands.Command.TheVariants as command
use Rattle.plain_model.specs.declared.replies.Reply.{Reply}
use Rattle.plain_model.specs.declared.replies.Reply.TheVariants as reply
use Rattle.plain_model.specs.declared.replies.Refusal.TheVariants as refused
use Rattle.plain_model.specs.Refusing.{key_in, type_of_map, mapping_of}

-- a span that was learnt
pub record Learnt : Type 0 where
  pub map : Text  -- of this map
  pub type : KeyType  -- of the map's keys
  pub span : Span  -- these keys
  pub location : Text  -- the owner's then
  pub place : ℕ  -- the number of entries before the one that learnt it

-- the latest first
abbrev pub Cache : Type 0
Cache = List Learnt

-- the span is of the map, and contains the key
abbrev pub knows : Text → Text → Learnt → Bool
knows name key k = same name k.map && contains k.span key

-- The span contains the key, its location is attached, and the owner is there.
abbrev pub is_hit : AwaySites → Text → Text → Piece → Learnt → Bool
is_hit away name key piece k = knows name key k && (is_attached (map.get away k.location) && same k.location piece.location)

abbrev pub forget_key : Cache → Text → Text → Cache
forget_key cache name key = filter (λ k. not (knows name key k)) cache

abbrev pub forget_overlapping : Cache → Text → Span → Cache
forget_overlapping cache name span = filter (λ k. not (same name k.map && overlaps k.span span)) cache

abbrev pub forget_map : Cache → Text → Cache
forget_map cache name = filter (λ k. not (same name k.map)) cache

-- A cache with 1,024 spans forgets all of them before it learns another.
abbrev pub learn : Cache → Learnt → Cache
learn cache k = if nat_le 1024 (length cache) then k ∷ [] else k ∷ cache

-- An `open` that looks for the owner of a key: with a hit nothing changes; else the owner's span is learnt in place of those
-- that overlap it, and where there is no owner the span over the key is forgotten.
abbrev pub after_look : Cache → AwaySites → ℕ → Text → KeyType → Text → Option Piece → Cache
after_look cache away place name type key None = forget_key cache name key
after_look cache away place name type key (Some piece) =
    if list_any (is_hit away name key piece) cache then cache
    else learn (forget_overlapping cache name piece.span) (record { map = name; type = type; span = piece.span; location = piece.location; place = place })

-- An `open` in a map that doesn't stand, or with a word that is no key of it, looks for no owner.
abbrev pub after_open : Cache → AwaySites → ℕ → Text → Option KeyType → Option Text → Option Piece → Cache
after_open cache away place name (Some type) (Some key) piece = after_look cache away place name type key piece
after_open cache away place name (Some type) None piece = cache
after_open cache away place name None key piece = cache

-- The `open` was refused since the number is in use, or it failed, or it found no memory: it changes nothing.
abbrev pub leaves_cache : Option Reply → Bool
leaves_cache (Some (reply.Refused refused.NumberInUse)) = true
leaves_cache (Some reply.Fault) = true
leaves_cache (Some reply.Memory) = true
leaves_cache other = false

abbrev pub is_refused : Option Reply → Bool
is_refused (Some (reply.Refused r)) = true
is_refused other = false

-- the cache after an entry at this place, which was made in this state
abbrev pub cache_after : Cache → PlainState → ℕ → Command → Option Reply → Cache
cache_after cache s place (command.Open number name text) r =
    if leaves_cache r then cache else after_open cache s.away place name (type_of_map s name) (key_in s name text) (mapping_of s name text)
cache_after cache s place (command.Unmap name) r = if is_refused r then cache else forget_map cache name
cache_after cache s place other r = cache
