-- What the plain step does, command by command.
use Rattle.std.proofs.Common.{◌≡◌, ℕ, true, refl, ap, Some, None, Option, is_some}
use Rattle.std.specs.FinMap as map
use Rattle.cell_world.proofs.StoreLaws.{get-insert_same}
use Rattle.cell_world.specs.Texts.{Text}
use Rattle.cell_world.specs.ByteOrder.{byte_cmp_total}
use Rattle.cell_world.specs.Stores.{Maps}
use Rattle.cell_world.specs.Plain.{PlainState, Held}
use Rattle.cell_world.specs.declared.cells.MapKind.{MapKind}
use Rattle.cell_world.specs.declared.cells.KeyType.{KeyType}
use Rattle.plain_model.specs.declared.commands.Command.TheVariants as command
use Rattle.plain_model.specs.declared.replies.Reply.TheVariants as reply
use Rattle.plain_model.specs.declared.replies.Refusal.{Refusal}
use Rattle.plain_model.specs.declared.replies.Refusal.TheVariants as refused
use Rattle.plain_model.specs.Refusing.{refusal}
use Rattle.plain_model.specs.Steps.{plain_step, refused_or_done}

-- a map that stands can't be made
pub map_refused : (held_then : Held) (s : PlainState) (i : ℕ) (name : Text) (kind : MapKind) (type : KeyType) → map.contains_key s.maps name ≡ true
    → plain_step held_then s i (command.Map name kind type) ≡ (s, reply.Refused refused.MapExists)
unfolding refusal
map_refused held_then s i name kind type h = rw h refl

-- a map that was just put stands
pub stands_after_insert : (maps : Maps) (name : Text) (v : MapKind × KeyType) → map.contains_key (map.insert maps name v) name ≡ true
stands_after_insert maps name v = ap is_some (get-insert_same byte_cmp_total maps name v)

-- a map that was just made can't be made again
pub map_twice : (held_then : Held) (s : PlainState) (i : ℕ) (name : Text) (kind other : MapKind) (type type' : KeyType) → (plain_step held_then s i (command.Map name kind type)).1 ≡ reply.Ok
    → (plain_step held_then (plain_step held_then s i (command.Map name kind type)).0 i (command.Map name other type')).1 ≡ reply.Refused refused.MapExists
map_twice held_then s i name kind other type type' = by (refusal s i (command.Map name kind type))
  where
    by : (r : Option Refusal) → (refused_or_done held_then s i (command.Map name kind type) r).1 ≡ reply.Ok
        → (plain_step held_then (refused_or_done held_then s i (command.Map name kind type) r).0 i (command.Map name other type')).1 ≡ reply.Refused refused.MapExists
    by None ok = ap (λ p. p.1) (map_refused held_then (record s { maps = map.insert s.maps name (kind, type) }) i name other type' (stands_after_insert s.maps name (kind, type)))
    by (Some r) ok = cc
