-- A `close` without a connection, and a `map` on any state without maps.
use Rattle.std.proofs.Common.{◌≡◌, refl, None}
use Rattle.std.specs.FinMap as fin
use Rattle.cell_world.specs.Plain.{PlainState, Held}
use Rattle.plain_model.specs.declared.commands.Command.TheVariants as command
use Rattle.plain_model.specs.declared.replies.Reply.TheVariants as reply
use Rattle.plain_model.specs.declared.replies.Refusal.TheVariants as refused
use Rattle.plain_model.specs.Refusing.{refusal}
use Rattle.plain_model.specs.Steps.{plain_step}
use Rattle.model_examples.specs.Values.{make_map, with_map}
use Rattle.world_examples.specs.Examples.{map_m}

pub not_open : (held_then : Held) (s : PlainState) → s.connections 1 1 ≡ None → plain_step held_then s 1 (command.Close 1) ≡ (s, reply.Refused refused.NoConnection)
unfolding refusal
not_open held_then s none = rw none refl

pub makes_first : (held_then : Held) (s : PlainState) → fin.get s.maps map_m ≡ None → fin.len s.maps ≡ 0 → plain_step held_then s 1 (make_map map_m) ≡ (with_map s map_m, reply.Ok)
unfolding refusal
makes_first held_then s none few = rw (none, few) refl
