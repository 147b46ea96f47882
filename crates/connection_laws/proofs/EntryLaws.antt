-- Connections stay owned through the entries of short commands, and of commands by a connection.
use Rattle.std.proofs.Common.{◌≡◌, inl, inr, ℕ, true, refl, sym, ap, ◌∙◌, subst, Some, None, Option}
use Rattle.cell_world.specs.Plain.{PlainState, Connections, Held, with_connections}
use Rattle.plain_model.specs.declared.commands.Command.{Command}
use Rattle.plain_model.specs.declared.commands.Command.TheVariants as command
use Rattle.plain_model.specs.declared.history.Entry.{Entry}
use Rattle.plain_model.specs.declared.replies.Reply.{Reply}
use Rattle.plain_model.specs.declared.replies.Refusal.{Refusal}
use Rattle.plain_model.specs.Refusing.{refusal}
use Rattle.plain_model.specs.Steps.{plain_step, accepted, refused_or_done}
use Rattle.plain_model.specs.ShortCommands.{is_short}
use Rattle.plain_model.specs.Timelines.{Past}
use Rattle.plain_model.specs.Follows.{Follows}
use Rattle.connections.specs.Links.{AreOwned}
use Rattle.connection_laws.specs.Keeping.{AreOnShards, is_by_connection}
use Rattle.connection_laws.proofs.SameStates.{all_same}
use Rattle.connection_laws.proofs.ShortLaws as short
use Rattle.connection_laws.proofs.ByConnections as by_connection
use Rattle.connection_laws.proofs.EntryChanges.{Changes, IsPlain, plain_changes}

-- whoever is connected in the states: where they are the same otherwise, they own the same
pub owned_along : (s B : PlainState) (after : Connections) → with_connections B after ≡ s → (connections : Connections) → AreOwned s connections → AreOwned B connections
owned_along s B after same = all_same s B (ap (λ (x : PlainState). x.maps) same) (ap (λ (x : PlainState). x.mappings) same) (ap (λ (x : PlainState). x.away) same)

pub owned_with : (A : PlainState) (before connections : Connections) → AreOwned A connections → AreOwned (with_connections A before) connections
owned_with A before = all_same A (with_connections A before) refl refl refl

-- ---- short commands

is_plain : (c : Command) → is_short c ≡ true → IsPlain c
is_plain (command.Offline name key token) is = absurd cc
is_plain (command.Detach location) is = absurd cc
is_plain (command.Attach location) is = absurd cc
is_plain (command.Clear location) is = absurd cc
is_plain (command.Step number) is = absurd cc
is_plain (command.Run number) is = absurd cc
is_plain other is = tt

-- it connects nobody, and ends no connection
same_connected : (held : Held) (s : PlainState) (session : ℕ) (c : Command) → is_short c ≡ true → (plain_step held s session c).0.connections ≡ s.connections
same_connected held s session c is = by (refusal s session c)
  where
    done : (c : Command) → is_short c ≡ true → (accepted held s session c).0.connections ≡ s.connections
    done (command.Offline name key token) is = absurd cc
    done (command.Open number name key) is = absurd cc
    done (command.Close number) is = absurd cc
    done (command.Detach location) is = absurd cc
    done (command.Resolve location name number side) is = absurd cc
    done other is = refl

    by : (r : Option Refusal) → (refused_or_done held s session c r).0.connections ≡ s.connections
    by (Some r) = refl
    by None = done c is

module _ (past : Past) (A B : PlainState) (before after : Connections) (e : Entry) (answer : Option Reply) (is : is_short e.command ≡ true)
    (follows : Follows past (with_connections A before) e (with_connections B after) answer) where
  changed : Changes (with_connections A before) (with_connections B after) e.session e.command
  changed = plain_changes past (with_connections A before) (with_connections B after) e answer (is_plain e.command is) follows

  pub short_entry_owned : AreOnShards A → (connections : Connections) → AreOwned A connections → AreOwned B connections
  short_entry_owned on connections all = by changed
    where
      by : Changes (with_connections A before) (with_connections B after) e.session e.command → AreOwned B connections
      by (inl same) = owned_along (with_connections A before) B after same connections (owned_with A before connections all)
      by (inr made) = owned_along (plain_step made.0 (with_connections A before) e.session e.command).0 B after made.1 connections
          (short.stepped_owned A on before connections all made.0 e.session e.command is)

  pub short_entry_connects : after ≡ before
  short_entry_connects = by changed
    where
      by : Changes (with_connections A before) (with_connections B after) e.session e.command → after ≡ before
      by (inl same) = ap (λ (s : PlainState). s.connections) same
      by (inr made) = ap (λ (s : PlainState). s.connections) made.1 ∙ same_connected made.0 (with_connections A before) e.session e.command is

-- ---- commands by a connection

by_is_plain : (c : Command) → is_by_connection c ≡ true → IsPlain c
by_is_plain (command.Offline name key token) is = absurd cc
by_is_plain (command.Detach location) is = absurd cc
by_is_plain (command.Attach location) is = absurd cc
by_is_plain (command.Clear location) is = absurd cc
by_is_plain (command.Step number) is = absurd cc
by_is_plain (command.Run number) is = absurd cc
by_is_plain other is = tt

-- a state in which those who are connected are owned
abbrev OwnsIts : PlainState → Type 0
OwnsIts s = AreOwned s s.connections

pub connection_entry_owned : (past : Past) (A B : PlainState) (before after : Connections) (e : Entry) (answer : Option Reply) → is_by_connection e.command ≡ true
    → Follows past (with_connections A before) e (with_connections B after) answer → AreOwned A before → AreOwned B after
connection_entry_owned past A B before after e answer is follows all = by (plain_changes past (with_connections A before) (with_connections B after) e answer (by_is_plain e.command is) follows)
  where
    by : Changes (with_connections A before) (with_connections B after) e.session e.command → AreOwned B after
    by (inl same) = owned_along (with_connections B after) B after refl after (subst OwnsIts (sym same) (owned_with A before before all))
    by (inr made) = owned_along (with_connections B after) B after refl after (subst OwnsIts (sym made.1) (by_connection.stepped_owned A before all made.0 e.session e.command is))
