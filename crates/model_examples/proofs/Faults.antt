-- What the plain step leaves, whether the command is refused or done.
use Rattle.std.proofs.Common.{◌≡◌, ℕ, Bool, true, false, cond, refl, Some, None, Option, [], ◌∷◌, ◌&&◌, ap}
use Rattle.std.specs.Prelude.{◌==◌, codes}
use Rattle.cell_world.specs.KeyForms.{normal_of}
use Rattle.cell_world.specs.Orders.{pair_cmp}
use Rattle.cell_world.specs.Plain.{PlainState, Held, Connection, Connections}
use Rattle.cell_world.specs.declared.cells.Status.TheVariants.{Online}
use Rattle.plain_model.specs.declared.commands.Command.{Command}
use Rattle.plain_model.specs.declared.replies.Refusal.{Refusal}
use Rattle.plain_model.specs.JobSteps.{with_ended}
use Rattle.plain_model.specs.Refusing.{refusal, mapping_of, if_there}
use Rattle.plain_model.specs.Steps.{plain_step, refused_or_done, accepted, ended_under}
use Rattle.plain_model.specs.Worked.{small_key, small_range, mapping_over}
use Rattle.model_examples.specs.Values.{connected_state, one_connection, fresh_state, fresh_connected}
use Rattle.world_examples.specs.Examples.{map_m, site_a, keyed_pieces, job_piece}
use Rattle.model_examples.proofs.Lookups.{entries_of}
use Rattle.model_examples.proofs.JobStates.{m_stands}

-- what an accepted command leaves is left by a refused one too
pub keeps : {X : Type 0} (part : PlainState → X) (held_then : Held) (s : PlainState) (i : ℕ) (c : Command) → part (accepted held_then s i c).0 ≡ part s → part (plain_step held_then s i c).0 ≡ part s
keeps {X} part held_then s i c kept = by (refusal s i c)
  where
    by : (r : Option Refusal) → part (refused_or_done held_then s i c r).0 ≡ part s
    by None = kept
    by (Some r) = refl

-- ---- the connection

-- connection 1 of session 1 is live
abbrev pub is_live : PlainState → Bool
is_live s = if_there (λ (c : Connection). c.live) (s.connections 1 1)

pub owner_of_5 : (live : Bool) → mapping_of (connected_state live) map_m (codes "5") ≡ Some (mapping_over (small_range 0 10) Online)
unfolding normal_of
owner_of_5 live = rw (m_stands, m_stands, entries_of pair_cmp (keyed_pieces (mapping_over (small_range 0 10) Online ∷ [])) tt) refl

-- the connection of the mapping is ended
pub ends_connections : ended_under (Some (mapping_over (small_range 0 10) Online)) (one_connection true) ≡ one_connection false
ends_connections i session number = by ((session == 1) && (number == 1)) i
  where
    connection : Bool → Connection
    connection live = record { map = map_m; key = small_key 5; location = site_a; live = live }

    by : (b : Bool) → ended_under (Some (mapping_over (small_range 0 10) Online)) (λ session number. cond b (Some (connection true)) None) 1 1 ≡ cond b (Some (connection false)) None
    by true = refl
    by false = refl

pub ends_it : with_ended (connected_state true) (Some (mapping_over (small_range 0 10) Online)) ≡ connected_state false
ends_it = ap (λ (connections : Connections). record (connected_state true) { connections = connections }) ends_connections

-- and so under the job's mapping of these keys
pub ends_in_the_job : with_ended (fresh_connected true) (Some (job_piece 0 10 site_a Online)) ≡ fresh_connected false
ends_in_the_job = ap (λ (connections : Connections). record fresh_state { connections = connections }) ends_connections
