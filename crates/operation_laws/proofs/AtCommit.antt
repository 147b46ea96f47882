-- What each command of one operation brings to its commit, from what the core carries of it.
use Rattle.std.proofs.Common.{◌≡◌, refl, None, ℕ}
use Rattle.cell_world.specs.Images.{Image}
use Rattle.cell_world.specs.Plain.{Connections, with_connections}
use Rattle.cell_world.specs.Meaning.{meaning}
use Rattle.cell_world.specs.Sound.{Sound}
use Rattle.plain_model.specs.declared.commands.Command.{Command}
use Rattle.plain_model.specs.declared.commands.Command.TheVariants as command
use Rattle.plain_model.specs.JobSteps.{asked_number}
use Rattle.plain_model.specs.Legal.{IsOwnOf}
use Rattle.session_laws.specs.Core.{Stands}
use Rattle.session_laws.specs.Doing.{Live}
use Rattle.session_laws.specs.Needs.{Needs}
use Rattle.operation_laws.specs.Entries.{IsOneOperation, FollowsAtCommit}
use Rattle.plain_model.specs.Refusing.{given_token}
use Rattle.operation_laws.specs.Opening.{Opens, ends_with}
use Rattle.operation_laws.proofs.AddAtCommit.{add_at_commit, addpoint_at_commit}
use Rattle.operation_laws.proofs.MappingAtCommit.{offline_at_commit, online_at_commit, split_at_commit, merge_at_commit, delete_at_commit, move_at_commit}

pub operation_at_commit : (session : ℕ) (l : Live) (image : Image) → Sound image → Stands Needs session l image → IsOneOperation l.command → Opens (given_token l.command) l.op → (connections : Connections)
    → FollowsAtCommit session l.command image l.op connections (ends_with (with_connections (meaning image) connections) l.command)
operation_at_commit session l image sound stands one opens connections = by l.command one opens (stands.exchange connections)
  where
    by : (c : Command) → IsOneOperation c → Opens (given_token c) l.op → (asked_number c ≡ None → IsOwnOf (with_connections (meaning image) connections) c None image l.op)
        → FollowsAtCommit session c image l.op connections (ends_with (with_connections (meaning image) connections) c)
    by (command.Offline name key token) one opens own = offline_at_commit image sound l.op stands.logged name key connections session token (own refl) opens
    by (command.Add name low high location) one opens own = add_at_commit image sound l.op stands.logged name low high location connections (own refl) session
    by (command.Addpoint name key location) one opens own = addpoint_at_commit image sound l.op stands.logged name key location connections (own refl) session
    by (command.Delete name key token) one opens own = delete_at_commit image sound l.op stands.logged name key connections session token (own refl) opens
    by (command.Online name key token) one opens own = online_at_commit image sound l.op stands.logged name key connections session token (own refl) opens
    by (command.Move name key location token) one opens own = move_at_commit image sound l.op stands.logged name key connections session location token (own refl) opens
    by (command.Split name key token) one opens own = split_at_commit image sound l.op stands.logged name key connections session token (own refl) opens
    by (command.Merge name key token) one opens own = merge_at_commit image sound l.op stands.logged name key connections session token (own refl) opens
    by other one opens own = absurd one
