-- What a command of one operation reaches is what its operation reaches.
use Rattle.std.proofs.Common.{◌≡◌, refl, sym, ◌∙◌, Some, None, List, [], ◌∷◌, ◌++◌}
use Rattle.std.specs.List.{AllByRecursion}
use Rattle.std.proofs.lemmas.Option.{same_Some}
use Rattle.cell_world.specs.Texts.{Text}
use Rattle.cell_world.specs.Spelled.{listed}
use Rattle.cell_world.specs.Stores.{Rows}
use Rattle.cell_world.specs.Images.{Image}
use Rattle.cell_world.specs.Lawful.{HasShape, rows_at}
use Rattle.cell_world.specs.Meaning.{meaning}
use Rattle.cell_world.specs.Operations.{hull_of, reach_of}
use Rattle.cell_world.specs.Plain.{PlainState, Connections, with_connections}
use Rattle.cell_world.specs.declared.operations.Op.{Op}
use Rattle.cell_world.specs.declared.operations.Piece.{Piece}
use Rattle.cell_world.specs.declared.operations.Reach.TheVariants as reach
use Rattle.cell_world.specs.declared.spans.Span.{Span}
use Rattle.plain_model.specs.declared.commands.Command.{Command}
use Rattle.plain_model.specs.declared.commands.Command.TheVariants as command
use Rattle.plain_model.specs.JobSteps.{asked_number}
use Rattle.plain_model.specs.OnTrail.{reach_of_command, reach_of_pieces}
use Rattle.plain_model.specs.Steps.{exchange_of}
use Rattle.operation_laws.specs.Entries.{IsOneOperation}
use Rattle.operation_laws.specs.Planned.{IsOpFor}

-- olds and news of one map, with their hull
reach_pieces : (rows : Text → Rows) (olds news : List Piece) → HasShape rows olds news → (name : Text) (hull : Span) → AllByRecursion (λ p. p.map ≡ name) (olds ++ news) → hull_of (olds ++ news) ≡ Some hull → reach_of_pieces (olds ++ news) ≡ reach.Part name hull
reach_pieces rows [] (n ∷ []) s name hull of_map e = λ i. reach.Part (of_map.0 i) (same_Some _ hull e i)
reach_pieces rows (o ∷ []) [] s name hull of_map e = λ i. reach.Part (of_map.0 i) (same_Some _ hull e i)
reach_pieces rows (o ∷ []) (n ∷ []) s name hull of_map e = λ i. reach.Part (of_map.0 i) (same_Some _ hull e i)
reach_pieces rows (o ∷ []) (l ∷ h ∷ []) s name hull of_map e = λ i. reach.Part (of_map.0 i) (same_Some _ hull e i)
reach_pieces rows (l ∷ h ∷ []) (n ∷ []) s name hull of_map e = λ i. reach.Part (of_map.0 i) (same_Some _ hull e i)
reach_pieces rows olds news s name hull of_map e = absurd s

of_exchange : (s : PlainState) (c : Command) → IsOneOperation c → reach_of_command s c ≡ reach_of_pieces ((exchange_of s c).0 ++ (exchange_of s c).1)
of_exchange s (command.Offline name key token) o = refl
of_exchange s (command.Add name low high location) o = refl
of_exchange s (command.Addpoint name key location) o = refl
of_exchange s (command.Delete name key token) o = refl
of_exchange s (command.Online name key token) o = refl
of_exchange s (command.Move name key location token) o = refl
of_exchange s (command.Split name key token) o = refl
of_exchange s (command.Merge name key token) o = refl
of_exchange s other o = absurd o

-- it asks for no job
pub asks_none : (c : Command) → IsOneOperation c → asked_number c ≡ None
asks_none (command.Offline name key token) o = refl
asks_none (command.Add name low high location) o = refl
asks_none (command.Addpoint name key location) o = refl
asks_none (command.Delete name key token) o = refl
asks_none (command.Online name key token) o = refl
asks_none (command.Move name key location token) o = refl
asks_none (command.Split name key token) o = refl
asks_none (command.Merge name key token) o = refl
asks_none other o = absurd o

pub reach_is : (image : Image) (connections : Connections) (c : Command) → IsOneOperation c → (op : Op) → IsOpFor c image op → reach_of_command (with_connections (meaning image) connections) c ≡ reach_of op
reach_is image connections c one op own =
    let is = own.exchange connections (asks_none c one) in
    of_exchange (with_connections (meaning image) connections) c one
    ∙ (λ i. reach_of_pieces (sym is.0 i ++ sym is.1 i))
    ∙ reach_pieces (rows_at image) (listed op.olds) (listed op.news) own.lawful.shape op.map op.hull own.lawful.of_map own.lawful.hull
