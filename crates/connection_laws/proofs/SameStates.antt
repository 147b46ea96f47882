-- Whether a connection is owned turns on maps, mappings and site states alone.
use Rattle.std.proofs.Common.{◌≡◌, ap, ◌∙◌}
use Rattle.std.specs.FinMap as map
use Rattle.cell_world.specs.Plain.{PlainState, Connection, Connections, owner_in, state_of}
use Rattle.connections.specs.Links.{IsOwned, AreOwned}

pub owned_same : (s t : PlainState) → t.maps ≡ s.maps → t.mappings ≡ s.mappings → t.away ≡ s.away → (c : Connection) → IsOwned s c → IsOwned t c
owned_same s t maps mappings away c o = record {
  piece = o.piece;
  owned = (λ i. owner_in (maps i) (mappings i) c.map c.key) ∙ o.owned;
  here = o.here;
  online = o.online;
  attached = ap (λ a. state_of (map.get a c.location)) away ∙ o.attached;
}

pub all_same : (s t : PlainState) → t.maps ≡ s.maps → t.mappings ≡ s.mappings → t.away ≡ s.away → (connections : Connections) → AreOwned s connections → AreOwned t connections
all_same s t maps mappings away connections all session number c there live = owned_same s t maps mappings away c (all session number c there live)
