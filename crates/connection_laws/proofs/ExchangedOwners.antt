-- Where news stand for olds that fit, a connection's key keeps its owner or gets one of the same site.
use Rattle.std.proofs.Common.{◌≡◌, ℕ, Bool, true, false, refl, sym, ap, ◌∙◌, subst, Some, List, true≢false}
use Rattle.std.specs.Prelude.{◌&&◌}
use Rattle.std.proofs.lemmas.Bool.{and_parts, and_from}
use Rattle.cell_world.specs.Texts.{Text}
use Rattle.cell_world.specs.Keys.{same, contains}
use Rattle.cell_world.specs.Spelled.{listed}
use Rattle.cell_world.specs.Stores.{Mappings, exchanged}
use Rattle.cell_world.specs.Images.{Image}
use Rattle.cell_world.specs.Plain.{PlainState, Connection, Connections, owner_in}
use Rattle.cell_world.specs.Meaning.{meaning}
use Rattle.cell_world.specs.Lawful.{Lawful, read_tables}
use Rattle.cell_world.specs.Sound.{Sound, IsKeyOf, AreMappings}
use Rattle.cell_world.specs.Marked.{committed_image}
use Rattle.cell_world.specs.declared.operations.Piece.{Piece}
use Rattle.cell_world.specs.declared.operations.Op.{Op}
use Rattle.cell_world.specs.declared.spans.Span.{Span}
use Rattle.cell_world.proofs.MappingLaws.{sound_mappings}
use Rattle.cell_world.proofs.SpanLaws.{same_is, same_self}
use Rattle.image_laws.specs.Fits.{IsFit}
use Rattle.image_laws.proofs.FitLaws.{fit_of_lawful, owner_was_old, owner_stays, new_owns}
use Rattle.image_laws.proofs.OwnerLaws.{owner_key, owner_stands}
use Rattle.plain_model.specs.Steps.{exchanging}
use Rattle.connections.specs.Links.{IsOwned, AreOwned}
use Rattle.connection_laws.specs.Keeping.{StaysOnline}
use Rattle.connection_laws.proofs.SameStates.{owned_same}

module _ (s : PlainState) (m : AreMappings s.maps s.mappings) (name : Text) (hull : Span) (olds news : List Piece) (fit : IsFit s.maps s.mappings name hull olds news) where
  abbrev after : Mappings
  after = exchanged s.mappings olds news

  pub exchanged_owned : (c : Connection) → StaysOnline olds news c → IsOwned s c → IsOwned (exchanging s (olds, news)) c
  exchanged_owned c stays o = by (same c.map name && contains hull c.key) refl
    where
      by : (b : Bool) → (same c.map name && contains hull c.key) ≡ b → IsOwned (exchanging s (olds, news)) c
      by true t =
          let parts = and_parts (same c.map name) (contains hull c.key) t in
          let of_map : c.map ≡ name = same_is c.map name parts.0 in
          let stands = owner_stands s.maps s.mappings m.placed c.map c.key o.piece o.owned in
          let old = owner_was_old s.maps s.mappings m name hull olds news fit o.piece c.key parts.1 (ap (λ n. owner_in s.maps s.mappings n c.key) (sym of_map) ∙ o.owned) in
          let new = fit.shaped.followed o.piece old o.online c.key stands.2 in
          let of_type = owner_key s.maps s.mappings m.placed c.map c.key o.piece o.owned in
          record {
            piece = new.piece;
            owned = ap (λ n. owner_in s.maps after n c.key) of_map ∙ new_owns s.maps s.mappings m name hull olds news fit new.piece new.among c.key (subst (λ n. IsKeyOf s.maps n c.key) of_map of_type) new.holds;
            here = new.there ∙ o.here;
            online = stays o.piece new.piece old new.among stands.1 stands.2 new.holds o.online;
            attached = o.attached;
          }
      by false f = record {
        piece = o.piece;
        owned = owner_stays s.maps s.mappings m name hull olds news fit c.map c.key
            (λ of_map inside. true≢false (sym (and_from (same c.map name) (contains hull c.key) (ap (λ n. same n name) of_map ∙ same_self name) inside) ∙ f)) ∙ o.owned;
        here = o.here;
        online = o.online;
        attached = o.attached;
      }

-- ---- the commit of an operation

module _ (image : Image) (sound : Sound image) (op : Op) (law : Lawful image op) where
  pub committed_owned : (c : Connection) → StaysOnline (listed op.olds) (listed op.news) c → IsOwned (meaning image) c → IsOwned (meaning (committed_image image op)) c
  committed_owned c stays o = owned_same (exchanging (meaning image) (listed op.olds, listed op.news)) (meaning (committed_image image op)) refl refl refl c
      (exchanged_owned (meaning image) (sound_mappings image sound) op.map op.hull (listed op.olds) (listed op.news) (fit_of_lawful (read_tables image) (sound_mappings image sound) op law) c stays o)

  pub all_committed : (connections : Connections) → AreOwned (meaning image) connections
      → ((session number : ℕ) (c : Connection) → connections session number ≡ Some c → c.live ≡ true → StaysOnline (listed op.olds) (listed op.news) c) → AreOwned (meaning (committed_image image op)) connections
  all_committed connections all stay session number c there live = committed_owned c (stay session number c there live) (all session number c there live)
