-- What keeps it that each live connection's key is owned at its location, online, at an attached site.
use Rattle.std.proofs.Common.{◌≡◌, ℕ, Bool, true, false, ◌&&◌, ◌==◌, if◌then◌else◌, refl, ap, ◌∙◌, subst, Option, Some, None}
use Rattle.cell_world.specs.Plain.{PlainState, Connection, Connections, nobody, owner, site_state, with_connections}
use Rattle.cell_world.specs.declared.cells.SiteState.TheVariants as site
use Rattle.cell_world.specs.declared.cells.Status.TheVariants.{Online}
use Rattle.cell_world.specs.declared.operations.Piece.{Piece}
use Rattle.plain_model.specs.Steps.{ended_where, with_connection}
use Rattle.connections.specs.Links.{AreOwned, IsOwned, ended_if}

-- ---- what one connection has

-- where maps, mappings and sites are the same, so is who owns what
pub owned-same : (s t : PlainState) (c : Connection) → s.maps ≡ t.maps → s.mappings ≡ t.mappings → s.away ≡ t.away → IsOwned s c → IsOwned t c
owned-same s t c maps mappings away h = record {
  piece = h.piece;
  owned = rw (← maps, ← mappings) h.owned;
  here = h.here;
  online = h.online;
  attached = rw (← away) h.attached;
}

-- whatever connections the state has
pub owned-connections : (s : PlainState) (others : Connections) (c : Connection) → IsOwned s c → IsOwned (with_connections s others) c
owned-connections s others c h = owned-same s (with_connections s others) c refl refl refl h

-- an owned mapping at its place, online and attached, is still so: maybe as another mapping
pub record StaysOwned (s t : PlainState) (c : Connection) : Type 0 where
  pub stays : (piece : Piece) → owner s c.map c.key ≡ Some piece → piece.location ≡ c.location → piece.status ≡ Online → site_state s c.location ≡ site.Attached → (later : Piece) × (owner t c.map c.key ≡ Some later) × (later.location ≡ c.location) × (later.status ≡ Online) × (site_state t c.location ≡ site.Attached)

pub owned-stays : (s t : PlainState) (c : Connection) → StaysOwned s t c → IsOwned s c → IsOwned t c
owned-stays s t c h o =
    let later = h.stays o.piece o.owned o.here o.online o.attached in
    record { piece = later.0; owned = later.1; here = later.2; online = later.3; attached = later.4 }

-- ---- what all connections have

pub nobody_owned : (s : PlainState) → AreOwned s nobody
nobody_owned s session number c is live = cc

-- another state in which each owned connection is owned
pub owned-kept : (s t : PlainState) (connections : Connections) → ((c : Connection) → IsOwned s c → IsOwned t c) → AreOwned s connections → AreOwned t connections
owned-kept s t connections keeps are session number c is live = keeps c (are session number c is live)

-- the same, of those that stay live: the test finds the others, and they are ended
pub owned-ended_then : (s t : PlainState) (connections : Connections) (test : Connection → Bool) → ((c : Connection) → test c ≡ false → IsOwned s c → IsOwned t c) → AreOwned s connections → AreOwned t (ended_where test connections)
owned-ended_then s t connections test keeps are session number c is live = of (connections session number) (are session number) is
  where
    one : (d : Connection) (b : Bool) → test d ≡ b → ((d.live ≡ true) → IsOwned s d) → Some (if b then record d { live = false } else d) ≡ Some c → IsOwned t c
    one d true found had is = cc
    one d false found had is =
        let same : d ≡ c = cc in
        subst (λ (e : Connection). IsOwned t e) same (keeps d found (had (ap (λ (e : Connection). e.live) same ∙ live)))

    of : (o : Option Connection) → ((d : Connection) → o ≡ Some d → d.live ≡ true → IsOwned s d) → ended_if test o ≡ Some c → IsOwned t c
    of None had is = cc
    of (Some d) had is = one d (test d) refl (had d refl) is

-- connections are ended
pub owned-ended : (s : PlainState) (connections : Connections) (test : Connection → Bool) → AreOwned s connections → AreOwned s (ended_where test connections)
owned-ended s connections test are = owned-ended_then s s connections test (λ c found h. h) are

chosen_owned : (s : PlainState) (b : Bool) (x y : Option Connection) (c : Connection) → ((d : Connection) → x ≡ Some d → d.live ≡ true → IsOwned s d) → ((d : Connection) → y ≡ Some d → d.live ≡ true → IsOwned s d) → (if b then x else y) ≡ Some c → c.live ≡ true → IsOwned s c
chosen_owned s true x y c first second is live = first c is live
chosen_owned s false x y c first second is live = second c is live

-- a connection is opened, or takes the place of another
pub owned-put : (s : PlainState) (connections : Connections) (session number : ℕ) (new : Connection) → (new.live ≡ true → IsOwned s new) → AreOwned s connections → AreOwned s (with_connection connections session number (Some new))
owned-put s connections session number new owned are i n c is live =
    chosen_owned s ((i == session) && (n == number)) (Some new) (connections i n) c (λ d e l. only d e l) (are i n) is live
  where
    only : (d : Connection) → Some new ≡ Some d → d.live ≡ true → IsOwned s d
    only d e l =
        let same : new ≡ d = cc in
        subst (λ (f : Connection). IsOwned s f) same (owned (ap (λ (f : Connection). f.live) same ∙ l))

-- a connection is closed
pub owned-closed : (s : PlainState) (connections : Connections) (session number : ℕ) → AreOwned s connections → AreOwned s (with_connection connections session number None)
owned-closed s connections session number are i n c is live =
    chosen_owned s ((i == session) && (n == number)) None (connections i n) c (λ d e l. cc) (are i n) is live
