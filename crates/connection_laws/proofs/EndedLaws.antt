-- Connections that are ended, closed and opened.
use Rattle.std.proofs.Common.{◌≡◌, inl, inr, ℕ, Bool, true, false, ◌==◌, cond, refl, sym, ap, ◌∙◌, subst, Some, None, Option, option_map, true≢false}
use Rattle.std.specs.Prelude.{◌&&◌}
use Rattle.std.proofs.lemmas.Option.{same_Some}
use Rattle.std.proofs.lemmas.Cmp.{nat_list_cmp_total}
use Rattle.cell_world.specs.Texts.{Text}
use Rattle.cell_world.specs.Keys.{same}
use Rattle.cell_world.specs.Plain.{PlainState, Connection, Connections, Held, state_of}
use Rattle.cell_world.specs.declared.cells.Away.TheVariants.{Detached}
use Rattle.cell_world.specs.declared.operations.Piece.{Piece}
use Rattle.cell_world.proofs.OrderLaws.{exact_texts}
use Rattle.cell_world.proofs.SpanLaws.{same_self}
use Rattle.cell_world.proofs.StoreLaws.{get-insert_cases}
use Rattle.plain_model.specs.Steps.{ended_where, ended_under, ended_at, with_connection, detach}
use Rattle.connections.specs.Links.{IsOwned, AreOwned}

-- What is live after an end was live before, and the test doesn't find it.
pub still_live : (test : Connection → Bool) (connections : Connections) (session number : ℕ) (c : Connection) → ended_where test connections session number ≡ Some c → c.live ≡ true → (connections session number ≡ Some c) × (test c ≡ false)
still_live test connections session number c there live = by (connections session number) refl there
  where
    ended : Connection → Bool → Connection
    ended d b = cond b (record d { live = false }) d

    found : (d : Connection) (b : Bool) → connections session number ≡ Some d → test d ≡ b → Some (ended d b) ≡ Some c → (connections session number ≡ Some c) × (test c ≡ false)
    found d true e t f = absurd (true≢false (sym live ∙ ap (λ (x : Connection). x.live) (sym (same_Some (ended d true) c f))))
    found d false e t f = (e ∙ f, ap test (sym (same_Some d c f)) ∙ t)

    by : (o : Option Connection) → connections session number ≡ o → option_map (λ d. ended d (test d)) o ≡ Some c → (connections session number ≡ Some c) × (test c ≡ false)
    by None e f = absurd cc
    by (Some d) e f = found d (test d) e refl f

pub ended_owned : (s : PlainState) (test : Connection → Bool) (connections : Connections) → AreOwned s connections → AreOwned s (ended_where test connections)
ended_owned s test connections all session number c there live = all session number c (still_live test connections session number c there live).0 live

pub under_owned : (s : PlainState) (piece : Option Piece) (connections : Connections) → AreOwned s connections → AreOwned s (ended_under piece connections)
under_owned s None connections all = all
under_owned s (Some p) connections all = ended_owned s _ connections all

pub at_owned : (s : PlainState) (location : Text) (connections : Connections) → AreOwned s connections → AreOwned s (ended_at location connections)
at_owned s location connections all = ended_owned s _ connections all

-- Those to a site have ended once it is detached.
pub detached_owned : (s : PlainState) (location : Text) (held : Held) (connections : Connections) → AreOwned s connections → AreOwned (detach s location held) (ended_at location connections)
detached_owned s location held connections all session number c there live =
    let still = still_live (λ (d : Connection). same d.location location) connections session number c there live in
    let o = all session number c still.0 live in
    record {
      piece = o.piece;
      owned = o.owned;
      here = o.here;
      online = o.online;
      attached = elim (get-insert_cases nat_list_cmp_total exact_texts s.away location Detached c.location) [
        | inl is ↦ absurd (true≢false (sym (ap (λ l. same l location) is.0 ∙ same_self location) ∙ still.1))
        | inr stays ↦ ap state_of stays ∙ o.attached
      ];
    }

pub opened_owned : (s : PlainState) (connections : Connections) → AreOwned s connections → (session number : ℕ) (c : Connection) → IsOwned s c → AreOwned s (with_connection connections session number (Some c))
opened_owned s connections all session number c owned i n d there live = by ((i == session) && (n == number)) there
  where
    by : (b : Bool) → cond b (Some c) (connections i n) ≡ Some d → IsOwned s d
    by true f = subst (IsOwned s) (same_Some c d f) owned
    by false f = all i n d f live

pub closed_owned : (s : PlainState) (connections : Connections) → AreOwned s connections → (session number : ℕ) → AreOwned s (with_connection connections session number None)
closed_owned s connections all session number i n d there live = by ((i == session) && (n == number)) there
  where
    by : (b : Bool) → cond b None (connections i n) ≡ Some d → IsOwned s d
    by true f = absurd cc
    by false f = all i n d f live
