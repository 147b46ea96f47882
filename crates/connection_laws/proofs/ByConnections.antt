-- Commands that open a connection, close one, or go by one.
use Rattle.std.proofs.Common.{◌≡◌, ℕ, true, false, refl, sym, ap, ◌∙◌, subst, Some, None, Option, option_and_then}
use Rattle.std.proofs.lemmas.Option.{same_Some}
use Rattle.std.specs.FinMap as map
use Rattle.cell_world.specs.Texts.{Text}
use Rattle.cell_world.specs.Plain.{PlainState, Connection, Connections, Held, owner, state_of, with_connections}
use Rattle.cell_world.specs.declared.operations.Piece.{Piece}
use Rattle.cell_world.specs.declared.cells.Away.{Away}
use Rattle.cell_world.specs.declared.cells.Away.TheVariants.{Detached, Suspect}
use Rattle.cell_world.specs.declared.cells.SiteState.TheVariants as site
use Rattle.cell_world.specs.declared.cells.Status.{Status}
use Rattle.cell_world.specs.declared.cells.Status.TheVariants.{Online, Offline}
use Rattle.plain_model.specs.declared.commands.Command.{Command}
use Rattle.plain_model.specs.declared.commands.Command.TheVariants as command
use Rattle.plain_model.specs.declared.replies.Reply.{Reply}
use Rattle.plain_model.specs.declared.replies.Refusal.{Refusal}
use Rattle.plain_model.specs.Refusing.{refusal, mapping_of, key_in, location_of_mapping, if_there, is_detached, is_suspect, same_status}
use Rattle.plain_model.specs.Steps.{plain_step, accepted, refused_or_done, connection_to, with_connection}
use Rattle.connections.specs.Links.{IsOwned, AreOwned}
use Rattle.connection_laws.specs.Keeping.{is_by_connection}
use Rattle.connection_laws.proofs.EndedLaws.{opened_owned, closed_owned}
use Rattle.connection_laws.proofs.SameStates.{all_same}
use Rattle.connection_laws.proofs.ShortLaws.{accepted_by}

attached_where : (a : Option Away) → is_detached a ≡ false → is_suspect a ≡ false → state_of a ≡ site.Attached
attached_where None d s = refl
attached_where (Some Detached) d s = absurd cc
attached_where (Some Suspect) d s = absurd cc

online_where : (a : Status) → same_status Offline a ≡ false → a ≡ Online
online_where Online e = refl
online_where Offline e = absurd cc

-- ---- what an accepted `open` connects

module _ (s : PlainState) (session number : ℕ) (name text : Text) (accepts : refusal s session (command.Open number name text) ≡ None) where
  pub connected_owned : (c : Connection) → connection_to name (key_in s name text) (mapping_of s name text) ≡ Some c → IsOwned s c
  connected_owned c = by (key_in s name text) (mapping_of s name text) refl refl
    where
      by : (k : Option Text) (m : Option Piece) → key_in s name text ≡ k → mapping_of s name text ≡ m → connection_to name k m ≡ Some c → IsOwned s c
      by None m e f g = absurd cc
      by (Some k) None e f g = absurd cc
      by (Some k) (Some p) e f g =
          let none = accepted_by s session (command.Open number name text) accepts in
          let not_detached : is_detached (map.get s.away p.location) ≡ false = ap (λ m. if_there (λ l. is_detached (map.get s.away l)) (location_of_mapping m)) (sym f) ∙ none.1.1.1.1.0 in
          let not_suspect : is_suspect (map.get s.away p.location) ≡ false = ap (λ m. if_there (λ l. is_suspect (map.get s.away l)) (location_of_mapping m)) (sym f) ∙ none.1.1.1.1.1.0 in
          let not_offline : same_status Offline p.status ≡ false = ap (if_there (λ (q : Piece). same_status Offline q.status)) (sym f) ∙ none.1.1.1.1.1.1.0 in
          subst (IsOwned s) (same_Some (record { map = name; key = k; location = p.location; live = true }) c g) (record {
            piece = p;
            owned = ap (option_and_then (owner s name)) (sym e) ∙ f;
            here = refl;
            online = online_where p.status not_offline;
            attached = attached_where (map.get s.away p.location) not_detached not_suspect;
          })

-- ---- the commands

module _ (s : PlainState) (connections : Connections) (all : AreOwned s connections) where
  abbrev A : PlainState
  A = with_connections s connections

  opened : (session number : ℕ) (name text : Text) → refusal A session (command.Open number name text) ≡ None → (o : Option Connection) → connection_to name (key_in A name text) (mapping_of A name text) ≡ o
      → AreOwned A (with_connection connections session number o)
  opened session number name text e None is = closed_owned A connections (all_same s A refl refl refl connections all) session number
  opened session number name text e (Some c) is = opened_owned A connections (all_same s A refl refl refl connections all) session number c (connected_owned A session number name text e c is)

  done_owned : (held : Held) (session : ℕ) (c : Command) → is_by_connection c ≡ true → refusal A session c ≡ None → AreOwned (accepted held A session c).0 (accepted held A session c).0.connections
  done_owned held session (command.Open number name text) by_it e =
      let after = with_connection connections session number (connection_to name (key_in A name text) (mapping_of A name text)) in
      all_same A (with_connections A after) refl refl refl after (opened session number name text e (connection_to name (key_in A name text) (mapping_of A name text)) refl)
  done_owned held session (command.Close number) by_it e =
      let after = with_connection connections session number None in
      all_same s (with_connections A after) refl refl refl after (closed_owned s connections all session number)
  done_owned held session (command.Put number table id bytes) by_it e = all_same s (accepted held A session (command.Put number table id bytes)).0 refl refl refl connections all
  done_owned held session (command.Get number table id) by_it e = all_same s A refl refl refl connections all
  done_owned held session (command.Del number table id) by_it e = all_same s (accepted held A session (command.Del number table id)).0 refl refl refl connections all
  done_owned held session c by_it e = absurd cc

  pub stepped_owned : (held : Held) (session : ℕ) (c : Command) → is_by_connection c ≡ true → AreOwned (plain_step held A session c).0 (plain_step held A session c).0.connections
  stepped_owned held session c by_it = by (refusal A session c) refl
    where
      by : (r : Option Refusal) → refusal A session c ≡ r → AreOwned (refused_or_done held A session c r).0 (refused_or_done held A session c r).0.connections
      by (Some r) e = all_same s A refl refl refl connections all
      by None e = done_owned held session c by_it e

-- So connections are owned after its step too.
pub by_connection_owned : (s : PlainState) (connections : Connections) → AreOwned s connections → (held : Held) (session : ℕ) (c : Command) → is_by_connection c ≡ true
    → (t : PlainState) (after : Connections) (r : Reply) → plain_step held (with_connections s connections) session c ≡ (with_connections t after, r) → AreOwned t after
by_connection_owned s connections all held session c by_it t after r step =
    all_same (with_connections t after) t refl refl refl after
    (subst (λ (x : PlainState × Reply). AreOwned x.0 x.0.connections) step (stepped_owned s connections all held session c by_it))
