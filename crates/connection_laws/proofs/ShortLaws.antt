-- A short command of maps and mappings takes no owner from a connection: a map that stands isn't made again, one with a mapping isn't unmapped, and another token is all that a mapping gets.
use Rattle.std.proofs.Common.{◌≡◌, inl, inr, ℕ, Bool, true, false, cond, refl, sym, ap, ◌∙◌, Some, None, Option, is_some, List, [], ◌∷◌, true≢false}
use Rattle.std.specs.Prelude.{option_and_then, find}
use Rattle.std.specs.FinMap as map
use Rattle.std.specs.List.{list_any}
use Rattle.std.proofs.lemmas.Cmp.{nat_list_cmp_total}
use Rattle.cell_world.specs.Texts.{Text}
use Rattle.cell_world.specs.Lists.{IsOneOf}
use Rattle.cell_world.specs.Keys.{same}
use Rattle.cell_world.specs.KeyForms.{is_normal}
use Rattle.cell_world.specs.Members.{members}
use Rattle.cell_world.specs.Orders.{pair_cmp}
use Rattle.cell_world.specs.Stores.{Maps}
use Rattle.cell_world.specs.Images.{Image}
use Rattle.cell_world.specs.Plain.{PlainState, Connection, Connections, Held, covers, owner, with_connections}
use Rattle.cell_world.specs.Meaning.{meaning}
use Rattle.cell_world.specs.Sound.{Sound, HasPiece}
use Rattle.cell_world.specs.declared.operations.Piece.{Piece}
use Rattle.cell_world.specs.declared.cells.Token.{Token}
use Rattle.cell_world.specs.declared.cells.MapKind.{MapKind}
use Rattle.cell_world.specs.declared.cells.KeyType.{KeyType}
use Rattle.cell_world.specs.declared.cells.Status.TheVariants.{Online}
use Rattle.cell_world.proofs.MappingLaws.{sound_mappings}
use Rattle.cell_world.proofs.OrderLaws.{pairs_total, exact_texts, exact_text_pairs}
use Rattle.cell_world.proofs.SpanLaws.{same_self}
use Rattle.cell_world.proofs.StoreLaws.{get-insert_cases, get-remove_cases}
use Rattle.global_tables.proofs.Entries.{member_there}
use Rattle.image_laws.proofs.Lists.{any_from}
use Rattle.image_laws.proofs.OwnerLaws.{owner_key, owner_stands}
use Rattle.image_laws.proofs.ShapeLaws.{of_one}
use Rattle.image_laws.proofs.StaysLawful.{token_fits}
use Rattle.plain_model.specs.declared.commands.Command.{Command}
use Rattle.plain_model.specs.declared.commands.Command.TheVariants as command
use Rattle.plain_model.specs.declared.replies.Reply.{Reply}
use Rattle.plain_model.specs.declared.replies.Refusal.{Refusal}
use Rattle.plain_model.specs.Refusing.{Check, checks, first_refusal, refusal, mapping_of, key_in}
use Rattle.plain_model.specs.ShortCommands.{is_short}
use Rattle.plain_model.specs.Steps.{plain_step, accepted, refused_or_done, exchanging, with_mapping, with_token}
use Rattle.connections.specs.Links.{IsOwned, AreOwned}
use Rattle.connection_laws.specs.Keeping.{AreOnShards}
use Rattle.connection_laws.proofs.SameStates.{all_same}
use Rattle.connection_laws.proofs.ExchangedOwners.{exchanged_owned}

-- what a sound image stands for is such a state
pub sound_on_shards : (image : Image) → Sound image → AreOnShards (meaning image)
sound_on_shards image sound = record { mappings = sound_mappings image sound; on_shards = sound.globals.on_shards }

-- ---- an accepted command passed each of its checks

abbrev pub NoneHolds : List Check → Type 0
NoneHolds [] = Unit {0}
NoneHolds (check ∷ more) = (check.0 ≡ false) × NoneHolds more

pub none_holds : (checks : List Check) → first_refusal checks ≡ None → NoneHolds checks
none_holds [] e = tt
none_holds (check ∷ more) e = by check.0 refl e (none_holds more)
  where
    by : (b : Bool) → check.0 ≡ b → cond b (Some check.1) (first_refusal more) ≡ None → (first_refusal more ≡ None → NoneHolds more) → (check.0 ≡ false) × NoneHolds more
    by true t f later = absurd cc
    by false t f later = (t, later f)

pub accepted_by : (s : PlainState) (session : ℕ) (c : Command) → refusal s session c ≡ None → NoneHolds (checks s session c)
unfolding refusal
accepted_by s session c e = none_holds (checks s session c) e

-- ---- the commands one by one

-- whoever is connected in the state: it turns on no connection
module _ (s : PlainState) (on : AreOnShards s) (before connections : Connections) (all : AreOwned s connections) where
  abbrev A : PlainState
  A = with_connections s before

  -- where the maps of connections stay, so do their owners
  maps_owned : (maps : Maps) → ((c : Connection) → IsOwned s c → map.get maps c.map ≡ map.get s.maps c.map) → AreOwned (record s { maps = maps }) connections
  maps_owned maps stay session number c there live =
      let o = all session number c there live in
      record {
        piece = o.piece;
        owned = ap (option_and_then (λ m. cond (is_normal m.1 c.key) (find (covers c.map c.key) (map.values s.mappings)) None)) (stay c o) ∙ o.owned;
        here = o.here;
        online = o.online;
        attached = o.attached;
      }

  -- the map of a connection stands
  map_there : (c : Connection) → IsOwned s c → is_some (map.get s.maps c.map) ≡ true
  map_there c o = let k = owner_key s.maps s.mappings on.mappings.placed c.map c.key o.piece o.owned in ap is_some k.2

  -- and has a shard
  map_used : (c : Connection) → IsOwned s c → list_any (λ (shard : Text × Text). same c.map shard.0) (members s.shards) ≡ true
  map_used c o =
      let stands = owner_stands s.maps s.mappings on.mappings.placed c.map c.key o.piece o.owned in
      any_from (λ (shard : Text × Text). same c.map shard.0) (members s.shards) (o.piece.map, o.piece.location)
      (member_there pair_cmp pairs_total exact_text_pairs s.shards (o.piece.map, o.piece.location) (on.on_shards o.piece stands.0))
      (ap (same c.map) stands.1 ∙ same_self c.map)

  mapped : (session : ℕ) (name : Text) (kind : MapKind) (type : KeyType) → refusal A session (command.Map name kind type) ≡ None → AreOwned (record s { maps = map.insert s.maps name (kind, type) }) connections
  mapped session name kind type e = maps_owned (map.insert s.maps name (kind, type)) (λ c o.
      elim (get-insert_cases nat_list_cmp_total exact_texts s.maps name (kind, type) c.map) [
        | inl is ↦ absurd (true≢false (sym (map_there c o) ∙ ap (λ n. is_some (map.get s.maps n)) is.0 ∙ (accepted_by A session (command.Map name kind type) e).0))
        | inr stays ↦ stays
      ])

  unmapped : (session : ℕ) (name : Text) → refusal A session (command.Unmap name) ≡ None → AreOwned (record s { maps = map.remove s.maps name }) connections
  unmapped session name e = maps_owned (map.remove s.maps name) (λ c o.
      elim (get-remove_cases nat_list_cmp_total exact_texts s.maps name c.map) [
        | inl is ↦ absurd (true≢false (sym (map_used c o) ∙ ap (λ n. list_any (λ (shard : Text × Text). same n shard.0) (members s.shards)) is.0 ∙ (accepted_by A session (command.Unmap name) e).1.0))
        | inr stays ↦ stays
      ])

  -- another token is all that changes
  retoken_owned : (p : Piece) (token : Option Token) → HasPiece s.mappings p → AreOwned (exchanging s (p ∷ [], with_token token p ∷ [])) connections
  retoken_owned p token has session number c there live =
      exchanged_owned s on.mappings p.map p.span (p ∷ []) (with_token token p ∷ []) (token_fits s.maps s.mappings on.mappings p token has) c
      (λ old new old_among new_among of_map old_holds new_holds. online old old_among new new_among) (all session number c there live)
    where
      online : (old : Piece) → IsOneOf (p ∷ []) old → (new : Piece) → IsOneOf (with_token token p ∷ []) new → old.status ≡ Online → new.status ≡ Online
      online = of_one (λ (o : Piece). (new : Piece) → IsOneOf (with_token token p ∷ []) new → o.status ≡ Online → new.status ≡ Online) (of_one (λ (n : Piece). p.status ≡ Online → n.status ≡ Online) (λ h. h))

  -- a mapping that a key names stands
  named_stands : (name text : Text) (p : Piece) → mapping_of A name text ≡ Some p → HasPiece s.mappings p
  named_stands name text p = by (key_in A name text)
    where
      by : (k : Option Text) → option_and_then (owner A name) k ≡ Some p → HasPiece s.mappings p
      by None e = absurd cc
      by (Some k) e = (owner_stands s.maps s.mappings on.mappings.placed name k p e).0

  token_owned : (name text : Text) (token : Option Token) → AreOwned (with_mapping A (with_token token) (mapping_of A name text)) connections
  token_owned name text token = by (mapping_of A name text) refl
    where
      by : (m : Option Piece) → mapping_of A name text ≡ m → AreOwned (with_mapping A (with_token token) m) connections
      by None e = all_same s (with_mapping A (with_token token) None) refl refl refl connections all
      by (Some p) e = all_same (exchanging s (p ∷ [], with_token token p ∷ [])) (with_mapping A (with_token token) (Some p)) refl refl refl connections (retoken_owned p token (named_stands name text p e))

  -- ---- each of them

  accepted_owned : (held : Held) (session : ℕ) (c : Command) → is_short c ≡ true → refusal A session c ≡ None → AreOwned (accepted held A session c).0 connections
  accepted_owned held session (command.Map name kind type) short e = all_same (record s { maps = map.insert s.maps name (kind, type) }) (accepted held A session (command.Map name kind type)).0 refl refl refl connections (mapped session name kind type e)
  accepted_owned held session (command.Unmap name) short e = all_same (record s { maps = map.remove s.maps name }) (accepted held A session (command.Unmap name)).0 refl refl refl connections (unmapped session name e)
  accepted_owned held session (command.Shard name location) short e = all_same s (accepted held A session (command.Shard name location)).0 refl refl refl connections all
  accepted_owned held session (command.Unshard name location) short e = all_same s (accepted held A session (command.Unshard name location)).0 refl refl refl connections all
  accepted_owned held session (command.Table name table) short e = all_same s (accepted held A session (command.Table name table)).0 refl refl refl connections all
  accepted_owned held session (command.Lock name key token) short e = token_owned name key (Some token)
  accepted_owned held session (command.Unlock name key token) short e = token_owned name key None
  accepted_owned held session (command.Find name key) short e = all_same s A refl refl refl connections all
  accepted_owned held session (command.List name) short e = all_same s A refl refl refl connections all
  accepted_owned held session (command.Shards name) short e = all_same s A refl refl refl connections all
  accepted_owned held session c short e = absurd cc

  pub stepped_owned : (held : Held) (session : ℕ) (c : Command) → is_short c ≡ true → AreOwned (plain_step held A session c).0 connections
  stepped_owned held session c short = by (refusal A session c) refl
    where
      by : (r : Option Refusal) → refusal A session c ≡ r → AreOwned (refused_or_done held A session c r).0 connections
      by (Some r) e = all_same s A refl refl refl connections all
      by None e = accepted_owned held session c short e

-- So connections stay owned through its step.
pub short_owned : (s : PlainState) → AreOnShards s → (connections : Connections) → AreOwned s connections → (held : Held) (session : ℕ) (c : Command) → is_short c ≡ true
    → (t : PlainState) (r : Reply) → plain_step held (with_connections s connections) session c ≡ (with_connections t connections, r) → AreOwned t connections
short_owned s on connections all held session c short t r step =
    all_same (plain_step held (with_connections s connections) session c).0 t
    (ap (λ (x : PlainState × Reply). x.0.maps) (sym step)) (ap (λ (x : PlainState × Reply). x.0.mappings) (sym step)) (ap (λ (x : PlainState × Reply). x.0.away) (sym step))
    connections (stepped_owned s on connections connections all held session c short)
