-- What each short change makes of a sound image, where the command table accepts its command.
use Rattle.std.proofs.Common.{◌≡◌, Bool, true, false, ◌&&◌, List, [], ◌∷◌, Option, None, is_some, refl, sym, ap, ◌∙◌, subst}
use Rattle.std.specs.Prelude.{IsSome}
use Rattle.std.specs.FinMap as map
use Rattle.std.specs.List.{list_any}
use Rattle.std.proofs.lemmas.Cmp.{nat_cmp_total}
use Rattle.std.proofs.lemmas.Map.Lookups.{exact_unsigned}
use Rattle.cell_world.specs.Texts.{Text}
use Rattle.cell_world.specs.Keys.{same, is_among}
use Rattle.cell_world.specs.Lists.{IsOneOf}
use Rattle.cell_world.specs.Members.{members}
use Rattle.cell_world.specs.Orders.{pair_cmp}
use Rattle.cell_world.specs.Stores.{changed, piece_key}
use Rattle.cell_world.specs.Images.{Image, Global, global, with_store}
use Rattle.cell_world.specs.Meaning.{meaning, next_operation}
use Rattle.cell_world.specs.Plain.{PlainState, nobody, with_connections}
use Rattle.cell_world.specs.Sound.{Sound, HasShard, HasTable, HasPiece, HasJob, IsAttachedIn}
use Rattle.cell_world.specs.declared.cells.Cell.TheVariants as cell
use Rattle.cell_world.specs.declared.cells.CellKey.TheVariants as at
use Rattle.cell_world.specs.declared.cells.MapKind.{MapKind}
use Rattle.cell_world.specs.declared.cells.KeyType.{KeyType}
use Rattle.cell_world.specs.declared.changes.Edit.{Edit}
use Rattle.cell_world.specs.declared.changes.Edit.TheVariants.{Put, Delete}
use Rattle.cell_world.specs.declared.operations.Piece.{Piece}
use Rattle.cell_world.specs.declared.operations.JobRow.{JobRow}
use Rattle.cell_world.specs.declared.operations.Reach.TheVariants as reach
use Rattle.cell_world.proofs.OrderLaws.{pairs_total, exact_text_pairs}
use Rattle.cell_world.proofs.SpanLaws.{same_self}
use Rattle.image_laws.specs.Catalogs.{without_map, unmap_edits}
use Rattle.image_laws.proofs.Lists.{any_from}
use Rattle.image_laws.proofs.CatalogChanges.{grown_serves, map_grows, shard_grows, table_grows, unmap_serves}
use Rattle.image_laws.proofs.CatalogCommits.{map_keeps_sound, meaning-put_map, shard_keeps_sound, meaning-put_shard, table_keeps_sound, meaning-put_table, unmap_keeps_sound, meaning-unmap, changed-unmap, unshard_keeps_sound, meaning-unshard}
use Rattle.global_tables.proofs.Entries.{member_there}
use Rattle.global_tables.proofs.GroupCells.{value_there}
use Rattle.op_log.specs.ShortChanges.{Catalog, Unshard}
use Rattle.plain_model.specs.declared.commands.Command.{Command}
use Rattle.plain_model.specs.declared.commands.Command.TheVariants as command
use Rattle.plain_model.specs.declared.replies.Reply.TheVariants as reply
use Rattle.plain_model.specs.declared.replies.Refusal.{Refusal}
use Rattle.plain_model.specs.Refusing.{checks, refusal}
use Rattle.plain_model.specs.ShortCommands.{standing_with}
use Rattle.map_ops.specs.Planning.{Refuses, NoneInWay, PlansChange}
use Rattle.map_ops.proofs.Checks.{NoneHolds, none_holds, of_not, none_of, never, neither, attached}
use Rattle.map_ops.proofs.MadeLater.{IsMade, planned_later}

-- ---- none of a command's refusals holds

accepted_by : (image : Image) (c : Command) → Refuses c None image → NoneHolds (checks (standing_with image nobody) 0 c)
unfolding refusal
accepted_by image c accepts = none_holds (checks (standing_with image nobody) 0 c) (accepts 0 nobody)

-- ---- a map, a shard or a table comes

module _ (image : Image) (sound : Sound image) (name : Text) (kind : MapKind) (type : KeyType) (accepts : Refuses (command.Map name kind type) None image) where
  new : map.get (global image).maps name ≡ None
  new = none_of (map.get (global image).maps name) (accepted_by image (command.Map name kind type) accepts).0

  map_made : IsMade (command.Map name kind type) reach.Nothing (Put (cell.Map name kind type) ∷ []) reply.Ok image
  map_made = record {
    changes = λ session. record {
      accepts = accepts session;
      becomes = λ connections. ap (λ (b : PlainState). (with_connections b connections, reply.Ok)) (sym (meaning-put_map image sound name kind type new));
      sound = map_keeps_sound image sound name kind type new;
      numbers = refl;
      log = refl;
    };
    short = Catalog refl _ _ _ (grown_serves image sound _ _ _ (map_grows image sound name kind type new)) refl;
  }

-- The cell of a map makes the map.
pub map_planned : (image : Image) → (name : Text) (kind : MapKind) (type : KeyType) → Refuses (command.Map name kind type) None image → PlansChange (command.Map name kind type) reach.Nothing (Put (cell.Map name kind type) ∷ []) reply.Ok image
map_planned image name kind type accepts =
    planned_later (command.Map name kind type) reach.Nothing (Put (cell.Map name kind type) ∷ []) reply.Ok image refl accepts (λ later sound same accepted clear. map_made later sound name kind type accepted)

module _ (image : Image) (sound : Sound image) (name location : Text) (accepts : Refuses (command.Shard name location) None image) where
  of_shard : IsSome (map.get (global image).maps name)
  of_shard = of_not (is_some (map.get (global image).maps name)) (accepted_by image (command.Shard name location) accepts).0

  shard_made : IsMade (command.Shard name location) reach.Nothing (Put (cell.Shard name location) ∷ []) reply.Ok image
  shard_made = record {
    changes = λ session. record {
      accepts = accepts session;
      becomes = λ connections. ap (λ (b : PlainState). (with_connections b connections, reply.Ok)) (sym (meaning-put_shard image sound name location of_shard));
      sound = shard_keeps_sound image sound name location of_shard;
      numbers = refl;
      log = refl;
    };
    short = Catalog refl _ _ _ (grown_serves image sound _ _ _ (shard_grows image sound name location of_shard)) refl;
  }

-- The cell of a shard makes the shard.
pub shard_planned : (image : Image) → (name location : Text) → Refuses (command.Shard name location) None image → PlansChange (command.Shard name location) reach.Nothing (Put (cell.Shard name location) ∷ []) reply.Ok image
shard_planned image name location accepts =
    planned_later (command.Shard name location) reach.Nothing (Put (cell.Shard name location) ∷ []) reply.Ok image refl accepts (λ later sound same accepted clear. shard_made later sound name location accepted)

module _ (image : Image) (sound : Sound image) (name table : Text) (accepts : Refuses (command.Table name table) None image) where
  of_table : IsSome (map.get (global image).maps name)
  of_table = of_not (is_some (map.get (global image).maps name)) (accepted_by image (command.Table name table) accepts).0

  table_made : IsMade (command.Table name table) reach.Nothing (Put (cell.Table name table) ∷ []) reply.Ok image
  table_made = record {
    changes = λ session. record {
      accepts = accepts session;
      becomes = λ connections. ap (λ (b : PlainState). (with_connections b connections, reply.Ok)) (sym (meaning-put_table image sound name table of_table));
      sound = table_keeps_sound image sound name table of_table;
      numbers = refl;
      log = refl;
    };
    short = Catalog refl _ _ _ (grown_serves image sound _ _ _ (table_grows image sound name table of_table)) refl;
  }

-- The cell of a table makes the table.
pub table_planned : (image : Image) → (name table : Text) → Refuses (command.Table name table) None image → PlansChange (command.Table name table) reach.Nothing (Put (cell.Table name table) ∷ []) reply.Ok image
table_planned image name table accepts =
    planned_later (command.Table name table) reach.Nothing (Put (cell.Table name table) ∷ []) reply.Ok image refl accepts (λ later sound same accepted clear. table_made later sound name table accepted)

-- ---- a map goes

module _ (image : Image) (sound : Sound image) (name : Text) (accepts : Refuses (command.Unmap name) None image) (ts : List Text) (all : (t : Text) → HasTable (global image).tables name t → IsOneOf ts t) where
  free : list_any (λ (shard : Text × Text). same name shard.0) (members (global image).shards) ≡ false
  free = (accepted_by image (command.Unmap name) accepts).1.0

  unused : (location : Text) → HasShard (global image).shards name location → ⊥
  unused location has = never (list_any (λ (shard : Text × Text). same name shard.0) (members (global image).shards)) free
      (any_from (λ (shard : Text × Text). same name shard.0) (members (global image).shards) (name, location)
      (member_there pair_cmp pairs_total exact_text_pairs (global image).shards (name, location) has) (same_self name))

  abbrev after : Image
  after = with_store image Global (changed (global image) (unmap_edits name ts))

  comes : after ≡ with_store image Global (without_map (global image) name)
  comes = ap (with_store image Global) (changed-unmap (global image) name ts all)

  unmap_made : IsMade (command.Unmap name) reach.Nothing (unmap_edits name ts) reply.Ok image
  unmap_made = record {
    changes = λ session. record {
      accepts = accepts session;
      becomes = λ connections. ap (λ (b : PlainState). (with_connections b connections, reply.Ok)) (sym (ap meaning comes ∙ meaning-unmap image sound name unused));
      sound = subst Sound (sym comes) (unmap_keeps_sound image sound name unused);
      numbers = ap next_operation comes;
      log = ap (λ (i : Image). (global i).log) comes;
    };
    short = Catalog refl _ _ _ (unmap_serves image sound name unused) comes;
  }

-- The deletes of a map and of its tables take the map away with its tables.
pub unmap_planned : (image : Image) (name : Text) → Refuses (command.Unmap name) None image → (ts : List Text) → ((t : Text) → HasTable (global image).tables name t → IsOneOf ts t)
    → PlansChange (command.Unmap name) reach.Nothing (unmap_edits name ts) reply.Ok image
unmap_planned image name accepts ts all =
    planned_later (command.Unmap name) reach.Nothing (unmap_edits name ts) reply.Ok image refl accepts
    (λ later sound same accepted clear. unmap_made later sound name accepted ts (subst (λ (s : PlainState). (t : Text) → HasTable s.tables name t → IsOneOf ts t) (sym same) all))

-- so where that is what was made, and what the refusal was found to be
pub unmap_planned_by : (image : Image) (name : Text) (ts : List Text) → ((t : Text) → HasTable (global image).tables name t → IsOneOf ts t) → (change : List Edit) → change ≡ unmap_edits name ts
    → (refused : Option Refusal) → refused ≡ None → Refuses (command.Unmap name) refused image → PlansChange (command.Unmap name) reach.Nothing change reply.Ok image
unmap_planned_by image name ts all change is refused none refuses = subst (λ (edits : List Edit). PlansChange (command.Unmap name) reach.Nothing edits reply.Ok image) (sym is)
    (unmap_planned image name (subst (λ (r : Option Refusal). Refuses (command.Unmap name) r image) none refuses) ts all)

-- ---- a shard goes

module _ (image : Image) (sound : Sound image) (name location : Text) (accepts : Refuses (command.Unshard name location) None image) where
  abbrev none : NoneHolds (checks (standing_with image nobody) 0 (command.Unshard name location))
  none = accepted_by image (command.Unshard name location) accepts

  here : IsAttachedIn image location
  here = record {
    known = of_not (is_among image.locations location) none.1.0;
    attached = attached (map.get (global image).away location) none.1.1.1.0 none.1.1.1.1.0;
  }

  abbrev on_it : Piece → Bool
  on_it p = same name p.map && same p.location location

  abbrev to_it : JobRow → Bool
  to_it j = same name j.map && same j.target location

  idle : (list_any on_it (map.values (global image).mappings) ≡ false) × (list_any to_it (map.values (global image).jobs) ≡ false)
  idle = neither (list_any on_it (map.values (global image).mappings)) (list_any to_it (map.values (global image).jobs)) none.1.1.1.1.1.0

  both_same : (a b : Text) → a ≡ name → b ≡ location → (same name a && same b location) ≡ true
  both_same a b e f = ap (λ t. same name t && same b location) e ∙ ap (λ t. same name name && same t location) f ∙ ap (λ b. b && same location location) (same_self name) ∙ same_self location

  unmapped : (p : Piece) → HasPiece (global image).mappings p → p.map ≡ name → p.location ≡ location → ⊥
  unmapped p has e f = never (list_any on_it (map.values (global image).mappings)) idle.0
      (any_from on_it (map.values (global image).mappings) p
      (value_there pairs_total piece_key (global image).mappings (sound.keyed Global).mappings exact_text_pairs (piece_key p) p has) (both_same p.map p.location e f))

  untargeted : (job : JobRow) → HasJob (global image).jobs job → job.map ≡ name → job.target ≡ location → ⊥
  untargeted job has e f = never (list_any to_it (map.values (global image).jobs)) idle.1
      (any_from to_it (map.values (global image).jobs) job
      (value_there nat_cmp_total (λ (j : JobRow). j.number) (global image).jobs (sound.keyed Global).jobs exact_unsigned job.number job has) (both_same job.map job.target e f))

  -- once no logged operation of the map has it among its sites
  unshard_made : NoneInWay image (reach.Shard name location) → IsMade (command.Unshard name location) (reach.Shard name location) (Delete (at.Shard name location) ∷ []) reply.Ok image
  unshard_made clear = record {
    changes = λ session. record {
      accepts = accepts session;
      becomes = λ connections. ap (λ (b : PlainState). (with_connections b connections, reply.Ok)) (sym (meaning-unshard image sound name location here unmapped untargeted clear));
      sound = unshard_keeps_sound image sound name location here unmapped untargeted clear;
      numbers = refl;
      log = refl;
    };
    short = Unshard name location refl here unmapped untargeted refl;
  }

-- The delete of a shard takes it away.
pub unshard_planned : (image : Image) (name location : Text) → Refuses (command.Unshard name location) None image
    → PlansChange (command.Unshard name location) (reach.Shard name location) (Delete (at.Shard name location) ∷ []) reply.Ok image
unshard_planned image name location accepts =
    planned_later (command.Unshard name location) (reach.Shard name location) (Delete (at.Shard name location) ∷ []) reply.Ok image refl accepts
    (λ later sound same accepted clear. unshard_made later sound name location accepted clear)
