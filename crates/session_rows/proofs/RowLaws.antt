-- What a row that is put, got or deleted by a live connection is to an image: at the connection's site, and in the plain state.
use Rattle.std.proofs.Common.{◌≡◌, ℕ, true, cond, Option, Some, None, refl, sym, ap, ◌∙◌, subst}
use Rattle.std.specs.Prelude.{IsTrue, option_and_then}
use Rattle.std.proofs.lemmas.Bool.{and_from}
use Rattle.std.specs.FinMap as map
use Rattle.cell_world.specs.Texts.{Text}
use Rattle.cell_world.specs.Images.{Image, Shard, global, with_store}
use Rattle.cell_world.specs.Keys.{is_among}
use Rattle.cell_world.specs.Lawful.{Lawful}
use Rattle.cell_world.specs.Meaning.{meaning, is_attached_at}
use Rattle.cell_world.specs.Plain.{PlainState, Connection, Connections, Held, is_attached, state_of, with_connections}
use Rattle.cell_world.specs.Sound.{Sound, HasTable, IsAttachedIn}
use Rattle.cell_world.specs.Stores.{put, delete}
use Rattle.cell_world.specs.declared.cells.Away.{Away}
use Rattle.cell_world.specs.declared.cells.Away.TheVariants as away
use Rattle.cell_world.specs.declared.cells.Cell.TheVariants as cell
use Rattle.cell_world.specs.declared.cells.CellKey.TheVariants as at
use Rattle.cell_world.specs.declared.cells.SiteState.TheVariants as site
use Rattle.cell_world.specs.declared.operations.Op.{Op}
use Rattle.cell_world.specs.declared.operations.Piece.{Piece}
use Rattle.cell_world.specs.declared.operations.Reach.TheVariants as reach
use Rattle.image_laws.proofs.MeaningLaws.{get-rows}
use Rattle.image_laws.proofs.RowLaws.{meaning-put_row, meaning-delete_row}
use Rattle.image_laws.proofs.RowsAtOwners as owners
use Rattle.op_log.specs.ShortChanges.{ShortChange, PutRow, DeleteRow}
use Rattle.plain_model.specs.Refusing.{refusal, row_of}
use Rattle.plain_model.specs.ShortCommands.{standing_with}
use Rattle.plain_model.specs.Steps.{plain_step, refused_or_done, accepted, with_row, without_row, row_bytes, shown_row}
use Rattle.plain_model.specs.declared.commands.Command.{Command}
use Rattle.plain_model.specs.declared.commands.Command.TheVariants as command
use Rattle.plain_model.specs.declared.replies.Reply.TheVariants as reply
use Rattle.connections.specs.Links.{IsOwned}
use Rattle.session_rows.specs.Rows.{changed_at, put_change, delete_change, DoesRow}

-- a site whose state is Attached
state_attached : (state : Option Away) → state_of state ≡ site.Attached → is_attached state ≡ true
state_attached None e = refl
state_attached (Some away.Detached) e = cc
state_attached (Some away.Suspect) e = cc

-- what the plain step does where it doesn't refuse
step_accepted : (held : Held) (s : PlainState) (session : ℕ) (c : Command) → refusal s session c ≡ None → plain_step held s session c ≡ accepted held s session c
step_accepted held s session c accepts = ap (refused_or_done held s session c) accepts

module _ (image : Image) (c : Connection) (own : IsOwned (meaning image) c) (known : IsTrue (is_among image.locations c.location)) where
  attached : IsAttachedIn image own.piece.location
  attached = subst (IsAttachedIn image) (sym own.here) (record { known = known; attached = state_attached (map.get (global image).away c.location) own.attached })

  module _ (table : Text) (id : ℕ) where
    -- the image after the row was put, or deleted
    abbrev put_there : Text → Text → Image
    put_there bytes location = with_store image (Shard location) (put (image.at (Shard location)) (cell.Row (row_of c table id) bytes))

    abbrev deleted_there : Text → Image
    deleted_there location = with_store image (Shard location) (delete (image.at (Shard location)) (at.Row (row_of c table id)))

    -- ---- the meaning

    pub put_means : (bytes : Text) → meaning (changed_at image c.location (put_change table id bytes c)) ≡ record (meaning image) { rows = map.insert (meaning image).rows (row_of c table id) bytes }
    put_means bytes = subst (λ (l : Text). meaning (put_there bytes l) ≡ record (meaning image) { rows = map.insert (meaning image).rows (row_of c table id) bytes }) own.here
        (meaning-put_row image (row_of c table id) own.piece own.owned attached bytes)

    pub delete_means : meaning (changed_at image c.location (delete_change table id c)) ≡ record (meaning image) { rows = map.remove (meaning image).rows (row_of c table id) }
    delete_means = subst (λ (l : Text). meaning (deleted_there l) ≡ record (meaning image) { rows = map.remove (meaning image).rows (row_of c table id) }) own.here
        (meaning-delete_row image (row_of c table id) own.piece own.owned attached)

    -- The plain state has the row as the site has it.
    pub row_there : map.get (meaning image).rows (row_of c table id) ≡ map.get (image.at (Shard c.location)).rows (row_of c table id)
    row_there = get-rows image (row_of c table id)
        ∙ ap (option_and_then (λ (q : Piece). cond (is_attached_at image.locations (global image).away q.location) (map.get (image.at (Shard q.location)).rows (row_of c table id)) None)) own.owned
        ∙ ap (λ b. cond b (map.get (image.at (Shard own.piece.location)).rows (row_of c table id)) None) (and_from _ _ attached.known attached.attached)
        ∙ ap (λ (l : Text). map.get (image.at (Shard l)).rows (row_of c table id)) own.here

    -- ---- what stays

    module _ (sound : Sound image) where
      pub put_sound : (bytes : Text) → HasTable (global image).tables c.map table → Sound (changed_at image c.location (put_change table id bytes c))
      put_sound bytes tabled = subst (λ (l : Text). Sound (put_there bytes l)) own.here (owners.put_sound image sound (row_of c table id) own.piece own.owned own.online attached bytes tabled)

      pub delete_sound : Sound (changed_at image c.location (delete_change table id c))
      delete_sound = subst (λ (l : Text). Sound (deleted_there l)) own.here (owners.delete_sound image sound (row_of c table id) own.piece own.owned own.online attached)

      -- Whatever operation is lawful, logged or not, stays so.
      pub put_lawful : (bytes : Text) (op : Op) → Lawful image op → Lawful (changed_at image c.location (put_change table id bytes c)) op
      put_lawful bytes op lawful = subst (λ (l : Text). Lawful (put_there bytes l) op) own.here (owners.put_lawful image sound (row_of c table id) own.piece own.owned own.online attached bytes op lawful)

      pub delete_lawful : (op : Op) → Lawful image op → Lawful (changed_at image c.location (delete_change table id c)) op
      delete_lawful op lawful = subst (λ (l : Text). Lawful (deleted_there l) op) own.here (owners.delete_lawful image sound (row_of c table id) own.piece own.owned own.online attached op lawful)

      -- Each is one of the short changes that reach nothing.
      pub put_short : (bytes : Text) → HasTable (global image).tables c.map table → ShortChange image reach.Nothing (changed_at image c.location (put_change table id bytes c))
      put_short bytes tabled = PutRow refl (row_of c table id) bytes own.piece own.owned own.online attached tabled (ap (put_there bytes) (sym own.here))

      pub delete_short : ShortChange image reach.Nothing (changed_at image c.location (delete_change table id c))
      delete_short = DeleteRow refl (row_of c table id) own.piece own.owned own.online attached (ap deleted_there (sym own.here))

      -- ---- the plain step

      module _ (session number : ℕ) where
        pub put_does : (bytes : Text) → HasTable (global image).tables c.map table
            → ((connections : Connections) → connections session number ≡ Some c → refusal (standing_with image connections) session (command.Put number table id bytes) ≡ None)
            → DoesRow session number (command.Put number table id bytes) c image (changed_at image c.location (put_change table id bytes c)) reply.Ok
        put_does bytes tabled accepts = record {
          sound = put_sound bytes tabled;
          does = λ held connections there. step_accepted held (standing_with image connections) session (command.Put number table id bytes) (accepts connections there)
              ∙ ap (λ (o : Option Connection). (record (standing_with image connections) { rows = with_row (meaning image).rows o table id bytes }, reply.Ok)) there
              ∙ ap (λ (s : PlainState). (with_connections s connections, reply.Ok)) (sym (put_means bytes));
        }

        pub delete_does : ((connections : Connections) → connections session number ≡ Some c → refusal (standing_with image connections) session (command.Del number table id) ≡ None)
            → DoesRow session number (command.Del number table id) c image (changed_at image c.location (delete_change table id c)) reply.Ok
        delete_does accepts = record {
          sound = delete_sound;
          does = λ held connections there. step_accepted held (standing_with image connections) session (command.Del number table id) (accepts connections there)
              ∙ ap (λ (o : Option Connection). (record (standing_with image connections) { rows = without_row (meaning image).rows o table id }, reply.Ok)) there
              ∙ ap (λ (s : PlainState). (with_connections s connections, reply.Ok)) (sym delete_means);
        }

-- The row that is got is the plain state's.
pub get_does : (image : Image) → Sound image → (c : Connection) (table : Text) (id : ℕ) (bytes : Text) → map.get (meaning image).rows (row_of c table id) ≡ Some bytes → (session number : ℕ)
    → ((connections : Connections) → connections session number ≡ Some c → refusal (standing_with image connections) session (command.Get number table id) ≡ None)
    → DoesRow session number (command.Get number table id) c image image (reply.Row bytes)
get_does image sound c table id bytes has session number accepts = record {
  sound = sound;
  does = λ held connections there. step_accepted held (standing_with image connections) session (command.Get number table id) (accepts connections there)
      ∙ ap (λ (o : Option Connection). (standing_with image connections, shown_row (row_bytes (meaning image).rows o table id))) there
      ∙ ap (λ (o : Option Text). (standing_with image connections, shown_row o)) has;
}
