-- A change of the local rows at one attached site: it keeps an image sound where it keeps the site sound, and the meaning stays.
use Rattle.std.proofs.Common.{◌≡◌, Bool, true, false, cond, refl, sym, ap, ◌∙◌, subst, Some, None, ℕ}
use Rattle.std.specs.Prelude.{IfSome, option_and_then}
use Rattle.std.specs.FinMap as map
use Rattle.cell_world.specs.Texts.{Text}
use Rattle.cell_world.specs.Keys.{same}
use Rattle.cell_world.specs.Stores.{Store, Locals, Rows, IsKeyed, local_key}
use Rattle.cell_world.specs.Images.{Image, Place, Global, Shard, global}
use Rattle.cell_world.specs.Plain.{is_attached}
use Rattle.cell_world.specs.Meaning.{meaning, row_at, owner_of, next_operation, is_attached_at}
use Rattle.cell_world.specs.Lawful.{read_tables, rows_at}
use Rattle.cell_world.specs.Sound.{Sound, LogCells, LocalCells, OnlineRows, RowCells, BatchRows, SuspectSite, IsAttachedIn, IsSuspectIn}
use Rattle.cell_world.specs.declared.cells.Away.TheVariants as away
use Rattle.cell_world.specs.declared.cells.RowName.{RowName}
use Rattle.cell_world.specs.declared.operations.Piece.{Piece}
use Rattle.cell_world.proofs.SpanLaws.{same_is}
use Rattle.image_laws.proofs.HeldLaws.{held_stays}
use Rattle.image_laws.proofs.MeaningLaws.{same_rows}
use Rattle.image_laws.specs.LocalSteps.{with_locals}

module _ (image : Image) (location : Text) (locals : Locals) where
  abbrev after : Image
  after = with_locals image location locals

  abbrev new : Store
  new = record (image.at (Shard location)) { locals = locals }

  -- each site has the row cells that it had
  pub same_rows_at : rows_at after ≡ rows_at image
  same_rows_at = λ i l. by l (same location l) refl i
    where
      by : (l : Text) (b : Bool) → same location l ≡ b → (cond b new (image.at (Shard l))).rows ≡ (image.at (Shard l)).rows
      by l true e = ap (λ x. (image.at (Shard x)).rows) (same_is location l e)
      by l false e = refl

  -- what is said of a site's local rows is said of all where it is said of the new ones there and of the old ones
  pub at_each : (P : Text → Locals → Type 0) → P location locals → (l : Text) → P l (image.at (Shard l)).locals → P l (after.at (Shard l)).locals
  at_each P here l old = by (same location l) refl
    where
      by : (b : Bool) → same location l ≡ b → P l (cond b new (image.at (Shard l))).locals
      by true e = subst (λ x. P x locals) (same_is location l e) here
      by false e = old

  module _ (here : IsAttachedIn image location) where
    row_stays : (row : RowName) → row_at after row ≡ row_at image row
    row_stays row = ap (λ (rows : Text → Rows). option_and_then (λ (p : Piece). cond (is_attached_at image.locations (global image).away p.location) (map.get (rows p.location) row) None) (owner_of image row.map row.key)) same_rows_at

    -- The meaning stays.
    pub local_meaning : meaning after ≡ meaning image
    local_meaning = λ i. record (meaning image) { rows = same_rows after image row_stays i; held = λ l. held_stays image location new here l i }

    not_suspect : map.get (global image).away location ≡ Some away.Suspect → ⊥
    not_suspect e = let off : is_attached (map.get (global image).away location) ≡ false = ap is_attached e in let on : is_attached (map.get (global image).away location) ≡ true = here.attached in absurd (cc)

    module _ (sound : Sound image) (keyed : (k : Text × (Text × ℕ)) → IfSome (map.get locals k) (λ row. local_key row ≡ k))
        (cells : LocalCells (global image).mappings (global image).log (next_operation image) location locals)
        (online : OnlineRows (global image).maps (owner_of image) (global image).log location locals) where
      keep_keyed : (place : Place) → IsKeyed (after.at place)
      keep_keyed Global = sound.keyed Global
      keep_keyed (Shard l) = by (same location l)
        where
          there : IsKeyed new
          there = let h = sound.keyed (Shard location) in record { mappings = h.mappings; log = h.log; jobs = h.jobs; locals = keyed }

          by : (b : Bool) → IsKeyed (cond b new (image.at (Shard l)))
          by true = there
          by false = sound.keyed (Shard l)

      -- An image stays sound.
      pub local_sound : Sound after
      local_sound = record {
        keyed = keep_keyed;
        globals = sound.globals;
        logged = subst (λ (rows : Text → Rows). LogCells (record (read_tables image) { rows_at = rows }) (global image).log (next_operation image)) (sym same_rows_at) sound.logged;
        locals = λ l h. at_each (λ x ls. LocalCells (global image).mappings (global image).log (next_operation image) x ls) cells l (sound.locals l h);
        online = λ l h. at_each (λ x ls. OnlineRows (global image).maps (owner_of image) (global image).log x ls) online l (sound.online l h);
        rows = λ l h. subst (λ (rows : Text → Rows). RowCells (global image).maps (global image).tables (owner_of image) (global image).jobs l (rows l)) (sym same_rows_at) (sound.rows l h);
        batches = λ job h. subst (λ (rows : Text → Rows). BatchRows job job.phase (rows job.source) (rows job.target)) (sym same_rows_at) (sound.batches job h);
        suspect = λ l h. suspect l h (same location l) refl;
        jobs = sound.jobs;
        progress = sound.progress;
        tokens = sound.tokens;
      }
        where
          suspect : (l : Text) → IsSuspectIn image l → (b : Bool) → same location l ≡ b → SuspectSite (global image).maps (global image).shards l (cond (same location l) new (image.at (Shard l))).locals
          suspect l h true e = absurd (not_suspect (ap (map.get (global image).away) (same_is location l e) ∙ h.1))
          suspect l h false e = subst (λ b. SuspectSite (global image).maps (global image).shards l (cond b new (image.at (Shard l))).locals) (sym e) (sound.suspect l h)
