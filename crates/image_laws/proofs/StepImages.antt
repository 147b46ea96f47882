-- The local transactions of an operation, undo and settling, on images.
use Rattle.std.proofs.Common.{◌≡◌, ◌≢◌, ◌⊎◌, ℕ, ◌<◌, true, false, cond, eqb, refl, sym, ap, ◌∙◌, subst, Some, None, inl, inr}
use Rattle.std.specs.FinMap as map
use Rattle.std.proofs.lemmas.Cmp.{nat_cmp_total}
use Rattle.std.proofs.lemmas.Map.Lookups.{exact_unsigned}
use Rattle.std.proofs.lemmas.Option.{same_Some, none-some, option_and_then_some}
use Rattle.std.proofs.lemmas.Bool.Decides.{eqb_tells}
use Rattle.cell_world.specs.Texts.{Text}
use Rattle.cell_world.specs.Lists.{IsOneOf}
use Rattle.cell_world.specs.Spelled.{listed}
use Rattle.cell_world.specs.Stores.{Store, Locals, IsKeyed, local_key}
use Rattle.cell_world.specs.Images.{Image, Place, Global, Shard, global}
use Rattle.cell_world.specs.Meaning.{owner_of, next_operation}
use Rattle.cell_world.specs.Sound.{locals_at, Sound, HasLog, IsAttachedIn, AreMappings}
use Rattle.cell_world.specs.Marked.{Marked, MarkedAt, HasNoMark, IsNew}
use Rattle.cell_world.specs.declared.operations.StageName.TheVariants.{SourceDone, TargetDone}
use Rattle.cell_world.specs.declared.operations.Piece.{Piece}
use Rattle.cell_world.specs.declared.operations.Op.{Op}
use Rattle.cell_world.specs.declared.cells.LocalRow.{LocalRow}
use Rattle.cell_world.specs.declared.cells.Mark.{Mark}
use Rattle.cell_world.specs.declared.cells.Mark.TheVariants.{Plain, Old, New}
use Rattle.cell_world.proofs.KeyedLaws.{keyed-remove}
use Rattle.cell_world.specs.Sweep.{sweep, IsSwept, IsSweptPlain, marked_as}
use Rattle.cell_world.specs.UnderWay.{IsUnborn, IsDone}
use Rattle.cell_world.proofs.ListLaws.{all_from}
use Rattle.image_laws.specs.Fits.{Fits, AreLogged}
use Rattle.image_laws.specs.LocalSteps.{without_log_row, settle, settle_as, IsStepped, IsUndone, IsSettled, with_locals}
use Rattle.image_laws.proofs.CommitImages.{place_of}
use Rattle.image_laws.proofs.CommitSites.{unlogged_gives}
use Rattle.image_laws.proofs.KeptKeys.{keeps_keyed, sweep_keeps, settle_keeps}
use Rattle.image_laws.proofs.LocalImages.{local_sound}
use Rattle.image_laws.proofs.MarkingLaws.{marked_from_done}
use Rattle.image_laws.proofs.Places.{old_attached, new_attached}
use Rattle.cell_world.proofs.MappingLaws.{sound_mappings}
use Rattle.image_laws.proofs.SoundParts.{are_logged}
use Rattle.image_laws.proofs.StepLaws.{old_is_sweep, plain_is_sweep, swept_locals, swept_online, born_locals, born_online, unnamed_swept, settled_locals, settled_online}
use Rattle.image_laws.proofs.UndoLaws.{IsFree, free_cleared, free_elsewhere, unlogged_locals, unlogged_online}

module _ (image : Image) (sound : Sound image) (op : Op) (logged : HasLog (global image).log op) where
  abbrev g : Store
  g = global image

  abbrev locals : Text → Locals
  locals l = (image.at (Shard l)).locals

  pub maps_ok : AreMappings g.maps g.mappings
  maps_ok = sound_mappings image sound

  log_ok : AreLogged g.maps g.mappings g.log (next_operation image)
  log_ok = are_logged image sound

  pub fit : Fits g.maps g.mappings op
  fit = log_ok.fits op logged

  numbered : op.number < next_operation image
  numbered = log_ok.numbered op logged

  -- ---- one site

  -- The local step at a site where the operation is unborn keeps an image sound.
  pub step_sound : (l : Text) → IsAttachedIn image l → IsUnborn op.number (locals l) → (after : Locals) → IsStepped g.log op l (locals l) after → Sound (with_locals image l after)
  step_sound l here unborn after stepped =
      let middle = stepped.middle in
      let swept = stepped.swept in
      let born = stepped.born in
      let k = old_is_sweep g.log op logged in
      let free = unnamed_swept g.log op (Old op.number) (locals l) middle op.number swept (λ row has. (unborn row has).0) in
      let s = sound.locals l here in
      let s1 = swept_locals g.maps g.mappings g.log (next_operation image) op fit logged numbered l (Old op.number) k (locals l) middle swept s in
      let o1 = swept_online g.maps g.mappings g.log (next_operation image) op fit logged numbered l (owner_of image) (Old op.number) k (locals l) middle swept s (sound.online l here) in
      local_sound image l after here sound stepped.keyed
      (born_locals g.maps g.mappings g.log (next_operation image) op fit logged numbered l middle after born free s1)
      (born_online g.maps g.mappings g.log (next_operation image) op fit logged numbered l middle after born free maps_ok o1)

  -- Undo's sweep at a site keeps an image sound.
  pub undo_sound : (l : Text) → IsAttachedIn image l → (after : Locals) → IsSwept g.log op Plain (locals l) after → Sound (with_locals image l after)
  undo_sound l here after swept =
      let keyed = keeps_keyed (sweep g.log op Plain) (sweep_keeps g.log op Plain) (locals l) after swept (sound.keyed (Shard l)).locals in
      let k = plain_is_sweep g.log op in
      let s = sound.locals l here in
      local_sound image l after here sound keyed
      (swept_locals g.maps g.mappings g.log (next_operation image) op fit logged numbered l Plain k (locals l) after swept s)
      (swept_online g.maps g.mappings g.log (next_operation image) op fit logged numbered l (owner_of image) Plain k (locals l) after swept s (sound.online l here))

  -- ---- the log row goes

  abbrev unlogged : Image
  unlogged = without_log_row image op

  free_at : IsUndone image op → (l : Text) → IsAttachedIn image l → IsFree g.maps g.mappings op l (locals l)
  free_at undone l here = elim (place_of (listed op.olds) l) [
    | inl o ↦ by (subst (λ x. IsSweptPlain op (locals x)) o.2 (undone.olds o.0 o.1))
    | inr not_old ↦ elim (place_of (listed op.news) l) [
      | inl n ↦ by (subst (λ x. IsSweptPlain op (locals x)) n.2 (undone.news n.0 n.1))
      | inr not_new ↦ free_elsewhere g.maps g.mappings maps_ok g.log (next_operation image) log_ok op logged l (locals l) (sound.locals l here) (record { no_old = not_old; no_new = not_new })
    ]
  ]
    where
      by : IsSweptPlain op (locals l) → IsFree g.maps g.mappings op l (locals l)
      by clear = free_cleared g.maps g.mappings maps_ok g.log (next_operation image) log_ok op logged l (locals l) (sound.locals l here) clear

  keep_keyed : (place : Place) → IsKeyed (unlogged.at place)
  keep_keyed Global = let h = sound.keyed Global in record { mappings = h.mappings; log = keyed-remove nat_cmp_total (λ (o : Op). o.number) exact_unsigned g.log op.number h.log; jobs = h.jobs; locals = h.locals }
  keep_keyed (Shard l) = sound.keyed (Shard l)

  -- Once it is undone at all its sites its log row goes, and the image stays sound.
  pub unlogged_sound : IsUndone image op → Sound unlogged
  unlogged_sound undone = record {
    keyed = keep_keyed;
    globals = record { shards = sound.globals.shards; tables = sound.globals.tables; operations = sound.globals.operations; jobs = sound.globals.jobs; spans = sound.globals.spans; on_shards = sound.globals.on_shards; disjoint = sound.globals.disjoint };
    logged = record {
      lawful = λ other h. sound.logged.lawful other (unlogged_gives g.log op.number other.number other h).1;
      numbered = λ other h. sound.logged.numbered other (unlogged_gives g.log op.number other.number other h).1;
      hulls = λ a b h k. sound.logged.hulls a b (unlogged_gives g.log op.number a.number a h).1 (unlogged_gives g.log op.number b.number b k).1;
    };
    locals = λ l here. unlogged_locals g.maps g.mappings maps_ok g.log (next_operation image) log_ok op logged l (locals l) (sound.locals l here) (free_at undone l here);
    online = λ l here. unlogged_online g.maps g.mappings maps_ok g.log (next_operation image) log_ok op logged l (locals l) (sound.locals l here) (free_at undone l here) (sound.online l here);
    rows = sound.rows;
    batches = sound.batches;
    suspect = sound.suspect;
    jobs = sound.jobs;
    progress = sound.progress;
    tokens = sound.tokens;
  }

  -- ---- stages

  marked_at : (l : Text) → IsAttachedIn image l → IsDone op l (locals l) → MarkedAt g.log op l (locals l)
  marked_at l here done = marked_from_done g.maps g.mappings maps_ok g.log (next_operation image) log_ok op logged l (locals l) (sound.locals l here) done

  pub source_done : ((o : Piece) → IsOneOf (listed op.olds) o → IsDone op o.location (locals o.location)) → Marked image op SourceDone
  source_done olds = (logged, all_from (λ (p : Piece). MarkedAt g.log op p.location (locals p.location)) (listed op.olds) (λ o h. marked_at o.location (old_attached image op (sound.logged.lawful op logged) o h) (olds o h)))

  pub target_done : ((o : Piece) → IsOneOf (listed op.olds) o → IsDone op o.location (locals o.location)) → ((n : Piece) → IsOneOf (listed op.news) n → IsDone op n.location (locals n.location)) → Marked image op TargetDone
  target_done olds news = (logged, (source_done olds).1, all_from (λ (p : Piece). MarkedAt g.log op p.location (locals p.location)) (listed op.news) (λ n h. marked_at n.location (new_attached image op (sound.logged.lawful op logged) n h) (news n h)))

-- ---- settling

module _ (image : Image) (sound : Sound image) (p : ℕ) (out : map.get (global image).log p ≡ None) where
  -- Settling an operation that is out of the log keeps an image sound.
  pub settle_sound : (l : Text) → IsAttachedIn image l → (after : Locals) → IsSettled p (locals_at image l) after → Sound (with_locals image l after)
  settle_sound l here after settled = local_sound image l after here sound
      (keeps_keyed (settle p) (settle_keeps p) (locals_at image l) after settled (sound.keyed (Shard l)).locals)
      (settled_locals (global image).log (next_operation image) l p out (global image).mappings (locals_at image l) after settled (sound.locals l here))
      (settled_online (global image).log (next_operation image) l p out (global image).maps (owner_of image) (locals_at image l) after settled (sound.online l here))

-- and its marks are gone there
pub settled_clean : (op : Op) (before after : Locals) → IsSettled op.number before after → HasNoMark op after
settled_clean op before after settled row h = option_and_then_some (settle op.number) (map.get before (local_key row)) row (sym (settled (local_key row)) ∙ h) (λ was at e. by was was.mark refl e)
  where
    none_of : (mark : Mark) → row.mark ≡ mark → (mark ≡ Old op.number → ⊥) → (mark ≡ New → row.number ≡ op.number → ⊥) → (row.mark ≢ Old op.number) × (IsNew op.number row → ⊥)
    none_of mark m a b = (λ e. a (sym m ∙ e), λ n. b (sym m ∙ n.0) n.1)

    by : (was : LocalRow) (mark : Mark) → was.mark ≡ mark → settle_as op.number was mark ≡ Some row → (row.mark ≢ Old op.number) × (IsNew op.number row → ⊥)
    by was Plain m e = none_of Plain (ap (λ (x : LocalRow). x.mark) (sym (same_Some _ _ e)) ∙ m) (λ f. absurd (cc)) (λ f. absurd (cc))
    by was (Old q) m e = tells (eqb_tells q op.number) e
      where
        tells : ((eqb q op.number ≡ true) × (q ≡ op.number)) ⊎ ((eqb q op.number ≡ false) × (q ≢ op.number)) → cond (eqb q op.number) None (Some was) ≡ Some row → (row.mark ≢ Old op.number) × (IsNew op.number row → ⊥)
        tells (inl t) e = absurd (none-some row (ap (λ b. cond b None (Some was)) (sym t.0) ∙ e))
        tells (inr t) e = none_of (Old q) (ap (λ (x : LocalRow). x.mark) (sym (same_Some _ _ (ap (λ b. cond b None (Some was)) (sym t.0) ∙ e))) ∙ m) (λ f. t.1 (cc)) (λ f. absurd (cc))
    by was New m e = tells (eqb_tells was.number op.number) e
      where
        tells : ((eqb was.number op.number ≡ true) × (was.number ≡ op.number)) ⊎ ((eqb was.number op.number ≡ false) × (was.number ≢ op.number))
            → cond (eqb was.number op.number) (Some (marked_as Plain was)) (Some was) ≡ Some row → (row.mark ≢ Old op.number) × (IsNew op.number row → ⊥)
        tells (inl t) e = none_of Plain (ap (λ (x : LocalRow). x.mark) (sym (same_Some _ _ (ap (λ b. cond b (Some (marked_as Plain was)) (Some was)) (sym t.0) ∙ e)))) (λ f. absurd (cc)) (λ f. absurd (cc))
        tells (inr t) e =
            let is : was ≡ row = same_Some _ _ (ap (λ b. cond b (Some (marked_as Plain was)) (Some was)) (sym t.0) ∙ e) in
            none_of New (ap (λ (x : LocalRow). x.mark) (sym is) ∙ m) (λ f. absurd (cc)) (λ f n. t.1 (ap (λ (x : LocalRow). x.number) is ∙ n))
