-- The finish of a job keeps an image sound.
use Rattle.std.proofs.Common.{◌≡◌, ◌≢◌, ◌<◌, ◌^◌, Bool, true, false, cond, refl, sym, ap, ◌∙◌, subst, Some, None, Option, inl, inr, ℕ, eqb, option_map, true≢false}
use Rattle.std.specs.Prelude.{IfSome, option_and_then}
use Rattle.std.specs.FinMap as map
use Rattle.std.proofs.lemmas.Cmp.{nat_cmp_total}
use Rattle.std.proofs.lemmas.Map.Lookups.{exact_unsigned}
use Rattle.std.proofs.lemmas.Option.{same_Some, none-some}
use Rattle.std.proofs.lemmas.Bool.{cases_Bool}
use Rattle.std.proofs.lemmas.Bool.Decides.{eqb_tells}
use Rattle.cell_world.specs.Texts.{Text}
use Rattle.cell_world.specs.Lists.{IsOneOf}
use Rattle.cell_world.specs.Spelled.{listed}
use Rattle.cell_world.specs.Stores.{Store, Mappings, Jobs, piece_key}
use Rattle.cell_world.specs.Images.{Image, Global, global}
use Rattle.cell_world.specs.Plain.{Owner}
use Rattle.cell_world.specs.Meaning.{meaning, next_job, owner_of}
use Rattle.cell_world.specs.Jobs.{Step, Replace, Finish, Stuck, TableRow, Always, UpTo, or_stuck, move_of, online_of, cursor_piece, table_row, IsBatchEnd, Gives}
use Rattle.cell_world.specs.Lawful.{Lawful, LawfulOn, read_tables, rows_at, IsOfJob, IsStepOf, job_with_token, job_of_pieces}
use Rattle.cell_world.specs.Sound.{Sound, HasPiece, HasJob, InBatch, IsBeingMoved, JobTokens, batch_high}
use Rattle.cell_world.specs.declared.cells.Token.{Token}
use Rattle.cell_world.specs.declared.cells.RowName.{RowName}
use Rattle.cell_world.specs.declared.operations.Piece.{Piece}
use Rattle.cell_world.specs.declared.operations.Op.{Op}
use Rattle.cell_world.specs.declared.operations.JobRow.{JobRow}
use Rattle.cell_world.specs.declared.operations.Phase.{Phase}
use Rattle.cell_world.specs.declared.operations.Phase.TheVariants.{Idle, Copying, Moved}
use Rattle.cell_world.proofs.StoreLaws.{get-remove_other, get-remove_same}
use Rattle.cell_world.proofs.KeyedLaws.{keyed-remove}
use Rattle.cell_world.proofs.MappingLaws.{sound_mappings}
use Rattle.image_laws.proofs.FitLaws.{fit_of_lawful}
use Rattle.image_laws.proofs.ShapeRows.{tokens_of, job_of_old}
use Rattle.plain_model.specs.JobSteps.{without_token, has_number}
use Rattle.op_log.specs.JobChanges.{IsFreed, IsAtFinish, finished_image}
use Rattle.op_log.proofs.RetokenImages.{bare, IsRetokened, retokened_sound, retokened_meaning, lawful_retokened, job_cells, job_progress}

pub freed_bare : (n : ℕ) (p : Piece) → bare (without_token n p) ≡ bare p
freed_bare n p = by (has_number n p.token)
  where
    by : (b : Bool) → bare (cond b (record p { token = None }) p) ≡ bare p
    by true = refl
    by false = refl

-- a mapping with another token, or none, stays
pub freed_other : (n : ℕ) (p : Piece) → has_number n p.token ≡ false → without_token n p ≡ p
freed_other n p e = ap (λ b. cond b (record p { token = None }) p) e

-- what is left has not this token
freed_token : (n : ℕ) (p : Piece) → has_number n (without_token n p).token ≡ false
freed_token n p = by (has_number n p.token) refl
  where
    by : (b : Bool) → has_number n p.token ≡ b → has_number n (cond b (record p { token = None }) p).token ≡ false
    by true e = refl
    by false e = e

-- at the finish the job is Idle
finish_idle : (own : Owner) (mappings : Mappings) (job : JobRow) → table_row own mappings job ≡ Always Finish → job.phase ≡ Idle
finish_idle own mappings job h = by job.phase refl
  where
    not_moving : (f : Piece → Step) → ((p : Piece) → f p ≡ Finish → ⊥) → (o : Option Piece) → or_stuck (option_map (λ p. Always (f p)) o) ≡ Always Finish → ⊥
    not_moving f never None e = absurd (cc)
    not_moving f never (Some p) e = never p (step_is e)
      where
        of_row : TableRow → Step
        of_row (Always s) = s
        of_row (UpTo s) = Stuck

        step_is : Always (f p) ≡ Always Finish → f p ≡ Finish
        step_is e = ap of_row e

    row_at : (f : Phase) → job.phase ≡ f → table_row own mappings (record job { phase = f }) ≡ Always Finish
    row_at f e = subst (λ x. table_row own mappings (record job { phase = x }) ≡ Always Finish) e h

    by : (f : Phase) → job.phase ≡ f → job.phase ≡ Idle
    by Idle e = e
    by (Copying end) e = absurd (not_moving (λ piece. move_of (record job { phase = Copying end }) piece end) (λ p f. absurd (cc)) (cursor_piece own job) (row_at (Copying end) e))
    by (Moved end) e = absurd (not_moving (λ piece. online_of (record job { phase = Moved end }) piece end) (λ p f. absurd (cc)) (cursor_piece own job) (row_at (Moved end) e))

module _ (image : Image) (sound : Sound image) (job : JobRow) (has : HasJob (global image).jobs job) (finish : IsAtFinish image job) (after : Mappings) (freed : IsFreed job.number (global image).mappings after) where
  abbrev g : Store
  g = global image

  abbrev jobs : Jobs
  jobs = map.remove g.jobs job.number

  idle : job.phase ≡ Idle
  idle = finish_idle (owner_of image) g.mappings job finish

  found : (k : Text × Text) (q : Piece) → map.get after k ≡ Some q → (p : Piece) × HasPiece g.mappings p × (q ≡ without_token job.number p) × (piece_key p ≡ k)
  found k q h = by (map.get g.mappings k) refl
    where
      by : (o : Option Piece) → map.get g.mappings k ≡ o → (p : Piece) × HasPiece g.mappings p × (q ≡ without_token job.number p) × (piece_key p ≡ k)
      by None e = absurd (none-some q (sym (ap (option_map (without_token job.number)) e) ∙ sym (freed k) ∙ h))
      by (Some p) e =
          let place : piece_key p ≡ k = subst (λ o. IfSome o (λ x. piece_key x ≡ k)) e ((sound.keyed Global).mappings k) in
          (p, ap (map.get g.mappings) place ∙ e, same_Some q (without_token job.number p) (sym h ∙ freed k ∙ ap (option_map (without_token job.number)) e), place)

  is_retokened : IsRetokened g.mappings after
  is_retokened = record {
    placed = λ k. placed_at k (map.get after k) refl;
    back = λ q h. let p = found (piece_key q) q h in (p.0, p.1, sym (ap bare p.2 ∙ freed_bare job.number p.0));
    forth = λ p h. (
      without_token job.number p,
      ap (map.get after) (ap piece_key (freed_bare job.number p)) ∙ freed (piece_key p) ∙ ap (option_map (without_token job.number)) h,
      sym (freed_bare job.number p),
    );
  }
    where
      placed_at : (k : Text × Text) (o : Option Piece) → map.get after k ≡ o → IfSome (map.get after k) (λ x. piece_key x ≡ k)
      placed_at k None e = subst (λ o. IfSome o (λ (x : Piece). piece_key x ≡ k)) (sym e) tt
      placed_at k (Some q) e = subst (λ o. IfSome o (λ (x : Piece). piece_key x ≡ k)) (sym e) (let p = found k q e in ap piece_key (p.2) ∙ ap piece_key (freed_bare job.number p.0) ∙ p.3)

  -- a mapping without the token stands on
  stays : (p : Piece) → HasPiece g.mappings p → has_number job.number p.token ≡ false → HasPiece after p
  stays p h e = freed (piece_key p) ∙ ap (option_map (without_token job.number)) h ∙ ap Some (freed_other job.number p e)

  other_number : (p : Piece) (k : ℕ) → k ≢ job.number → p.token ≡ Some (record { 0 = k }) → has_number job.number p.token ≡ false
  other_number p k ne e = ap (has_number job.number) e ∙ elim (eqb_tells k job.number) [ inl t ↦ absurd (ne t.1) | inr t ↦ t.0 ]

  -- ---- jobs

  job_left : (k : JobRow) → HasJob jobs k → HasJob g.jobs k × (k.number ≢ job.number)
  job_left k h = elim (eqb_tells k.number job.number) [
    | inl t ↦ absurd (none-some k (sym (get-remove_same nat_cmp_total g.jobs job.number) ∙ sym (ap (map.get jobs) t.1) ∙ h))
    | inr t ↦ (sym (get-remove_other nat_cmp_total exact_unsigned g.jobs job.number k.number t.1) ∙ h, t.1)
  ]

  job_stands : (k : JobRow) → HasJob g.jobs k → k.number ≢ job.number → HasJob jobs k
  job_stands k h ne = get-remove_other nat_cmp_total exact_unsigned g.jobs job.number k.number ne ∙ h

  kept_job : (k : ℕ) → k ≢ job.number → (p : Piece) → HasPiece g.mappings p → p.token ≡ Some (record { 0 = k }) → HasPiece after p
  kept_job k ne p h e = stays p h (other_number p k ne e)

  -- ---- logged operations: none is a step of the job

  not_step : (op : Op) → IsStepOf (read_tables image) job op → ⊥
  not_step op s = by (subst (λ row. Gives (IsBatchEnd (owner_of image) job) row (Replace (listed op.olds) (listed op.news) op.extra)) finish s.row)
    where
      by : Finish ≡ Replace (listed op.olds) (listed op.news) op.extra → ⊥
      by e = absurd (cc)

  not_of : (op : Op) → Lawful image op → (o : Piece) → IsOneOf (listed op.olds) o → job_with_token g.jobs o ≡ Some job → ⊥
  not_of op law o among e = not_step op (subst (λ j. IsOfJob (read_tables image) op j) (job_of_old g.jobs (listed op.olds) (listed op.news) (tokens_of (rows_at image) (listed op.olds) (listed op.news) law.shape) o among job e) law.job)

  not_token : (op : Op) → Lawful image op → (o : Piece) → IsOneOf (listed op.olds) o → (t : Option Token) → o.token ≡ t → has_number job.number t ≡ false
  not_token op law o among None e = refl
  not_token op law o among (Some t) e = elim (eqb_tells t.0 job.number) [
    | inl is ↦ absurd (not_of op law o among (ap (option_and_then (λ (x : Token). map.get g.jobs x.0)) e ∙ ap (map.get g.jobs) is.1 ∙ has))
    | inr ne ↦ ne.0
  ]

  alike : (op : Op) → Lawful image op → (o : Piece) → IsOneOf (listed op.olds) o → job_with_token jobs o ≡ job_with_token g.jobs o
  alike op law o among = by o.token refl
    where
      by : (t : Option Token) → o.token ≡ t → option_and_then (λ (x : Token). map.get jobs x.0) t ≡ option_and_then (λ (x : Token). map.get g.jobs x.0) t
      by None e = refl
      by (Some t) e = elim (eqb_tells t.0 job.number) [
        | inl is ↦ absurd (not_of op law o among (ap (option_and_then (λ (x : Token). map.get g.jobs x.0)) e ∙ ap (map.get g.jobs) is.1 ∙ has))
        | inr ne ↦ get-remove_other nat_cmp_total exact_unsigned g.jobs job.number t.0 ne.1
      ]

  kept_of : (op : Op) → Lawful image op → (k : JobRow) → HasJob g.jobs k → job_of_pieces g.jobs (listed op.olds) ≡ Some k → k.number ≢ job.number
  kept_of op law k h e is = not_step op (subst (λ j. IsOfJob (read_tables image) op j) (e ∙ ap Some (same_Some k job (sym h ∙ ap (map.get g.jobs) is ∙ has))) law.job)

  tokens_after : JobTokens after jobs
  tokens_after q h = elim (cases_Bool (has_number job.number p.0.token)) [
    | inl t ↦ subst (λ (x : Piece). IfSome x.token (Names x.map)) (sym (p.2 ∙ ap (λ b. cond b (record p.0 { token = None }) p.0) t)) tt
    | inr t ↦ let same : q ≡ p.0 = p.2 ∙ freed_other job.number p.0 t in by q.token (ap (λ (x : Piece). has_number job.number x.token) same ∙ t) (sound.tokens q (subst (HasPiece g.mappings) (sym same) p.1))
  ]
    where
      p : (p : Piece) × HasPiece g.mappings p × (q ≡ without_token job.number p) × (piece_key p ≡ piece_key q)
      p = found (piece_key q) q h

      Names : Text → Token → Type 0
      Names name token = token.0 < 2 ^ 64 → (k : JobRow) × HasJob jobs k × (k.number ≡ token.0) × (k.map ≡ name)

      by : (t : Option Token) → has_number job.number t ≡ false → IfSome t (λ token. token.0 < 2 ^ 64 → (k : JobRow) × HasJob g.jobs k × (k.number ≡ token.0) × (k.map ≡ q.map)) → IfSome t (Names q.map)
      by None e f = tt
      by (Some t) e f = λ small. let k = f small in (k.0, job_stands k.0 k.1 (λ is. true≢false (sym (self t.0 job.number (sym k.2 ∙ is)) ∙ e)), k.2, k.3)
        where
          self : (a b : ℕ) → a ≡ b → eqb a b ≡ true
          self a b is = elim (eqb_tells a b) [ inl x ↦ x.0 | inr x ↦ absurd (x.1 is) ]

  pub lawful_left : (op : Op) → Lawful image op → LawfulOn (record (read_tables image) { mappings = after; jobs = jobs }) op
  lawful_left op law = lawful_retokened image sound after is_retokened jobs op law
      (λ o among. stays o ((fit_of_lawful (read_tables image) (sound_mappings image sound) op law).stand o among) (not_token op law o among o.token refl))
      (alike op law)
      (λ k h e. kept_job k.number (kept_of op law k h e))

  -- The finish keeps an image sound, and every lawful operation lawful.
  pub finished_sound : Sound (finished_image image job after)
  finished_sound = retokened_sound image sound after is_retokened jobs g.counter refl
      (keyed-remove nat_cmp_total (λ (x : JobRow). x.number) exact_unsigned g.jobs job.number (sound.keyed Global).jobs)
      sound.globals.jobs
      (λ op h. lawful_left op (sound.logged.lawful op h))
      (λ l row v. moving l row v)
      (λ k h. sound.batches k (job_left k h).0)
      (λ k h. let o = job_left k h in job_cells image sound after is_retokened k o.0 (kept_job k.number o.1) (next_job image) (sound.jobs k o.0).numbered)
      (λ k h. let o = job_left k h in job_progress image sound after is_retokened k o.0 (kept_job k.number o.1))
      tokens_after
    where
      idle_out : (key : Text) → InBatch job key → ⊥
      idle_out key i = let none : None ≡ Some i.1 = sym (ap batch_high idle) ∙ i.3 in none-some i.1 none

      moving : (l : Text) (row : RowName) → IsBeingMoved g.maps g.jobs row.map row.key l → IsBeingMoved g.maps jobs row.map row.key l
      moving l row v = elim (eqb_tells v.job.number job.number) [
        | inl t ↦ absurd (idle_out row.key (subst (λ (x : JobRow). InBatch x row.key) (same_Some v.job job (sym v.stands ∙ ap (map.get g.jobs) t.1 ∙ has)) v.in_batch))
        | inr t ↦ record { job = v.job; stands = job_stands v.job v.stands t.1; of_map = v.of_map; at_site = v.at_site; in_batch = v.in_batch; of_type = v.of_type }
      ]

  pub finished_meaning : meaning (finished_image image job after) ≡ record (meaning image) { mappings = after; jobs = jobs }
  finished_meaning = retokened_meaning image sound after is_retokened jobs g.counter refl
