-- A short change of a mapping's token, as `lock` and `unlock` make it: where neither token is a job's and no logged operation overlaps, it keeps an image sound.
use Rattle.std.proofs.Common.{◌≡◌, ◌⊎◌, ◌<◌, ◌^◌, Bool, true, false, cond, refl, sym, ap, ◌∙◌, subst, Some, None, Option, inl, inr, [], ◌∷◌}
use Rattle.std.specs.Prelude.{IsTrue, IfSome, option_and_then}
use Rattle.std.specs.FinMap as map
use Rattle.std.specs.Ordering.{eq_by_cmp}
use Rattle.std.proofs.lemmas.Option.{none-some}
use Rattle.cell_world.specs.Texts.{Text}
use Rattle.cell_world.specs.Lists.{IsOneOf}
use Rattle.cell_world.specs.Keys.{contains, overlaps}
use Rattle.cell_world.specs.Orders.{pair_cmp}
use Rattle.cell_world.specs.Spelled.{listed}
use Rattle.cell_world.specs.Stores.{Store, Locals, Mappings, IsKeyed, piece_key, exchanged, put}
use Rattle.cell_world.specs.Images.{Image, Place, Global, Shard, global, with_store}
use Rattle.cell_world.specs.Plain.{owner_in}
use Rattle.cell_world.specs.Meaning.{meaning, next_operation, next_job, is_attached_at}
use Rattle.cell_world.specs.Lawful.{read_tables, rows_at, IsOfJob, job_of_pieces, job_with_token}
use Rattle.cell_world.specs.Sound.{Sound, HasPiece, HasLog, HasJob, IsOwnedBy, Matches, LocalCells, JobTokens, HasShard, AreMappings}
use Rattle.cell_world.specs.declared.operations.Piece.{Piece}
use Rattle.cell_world.specs.declared.operations.Op.{Op}
use Rattle.cell_world.specs.declared.operations.JobRow.{JobRow}
use Rattle.cell_world.specs.declared.cells.Token.{Token}
use Rattle.cell_world.specs.declared.cells.LocalRow.{LocalRow}
use Rattle.cell_world.specs.declared.cells.RowName.{RowName}
use Rattle.cell_world.specs.declared.cells.Cell.TheVariants as cell
use Rattle.cell_world.proofs.OrderLaws.{pairs_total, exact_text_pairs}
use Rattle.image_laws.proofs.OwnerLaws.{owner_is, owner_stands, owner_key}
use Rattle.image_laws.proofs.MeaningLaws.{same_rows}
use Rattle.image_laws.specs.Fits.{IsFit}
use Rattle.image_laws.proofs.CommitImages.{job_stands_in}
use Rattle.image_laws.proofs.FitLaws.{exchange, are_mappings_after}
use Rattle.image_laws.proofs.JobRange.{job_stays, batch_stays}
use Rattle.image_laws.proofs.JobTable.{step_stays}
use Rattle.image_laws.proofs.ShapeLaws.{of_one}
use Rattle.cell_world.proofs.MappingLaws.{sound_mappings}
use Rattle.image_laws.proofs.StaysLawful.{stays_lawful, token_fits}

-- a mapping that is put over one of its key
put_over : (mappings : Mappings) (p q : Piece) → piece_key q ≡ piece_key p → exchanged mappings (p ∷ []) (q ∷ []) ≡ map.insert mappings (piece_key q) q
put_over mappings p q e = map.same_map pairs_total exact_text_pairs _ _ (λ k.
    map.get-insert pairs_total (map.remove mappings (piece_key p)) (piece_key q) q k
    ∙ by k (eq_by_cmp pair_cmp k (piece_key q)) refl
    ∙ sym (map.get-insert pairs_total mappings (piece_key q) q k))
  where
    by : (k : Text × Text) (b : Bool) → eq_by_cmp pair_cmp k (piece_key q) ≡ b → cond (eq_by_cmp pair_cmp k (piece_key q)) (Some q) (map.get (map.remove mappings (piece_key p)) k) ≡ cond (eq_by_cmp pair_cmp k (piece_key q)) (Some q) (map.get mappings k)
    by k true t = ap (λ b. cond b (Some q) (map.get (map.remove mappings (piece_key p)) k)) t ∙ sym (ap (λ b. cond b (Some q) (map.get mappings k)) t)
    by k false t = ap (cond (eq_by_cmp pair_cmp k (piece_key q)) (Some q)) (map.get-remove pairs_total mappings (piece_key p) k ∙ ap (λ b. cond b None (map.get mappings k)) (ap (eq_by_cmp pair_cmp k) (sym e) ∙ t))

module _ (image : Image) (sound : Sound image) (p : Piece) (has : HasPiece (global image).mappings p) (token : Option Token) (old_free : job_with_token (global image).jobs p ≡ None) (new_free : IfSome token (λ t. t.0 < 2 ^ 64 → ⊥))
    (clear : (other : Op) → HasLog (global image).log other → p.map ≡ other.map → IsTrue (overlaps p.span other.hull) → ⊥) where
  abbrev g : Store
  g = global image

  abbrev pub retoken : Piece
  retoken = record p { token = token }

  m : AreMappings g.maps g.mappings
  m = sound_mappings image sound

  fit : IsFit g.maps g.mappings p.map p.span (p ∷ []) (retoken ∷ [])
  fit = token_fits g.maps g.mappings m p token has

  abbrev after : Mappings
  after = exchanged g.mappings (p ∷ []) (retoken ∷ [])

  after_ok : AreMappings g.maps after
  after_ok = are_mappings_after g.maps g.mappings m p.map p.span (p ∷ []) (retoken ∷ []) fit

  stands : HasPiece after retoken
  stands = (exchange g.maps g.mappings m p.map p.span (p ∷ []) (retoken ∷ []) fit).new retoken (inl refl)

  -- a mapping stands on, or it is the one whose token is changed
  kept : (x : Piece) → HasPiece g.mappings x → (x ≡ p) ⊎ HasPiece after x
  kept x h = elim ((exchange g.maps g.mappings m p.map p.span (p ∷ []) (retoken ∷ []) fit).kept x h) [ inl old ↦ inl (sym (of_one (λ y. p ≡ y) refl x old)) | inr h ↦ inr h ]

  stood : (x : Piece) → HasPiece after x → (x ≡ retoken) ⊎ HasPiece g.mappings x
  stood x h = elim ((exchange g.maps g.mappings m p.map p.span (p ∷ []) (retoken ∷ []) fit).back x h) [ inl new ↦ inl (sym (of_one (λ y. retoken ≡ y) refl x new)) | inr old ↦ inr old.0 ]

  -- ---- owners

  -- the owner of a key is where it was
  owner_at : (name key : Text) (x : Piece) → owner_in g.maps g.mappings name key ≡ Some x → (y : Piece) × (owner_in g.maps after name key ≡ Some y) × (y.location ≡ x.location)
  owner_at name key x e =
      let s = owner_stands g.maps g.mappings m.placed name key x e in
      let of_type = owner_key g.maps g.mappings m.placed name key x e in
      elim (kept x s.0) [
        | inl is ↦
            let of_map : p.map ≡ name = ap (λ (y : Piece). y.map) (sym is) ∙ s.1 in
            let inside : IsTrue (contains p.span key) = subst (λ (y : Piece). IsTrue (contains y.span key)) is s.2 in
            (retoken, owner_is g.maps after after_ok.placed name key after_ok.disjoint of_type retoken stands of_map inside, ap (λ (y : Piece). y.location) (sym is))
        | inr stays ↦ (x, owner_is g.maps after after_ok.placed name key after_ok.disjoint of_type x stays s.1 s.2, refl)
      ]

  none_stays : (name key : Text) → owner_in g.maps g.mappings name key ≡ None → owner_in g.maps after name key ≡ None
  none_stays name key e = by (owner_in g.maps after name key) refl
    where
      by : (o : Option Piece) → owner_in g.maps after name key ≡ o → owner_in g.maps after name key ≡ None
      by None f = f
      by (Some y) f =
          let s = owner_stands g.maps after after_ok.placed name key y f in
          let of_type = owner_key g.maps after after_ok.placed name key y f in
          elim (stood y s.0) [
            | inl is ↦ absurd (none-some p (sym e ∙ owner_is g.maps g.mappings m.placed name key m.disjoint of_type p has (ap (λ (x : Piece). x.map) (sym is) ∙ s.1) (subst (λ (x : Piece). IsTrue (contains x.span key)) is s.2)))
            | inr old ↦ absurd (none-some y (sym e ∙ owner_is g.maps g.mappings m.placed name key m.disjoint of_type y old s.1 s.2))
          ]

  owned_stays : (name key l : Text) → IsOwnedBy (owner_in g.maps g.mappings) name key l → IsOwnedBy (owner_in g.maps after) name key l
  owned_stays name key l w = let y = owner_at name key w.0 w.1 in (y.0, y.1, y.2 ∙ w.2)

  -- ---- the image

  abbrev changed_image : Image
  changed_image = with_store image Global (record g { mappings = after })

  same_row : (row : RowName) → option_and_then (λ (x : Piece). cond (is_attached_at image.locations g.away x.location) (map.get (rows_at image x.location) row) None) (owner_in g.maps after row.map row.key)
      ≡ option_and_then (λ (x : Piece). cond (is_attached_at image.locations g.away x.location) (map.get (rows_at image x.location) row) None) (owner_in g.maps g.mappings row.map row.key)
  same_row row = by (owner_in g.maps g.mappings row.map row.key) refl
    where
      found : Text → Option Text
      found l = cond (is_attached_at image.locations g.away l) (map.get (rows_at image l) row) None

      by : (o : Option Piece) → owner_in g.maps g.mappings row.map row.key ≡ o → option_and_then (λ (x : Piece). found x.location) (owner_in g.maps after row.map row.key) ≡ option_and_then (λ (x : Piece). found x.location) (owner_in g.maps g.mappings row.map row.key)
      by None e = ap (option_and_then (λ (x : Piece). found x.location)) (none_stays row.map row.key e ∙ sym e)
      by (Some x) e =
          let y = owner_at row.map row.key x e in
          ap (option_and_then (λ (x : Piece). found x.location)) y.1 ∙ ap found y.2 ∙ sym (ap (option_and_then (λ (x : Piece). found x.location)) e)

  token_meaning : meaning changed_image ≡ record (meaning image) { mappings = after }
  token_meaning = λ i. record (meaning changed_image) { rows = same_rows changed_image image same_row i }

  keep_locals : (l : Text) (locals : Locals) → LocalCells g.mappings g.log (next_operation image) l locals → LocalCells after g.log (next_operation image) l locals
  keep_locals l locals s = record {
    counted = λ row h c.
        let x = s.counted row h c in
        elim (kept x.0 x.1) [
          | inl is ↦ (retoken, stands, ap (λ (y : Piece). y.location) (sym is) ∙ x.2, matches row (subst (Matches row) is x.3))
          | inr stays ↦ (x.0, stays, x.2, x.3)
        ];
    each = λ x h there. elim (stood x h) [
      | inl is ↦
          let r = s.each p has (ap (λ (y : Piece). y.location) (sym is) ∙ there) in
          (r.0, r.1, r.2, subst (Matches r.0) (sym is) (matches r.0 r.3))
      | inr old ↦ s.each x old there
    ];
    once = s.once;
    marks = s.marks;
    numbers = s.numbers;
  }
    where
      matches : (row : LocalRow) → Matches row p → Matches row retoken
      matches row h = record { map = h.map; span = h.span; status = h.status }

  keep_tokens : JobTokens after g.jobs
  keep_tokens x h = elim (stood x h) [
    | inl is ↦ subst (λ (y : Piece). IfSome y.token (λ t. t.0 < 2 ^ 64 → (job : JobRow) × HasJob g.jobs job × (job.number ≡ t.0) × (job.map ≡ y.map))) (sym is) (by token new_free)
    | inr old ↦ sound.tokens x old
  ]
    where
      by : (t : Option Token) → IfSome t (λ t. t.0 < 2 ^ 64 → ⊥) → IfSome t (λ t. t.0 < 2 ^ 64 → (job : JobRow) × HasJob g.jobs job × (job.number ≡ t.0) × (job.map ≡ p.map))
      by None h = tt
      by (Some t) h = λ small. absurd (h small)

  not_of : (job : JobRow) → (o : Piece) → IsOneOf (p ∷ []) o → job_with_token g.jobs o ≡ Some job → ⊥
  not_of job = of_one (λ o. job_with_token g.jobs o ≡ Some job → ⊥) (λ e. none-some job (sym old_free ∙ e))

  keep_keyed : (place : Place) → IsKeyed (changed_image.at place)
  keep_keyed Global = let h = sound.keyed Global in record { mappings = after_ok.placed; log = h.log; jobs = h.jobs; locals = h.locals }
  keep_keyed (Shard l) = sound.keyed (Shard l)

  keep_job : (other : Op) → HasLog g.log other → IsOfJob (read_tables changed_image) other (job_of_pieces g.jobs (listed other.olds))
  keep_job other h = by (job_of_pieces g.jobs (listed other.olds)) refl (sound.logged.lawful other h).job
    where
      by : (o : Option JobRow) → job_of_pieces g.jobs (listed other.olds) ≡ o → IsOfJob (read_tables image) other o → IsOfJob (read_tables changed_image) other o
      by None e s = s
      by (Some job) e s =
          let job_has = job_stands_in g.jobs (sound.keyed Global).jobs (listed other.olds) job e in
          record {
            row = step_stays g.maps g.mappings m g.jobs p.map p.span (p ∷ []) (retoken ∷ []) fit g.shards (next_job image) job job_has (sound.jobs job job_has) (not_of job) image.locations g.away (sound.progress job job_has) (listed other.olds) (listed other.news) other.extra s.row;
            emptied = s.emptied;
          }

  token_sound : Sound changed_image
  token_sound = record {
    keyed = keep_keyed;
    globals = record {
      shards = sound.globals.shards;
      tables = sound.globals.tables;
      operations = sound.globals.operations;
      jobs = sound.globals.jobs;
      spans = after_ok.spans;
      on_shards = λ x h. elim (stood x h) [ inl is ↦ subst (λ (y : Piece). HasShard g.shards y.map y.location) (sym is) (sound.globals.on_shards p has) | inr old ↦ sound.globals.on_shards x old ];
      disjoint = after_ok.disjoint;
    };
    logged = record {
      lawful = λ other h. stays_lawful (read_tables image) m p.map p.span (p ∷ []) (retoken ∷ []) fit other (sound.logged.lawful other h) (clear other h) g.jobs (keep_job other h);
      numbered = sound.logged.numbered;
      hulls = sound.logged.hulls;
    };
    locals = λ l here. keep_locals l (image.at (Shard l)).locals (sound.locals l here);
    online = λ l here. record {
      spans = (sound.online l here).spans;
      owned = λ row key h on inside of_type. elim ((sound.online l here).owned row key h on inside of_type) [
        | inl w ↦ inl (owned_stays row.map key l w)
        | inr w ↦ inr (none_stays row.map key w.0, w.1)
      ];
    };
    rows = λ l here. record {
      in_table = (sound.rows l here).in_table;
      placed = λ row h. elim ((sound.rows l here).placed row h) [ inl w ↦ inl (owned_stays row.map row.key l w) | inr v ↦ inr v ];
    };
    batches = sound.batches;
    suspect = sound.suspect;
    jobs = λ job h. job_stays g.maps g.mappings m g.jobs p.map p.span (p ∷ []) (retoken ∷ []) fit g.shards (next_job image) job h (sound.jobs job h) (not_of job);
    progress = λ job h. batch_stays g.maps g.mappings m g.jobs p.map p.span (p ∷ []) (retoken ∷ []) fit g.shards (next_job image) job h (sound.jobs job h) (not_of job) image.locations g.away (sound.progress job h);
    tokens = keep_tokens;
  }

  -- The put of the mapping with its new token keeps an image sound, and in the meaning the mapping is put and nothing else changes.
  made : with_store image Global (put g (cell.Piece retoken)) ≡ changed_image
  made = ap (λ ms. with_store image Global (record g { mappings = ms })) (sym (put_over g.mappings p retoken refl))

  pub put_token_sound : Sound (with_store image Global (put g (cell.Piece retoken)))
  put_token_sound = subst Sound (sym made) token_sound

  pub put_token_meaning : meaning (with_store image Global (put g (cell.Piece retoken))) ≡ record (meaning image) { mappings = map.insert g.mappings (piece_key retoken) retoken }
  put_token_meaning = ap meaning made ∙ token_meaning ∙ ap (λ ms. record (meaning image) { mappings = ms }) (put_over g.mappings p retoken refl)
