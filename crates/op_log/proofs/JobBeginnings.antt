-- The beginning of a job keeps an image sound.
use Rattle.std.proofs.Common.{◌≡◌, ◌≢◌, ◌⊎◌, ◌<◌, ◌≤◌, ◌+◌, ◌^◌, not, refl, sym, ap, ◌∙◌, subst, Some, None, Option, inl, inr, ℕ, arith}
use Rattle.std.specs.Prelude.{IsTrue, IfSome, option_and_then}
use Rattle.std.specs.FinMap as map
use Rattle.std.proofs.lemmas.Cmp.{nat_cmp_total}
use Rattle.std.proofs.lemmas.Map.Lookups.{exact_unsigned}
use Rattle.std.proofs.lemmas.Option.{same_Some, none-some}
use Rattle.std.proofs.lemmas.Bool.{and_parts, and_from, cases_Bool}
use Rattle.cell_world.specs.Texts.{Text}
use Rattle.cell_world.specs.Lists.{IsOneOf}
use Rattle.cell_world.specs.Keys.{below, at_most, before, contains, overlaps, low_of}
use Rattle.cell_world.specs.KeyForms.{is_normal}
use Rattle.cell_world.specs.Spelled.{listed}
use Rattle.cell_world.specs.Stores.{Store, Mappings, Jobs, piece_key}
use Rattle.cell_world.specs.Images.{Image, Global, global}
use Rattle.cell_world.specs.Plain.{owner_in}
use Rattle.cell_world.specs.Meaning.{meaning, next_operation, next_job}
use Rattle.cell_world.specs.Lawful.{read_tables, rows_at, job_with_token}
use Rattle.cell_world.specs.Sound.{Sound, HasPiece, HasLog, HasJob, JobCells, JobTokens, BatchRows, IsBatch}
use Rattle.cell_world.specs.declared.cells.Counters.{Counters}
use Rattle.cell_world.specs.declared.cells.Token.{Token}
use Rattle.cell_world.specs.declared.cells.MapKind.TheVariants as kind
use Rattle.cell_world.specs.declared.operations.Piece.{Piece}
use Rattle.cell_world.specs.declared.operations.Op.{Op}
use Rattle.cell_world.specs.declared.operations.JobRow.{JobRow}
use Rattle.cell_world.specs.declared.spans.High.{High}
use Rattle.cell_world.specs.declared.spans.High.TheVariants.{At}
use Rattle.cell_world.specs.declared.spans.Span.TheVariants.{Range}
use Rattle.cell_world.proofs.OrderLaws.{pairs_total, exact_text_pairs}
use Rattle.cell_world.proofs.StoreLaws.{get-insert_same, get-insert_other, get-insert_cases}
use Rattle.cell_world.proofs.KeyedLaws.{keyed-insert}
use Rattle.image_laws.proofs.OwnerLaws.{owner_is}
use Rattle.cell_world.proofs.SpanLaws.{at_most_trans, overlaps_shared}
use Rattle.cell_world.proofs.MappingLaws.{sound_mappings}
use Rattle.image_laws.proofs.FitLaws.{fit_of_lawful, low_in}
use Rattle.image_laws.proofs.ShapeLaws.{not_back, not_below_self}
use Rattle.image_laws.proofs.JobRange.{before_within}
use Rattle.image_laws.proofs.JobTable.{end_not_below}
use Rattle.op_log.proofs.RetokenImages.{bare, IsRetokened, after_ok, retokened_sound, retokened_meaning, lawful_retokened, job_cells, job_progress}
use Rattle.op_log.specs.JobChanges.{MayBegin, begun_job, begun_image, of_job}

module _ (image : Image) (sound : Sound image) (p : Piece) (low : Text) (high : High) (target : Text) (batch : ℕ) (s : MayBegin image p low high target) where
  abbrev g : Store
  g = global image

  abbrev number : ℕ
  number = next_job image

  abbrev job : JobRow
  job = begun_job image p low high target batch

  abbrev new : Piece
  new = of_job image p

  abbrev after : Mappings
  after = map.insert g.mappings (piece_key p) new

  abbrev jobs : Jobs
  jobs = map.insert g.jobs number job

  stands_new : HasPiece after new
  stands_new = get-insert_same pairs_total g.mappings (piece_key p) new

  -- another mapping stands on
  other : (x : Piece) → HasPiece g.mappings x → (x ≡ p) ⊎ HasPiece after x
  other x h = elim (get-insert_cases pairs_total exact_text_pairs g.mappings (piece_key p) new (piece_key x)) [
    | inl c ↦ inl (same_Some x p (sym h ∙ ap (map.get g.mappings) c.0 ∙ s.stands))
    | inr c ↦ inr (c ∙ h)
  ]

  was : (q : Piece) → HasPiece after q → (q ≡ new) ⊎ HasPiece g.mappings q
  was q h = elim (get-insert_cases pairs_total exact_text_pairs g.mappings (piece_key p) new (piece_key q)) [
    | inl c ↦ inl (same_Some q new (sym h ∙ c.1))
    | inr c ↦ inr (sym c ∙ h)
  ]

  is_retokened : IsRetokened g.mappings after
  is_retokened = record {
    placed = keyed-insert pairs_total piece_key exact_text_pairs g.mappings new (sound.keyed Global).mappings;
    back = λ q h. elim (was q h) [ inl e ↦ (p, s.stands, sym (ap bare e)) | inr old ↦ (q, old, refl) ];
    forth = λ x h. elim (other x h) [ inl e ↦ (new, stands_new, ap bare e) | inr stays ↦ (x, stays, refl) ];
  }

  -- a mapping with a token stands on
  keeps : (x : Piece) → HasPiece g.mappings x → (t : Token) → x.token ≡ Some t → HasPiece after x
  keeps x h t e = elim (other x h) [ inl is ↦ absurd (none-some t (sym s.free ∙ ap (λ (y : Piece). y.token) (sym is) ∙ e)) | inr stays ↦ stays ]

  -- ---- jobs

  -- a standing job has another number
  less : (k : JobRow) → HasJob g.jobs k → k.number ≢ number
  less k h e = let lt : k.number < number = (sound.jobs k h).numbered in omega (arith, e, lt)

  stays_job : (k : JobRow) → HasJob g.jobs k → HasJob jobs k
  stays_job k h = get-insert_other nat_cmp_total exact_unsigned g.jobs number job k.number (less k h) ∙ h

  job_was : (k : JobRow) → HasJob jobs k → (k ≡ job) ⊎ HasJob g.jobs k
  job_was k h = elim (get-insert_cases nat_cmp_total exact_unsigned g.jobs number job k.number) [
    | inl c ↦ inl (same_Some k job (sym h ∙ c.1))
    | inr c ↦ inr (sym c ∙ h)
  ]

  -- no mapping has the new token yet
  new_token : (x : Piece) → HasPiece g.mappings x → (t : Token) → x.token ≡ Some t → t.0 ≢ number
  new_token x h t e is =
      let small : t.0 < 2 ^ 64 = subst (λ n. n < 2 ^ 64) (sym is) s.number in
      let k = subst (λ (o : Option Token). IfSome o (λ token. token.0 < 2 ^ 64 → (job : JobRow) × HasJob g.jobs job × (job.number ≡ token.0) × (job.map ≡ x.map))) e (sound.tokens x h) small in
      less k.0 k.1 (k.2 ∙ is)

  alike : (x : Piece) → HasPiece g.mappings x → job_with_token jobs x ≡ job_with_token g.jobs x
  alike x h = token_of x.token refl
    where
      token_of : (o : Option Token) → x.token ≡ o → option_and_then (λ (t : Token). map.get jobs t.0) o ≡ option_and_then (λ (t : Token). map.get g.jobs t.0) o
      token_of None e = refl
      token_of (Some t) e = get-insert_other nat_cmp_total exact_unsigned g.jobs number job t.0 (new_token x h t e)

  -- ---- the new job

  in_piece : (key : Text) → IsTrue (contains (Range low high) key) → IsTrue (contains p.span key)
  in_piece key c =
      let both = and_parts (at_most low key) (before key high) c in
      let at_low = and_parts (at_most s.from low) (before low s.to) (subst (λ x. IsTrue (contains x low)) s.span s.holds_low) in
      subst (λ x. IsTrue (contains x key)) (sym s.span) (and_from _ _ (at_most_trans s.from low key at_low.0 both.0) (before_within key high s.to both.1 s.holds_high))

  owns : (key : Text) → IsTrue (is_normal s.type key) → IsTrue (contains (Range low high) key) → owner_in g.maps after p.map key ≡ Some new
  owns key n c = let ok = after_ok image sound after is_retokened in owner_is g.maps after ok.placed p.map key ok.disjoint (kind.Range, s.type, s.range_map, n) new stands_new refl (in_piece key c)

  empty_range : (key : Text) → IsTrue (contains (Range low (At low)) key) → ⊥
  empty_range key c = let both = and_parts (at_most low key) (below key low) c in not_back key low both.1 both.0

  new_cells : JobCells g.maps g.shards after (number + 1) job
  new_cells = record {
    type = s.type;
    range_map = s.range_map;
    range = s.range;
    cursor_form = (and_parts _ _ s.range).0;
    target = s.on_shard;
    source = s.elsewhere;
    from_low = elim (cases_Bool (below low low)) [ inl t ↦ absurd (not_below_self low t) | inr t ↦ ap not t ];
    to_high = end_not_below (At low) high (and_parts _ _ (and_parts (is_normal s.type low) _ s.range).1).1;
    tokens = λ key n c. (new, owns key n c, refl);
    done = λ key n c. absurd (empty_range key c);
    cut_off = λ above. absurd (not_below_self low above);
    left = λ key n c f. (new, owns key n c, refl, s.online);
    numbered = omega arith;
  }

  kept_job : (k : JobRow) → (x : Piece) → HasPiece g.mappings x → x.token ≡ Some (record { 0 = k.number }) → HasPiece after x
  kept_job k x h e = keeps x h (record { 0 = k.number }) e

  tokens_after : JobTokens after jobs
  tokens_after q h = elim (was q h) [
    | inl e ↦ subst (λ (y : Piece). IfSome y.token (λ token. token.0 < 2 ^ 64 → (job : JobRow) × HasJob jobs job × (job.number ≡ token.0) × (job.map ≡ y.map))) (sym e) (λ small. (job, get-insert_same nat_cmp_total g.jobs number job, refl, refl))
    | inr old ↦ by q.token (sound.tokens q old)
  ]
    where
      by : (o : Option Token) → IfSome o (λ token. token.0 < 2 ^ 64 → (job : JobRow) × HasJob g.jobs job × (job.number ≡ token.0) × (job.map ≡ q.map)) → IfSome o (λ token. token.0 < 2 ^ 64 → (job : JobRow) × HasJob jobs job × (job.number ≡ token.0) × (job.map ≡ q.map))
      by None f = tt
      by (Some t) f = λ small. let k = f small in (k.0, stays_job k.0 k.1, k.2, k.3)

  abbrev counter : Option Counters
  counter = Some (record { operation = next_operation image; job = number + 1 })

  -- In the meaning the mapping has the lock, the job stands, and the next number is one more.
  pub begun_meaning : meaning (begun_image image p low high target batch) ≡ record (meaning image) { mappings = after; jobs = jobs; next_job = number + 1 }
  begun_meaning = retokened_meaning image sound after is_retokened jobs counter refl

  module _ (clear : (op : Op) → HasLog (global image).log op → p.map ≡ op.map → IsTrue (overlaps p.span op.hull) → ⊥) where
    old_is_not : (op : Op) → HasLog g.log op → (o : Piece) → IsOneOf (listed op.olds) o → HasPiece after o
    old_is_not op h o among =
        let m = sound_mappings image sound in
        let fit = fit_of_lawful (read_tables image) m op (sound.logged.lawful op h) in
        elim (other o (fit.stand o among)) [
          | inr stays ↦ stays
          | inl is ↦
              let low_key = low_in g.maps o.map o.span (m.spans o (fit.stand o among)) in
              absurd (clear op h (ap (λ (x : Piece). x.map) (sym is) ∙ fit.old_map o among)
              (overlaps_shared p.span op.hull (low_of o.span) (subst (λ (x : Piece). IsTrue (contains x.span (low_of o.span))) is low_key) (fit.shaped.old_in o among (low_of o.span) low_key)))
        ]

    -- A job that begins keeps an image sound.
    pub begun_sound : Sound (begun_image image p low high target batch)
    begun_sound = retokened_sound image sound after is_retokened jobs counter refl
        (keyed-insert nat_cmp_total (λ (x : JobRow). x.number) exact_unsigned g.jobs job (sound.keyed Global).jobs)
        (let one : 1 ≤ number = sound.globals.jobs in omega (arith, one))
        (λ op h. lawful_retokened image sound after is_retokened jobs op (sound.logged.lawful op h) (old_is_not op h)
        (λ o among. alike o ((fit_of_lawful (read_tables image) (sound_mappings image sound) op (sound.logged.lawful op h)).stand o among)) (λ k has e. kept_job k))
        (λ l row v. record { job = v.job; stands = stays_job v.job v.stands; of_map = v.of_map; at_site = v.at_site; in_batch = v.in_batch; of_type = v.of_type })
        (λ k h. elim (job_was k h) [ inl e ↦ subst (λ (x : JobRow). BatchRows x x.phase (rows_at image x.source) (rows_at image x.target)) (sym e) tt | inr old ↦ sound.batches k old ])
        (λ k h. elim (job_was k h) [
          | inl e ↦ subst (λ x. JobCells g.maps g.shards after (number + 1) x) (sym e) new_cells
          | inr old ↦ job_cells image sound after is_retokened k old (kept_job k) (number + 1) (let lt : k.number < number = (sound.jobs k old).numbered in omega (arith, lt))
        ])
        (λ k h. elim (job_was k h) [
          | inl e ↦ subst (λ (x : JobRow). IsBatch image.locations g.away after x x.phase) (sym e) tt
          | inr old ↦ job_progress image sound after is_retokened k old (kept_job k)
        ])
        tokens_after
