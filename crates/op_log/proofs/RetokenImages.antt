-- A short global transaction that changes tokens and jobs alone.
use Rattle.std.proofs.Common.{◌≡◌, ◌<◌, ◌≤◌, ◌^◌, cond, refl, sym, ap, ◌∙◌, subst, Some, None, Option, inl, inr, List, [], ◌∷◌, ℕ}
use Rattle.std.specs.Prelude.{IsTrue, IfSome, option_and_then}
use Rattle.std.specs.List.{list_any}
use Rattle.std.specs.FinMap as map
use Rattle.std.proofs.lemmas.Option.{same_Some, none-some}
use Rattle.cell_world.specs.Texts.{Text}
use Rattle.cell_world.specs.Lists.{IsOneOf}
use Rattle.cell_world.specs.Keys.{contains, overlaps}
use Rattle.cell_world.specs.Spelled.{listed}
use Rattle.cell_world.specs.Stores.{Store, Locals, Mappings, Jobs, IsKeyed, piece_key}
use Rattle.cell_world.specs.Images.{Image, Place, Global, Shard, global, with_store}
use Rattle.cell_world.specs.Plain.{owner_in}
use Rattle.cell_world.specs.Meaning.{meaning, counters_of, next_operation, next_job, is_attached_at}
use Rattle.cell_world.specs.Lawful.{LawfulOn, Lawful, read_tables, rows_at, IsOfJob, IsStepOf, job_of_pieces, job_with_token, or_else}
use Rattle.cell_world.specs.Sound.{Sound, HasPiece, HasLog, HasJob, HasShard, IsSpanOf, IsOwnedBy, IsBeingMoved, Matches, LocalCells, JobCells, JobTokens, BatchRows, IsBatch}
use Rattle.cell_world.specs.declared.cells.Counters.{Counters}
use Rattle.cell_world.specs.declared.cells.LocalRow.{LocalRow}
use Rattle.cell_world.specs.declared.cells.RowName.{RowName}
use Rattle.cell_world.specs.declared.operations.Piece.{Piece}
use Rattle.cell_world.specs.declared.operations.Op.{Op}
use Rattle.cell_world.specs.declared.operations.JobRow.{JobRow}
use Rattle.image_laws.proofs.OwnerLaws.{owner_is, owner_stands, owner_key}
use Rattle.image_laws.proofs.MeaningLaws.{same_rows}
use Rattle.cell_world.specs.Sound.{AreMappings}
use Rattle.cell_world.proofs.ListLaws.{all_from}
use Rattle.cell_world.proofs.MappingLaws.{sound_mappings}
use Rattle.image_laws.proofs.CommitImages.{job_stands_in}
use Rattle.image_laws.proofs.JobRange.{InRange, in_span, key_of}
use Rattle.op_log.proofs.KeptRange.{cells_stay, progress_stays, step_stays}

-- ---- mappings of which some have another lock

abbrev pub bare : Piece → Piece
bare p = record p { token = None }

-- alike but for the lock
abbrev pub IsLike : Piece → Piece → Type 0
IsLike p q = bare p ≡ bare q

pub record IsRetokened (before after : Mappings) : Type 0 where
  -- each mapping is placed under its own key
  pub placed : (k : Text × Text) → IfSome (map.get after k) (λ p. piece_key p ≡ k)
  -- each was one before, and is one afterwards, but for its lock
  pub back : (q : Piece) → HasPiece after q → (p : Piece) × HasPiece before p × IsLike p q
  pub forth : (p : Piece) → HasPiece before p → (q : Piece) × HasPiece after q × IsLike p q

like_key : (p q : Piece) → IsLike p q → piece_key p ≡ piece_key q
like_key p q e = ap piece_key e

like_holds : (p q : Piece) → IsLike p q → (key : Text) → IsTrue (contains p.span key) → IsTrue (contains q.span key)
like_holds p q e key h = subst (λ (x : Piece). IsTrue (contains x.span key)) e h

module _ (image : Image) (sound : Sound image) (after : Mappings) (r : IsRetokened (global image).mappings after) where
  abbrev g : Store
  g = global image

  m : AreMappings g.maps g.mappings
  m = sound_mappings image sound

  -- a mapping that stands on is the only one of its key
  pub alone : (p q : Piece) → HasPiece after p → HasPiece after q → piece_key p ≡ piece_key q → p ≡ q
  alone p q h k e = same_Some p q (sym h ∙ ap (map.get after) e ∙ k)

  pub after_ok : AreMappings g.maps after
  after_ok = record {
    placed = r.placed;
    spans = λ q h. let p = r.back q h in subst (λ (x : Piece). IsSpanOf g.maps x.map x.span) p.2 (m.spans p.0 p.1);
    disjoint = λ p q h k e over.
        let a = r.back p h in
        let b = r.back q k in
        let is : a.0 ≡ b.0 = m.disjoint a.0 b.0 a.1 b.1 (ap (λ (x : Piece). x.map) a.2 ∙ e ∙ sym (ap (λ (x : Piece). x.map) b.2)) (subst (λ (s : Piece × Piece). IsTrue (overlaps s.0.span s.1.span)) (λ i. (sym a.2 i, sym b.2 i)) over) in
        alone p q h k (sym (like_key a.0 p a.2) ∙ ap piece_key is ∙ like_key b.0 q b.2);
  }

  -- ---- owners

  pub owner_at : (name key : Text) (p : Piece) → owner_in g.maps g.mappings name key ≡ Some p → (q : Piece) × (owner_in g.maps after name key ≡ Some q) × IsLike p q
  owner_at name key p e =
      let s = owner_stands g.maps g.mappings m.placed name key p e in
      let q = r.forth p s.0 in
      (q.0, owner_is g.maps after after_ok.placed name key after_ok.disjoint (owner_key g.maps g.mappings m.placed name key p e) q.0 q.1 (sym (ap (λ (x : Piece). x.map) q.2) ∙ s.1) (like_holds p q.0 q.2 key s.2), q.2)

  none_stays : (name key : Text) → owner_in g.maps g.mappings name key ≡ None → owner_in g.maps after name key ≡ None
  none_stays name key e = by (owner_in g.maps after name key) refl
    where
      by : (o : Option Piece) → owner_in g.maps after name key ≡ o → owner_in g.maps after name key ≡ None
      by None f = f
      by (Some q) f =
          let s = owner_stands g.maps after after_ok.placed name key q f in
          let p = r.back q s.0 in
          absurd (none-some p.0 (sym e ∙ owner_is g.maps g.mappings m.placed name key m.disjoint (owner_key g.maps after after_ok.placed name key q f) p.0 p.1 (ap (λ (x : Piece). x.map) p.2 ∙ s.1) (like_holds q p.0 (sym p.2) key s.2)))

  pub owned_stays : (name key l : Text) → IsOwnedBy (owner_in g.maps g.mappings) name key l → IsOwnedBy (owner_in g.maps after) name key l
  owned_stays name key l w = let q = owner_at name key w.0 w.1 in (q.0, q.1, sym (ap (λ (x : Piece). x.location) q.2) ∙ w.2)

  -- ---- a job whose mappings keep its token

  module _ (job : JobRow) (has : HasJob g.jobs job) (keeps : (p : Piece) → HasPiece g.mappings p → p.token ≡ Some (record { 0 = job.number }) → HasPiece after p) where
    cells : JobCells g.maps g.shards g.mappings (next_job image) job
    cells = sound.jobs job has

    -- a mapping with a key of the range has the token
    with_token : (p : Piece) → HasPiece g.mappings p → p.map ≡ job.map → (key : Text) → InRange g.maps g.mappings m g.shards (next_job image) job cells key → IsTrue (contains p.span key) → HasPiece after p
    with_token p h of_map key range inside =
        let t = cells.tokens key range.normal (in_span g.maps g.mappings m g.shards (next_job image) job cells key range) in
        let is : p ≡ t.0 = same_Some p t.0 (sym (owner_is g.maps g.mappings m.placed job.map key m.disjoint (key_of g.maps g.mappings m g.shards (next_job image) job cells key range) p h of_map inside) ∙ t.1) in
        keeps p h (ap (λ (x : Piece). x.token) is ∙ t.2)

    stood_with : (q : Piece) → HasPiece after q → q.map ≡ job.map → (key : Text) → InRange g.maps g.mappings m g.shards (next_job image) job cells key → IsTrue (contains q.span key) → HasPiece g.mappings q
    stood_with q h of_map key range inside =
        let p = r.back q h in
        let stays = with_token p.0 p.1 (ap (λ (x : Piece). x.map) p.2 ∙ of_map) key range (like_holds q p.0 (sym p.2) key inside) in
        subst (HasPiece g.mappings) (alone p.0 q stays h (like_key p.0 q p.2)) p.1

    pub job_cells : (later : ℕ) → job.number < later → JobCells g.maps g.shards after later job
    job_cells = cells_stay g.maps g.mappings after m after_ok g.shards (next_job image) job cells with_token stood_with

    pub job_progress : IsBatch image.locations g.away after job job.phase
    job_progress = progress_stays g.maps g.mappings after m after_ok g.shards (next_job image) job cells with_token stood_with image.locations g.away (sound.progress job has)

    pub job_step : (op : Op) (jobs : Jobs) → IsStepOf (read_tables image) job op → IsStepOf (record (read_tables image) { mappings = after; jobs = jobs }) job op
    job_step op jobs s = record {
      row = step_stays g.maps g.mappings after m after_ok g.shards (next_job image) job cells with_token stood_with image.locations g.away (sound.progress job has) (listed op.olds) (listed op.news) op.extra s.row;
      emptied = s.emptied;
    }

  -- ---- a lawful operation whose olds stand, and whose tokens mean the same jobs

  module _ (jobs : Jobs) (op : Op) (law : Lawful image op) (keep : (o : Piece) → IsOneOf (listed op.olds) o → HasPiece after o)
      (alike : (o : Piece) → IsOneOf (listed op.olds) o → job_with_token jobs o ≡ job_with_token g.jobs o)
      (kept_job : (job : JobRow) → HasJob g.jobs job → job_of_pieces g.jobs (listed op.olds) ≡ Some job → (p : Piece) → HasPiece g.mappings p → p.token ≡ Some (record { 0 = job.number }) → HasPiece after p) where
    pieces_alike : (pieces : List Piece) → ((p : Piece) → IsOneOf pieces p → job_with_token jobs p ≡ job_with_token g.jobs p) → job_of_pieces jobs pieces ≡ job_of_pieces g.jobs pieces
    pieces_alike [] h = refl
    pieces_alike (p ∷ ps) h = λ i. or_else (h p (inl refl) i) (pieces_alike ps (λ x z. h x (inr z)) i)

    still_free : (q : Piece) → HasPiece after q → q.map ≡ op.map → IsTrue (list_any (λ (n : Piece). overlaps n.span q.span) (listed op.news)) → IsOneOf (listed op.olds) q
    still_free q h of_map any =
        let p = r.back q h in
        let old = law.free p.0 p.1 (ap (λ (x : Piece). x.map) p.2 ∙ of_map) (subst (λ (x : Piece). IsTrue (list_any (λ (n : Piece). overlaps n.span x.span) (listed op.news))) (sym p.2) any) in
        subst (IsOneOf (listed op.olds)) (alone p.0 q (keep p.0 old) h (like_key p.0 q p.2)) old

    of_job : (o : Option JobRow) → job_of_pieces g.jobs (listed op.olds) ≡ o → IsOfJob (read_tables image) op o → IsOfJob (record (read_tables image) { mappings = after; jobs = jobs }) op o
    of_job None e s = s
    of_job (Some job) e s = let has = job_stands_in g.jobs (sound.keyed Global).jobs (listed op.olds) job e in job_step job has (kept_job job has e) op jobs s

    pub lawful_retokened : LawfulOn (record (read_tables image) { mappings = after; jobs = jobs }) op
    lawful_retokened = record {
      map_stands = law.map_stands;
      olds_stand = all_from (λ (o : Piece). map.get after (piece_key o) ≡ Some o) (listed op.olds) keep;
      of_map = law.of_map;
      olds_in_order = law.olds_in_order;
      news_in_order = law.news_in_order;
      attached = law.attached;
      on_shards = law.on_shards;
      spans = law.spans;
      disjoint = law.disjoint;
      free = still_free;
      hull = law.hull;
      shape = law.shape;
      job = subst (λ o. IsOfJob (record (read_tables image) { mappings = after; jobs = jobs }) op o) (sym (pieces_alike (listed op.olds) alike)) (of_job (job_of_pieces g.jobs (listed op.olds)) refl law.job);
      no_drop = law.no_drop;
    }

  -- ---- the image

  module _ (jobs : Jobs) (counter : Option Counters) (same_operation : (counters_of counter).operation ≡ next_operation image) where
    abbrev pub retokened : Image
    retokened = with_store image Global (record g { mappings = after; jobs = jobs; counter = counter })

    same_row : (row : RowName) → option_and_then (λ (x : Piece). cond (is_attached_at image.locations g.away x.location) (map.get (rows_at image x.location) row) None) (owner_in g.maps after row.map row.key)
        ≡ option_and_then (λ (x : Piece). cond (is_attached_at image.locations g.away x.location) (map.get (rows_at image x.location) row) None) (owner_in g.maps g.mappings row.map row.key)
    same_row row = by (owner_in g.maps g.mappings row.map row.key) refl
      where
        found : Text → Option Text
        found l = cond (is_attached_at image.locations g.away l) (map.get (rows_at image l) row) None

        by : (o : Option Piece) → owner_in g.maps g.mappings row.map row.key ≡ o → option_and_then (λ (x : Piece). found x.location) (owner_in g.maps after row.map row.key) ≡ option_and_then (λ (x : Piece). found x.location) (owner_in g.maps g.mappings row.map row.key)
        by None e = ap (option_and_then (λ (x : Piece). found x.location)) (none_stays row.map row.key e ∙ sym e)
        by (Some x) e =
            let y = owner_at row.map row.key x e in
            ap (option_and_then (λ (x : Piece). found x.location)) y.1 ∙ ap (λ (p : Piece). found p.location) (sym y.2) ∙ sym (ap (option_and_then (λ (x : Piece). found x.location)) e)

    -- In the meaning the mappings, the jobs and the next job number change, and nothing else.
    pub retokened_meaning : meaning retokened ≡ record (meaning image) { mappings = after; jobs = jobs; next_job = (counters_of counter).job }
    retokened_meaning = λ i. record (meaning retokened) { rows = same_rows retokened image same_row i }

    keep_locals : (l : Text) (locals : Locals) → LocalCells g.mappings g.log (next_operation image) l locals → LocalCells after g.log (next_operation image) l locals
    keep_locals l locals s = record {
      counted = λ row h c.
          let x = s.counted row h c in
          let q = r.forth x.0 x.1 in
          (q.0, q.1, sym (ap (λ (p : Piece). p.location) q.2) ∙ x.2, matches row x.0 q.0 q.2 x.3);
      each = λ q h there.
          let p = r.back q h in
          let row = s.each p.0 p.1 (ap (λ (x : Piece). x.location) p.2 ∙ there) in
          (row.0, row.1, row.2, matches row.0 p.0 q p.2 row.3);
      once = s.once;
      marks = s.marks;
      numbers = s.numbers;
    }
      where
        matches : (row : LocalRow) (p q : Piece) → IsLike p q → Matches row p → Matches row q
        matches row p q e h = record { map = h.map ∙ ap (λ (x : Piece). x.map) e; span = h.span ∙ ap (λ (x : Piece). x.span) e; status = h.status ∙ ap (λ (x : Piece). x.status) e }

    module _ (keyed : (k : ℕ) → IfSome (map.get jobs k) (λ x. x.number ≡ k)) (one_job : 1 ≤ (counters_of counter).job)
        (lawful : (op : Op) → HasLog g.log op → LawfulOn (record (read_tables image) { mappings = after; jobs = jobs }) op)
        (moving : (l : Text) (row : RowName) → IsBeingMoved g.maps g.jobs row.map row.key l → IsBeingMoved g.maps jobs row.map row.key l)
        (batches : (job : JobRow) → HasJob jobs job → BatchRows job job.phase (rows_at image job.source) (rows_at image job.target))
        (cells_after : (job : JobRow) → HasJob jobs job → JobCells g.maps g.shards after (counters_of counter).job job)
        (progress : (job : JobRow) → HasJob jobs job → IsBatch image.locations g.away after job job.phase)
        (tokens : JobTokens after jobs) where
      keep_keyed : (place : Place) → IsKeyed (retokened.at place)
      keep_keyed Global = let h = sound.keyed Global in record { mappings = after_ok.placed; log = h.log; jobs = keyed; locals = h.locals }
      keep_keyed (Shard l) = sound.keyed (Shard l)

      pub retokened_sound : Sound retokened
      retokened_sound = record {
        keyed = keep_keyed;
        globals = record {
          shards = sound.globals.shards;
          tables = sound.globals.tables;
          operations = subst (λ n. (1 ≤ n) × (n ≤ 2 ^ 63)) (sym same_operation) sound.globals.operations;
          jobs = one_job;
          spans = after_ok.spans;
          on_shards = λ q h. let p = r.back q h in subst (λ (x : Piece). HasShard g.shards x.map x.location) p.2 (sound.globals.on_shards p.0 p.1);
          disjoint = after_ok.disjoint;
        };
        logged = record { lawful = lawful; numbered = λ op h. subst (λ n. op.number < n) (sym same_operation) (sound.logged.numbered op h); hulls = sound.logged.hulls };
        locals = λ l here. subst (λ n. LocalCells after g.log n l (image.at (Shard l)).locals) (sym same_operation) (keep_locals l (image.at (Shard l)).locals (sound.locals l here));
        online = λ l here. record {
          spans = (sound.online l here).spans;
          owned = λ row key h on inside of_type. elim ((sound.online l here).owned row key h on inside of_type) [
            | inl w ↦ inl (owned_stays row.map key l w)
            | inr w ↦ inr (none_stays row.map key w.0, w.1)
          ];
        };
        rows = λ l here. record {
          in_table = (sound.rows l here).in_table;
          placed = λ row h. elim ((sound.rows l here).placed row h) [ inl w ↦ inl (owned_stays row.map row.key l w) | inr v ↦ inr (moving l row v) ];
        };
        batches = batches;
        suspect = sound.suspect;
        jobs = cells_after;
        progress = progress;
        tokens = tokens;
      }
