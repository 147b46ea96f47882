-- A site that no logged operation has, and no job in the middle of a batch, is detached: that keeps an image sound.
use Rattle.std.proofs.Common.{◌≡◌, true, false, refl, sym, ap, ◌∙◌, subst, Some, None, Option, inl, inr, true≢false}
use Rattle.std.specs.FinMap as map
use Rattle.std.proofs.lemmas.Bool.{cases_Bool}
use Rattle.std.proofs.lemmas.Cmp.{nat_list_cmp_total}
use Rattle.std.proofs.lemmas.Option.{same_Some}
use Rattle.cell_world.specs.Texts.{Text}
use Rattle.cell_world.specs.Lists.{IsOneOf}
use Rattle.cell_world.specs.Keys.{same}
use Rattle.cell_world.specs.Plain.{is_attached}
use Rattle.cell_world.specs.Spelled.{listed}
use Rattle.cell_world.specs.Stores.{AwaySites, IsKeyed}
use Rattle.cell_world.specs.Images.{Image, Place, Global, Shard, global, with_store}
use Rattle.cell_world.specs.Lawful.{Lawful, read_tables, IsAttached, IsOfJob, job_of_pieces}
use Rattle.cell_world.specs.Operations.{sites_of, conflicts}
use Rattle.cell_world.specs.Sound.{Sound, HasJob, HasLog, IsBatch, IsAttachedIn, IsSuspectIn, IsSiteOfJob}
use Rattle.cell_world.specs.declared.cells.Away.TheVariants as away
use Rattle.cell_world.specs.declared.operations.Op.{Op}
use Rattle.cell_world.specs.declared.operations.JobRow.{JobRow}
use Rattle.cell_world.specs.declared.operations.Phase.{Phase}
use Rattle.cell_world.specs.declared.operations.Phase.TheVariants.{Idle, Copying, Moved}
use Rattle.cell_world.specs.declared.operations.Reach.TheVariants as reach
use Rattle.cell_world.proofs.ListLaws.{all_at, all_from}
use Rattle.cell_world.proofs.OrderLaws.{exact_texts}
use Rattle.cell_world.proofs.SpanLaws.{same_is, same_self}
use Rattle.cell_world.proofs.StoreLaws.{get-insert_same, get-insert_other}
use Rattle.image_laws.proofs.Lists.{any_from}

module _ (image : Image) (l : Text) where
  abbrev after : AwaySites
  after = map.insert (global image).away l away.Detached

  abbrev pub detached : Image
  detached = with_store image Global (record (global image) { away = after })

  there : map.get after l ≡ Some away.Detached
  there = get-insert_same nat_list_cmp_total (global image).away l away.Detached

  apart : (x : Text) → same l x ≡ false → x ≡ l → ⊥
  apart x e is = true≢false (sym (same_self l) ∙ ap (same l) (sym is) ∙ e)

  elsewhere : (x : Text) → same l x ≡ false → map.get after x ≡ map.get (global image).away x
  elsewhere x e = get-insert_other nat_list_cmp_total exact_texts (global image).away l away.Detached x (apart x e)

  -- What is attached then was attached.
  pub was_attached : (x : Text) → IsAttachedIn detached x → IsAttachedIn image x
  was_attached x h = elim (cases_Bool (same l x)) [
    | inl t ↦ absurd (true≢false (sym h.attached ∙ ap (λ k. is_attached (map.get after k)) (sym (same_is l x t)) ∙ ap is_attached there))
    | inr t ↦ record { known = h.known; attached = ap is_attached (sym (elsewhere x t)) ∙ h.attached }
  ]

  -- another site stays attached
  stays : (x : Text) → same l x ≡ false → IsAttachedIn image x → IsAttached image.locations after x
  stays x e h = record { known = h.known; attached = ap is_attached (elsewhere x e) ∙ h.attached }

  was_suspect : (x : Text) → IsSuspectIn detached x → IsSuspectIn image x
  was_suspect x h = elim (cases_Bool (same l x)) [
    | inl t ↦ let never : away.Detached ≡ away.Suspect = same_Some _ _ (sym there ∙ ap (map.get after) (same_is l x t) ∙ h.1) in absurd (cc)
    | inr t ↦ (h.0, sym (elsewhere x t) ∙ h.1)
  ]

  module _ (sound : Sound image) (clear : (op : Op) → HasLog (global image).log op → conflicts (reach.Whole l) op ≡ false) (quiet : (job : JobRow) → HasJob (global image).jobs job → IsSiteOfJob l job → job.phase ≡ Idle) where
    -- it is no site of a logged operation
    not_site : (op : Op) → HasLog (global image).log op → (x : Text) → IsOneOf (sites_of op) x → same l x ≡ false
    not_site op h x among = elim (cases_Bool (same l x)) [
      | inl t ↦ absurd (true≢false (sym (any_from (same l) (sites_of op) x among t) ∙ clear op h))
      | inr t ↦ t
    ]

    of_job : (op : Op) (o : Option JobRow) → IsOfJob (read_tables image) op o → IsOfJob (read_tables detached) op o
    of_job op None h = h
    of_job op (Some job) h = record { row = h.row; emptied = h.emptied }

    logged_stay : (op : Op) → HasLog (global image).log op → Lawful detached op
    logged_stay op h = let law = sound.logged.lawful op h in record {
      map_stands = law.map_stands;
      olds_stand = law.olds_stand;
      of_map = law.of_map;
      olds_in_order = law.olds_in_order;
      news_in_order = law.news_in_order;
      attached = all_from (IsAttached image.locations after) (sites_of op) (λ x among. stays x (not_site op h x among) (all_at (IsAttached image.locations (global image).away) (sites_of op) law.attached x among));
      on_shards = law.on_shards;
      spans = law.spans;
      disjoint = law.disjoint;
      free = law.free;
      hull = law.hull;
      shape = law.shape;
      job = of_job op (job_of_pieces (global image).jobs (listed op.olds)) law.job;
      no_drop = law.no_drop;
    }

    -- in the middle of a batch a job has another source and another target
    other_site : (job : JobRow) → HasJob (global image).jobs job → (job.phase ≡ Idle → ⊥) → (x : Text) → IsSiteOfJob x job → same l x ≡ false
    other_site job h busy x of_job = elim (cases_Bool (same l x)) [
      | inl t ↦ absurd (busy (quiet job h (subst (λ y. IsSiteOfJob y job) (sym (same_is l x t)) of_job)))
      | inr t ↦ t
    ]

    batch_stays : (job : JobRow) → HasJob (global image).jobs job → (f : Phase) → job.phase ≡ f → IsBatch image.locations (global image).away (global image).mappings job f → IsBatch image.locations after (global image).mappings job f
    batch_stays job h Idle e b = tt
    batch_stays job h (Copying end) e b = let busy : job.phase ≡ Idle → ⊥ = λ idle. let never : Copying end ≡ Idle = sym e ∙ idle in absurd (cc) in
        (b.0, stays job.source (other_site job h busy job.source (inl refl)) b.1, stays job.target (other_site job h busy job.target (inr refl)) b.2)
    batch_stays job h (Moved end) e b = let busy : job.phase ≡ Idle → ⊥ = λ idle. let never : Moved end ≡ Idle = sym e ∙ idle in absurd (cc) in
        (b.0, stays job.source (other_site job h busy job.source (inl refl)) b.1, stays job.target (other_site job h busy job.target (inr refl)) b.2)

    keep_keyed : (place : Place) → IsKeyed (detached.at place)
    keep_keyed Global = let h = sound.keyed Global in record { mappings = h.mappings; log = h.log; jobs = h.jobs; locals = h.locals }
    keep_keyed (Shard x) = sound.keyed (Shard x)

    -- A detached site keeps an image sound.
    pub detached_sound : Sound detached
    detached_sound = record {
      keyed = keep_keyed;
      globals = record { shards = sound.globals.shards; tables = sound.globals.tables; operations = sound.globals.operations; jobs = sound.globals.jobs; spans = sound.globals.spans; on_shards = sound.globals.on_shards; disjoint = sound.globals.disjoint };
      logged = record { lawful = logged_stay; numbered = sound.logged.numbered; hulls = sound.logged.hulls };
      locals = λ x h. sound.locals x (was_attached x h);
      online = λ x h. sound.online x (was_attached x h);
      rows = λ x h. sound.rows x (was_attached x h);
      batches = sound.batches;
      suspect = λ x h. sound.suspect x (was_suspect x h);
      jobs = sound.jobs;
      progress = λ job h. batch_stays job h job.phase refl (sound.progress job h);
      tokens = sound.tokens;
    }
