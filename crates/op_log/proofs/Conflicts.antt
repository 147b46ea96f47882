-- Conflicts, and short changes that have none.
use Rattle.std.proofs.Common.{◌≡◌, Bool, true, false, refl, sym, ap, ◌∙◌, subst, true≢false, ◌&&◌}
use Rattle.std.specs.Prelude.{IsTrue}
use Rattle.std.proofs.lemmas.Bool.{and_from, and_parts}
use Rattle.cell_world.specs.Keys.{same, overlaps}
use Rattle.cell_world.specs.Images.{Image, global}
use Rattle.cell_world.specs.Lawful.{Lawful}
use Rattle.cell_world.specs.Operations.{conflicts, reach_of}
use Rattle.cell_world.specs.Sound.{Sound, HasLog}
use Rattle.cell_world.specs.Stores.{Log}
use Rattle.cell_world.specs.declared.operations.Op.{Op}
use Rattle.cell_world.specs.declared.operations.Piece.{Piece}
use Rattle.cell_world.specs.declared.operations.Reach.{Reach}
use Rattle.cell_world.specs.declared.operations.Reach.TheVariants as reach
use Rattle.cell_world.proofs.SpanLaws.{same_is, same_self, overlaps_comm}
use Rattle.image_laws.proofs.CatalogLaws.{catalog_keeps_sound}
use Rattle.image_laws.proofs.CatalogCommits.{unshard_keeps_sound}
use Rattle.image_laws.proofs.TokenImages.{put_token_sound}
use Rattle.image_laws.proofs.RowsAtOwners.{put_sound, delete_sound}
use Rattle.op_log.specs.ShortChanges.{ShortChange, Catalog, Unshard, Retoken, PutRow, DeleteRow}
use Rattle.op_log.specs.JobSiteChanges.{JobSiteChange, BeginJob, FinishJob, Detach}
use Rattle.op_log.proofs.JobBeginnings.{begun_sound}
use Rattle.op_log.proofs.JobFinishes.{finished_sound}
use Rattle.op_log.proofs.Detaching.{detached_sound}

-- two tests that follow from each other are one
same_test : (a b : Bool) → (a ≡ true → b ≡ true) → (b ≡ true → a ≡ true) → a ≡ b
same_test true b f g = sym (f refl)
same_test false true f g = g refl
same_test false false f g = refl

-- Of two operations the one conflicts with the other where the other conflicts with it.
pub turned_about : (op other : Op) → conflicts (reach_of op) other ≡ conflicts (reach_of other) op
turned_about op other = same_test (conflicts (reach_of op) other) (conflicts (reach_of other) op) (turned op other) (turned other op)
  where
    turned : (a b : Op) → conflicts (reach_of a) b ≡ true → conflicts (reach_of b) a ≡ true
    turned a b h =
        let both = and_parts (same a.map b.map) (overlaps a.hull b.hull) h in
        and_from (same b.map a.map) (overlaps b.hull a.hull) (subst (λ n. same n a.map ≡ true) (same_is a.map b.map both.0) (same_self a.map)) (overlaps_comm b.hull a.hull ∙ both.1)

-- what is reached of a mapping is apart from the hull of each operation that it doesn't conflict with
clear_of : (p : Piece) (op : Op) → conflicts (reach.Part p.map p.span) op ≡ false → p.map ≡ op.map → IsTrue (overlaps p.span op.hull) → ⊥
clear_of p op clear e over = true≢false (sym (and_from (same p.map op.map) (overlaps p.span op.hull) (subst (λ n. same p.map n ≡ true) e (same_self p.map)) over) ∙ clear)

module _ (image : Image) (sound : Sound image) (reached : Reach) (after : Image) (change : ShortChange image reached after) (clear : (op : Op) → HasLog (global image).log op → conflicts reached op ≡ false) where
  -- A short change that conflicts with no logged operation keeps an image sound.
  pub short_sound : Sound after
  short_sound = by change
    where
      by : ShortChange image reached after → Sound after
      by (Catalog r maps shards tables serves is) = subst Sound (sym is) (catalog_keeps_sound image sound maps shards tables serves)
      by (Unshard name location r here unmapped untargeted is) =
          subst Sound (sym is) (unshard_keeps_sound image sound name location here unmapped untargeted (λ op h. ap (λ x. conflicts x op) (sym r) ∙ clear op h))
      by (Retoken p has r token old_free new_free is) =
          subst Sound (sym is) (put_token_sound image sound p has token old_free new_free (λ op h. clear_of p op (ap (λ x. conflicts x op) (sym r) ∙ clear op h)))
      by (PutRow r row bytes p owned online here tabled is) = subst Sound (sym is) (put_sound image sound row p owned online here bytes tabled)
      by (DeleteRow r row p owned online here is) = subst Sound (sym is) (delete_sound image sound row p owned online here)

-- It leaves the log as it is.
pub short_log : (image : Image) (reached : Reach) (after : Image) → ShortChange image reached after → (global after).log ≡ (global image).log
short_log image reached after (Catalog r maps shards tables serves is) = ap (λ i. (global i).log) is
short_log image reached after (Unshard name location r here unmapped untargeted is) = ap (λ i. (global i).log) is
short_log image reached after (Retoken p has r token old_free new_free is) = ap (λ i. (global i).log) is
short_log image reached after (PutRow r row bytes p owned online here tabled is) = ap (λ i. (global i).log) is
short_log image reached after (DeleteRow r row p owned online here is) = ap (λ i. (global i).log) is

-- And each logged operation lawful.
pub short_lawful : (image : Image) → Sound image → (reached : Reach) (after : Image) → ShortChange image reached after → ((op : Op) → HasLog (global image).log op → conflicts reached op ≡ false) → (op : Op) → HasLog (global image).log op → Lawful after op
short_lawful image sound reached after change clear op h =
    (short_sound image sound reached after change clear).logged.lawful op (subst (λ (log : Log). HasLog log op) (sym (short_log image reached after change)) h)

-- ---- jobs and sites

module _ (image : Image) (sound : Sound image) (reached : Reach) (after : Image) (change : JobSiteChange image reached after) (clear : (op : Op) → HasLog (global image).log op → conflicts reached op ≡ false) where
  -- A change of a job or a site that conflicts with no logged operation keeps an image sound.
  pub job_site_sound : Sound after
  job_site_sound = by change
    where
      by : JobSiteChange image reached after → Sound after
      by (BeginJob p r low high target batch may is) =
          subst Sound (sym is) (begun_sound image sound p low high target batch may (λ op h. clear_of p op (ap (λ x. conflicts x op) (sym r) ∙ clear op h)))
      by (FinishJob r job has at_finish mappings freed is) = subst Sound (sym is) (finished_sound image sound job has at_finish mappings freed)
      by (Detach location r quiet is) = subst Sound (sym is) (detached_sound image location sound (λ op h. ap (λ x. conflicts x op) (sym r) ∙ clear op h) quiet)

-- It leaves the log as it is.
pub job_site_log : (image : Image) (reached : Reach) (after : Image) → JobSiteChange image reached after → (global after).log ≡ (global image).log
job_site_log image reached after (BeginJob p r low high target batch may is) = ap (λ i. (global i).log) is
job_site_log image reached after (FinishJob r job has at_finish mappings freed is) = ap (λ i. (global i).log) is
job_site_log image reached after (Detach location r quiet is) = ap (λ i. (global i).log) is

-- And each logged operation lawful.
pub job_site_lawful : (image : Image) → Sound image → (reached : Reach) (after : Image) → JobSiteChange image reached after → ((op : Op) → HasLog (global image).log op → conflicts reached op ≡ false) → (op : Op) → HasLog (global image).log op → Lawful after op
job_site_lawful image sound reached after change clear op h =
    (job_site_sound image sound reached after change clear).logged.lawful op (subst (λ (log : Log). HasLog log op) (sym (job_site_log image reached after change)) h)
