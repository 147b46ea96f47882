-- What happens in one call after another.
use Rattle.std.proofs.Common.{◌≡◌, Bool, true, refl, sym, ap, ◌∙◌, subst, Some, List, [], ◌∷◌, ◌++◌, option_map, arith}
use Rattle.std.specs.Prelude.{Ok, Err, unwrap_or}
use Rattle.std.proofs.lemmas.List.{take_all}
use Rattle.cell_world.specs.Images.{Image, Place, Happening, Committed, Trail, after_one, after_all, extended, image_at, end_of_trail}
use Rattle.cell_world.specs.Outside.{Outside, Told, TellsNothing, TellsContents, TellsTrail, IfContents, IsLater, SameButFaults, Commits, told_after, happens, happens_at, place_at}
use Rattle.cell_world.specs.declared.cells.Site.{Site}
use Rattle.cell_world.specs.declared.changes.Edit.{Edit}
use Rattle.cell_world.specs.declared.outside.WorldError.{WorldError}
use Rattle.cell_world.specs.declared.outside.WorldError.TheVariants as error
use Rattle.cell_world.proofs.ContentsLaws.{contents_all, contents_weaker, contents_both}
use Rattle.cell_world.proofs.OutsideLaws.{later_then}
use Rattle.global_tables.specs.declared.faults.StepFault.{StepFault}
use Rattle.global_tables.specs.declared.faults.StepFault.TheVariants as fault
use Rattle.op_steps.specs.Passing.{Passes, told_after_all, IsTryOf, TriesAt}
use Rattle.op_steps.proofs.Courses.{after_then}

-- ---- what is told

told_then : (told : Told) (hs gs : List Happening) → told_after_all (told_after_all told hs) gs ≡ told_after_all told (hs ++ gs)
told_then told [] gs = refl
told_then told (h ∷ hs) gs = told_then (told_after told h) hs gs

-- the stores after one thing more
image_extended : (trail : Trail) (h : Happening) → image_at (extended trail h) (end_of_trail (extended trail h)) ≡ after_one (image_at trail (end_of_trail trail)) h
image_extended trail h =
    ap (after_all trail.start) (take_all (end_of_trail (extended trail h)) (trail.happened ++ h ∷ []) (omega arith))
    ∙ sym (after_then trail.start trail.happened (h ∷ []))
    ∙ ap (λ hs. after_one (after_all trail.start hs) h) (sym (take_all (end_of_trail trail) trail.happened (omega arith)))

-- What is so of the contents afterwards is so of what the contents before it became.
contents_one : (told : Told) (h : Happening) (Q : Image → Type 0) → IfContents (told_after told h) Q → IfContents told (λ image. Q (after_one image h))
contents_one TellsNothing h Q q = tt
contents_one (TellsContents image) h Q q = q
contents_one (TellsTrail trail) h Q q = subst Q (image_extended trail h) q

pub contents_back : (told : Told) (hs : List Happening) (Q : Image → Type 0) → IfContents (told_after_all told hs) Q → IfContents told (λ image. Q (after_all image hs))
contents_back told [] Q q = q
contents_back told (h ∷ hs) Q q = contents_one told h (λ image. Q (after_all image hs)) (contents_back (told_after told h) hs Q q)

-- ---- one call after another

pub passes_then : (P Q R : Image → List Happening → Type 0) (a b c : Outside) → Passes P a b → Passes Q b c → ((image : Image) (hs gs : List Happening) → P image hs → Q (after_all image hs) gs → R image (hs ++ gs)) → Passes R a c
passes_then P Q R a b c p q both = record {
  happened = p.happened ++ q.happened;
  told = q.told ∙ ap (λ t. told_after_all t q.happened) p.told ∙ told_then a.told p.happened q.happened;
  each = contents_weaker a.told (λ image. P image p.happened × Q (after_all image p.happened) q.happened) (λ image. R image (p.happened ++ q.happened))
      (λ image h. both image p.happened q.happened h.0 h.1)
      (contents_both a.told (λ image. P image p.happened) (λ image. Q (after_all image p.happened) q.happened) p.each
      (contents_back a.told p.happened (λ image. Q image q.happened) (subst (λ t. IfContents t (λ image. Q image q.happened)) p.told q.each)));
  later = later_then a b c p.later q.later;
}

pub passes_weaker : (P Q : Image → List Happening → Type 0) (a b : Outside) → ((image : Image) (hs : List Happening) → P image hs → Q image hs) → Passes P a b → Passes Q a b
passes_weaker P Q a b weaker p = record { happened = p.happened; told = p.told; each = contents_weaker a.told (λ image. P image p.happened) (λ image. Q image p.happened) (λ image. weaker image p.happened) p.each; later = p.later }

-- a call in which nothing happened
pub passes_none : (Q : Image → List Happening → Type 0) (a b : Outside) → b.told ≡ a.told → IsLater a b → IfContents a.told (λ image. Q image []) → Passes Q a b
passes_none Q a b told later q = record { happened = []; told = told; each = q; later = later }

-- a call after one in which nothing happened but which found something
pub passes_found : (F : Image → Type 0) (P Q : Image → List Happening → Type 0) (a b c : Outside) → b.told ≡ a.told → IsLater a b → IfContents a.told F → Passes P b c → ((image : Image) (hs : List Happening) → F image → P image hs → Q image hs) → Passes Q a c
passes_found F P Q a b c told later found p both = record {
  happened = p.happened;
  told = p.told ∙ ap (λ t. told_after_all t p.happened) told;
  each = contents_weaker a.told (λ image. F image × P image p.happened) (λ image. Q image p.happened) (λ image h. both image p.happened h.0 h.1)
      (contents_both a.told F (λ image. P image p.happened) found (subst (λ t. IfContents t (λ image. P image p.happened)) told p.each));
  later = later_then a b c later p.later;
}

-- ---- one transaction

abbrev nothing : List Happening
nothing = []

module _ (old new : Outside) (site : Site) (place : Place) (here : place_at old.locations site.0 ≡ Some place) where
  tried : (change : List Edit) (took : Bool) → SameButFaults (happens_at old site (λ p. Committed p change took)) new → Passes (λ image hs. hs ≡ Committed place change took ∷ []) old new
  tried change took s =
      let same : SameButFaults (happens old (Committed place change took)) new = subst (λ o. SameButFaults (unwrap_or (option_map (λ p. happens old (Committed p change took)) o) old) new) here s in
      record {
        happened = Committed place change took ∷ [];
        told = ap (λ (o : Outside). o.told) same.same;
        each = contents_all old.told (λ image. Committed place change took ∷ [] ≡ Committed place change took ∷ []) (λ image. refl);
        later = record {
          locations = ap (λ (o : Outside). o.locations) same.same;
          faults = same.faults;
          sink = same.sink;
          reads = let e : new.global_reads ≡ old.global_reads = ap (λ (o : Outside). o.global_reads) same.same in omega (arith, e);
        };
      }

  untried : SameButFaults old new → Passes (λ image hs. hs ≡ []) old new
  untried same = record {
    happened = [];
    told = ap (λ (o : Outside). o.told) same.same;
    each = contents_all old.told (λ image. nothing ≡ []) (λ image. refl);
    later = record {
      locations = ap (λ (o : Outside). o.locations) same.same;
      faults = same.faults;
      sink = same.sink;
      reads = let e : new.global_reads ≡ old.global_reads = ap (λ (o : Outside). o.global_reads) same.same in omega (arith, e);
    };
  }

  -- A world's transaction was tried at the place.
  pub commit_ok : (change : List Edit) (done : Unit {0}) → Commits old new site change (Ok done) → TriesAt place change (Ok done) old new
  commit_ok change done c = tried change true c

  pub commit_err : (change : List Edit) (e : WorldError) (f : StepFault) → (e ≡ error.Failed → f ≡ fault.Store) → (e ≡ error.Memory → f ≡ fault.Memory) → Commits old new site change (Err e) → TriesAt place change (Err f) old new
  commit_err change error.Failed f store memory c =
      subst (λ x. TriesAt place change (Err x) old new) (sym (store refl))
      (passes_weaker (λ image hs. hs ≡ Committed place change c.0 ∷ []) (λ image hs. IsTryOf place change (Err fault.Store) hs) old new (λ image hs h. (c.0, h)) (tried change c.0 c.1))
  commit_err change error.Memory f store memory c = subst (λ x. TriesAt place change (Err x) old new) (sym (memory refl)) (untried c)
