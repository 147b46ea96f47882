-- The calls of undo, one after another.
use Rattle.std.proofs.Common.{◌≡◌, ◌⊎◌, true, false, refl, sym, ap, ◌∙◌, subst, Some, None, Option, inl, inr, List, [], ◌∷◌}
use Rattle.std.specs.Prelude.{Result, Err, IsOk, IsSome, IsErrOf}
use Rattle.std.specs.FinMap as map
use Rattle.cell_world.specs.Counts.{Rose}
use Rattle.std.proofs.lemmas.Option.{same_Some}
use Rattle.cell_world.specs.Images.{Image, Global, Shard, Happening, global, after_all}
use Rattle.cell_world.specs.Keys.{same}
use Rattle.cell_world.specs.declared.cells.CellKey.TheVariants as at
use Rattle.cell_world.specs.declared.changes.Edit.TheVariants.{Delete}
use Rattle.cell_world.proofs.SpanLaws.{same_is}
use Rattle.image_laws.specs.LocalSteps.{IsUndone}
use Rattle.cell_world.specs.Outside.{Outside, IfContents, IsLater, IsSite, StoreRoseBy, place_at, site_number}
use Rattle.cell_world.specs.Sound.{Sound, HasLog, locals_at}
use Rattle.cell_world.specs.Sweep.{IsSweptPlain}
use Rattle.cell_world.specs.Texts.{Text}
use Rattle.cell_world.specs.declared.cells.Site.{Site}
use Rattle.cell_world.specs.declared.operations.Op.{Op}
use Rattle.cell_world.specs.declared.operations.Piece.{Piece}
use Rattle.cell_world.specs.declared.changes.Edit.{Edit}
use Rattle.cell_world.proofs.ContentsLaws.{contents_all, contents_weaker}
use Rattle.cell_world.proofs.OutsideLaws.{later_same}
use Rattle.global_tables.specs.declared.faults.StepFault.{StepFault}
use Rattle.global_tables.specs.declared.faults.StepFault.TheVariants as fault
use Rattle.image_laws.proofs.SiteLaws.{place_of_number}
use Rattle.local_tables.specs.Altering.{IsSiteOf, to_undo, if_any}
use Rattle.op_steps.specs.Passing.{Passes, IsTryOf, TriesAt}
use Rattle.op_steps.specs.Undoing.{IsOwnSite, PlainsSites, IsPlainAt, IsOwnAt, DropsRow, UndoesList, Recovers}
use Rattle.op_steps.proofs.Passes.{passes_none, passes_found, passes_weaker}
use Rattle.op_steps.proofs.Rises.{rose_at, rose_global}
use Rattle.op_steps.proofs.RecoverLaws.{none_undone, recovered}
use Rattle.op_steps.proofs.UndoLaws.{nothing_undone, tried_there, tried_drop}

-- an error is no success
pub err_not_ok : (e : StepFault) → IsOk {T = Unit {0}} {E = StepFault} (Err e) → ⊥
err_not_ok e h = let never : false ≡ true = h in cc

-- ---- at one site

-- the place of a location's site
pub place_of_site : (o : Outside) (location : Text) (site : Site) → Some site ≡ site_number o.locations location → place_at o.locations site.0 ≡ Some (Shard location)
place_of_site o location site e = place_of_number o.locations location site (sym e)

pub site_is_some : (o : Outside) (location : Text) (site : Site) → Some site ≡ site_number o.locations location → IsSite o site
site_is_some o location site e = subst IsSome (sym (place_of_site o location site e)) refl

pub site_later : (a b : Outside) (location : Text) (site : Site) → IsLater a b → Some site ≡ site_number a.locations location → place_at b.locations site.0 ≡ Some (Shard location)
site_later a b location site later e = ap (λ ls. place_at ls site.0) later.locations ∙ place_of_site a location site e

pub still_site : (a b : Outside) (location : Text) (site : Site) → IsLater a b → Some site ≡ site_number a.locations location → IsSite b site
still_site a b location site later e = subst IsSome (sym (site_later a b location site later e)) refl

-- where the count of the shard's store or of the global one rose, the store count did
pub rose_either : (a b : Outside) (location : Text) (site : Site) → Some site ≡ site_number a.locations location → IsLater a b → Rose (a.faults_at site.0) (b.faults_at site.0) ⊎ Rose (a.faults_at 0) (b.faults_at 0) → StoreRoseBy 1 a b
rose_either a b location site e later (inl r) = rose_at a b site.0 (site_is_some a location site e) later.faults r
rose_either a b location site e later (inr r) = rose_global a b later.faults r

-- What undo at a site makes of a sound image.
abbrev pub PlainsOne : Op → Text → Type 0 → Image → List Happening → Type 0
PlainsOne op location ok image hs = Sound image → HasLog (global image).log op → IsOwnSite op location image → PlainsSites op ok (λ after. IsSweptPlain op (locals_at after location)) image hs

pub none_tried : (op : Op) (location : Text) (ok : Type 0) (a b : Outside) → (ok → ⊥) → b.told ≡ a.told → IsLater a b → Passes (PlainsOne op location ok) a b
none_tried op location ok a b never told later =
    passes_none (PlainsOne op location ok) a b told later (contents_all a.told (λ image. PlainsOne op location ok image []) (λ image sound logged here. record { course = tt; done = λ k. absurd (never k) }))

-- what undo_change tells
abbrev pub TellsUndo : Op → Text → Option (List Edit) → Image → Type 0
TellsUndo op location change image = HasLog (global image).log op → change ≡ if_any (to_undo (global image).log op (locals_at image location))

tells_at : (o : Outside) (op : Op) (location : Text) (site : Site) (change : Option (List Edit)) → Some site ≡ site_number o.locations location
    → IfContents o.told (λ image. HasLog (global image).log op → (l : Text) → IsSiteOf o site l → change ≡ if_any (to_undo (global image).log op (locals_at image l))) → IfContents o.told (TellsUndo op location change)
tells_at o op location site change e tells =
    contents_weaker o.told (λ image. HasLog (global image).log op → (l : Text) → IsSiteOf o site l → change ≡ if_any (to_undo (global image).log op (locals_at image l))) (TellsUndo op location change)
    (λ image f logged. f logged location (place_of_site o location site e)) tells

pub none_to_do : (op : Op) (location : Text) (site : Site) (ok : Type 0) (a b : Outside) (change : Option (List Edit)) → change ≡ None → Some site ≡ site_number a.locations location → b.told ≡ a.told → IsLater a b
    → IfContents a.told (λ image. HasLog (global image).log op → (l : Text) → IsSiteOf a site l → change ≡ if_any (to_undo (global image).log op (locals_at image l))) → Passes (PlainsOne op location ok) a b
none_to_do op location site ok a b change is e told later tells =
    passes_none (PlainsOne op location ok) a b told later
    (contents_weaker a.told (TellsUndo op location change) (λ image. PlainsOne op location ok image []) (λ image f sound logged here. record { course = tt; done = λ k. nothing_undone image sound op logged location (sym is ∙ f logged) }) (tells_at a op location site change e tells))

pub some_to_do : (op : Op) (location : Text) (site : Site) (edits : List Edit) (result : Result (Unit {0}) StepFault) (a b c : Outside) (change : Option (List Edit)) → change ≡ Some edits → Some site ≡ site_number a.locations location → b.told ≡ a.told → IsLater a b
    → IfContents a.told (λ image. HasLog (global image).log op → (l : Text) → IsSiteOf a site l → change ≡ if_any (to_undo (global image).log op (locals_at image l)))
    → TriesAt (Shard location) edits result b c → Passes (PlainsOne op location (IsOk result)) a c
some_to_do op location site edits result a b c change is e told later tells tries =
    passes_found (TellsUndo op location change) (λ image hs. IsTryOf (Shard location) edits result hs) (PlainsOne op location (IsOk result)) a b c told later (tells_at a op location site change e tells) tries
    (λ image hs f h sound logged here. tried_there image sound op logged location here edits (sym is ∙ f logged) result hs h)

-- the other fault of an error
pub fault_is : (f : StepFault) → IsErrOf {T = Unit {0}} {E = StepFault} (Err f) fault.Store → f ≡ fault.Store
fault_is f h = cc

-- of an answer of any type
pub fault_in : (T : Type 0) (f : StepFault) → IsErrOf {T = T} {E = StepFault} (Err f) fault.Store → f ≡ fault.Store
fault_in T f h = cc

-- ---- the log row

abbrev pub DropsOne : Op → Type 0 → Image → List Happening → Type 0
DropsOne op ok image hs = HasLog (global image).log op → IsUndone image op → DropsRow op ok image hs

pub drop_tried : (op : Op) (edits : List Edit) (result : Result (Unit {0}) StepFault) (a b : Outside) → edits ≡ Delete (at.Log op.number) ∷ [] → TriesAt Global edits result a b → Passes (DropsOne op (IsOk result)) a b
drop_tried op edits result a b is tries =
    passes_weaker (λ image hs. IsTryOf Global edits result hs) (DropsOne op (IsOk result)) a b (λ image hs h logged undone. tried_drop image op logged undone result hs (subst (λ es. IsTryOf Global es result hs) is h)) tries

pub drop_none : (op : Op) (a : Outside) → Passes (DropsOne op (IsOk {T = Unit {0}} {E = StepFault} (Err fault.Memory))) a a
drop_none op a = passes_none (DropsOne op (IsOk {T = Unit {0}} {E = StepFault} (Err fault.Memory))) a a refl (later_same a)
    (contents_all a.told (λ image. DropsOne op (IsOk {T = Unit {0}} {E = StepFault} (Err fault.Memory)) image []) (λ image logged undone. record { course = tt; gone = λ k. absurd (err_not_ok fault.Memory k) }))

-- ---- at the site of a mapping

-- What undo at the site of a mapping makes of a sound image, where that of another one is done.
abbrev pub PlainsBeside : Op → Option Piece → Option Piece → Type 0 → Image → List Happening → Type 0
PlainsBeside op piece done ok image hs = Sound image → HasLog (global image).log op → IsOwnAt op piece image → IsPlainAt op done image → PlainsSites op ok (IsPlainAt op piece) image hs

pub same_site : (op : Op) (o d : Option Piece) (piece done : Piece) (ok : Type 0) (a : Outside) → o ≡ Some piece → d ≡ Some done → same piece.location done.location ≡ true → Passes (PlainsBeside op o d ok) a a
same_site op o d piece done ok a is was t = subst (λ (x : Option Piece × Option Piece). Passes (PlainsBeside op x.0 x.1 ok) a a) (λ i. (sym is i, sym was i)) (passes_none (PlainsBeside op (Some piece) (Some done) ok) a a refl (later_same a)
    (contents_all a.told (λ image. PlainsBeside op (Some piece) (Some done) ok image []) (λ image sound logged here d. record {
      course = tt;
      done = λ k p e. subst (λ l. IsSweptPlain op (locals_at image l)) (sym (same_is piece.location done.location t) ∙ ap (λ (x : Piece). x.location) (same_Some piece p e)) (d done refl);
    })))

pub other_site : (op : Op) (o : Option Piece) (piece : Piece) (done : Option Piece) (ok : Type 0) (a b : Outside) → o ≡ Some piece → Passes (PlainsOne op piece.location ok) a b → Passes (PlainsBeside op o done ok) a b
other_site op o piece done ok a b is p = subst (λ x. Passes (PlainsBeside op x done ok) a b) (sym is) (passes_weaker (PlainsOne op piece.location ok) (PlainsBeside op (Some piece) done ok) a b
    (λ image hs f sound logged here d. let r = f sound logged (here piece refl) in record { course = r.course; done = λ k x e. subst (λ l. IsSweptPlain op (locals_at (after_all image hs) l)) (ap (λ (y : Piece). y.location) (same_Some piece x e)) (r.done k) }) p)

-- ---- several operations

pub list_begins : (ops : List Op) (a : Outside) → Passes (UndoesList [] (true ≡ true)) a a
list_begins ops a = passes_none (UndoesList [] (true ≡ true)) a a refl (later_same a) (contents_all a.told (λ image. UndoesList [] (true ≡ true) image []) none_undone)

-- recovery: the log is read, and what stands there is undone
pub recovers : (ops : List Op) (ok : Type 0) (a b c : Outside) → b.told ≡ a.told → IsLater a b → IfContents a.told (λ image. ops ≡ map.values (global image).log) → Passes (UndoesList ops ok) b c → Passes (Recovers ok) a c
recovers ops ok a b c told later found p =
    passes_found (λ image. ops ≡ map.values (global image).log) (UndoesList ops ok) (Recovers ok) a b c told later found p (λ image hs is u. recovered ops ok image hs is u)

-- or the log couldn't be read
pub recovers_none : (ok : Type 0) (a b : Outside) → (ok → ⊥) → b.told ≡ a.told → IsLater a b → Passes (Recovers ok) a b
recovers_none ok a b never told later = passes_none (Recovers ok) a b told later (contents_all a.told (λ image. Recovers ok image []) (λ image sound. record { course = tt; empty = λ k. absurd (never k) }))
