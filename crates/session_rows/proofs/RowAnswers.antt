-- What row commands are answered, where contents are told.
use Rattle.std.proofs.Common.{◌≡◌, ℕ, true, cond, not, List, [], ◌∷◌, ◌++◌, Option, Some, None, is_some, refl, sym, ap, ◌∙◌, subst}
use Rattle.std.specs.Prelude.{IfErr, IsErr, IsErrAnd, Result, Ok, Err}
use Rattle.std.specs.FinMap as map
use Rattle.std.specs.FinSet as set
use Rattle.cell_world.specs.Texts.{Text}
use Rattle.cell_world.specs.Images.{Image, Shard, global}
use Rattle.cell_world.specs.Keys.{is_among}
use Rattle.cell_world.specs.Meaning.{meaning}
use Rattle.cell_world.specs.Outside.{Outside, Told, IfContents, IsWorld, site_number}
use Rattle.cell_world.specs.Plain.{PlainState, Connection}
use Rattle.cell_world.specs.Sound.{HasTable}
use Rattle.cell_world.specs.declared.cells.RowName.{RowName}
use Rattle.cell_world.specs.declared.cells.Site.{Site}
use Rattle.cell_world.specs.declared.changes.Edit.{Edit}
use Rattle.cell_world.proofs.ContentsLaws.{contents_all, contents_weaker, contents_both}
use Rattle.global_tables.specs.Known.{Known, known_of}
use Rattle.map_ops.proofs.Checks.{none_holds, of_not, first_then, first_else}
use Rattle.map_ops.proofs.KnownLocations.{location_known}
use Rattle.plain_model.specs.Refusing.{Check, refusal, first_refusal, no_row, row_of}
use Rattle.plain_model.specs.declared.replies.Refusal.{Refusal}
use Rattle.plain_model.specs.declared.replies.Refusal.TheVariants as refused
use Rattle.connections.specs.Links.{connection, IsOwned}
use Rattle.connections.specs.declared.links.Link.{Link}
use Rattle.session_rows.specs.Rows.{AnswersChange, AnswersRow, FindsRow, GoesBy, IsFault, LinkRefuses, Numbered, Refuses, delete_change, delete_command, get_command, link_checks, linked, put_change, put_command}
use Rattle.session_rows.specs.declared.stops.RowStop.{RowStop}
use Rattle.session_rows.specs.declared.stops.RowStop.TheVariants as stop
use Rattle.session_rows.proofs.RowLaws.{put_does, delete_does, get_does, row_there}

-- a connection that none of them refuses is live, and its map has the table
accepted_link : (image : Image) (c : Connection) (table : Text) → first_refusal (link_checks (meaning image) (Some c) table) ≡ None → (c.live ≡ true) × HasTable (global image).tables c.map table
accepted_link image c table h = let none = none_holds (link_checks (meaning image) (Some c) table) h in (of_not c.live none.1.0, of_not (set.contains (global image).tables (c.map, table)) none.1.1.0)

-- ---- all checks

-- those of `get` and `del`
abbrev row_checks : PlainState → Option Connection → Text → ℕ → List Check
row_checks s c table id = link_checks s c table ++ (no_row s c table id ∷ [])

module _ (known : Known) (table : Text) (id : ℕ) (image : Image) (copy : known ≡ known_of (global image)) where
  put_refuses : (bytes : Text) (c : Option Connection) (r : Option Refusal) → LinkRefuses known c table r → Refuses (put_command table id bytes) c r image
  unfolding refusal
  put_refuses bytes c r refuses session number connections there = ap (λ (o : Option Connection). first_refusal (link_checks (meaning image) o table)) there ∙ refuses image copy

  get_refuses : (c : Option Connection) (r : Option Refusal) → first_refusal (row_checks (meaning image) c table id) ≡ r → Refuses (get_command table id) c r image
  unfolding refusal
  get_refuses c r refuses session number connections there = ap (λ (o : Option Connection). first_refusal (row_checks (meaning image) o table id)) there ∙ refuses

  delete_refuses : (c : Option Connection) (r : Option Refusal) → first_refusal (row_checks (meaning image) c table id) ≡ r → Refuses (delete_command table id) c r image
  unfolding refusal
  delete_refuses c r refuses session number connections there = ap (λ (o : Option Connection). first_refusal (row_checks (meaning image) o table id)) there ∙ refuses

  -- a check that asks for no row decides
  row_early : (c : Option Connection) (r : Refusal) → LinkRefuses known c table (Some r) → first_refusal (row_checks (meaning image) c table id) ≡ Some r
  row_early c r refuses = first_then (link_checks (meaning image) c table) (no_row (meaning image) c table id ∷ []) (ap is_some (refuses image copy)) ∙ refuses image copy

  -- or else whether the row is there
  row_late : (c : Connection) → LinkRefuses known (Some c) table None → (row : Option Text) → map.get (meaning image).rows (row_of c table id) ≡ row
      → first_refusal (row_checks (meaning image) (Some c) table id) ≡ cond (not (is_some row)) (Some refused.Absent) None
  row_late c goes row e = first_else (link_checks (meaning image) (Some c) table) (no_row (meaning image) (Some c) table id ∷ []) (ap is_some (goes image copy))
      ∙ ap (λ (o : Option Text). cond (not (is_some o)) (Some refused.Absent) None) e

-- ---- a command that is refused before its row is asked for

-- The call ends with this stop.
abbrev pub EndsBy : {T : Type 0} → RowStop → Result T RowStop → Type 0
EndsBy s result = IsErr result × IsErrAnd result (λ to. to ≡ s)

ends_by : {T : Type 0} (s : RowStop) (result : Result T RowStop) → EndsBy s result → (P : Result T RowStop → Type 0) → P (Err s) → P result
ends_by s (Ok value) ends P p = absurd ends.1
ends_by s (Err to) ends P p = subst (λ (x : RowStop). P (Err x)) (sym ends.1) p

module _ (told : Told) (known : Known) (link : Option Link) (table : Text) (id : ℕ) (r : Refusal) (refuses : LinkRefuses known (linked link) table (Some r)) where
  pub put_refused : (bytes : Text) (result : Result (Unit {0}) RowStop) → EndsBy (stop.Refused r) result → IfContents told (AnswersChange known (put_command table id bytes) (linked link) (put_change table id bytes) result)
  put_refused bytes result ends = ends_by (stop.Refused r) result ends (λ x. IfContents told (AnswersChange known (put_command table id bytes) (linked link) (put_change table id bytes) x))
      (contents_all told (AnswersChange known (put_command table id bytes) (linked link) (put_change table id bytes) (Err (stop.Refused r)))
      (λ image base. put_refuses known table id image base.copy bytes (linked link) (Some r) refuses))

  pub get_refused : (result : Result Text RowStop) → EndsBy (stop.Refused r) result → IfContents told (AnswersRow known (get_command table id) (linked link) result)
  get_refused result ends = ends_by (stop.Refused r) result ends (λ x. IfContents told (AnswersRow known (get_command table id) (linked link) x))
      (contents_all told (AnswersRow known (get_command table id) (linked link) (Err (stop.Refused r)))
      (λ image base. get_refuses known table id image base.copy (linked link) (Some r) (row_early known table id image base.copy (linked link) r refuses)))

  pub delete_refused : (result : Result (Unit {0}) RowStop) → EndsBy (stop.Refused r) result → IfContents told (AnswersChange known (delete_command table id) (linked link) (delete_change table id) result)
  delete_refused result ends = ends_by (stop.Refused r) result ends (λ x. IfContents told (AnswersChange known (delete_command table id) (linked link) (delete_change table id) x))
      (contents_all told (AnswersChange known (delete_command table id) (linked link) (delete_change table id) (Err (stop.Refused r)))
      (λ image base. delete_refuses known table id image base.copy (linked link) (Some r) (row_early known table id image base.copy (linked link) r refuses)))

-- ---- what is answered without a refusal or a value

change_stops : (told : Told) (known : Known) (command : Numbered) (c : Option Connection) (change : Connection → List Edit) (s : RowStop) → IsFault s → IfContents told (AnswersChange known command c change (Err s))
change_stops told known command c change (stop.Refused r) none = absurd none
change_stops told known command c change stop.Store none = contents_all told (AnswersChange known command c change (Err stop.Store)) (λ image base. tt)
change_stops told known command c change stop.Memory none = contents_all told (AnswersChange known command c change (Err stop.Memory)) (λ image base. tt)

-- ---- a command that goes by a link

-- A call that asked a store asked one that the world has.
asked : {T : Type 0} (site : Option Site) (value : T) → (site ≡ None → Ok value ≡ Err stop.Memory) → is_some site ≡ true
asked None value unknown = let wrong : Ok value ≡ Err stop.Memory = unknown refl in cc
asked (Some site) value unknown = refl

module _ (o : Outside) (world : IsWorld o) (l : Link) where
  abbrev at : Option Site
  at = site_number o.locations l.location

  abbrev IsKnown : Image → Type 0
  IsKnown image = is_some at ≡ is_among image.locations l.location

  knows : IfContents o.told IsKnown
  knows = location_known o world l.location at (is_some at) refl refl

-- What a read of the site finds is the plain state's.
module _ (o : Outside) (world : IsWorld o) (l : Link) (table : Text) (id : ℕ) (row : RowName) (named : row ≡ row_of (connection l) table id) (read : Option Text) (unknown : at o world l ≡ None → Ok read ≡ Err stop.Memory) where
  abbrev Stored : Image → Type 0
  Stored image = read ≡ map.get (image.at (Shard l.location)).rows row

  there_by : (image : Image) → IsKnown o world l image × Stored image → IsOwned (meaning image) (connection l) → map.get (meaning image).rows (row_of (connection l) table id) ≡ read
  there_by image both own = row_there image (connection l) own (sym both.0 ∙ asked (at o world l) read unknown) table id ∙ ap (map.get (image.at (Shard l.location)).rows) (sym named) ∙ sym both.1

  pub finds_bytes : (bytes : Text) → read ≡ Some bytes → IfContents o.told Stored → IfContents o.told (FindsRow (connection l) table id (Ok bytes))
  finds_bytes bytes is stored = contents_weaker o.told (λ image. IsKnown o world l image × Stored image) (FindsRow (connection l) table id (Ok bytes))
      (λ image both own. there_by image both own ∙ is) (contents_both o.told (IsKnown o world l) Stored (knows o world l) stored)

  pub finds_none : read ≡ None → IfContents o.told Stored → IfContents o.told (FindsRow (connection l) table id (Err (stop.Refused refused.Absent)))
  finds_none is stored = contents_weaker o.told (λ image. IsKnown o world l image × Stored image) (FindsRow (connection l) table id (Err (stop.Refused refused.Absent)))
      (λ image both. (refl, λ own. there_by image both own ∙ is)) (contents_both o.told (IsKnown o world l) Stored (knows o world l) stored)

module _ (o : Outside) (world : IsWorld o) (known : Known) (l : Link) (table : Text) (id : ℕ) (goes : LinkRefuses known (Some (connection l)) table None) where
  owned_by : (image : Image) → (l.live ≡ true → IsOwned (meaning image) (connection l)) → known ≡ known_of (global image) → IsOwned (meaning image) (connection l)
  owned_by image owned copy = owned (accepted_link image (connection l) table (goes image copy)).0

  put_done : (bytes : Text) (done : Unit {0}) → is_some (at o world l) ≡ true → IfContents o.told (AnswersChange known (put_command table id bytes) (Some (connection l)) (put_change table id bytes) (Ok done))
  put_done bytes done there = contents_weaker o.told (IsKnown o world l) (AnswersChange known (put_command table id bytes) (Some (connection l)) (put_change table id bytes) (Ok done))
      (λ image is base. let refuses = put_refuses known table id image base.copy bytes (Some (connection l)) None goes in (
        refuses,
        λ session number.
            put_does image (connection l) (owned_by image base.owned base.copy) (sym is ∙ there) table id base.sound session number bytes (accepted_link image (connection l) table (goes image base.copy)).1 (refuses session number),
      ))
      (knows o world l)

  put_answers : (bytes : Text) (result : Result (Unit {0}) RowStop) → IfErr result IsFault → (at o world l ≡ None → result ≡ Err stop.Memory)
      → IfContents o.told (AnswersChange known (put_command table id bytes) (Some (connection l)) (put_change table id bytes) result)
  put_answers bytes (Ok done) fault unknown = put_done bytes done (asked (at o world l) done unknown)
  put_answers bytes (Err s) fault unknown = change_stops o.told known (put_command table id bytes) (Some (connection l)) (put_change table id bytes) s fault

  abbrev Finds : Result Text RowStop → Image → Type 0
  Finds found = FindsRow (connection l) table id found

  -- `get` is answered as the read finds
  get_by : (found : Result Text RowStop) (image : Image) → Finds found image → AnswersRow known (get_command table id) (Some (connection l)) found image
  get_by (Ok bytes) image finds base =
      let has = finds (owned_by image base.owned base.copy) in
      let refuses = get_refuses known table id image base.copy (Some (connection l)) None (row_late known table id image base.copy (connection l) goes (Some bytes) has) in
      (refuses, λ session number. get_does image base.sound (connection l) table id bytes has session number (refuses session number))
  get_by (Err (stop.Refused r)) image finds base = subst (λ (q : Refusal). Refuses (get_command table id) (Some (connection l)) (Some q) image) (sym finds.0)
      (get_refuses known table id image base.copy (Some (connection l)) (Some refused.Absent) (row_late known table id image base.copy (connection l) goes None (finds.1 (owned_by image base.owned base.copy))))
  get_by (Err stop.Store) image finds base = tt
  get_by (Err stop.Memory) image finds base = tt

  get_answers : (found : Result Text RowStop) → IfContents o.told (Finds found) → IfContents o.told (AnswersRow known (get_command table id) (Some (connection l)) found)
  get_answers found = contents_weaker o.told (Finds found) (AnswersRow known (get_command table id) (Some (connection l)) found) (get_by found)

  -- `del` is refused where the read finds no row
  absent_by : (s : RowStop) (image : Image) → Finds (Err s) image → AnswersChange known (delete_command table id) (Some (connection l)) (delete_change table id) (Err s) image
  absent_by (stop.Refused r) image finds base = subst (λ (q : Refusal). Refuses (delete_command table id) (Some (connection l)) (Some q) image) (sym finds.0)
      (delete_refuses known table id image base.copy (Some (connection l)) (Some refused.Absent) (row_late known table id image base.copy (connection l) goes None (finds.1 (owned_by image base.owned base.copy))))
  absent_by stop.Store image finds base = tt
  absent_by stop.Memory image finds base = tt

  delete_absent : (s : RowStop) → IfContents o.told (Finds (Err s)) → IfContents o.told (AnswersChange known (delete_command table id) (Some (connection l)) (delete_change table id) (Err s))
  delete_absent s = contents_weaker o.told (Finds (Err s)) (AnswersChange known (delete_command table id) (Some (connection l)) (delete_change table id) (Err s)) (absent_by s)

  delete_done : (bytes : Text) → IfContents o.told (Finds (Ok bytes)) → (done : Unit {0}) → is_some (at o world l) ≡ true
      → IfContents o.told (AnswersChange known (delete_command table id) (Some (connection l)) (delete_change table id) (Ok done))
  delete_done bytes found done there = contents_weaker o.told (λ image. IsKnown o world l image × Finds (Ok bytes) image) (AnswersChange known (delete_command table id) (Some (connection l)) (delete_change table id) (Ok done))
      (λ image both base.
      let own = owned_by image base.owned base.copy in
      let refuses = delete_refuses known table id image base.copy (Some (connection l)) None (row_late known table id image base.copy (connection l) goes (Some bytes) (both.1 own)) in
      (refuses, λ session number. delete_does image (connection l) own (sym both.0 ∙ there) table id base.sound session number (refuses session number)))
      (contents_both o.told (IsKnown o world l) (Finds (Ok bytes)) (knows o world l) found)

  -- and else as its transaction comes out
  delete_answers : (bytes : Text) → (at o world l ≡ None → Ok bytes ≡ Err stop.Memory) → IfContents o.told (Finds (Ok bytes)) → (result : Result (Unit {0}) RowStop) → IfErr result IsFault
      → IfContents o.told (AnswersChange known (delete_command table id) (Some (connection l)) (delete_change table id) result)
  delete_answers bytes unknown found (Ok done) fault = delete_done bytes found done (asked (at o world l) bytes unknown)
  delete_answers bytes unknown found (Err s) fault = change_stops o.told known (delete_command table id) (Some (connection l)) (delete_change table id) s fault

-- ---- and so by the link that the session's table has

module _ (o : Outside) (world : IsWorld o) (known : Known) (link : Option Link) (l : Link) (table : Text) (id : ℕ) (goes : GoesBy known link table (Ok l)) where
  by_link : LinkRefuses known (Some (connection l)) table None
  by_link = subst (λ (k : Option Link). LinkRefuses known (linked k) table None) goes.0 goes.1

  pub put_linked : (bytes : Text) (result : Result (Unit {0}) RowStop) → IfErr result IsFault → (at o world l ≡ None → result ≡ Err stop.Memory)
      → IfContents o.told (AnswersChange known (put_command table id bytes) (linked link) (put_change table id bytes) result)
  put_linked bytes result fault unknown = subst (λ (k : Option Link). IfContents o.told (AnswersChange known (put_command table id bytes) (linked k) (put_change table id bytes) result)) (sym goes.0)
      (put_answers o world known l table id by_link bytes result fault unknown)

  pub get_linked : (found : Result Text RowStop) → IfContents o.told (FindsRow (connection l) table id found) → IfContents o.told (AnswersRow known (get_command table id) (linked link) found)
  get_linked found finds = subst (λ (k : Option Link). IfContents o.told (AnswersRow known (get_command table id) (linked k) found)) (sym goes.0) (get_answers o world known l table id by_link found finds)

  pub absent_linked : (s : RowStop) → IfContents o.told (FindsRow (connection l) table id (Err s)) → (result : Result (Unit {0}) RowStop) → EndsBy s result
      → IfContents o.told (AnswersChange known (delete_command table id) (linked link) (delete_change table id) result)
  absent_linked s finds result ends = subst (λ (k : Option Link). IfContents o.told (AnswersChange known (delete_command table id) (linked k) (delete_change table id) result)) (sym goes.0)
      (ends_by s result ends (λ x. IfContents o.told (AnswersChange known (delete_command table id) (Some (connection l)) (delete_change table id) x)) (delete_absent o world known l table id by_link s finds))

  pub delete_linked : (bytes : Text) → (at o world l ≡ None → Ok bytes ≡ Err stop.Memory) → IfContents o.told (FindsRow (connection l) table id (Ok bytes)) → (result : Result (Unit {0}) RowStop) → IfErr result IsFault
      → IfContents o.told (AnswersChange known (delete_command table id) (linked link) (delete_change table id) result)
  delete_linked bytes unknown finds result fault = subst (λ (k : Option Link). IfContents o.told (AnswersChange known (delete_command table id) (linked k) (delete_change table id) result)) (sym goes.0)
      (delete_answers o world known l table id by_link bytes unknown finds result fault)
