-- A copy of the tables after an edit is what the store says after the edit.
use Rattle.std.proofs.Common.{◌≡◌, ℕ, ◌+◌, ◌<◌, true, List, [], ◌∷◌, ◌++◌, map, length, take, get_or, refl, sym, ap, ◌∙◌, subst}
use Rattle.std.specs.Prelude.{OnOk, Result, Ok, Err}
use Rattle.std.specs.FinMap as fin
use Rattle.std.proofs.lemmas.List.{take_more}
use Rattle.cell_world.specs.Texts.{Text}
use Rattle.cell_world.specs.Members.{members}
use Rattle.cell_world.specs.Stores.{Store, IsKeyed, own_key, put, delete, edited, changed}
use Rattle.cell_world.specs.declared.cells.Cell.{Cell}
use Rattle.cell_world.specs.declared.cells.Cell.TheVariants as cell
use Rattle.cell_world.specs.declared.cells.CellKey.{CellKey}
use Rattle.cell_world.specs.declared.cells.CellKey.TheVariants as at
use Rattle.cell_world.specs.declared.cells.MapKind.{MapKind}
use Rattle.cell_world.specs.declared.cells.KeyType.{KeyType}
use Rattle.cell_world.specs.declared.cells.Away.{Away}
use Rattle.cell_world.specs.declared.changes.Edit.{Edit}
use Rattle.cell_world.specs.declared.operations.JobRow.{JobRow}
use Rattle.cell_world.proofs.KeyedLaws.{keyed_changed}
use Rattle.image_laws.proofs.CommitEdits.{changed-append}
use Rattle.global_tables.specs.declared.groups.Group.{Group}
use Rattle.global_tables.specs.declared.groups.Group.TheVariants as group
use Rattle.global_tables.specs.declared.rows.MapRow.{MapRow}
use Rattle.global_tables.specs.declared.rows.ShardRow.{ShardRow}
use Rattle.global_tables.specs.declared.rows.TableRow.{TableRow}
use Rattle.global_tables.specs.declared.rows.AwayRow.{AwayRow}
use Rattle.global_tables.specs.Groups.{is_in, cells_of}
use Rattle.global_tables.specs.Known.{Known, known_of, map_row, shard_row, table_row, away_row}
use Rattle.global_tables.proofs.KnownLaws.{map_cell, shard_cell, table_cell, away_cell, again, maps_from, shards_from, tables_from, away_from, jobs_from}

pub on_ok : {V E A B : Type 0} (r : Result V E) → (A → B) → OnOk r A → OnOk r B
on_ok (Ok v) weaker h = weaker h
on_ok (Err e) weaker h = tt

module _ {A : Type 0} (of : A → Cell) (olds news : List A) where
  -- the rows of a group, with the cell put among them
  abbrev pub Puts : Cell → Type 0
  Puts c = (row : A) → c ≡ of row → (s : Store) → IsKeyed s → (g : Group) → is_in g (own_key c) ≡ true → map of olds ≡ cells_of s g → map of news ≡ cells_of (put s c) g

  -- and without the one under the key
  abbrev pub Removes : CellKey → Type 0
  Removes key = (s : Store) → IsKeyed s → (g : Group) → is_in g key ≡ true → map of olds ≡ cells_of s g → map of news ≡ cells_of (delete s key) g

module _ (known : Known) (s : Store) (keyed : IsKeyed s) (is : known ≡ known_of s) where
  -- ---- maps

  maps_become : (t : Store) (news : List MapRow) → record (known_of s) { maps = map map_row (fin.entries t.maps) } ≡ known_of t → (map map_cell known.maps ≡ cells_of s group.Maps → map map_cell news ≡ cells_of t group.Maps) → record known { maps = news } ≡ known_of t
  maps_become t news same change = (λ i. record (is i) { maps = news })
      ∙ ap (λ (rows : List MapRow). record (known_of s) { maps = rows }) (maps_from t news (change (ap (λ (k : Known). map map_cell k.maps) is ∙ again map_row map_cell (fin.entries s.maps)))) ∙ same

  pub map_put : (name : Text) (kind : MapKind) (type : KeyType) (c : Cell) → c ≡ cell.Map name kind type → (news : List MapRow) → Puts map_cell known.maps news c → record known { maps = news } ≡ known_of (put s c)
  map_put name kind type c e news = subst (λ x. Puts map_cell known.maps news x → record known { maps = news } ≡ known_of (put s x)) (sym e)
      (λ puts. maps_become (put s (cell.Map name kind type)) news refl (puts (record { name = name; kind = kind; key_type = type }) refl s keyed group.Maps refl))

  pub map_deleted : (name : Text) (key : CellKey) → key ≡ at.Map name → (news : List MapRow) → Removes map_cell known.maps news key → record known { maps = news } ≡ known_of (delete s key)
  map_deleted name key e news = subst (λ k. Removes map_cell known.maps news k → record known { maps = news } ≡ known_of (delete s k)) (sym e) (λ removes. maps_become (delete s (at.Map name)) news refl (removes s keyed group.Maps refl))

  -- ---- shards

  shards_become : (t : Store) (news : List ShardRow) → record (known_of s) { shards = map shard_row (members t.shards) } ≡ known_of t → (map shard_cell known.shards ≡ cells_of s group.Shards → map shard_cell news ≡ cells_of t group.Shards) → record known { shards = news } ≡ known_of t
  shards_become t news same change = (λ i. record (is i) { shards = news })
      ∙ ap (λ (rows : List ShardRow). record (known_of s) { shards = rows }) (shards_from t news (change (ap (λ (k : Known). map shard_cell k.shards) is ∙ again shard_row shard_cell (members s.shards)))) ∙ same

  pub shard_put : (name location : Text) (c : Cell) → c ≡ cell.Shard name location → (news : List ShardRow) → Puts shard_cell known.shards news c → record known { shards = news } ≡ known_of (put s c)
  shard_put name location c e news = subst (λ x. Puts shard_cell known.shards news x → record known { shards = news } ≡ known_of (put s x)) (sym e)
      (λ puts. shards_become (put s (cell.Shard name location)) news refl (puts (record { map = name; location = location }) refl s keyed group.Shards refl))

  pub shard_deleted : (name location : Text) (key : CellKey) → key ≡ at.Shard name location → (news : List ShardRow) → Removes shard_cell known.shards news key → record known { shards = news } ≡ known_of (delete s key)
  shard_deleted name location key e news = subst (λ k. Removes shard_cell known.shards news k → record known { shards = news } ≡ known_of (delete s k)) (sym e)
      (λ removes. shards_become (delete s (at.Shard name location)) news refl (removes s keyed group.Shards refl))

  -- ---- tables

  tables_become : (t : Store) (news : List TableRow) → record (known_of s) { tables = map table_row (members t.tables) } ≡ known_of t → (map table_cell known.tables ≡ cells_of s group.Tables → map table_cell news ≡ cells_of t group.Tables) → record known { tables = news } ≡ known_of t
  tables_become t news same change = (λ i. record (is i) { tables = news })
      ∙ ap (λ (rows : List TableRow). record (known_of s) { tables = rows }) (tables_from t news (change (ap (λ (k : Known). map table_cell k.tables) is ∙ again table_row table_cell (members s.tables)))) ∙ same

  pub table_put : (name table : Text) (c : Cell) → c ≡ cell.Table name table → (news : List TableRow) → Puts table_cell known.tables news c → record known { tables = news } ≡ known_of (put s c)
  table_put name table c e news = subst (λ x. Puts table_cell known.tables news x → record known { tables = news } ≡ known_of (put s x)) (sym e)
      (λ puts. tables_become (put s (cell.Table name table)) news refl (puts (record { map = name; table = table }) refl s keyed group.Tables refl))

  pub table_deleted : (name table : Text) (key : CellKey) → key ≡ at.Table name table → (news : List TableRow) → Removes table_cell known.tables news key → record known { tables = news } ≡ known_of (delete s key)
  table_deleted name table key e news = subst (λ k. Removes table_cell known.tables news k → record known { tables = news } ≡ known_of (delete s k)) (sym e)
      (λ removes. tables_become (delete s (at.Table name table)) news refl (removes s keyed group.Tables refl))

  -- ---- sites that are away

  away_become : (t : Store) (news : List AwayRow) → record (known_of s) { away = map away_row (fin.entries t.away) } ≡ known_of t → (map away_cell known.away ≡ cells_of s group.Away → map away_cell news ≡ cells_of t group.Away) → record known { away = news } ≡ known_of t
  away_become t news same change = (λ i. record (is i) { away = news })
      ∙ ap (λ (rows : List AwayRow). record (known_of s) { away = rows }) (away_from t news (change (ap (λ (k : Known). map away_cell k.away) is ∙ again away_row away_cell (fin.entries s.away)))) ∙ same

  pub away_put : (location : Text) (state : Away) (c : Cell) → c ≡ cell.SiteState location state → (news : List AwayRow) → Puts away_cell known.away news c → record known { away = news } ≡ known_of (put s c)
  away_put location state c e news = subst (λ x. Puts away_cell known.away news x → record known { away = news } ≡ known_of (put s x)) (sym e)
      (λ puts. away_become (put s (cell.SiteState location state)) news refl (puts (record { location = location; state = state }) refl s keyed group.Away refl))

  pub away_deleted : (location : Text) (key : CellKey) → key ≡ at.SiteState location → (news : List AwayRow) → Removes away_cell known.away news key → record known { away = news } ≡ known_of (delete s key)
  away_deleted location key e news = subst (λ k. Removes away_cell known.away news k → record known { away = news } ≡ known_of (delete s k)) (sym e)
      (λ removes. away_become (delete s (at.SiteState location)) news refl (removes s keyed group.Away refl))

  -- ---- jobs

  jobs_become : (t : Store) (news : List JobRow) → record (known_of s) { jobs = fin.values t.jobs } ≡ known_of t → (map cell.Job known.jobs ≡ cells_of s group.Jobs → map cell.Job news ≡ cells_of t group.Jobs) → record known { jobs = news } ≡ known_of t
  jobs_become t news same change = (λ i. record (is i) { jobs = news }) ∙ ap (λ (rows : List JobRow). record (known_of s) { jobs = rows }) (jobs_from t news (change (ap (λ (k : Known). map cell.Job k.jobs) is))) ∙ same

  pub job_put : (job : JobRow) (c : Cell) → c ≡ cell.Job job → (news : List JobRow) → Puts cell.Job known.jobs news c → record known { jobs = news } ≡ known_of (put s c)
  job_put job c e news = subst (λ x. Puts cell.Job known.jobs news x → record known { jobs = news } ≡ known_of (put s x)) (sym e) (λ puts. jobs_become (put s (cell.Job job)) news refl (puts job refl s keyed group.Jobs refl))

  pub job_deleted : (number : ℕ) (key : CellKey) → key ≡ at.Job number → (news : List JobRow) → Removes cell.Job known.jobs news key → record known { jobs = news } ≡ known_of (delete s key)
  job_deleted number key e news = subst (λ k. Removes cell.Job known.jobs news k → record known { jobs = news } ≡ known_of (delete s k)) (sym e) (λ removes. jobs_become (delete s (at.Job number)) news refl (removes s keyed group.Jobs refl))

-- ---- edit after edit

-- The copy follows the edits made so far.
abbrev pub Follows : Known → Known → List Edit → Type 0
Follows first known edits = (s : Store) → IsKeyed s → first ≡ known_of s → known ≡ known_of (changed s edits)

pub follows_more : (first old new : Known) (edits : List Edit) (i : ℕ) (edit : Edit) → i < length edits → edit ≡ get_or edits i edit → Follows first old (take i edits) → ((s : Store) → IsKeyed s → old ≡ known_of s → new ≡ known_of (edited s edit)) → Follows first new (take (i + 1) edits)
follows_more first old new edits i edit lt at follows makes s keyed is =
    makes (changed s (take i edits)) (keyed_changed s (take i edits) keyed) (follows s keyed is)
    ∙ ap known_of (sym (changed-append s (take i edits) (edit ∷ [])) ∙ ap (λ e. changed s (take i edits ++ e ∷ [])) at ∙ ap (changed s) (sym (take_more edits i edit lt)))
