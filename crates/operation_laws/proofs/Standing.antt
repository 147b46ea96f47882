-- What others do leaves a live operation standing.
use Rattle.std.proofs.Common.{◌≡◌, ◌≢◌, ℕ, arith, cond, true, false, refl, sym, ap, ◌∙◌, subst, Some, None, Option, List, [], ◌++◌, Bool}
use Rattle.std.specs.Prelude.{IsTrue}
use Rattle.std.specs.FinMap as map
use Rattle.std.proofs.lemmas.Cmp.{nat_cmp_total}
use Rattle.std.proofs.lemmas.Map.Lookups.{exact_unsigned}
use Rattle.cell_world.specs.Texts.{Text}
use Rattle.cell_world.specs.Keys.{same, overlaps}
use Rattle.cell_world.specs.Spelled.{listed}
use Rattle.cell_world.specs.Stores.{Store, Locals, exchanged}
use Rattle.cell_world.specs.Images.{Image, Place, Global, Shard, global, with_store}
use Rattle.cell_world.specs.Plain.{PlainState, Connections, with_connections}
use Rattle.cell_world.specs.Meaning.{meaning, next_operation}
use Rattle.cell_world.specs.Marked.{committed_image}
use Rattle.cell_world.specs.Operations.{hull_of}
use Rattle.cell_world.specs.Sound.{Sound, HasLog, IsAttachedIn, locals_at}
use Rattle.cell_world.specs.Sweep.{IsSwept}
use Rattle.cell_world.specs.UnderWay.{IsUnborn, IsDone}
use Rattle.cell_world.specs.declared.operations.Op.{Op}
use Rattle.cell_world.specs.declared.operations.Piece.{Piece}
use Rattle.cell_world.specs.declared.spans.Span.{Span}
use Rattle.cell_world.specs.declared.cells.Mark.{Mark}
use Rattle.cell_world.specs.declared.cells.Mark.TheVariants.{Plain, Old}
use Rattle.cell_world.specs.declared.changes.Edit.{Edit}
use Rattle.cell_world.proofs.MappingLaws.{sound_mappings}
use Rattle.cell_world.proofs.SpanLaws.{same_is}
use Rattle.cell_world.proofs.StoreLaws.{get-remove_other, get-insert_other}
use Rattle.image_laws.specs.Fits.{IsFit}
use Rattle.image_laws.specs.LocalSteps.{with_locals, without_log_row}
use Rattle.image_laws.specs.Transactions.{logged_image}
use Rattle.image_laws.proofs.LocalImages.{local_meaning}
use Rattle.image_laws.proofs.OthersStay.{done_swept, done_born, done_settled, unborn_born, unborn_settled}
use Rattle.image_laws.proofs.SoundParts.{are_logged, births_apart}
use Rattle.image_laws.proofs.StaysLawful.{AreApart}
use Rattle.image_laws.proofs.StepLaws.{unborn_swept, other_mark, plain_not_old}
use Rattle.image_laws.proofs.UnderWayLaws.{under_way_local, under_way_global}
use Rattle.op_steps.specs.Passing.{changed_at}
use Rattle.op_steps.specs.Undoing.{UndoStep, AtSite, LogRow}
use Rattle.op_steps.specs.Advancing.{AdvanceStep, Stepping, Committing, Settling}
use Rattle.plain_model.specs.declared.commands.Command.{Command}
use Rattle.plain_model.specs.Steps.{exchange_of}
use Rattle.plain_model.specs.JobSteps.{asked_number}
use Rattle.plain_model.specs.Legal.{IsOwnOf}
use Rattle.session_laws.specs.Doing.{Live}
use Rattle.session_laws.specs.Core.{Stands}
use Rattle.session_laws.specs.Needs.{Needs}
use Rattle.operation_laws.proofs.Exchanges.{tables_of, tables_only, own_stays}

-- where maps and mappings are the same the exchange is
tables_same : (s t : PlainState) (x y : Image) (c : Command) (op : Op) → s.maps ≡ t.maps → s.mappings ≡ t.mappings → IsOwnOf s c None x op → IsOwnOf t c None y op
tables_same s t x y c op maps mappings own =
    let same : exchange_of s c ≡ exchange_of t c = tables_only s c ∙ (λ i. exchange_of (tables_of (maps i) (mappings i)) c) ∙ sym (tables_only t c) in
    (own.0 ∙ ap (λ (e : Rattle.plain_model.specs.Steps.Exchange). e.0) same, own.1 ∙ ap (λ (e : Rattle.plain_model.specs.Steps.Exchange). e.1) same)

none_is : (x : Option Op) (o : Op) → x ≡ None → x ≡ Some o → ⊥
none_is x o a b = cc

module _ (session : ℕ) (l : Live) (image : Image) (sound : Sound image) (stands : Stands Needs session l image) where
  -- the exchange stays where the meaning does
  pub same_exchange : (after : Image) → meaning after ≡ meaning image → (connections : Connections) → asked_number l.command ≡ None → IsOwnOf (with_connections (meaning after) connections) l.command None after l.op
  same_exchange after same connections none = subst (λ (s : PlainState). IsOwnOf (with_connections s connections) l.command None after l.op) (sym same) (stands.exchange connections none)

  -- two logged operations are apart
  apart_logged : (q : Op) → HasLog (global image).log q → l.op.number ≢ q.number → AreApart l.op q
  apart_logged q logged differ same over = differ (ap (λ (o : Op). o.number) (sound.logged.hulls l.op q stands.logged logged same over))

  -- one that is out of the log has another number
  pub out_differs : (q : ℕ) → map.get (global image).log q ≡ None → l.op.number ≢ q
  out_differs q out same = none_is (map.get (global image).log l.op.number) l.op (ap (map.get (global image).log) same ∙ out) stands.logged

  -- ---- local changes

  stands_local : (location : Text) (after : Locals) → IsAttachedIn image location → (IsDone l.op location (locals_at image location) → IsDone l.op location after)
      → (IsUnborn l.op.number (locals_at image location) → IsUnborn l.op.number after) → Stands Needs session l (with_locals image location after)
  stands_local location after here keeps_done keeps_unborn = record {
    logged = stands.logged;
    exchange = same_exchange (with_locals image location after) (local_meaning image location after here);
    more = under_way_local image l.op _ stands.more location after keeps_done keeps_unborn;
  }

  -- a sweep of another logged operation leaves its step
  swept_done : (q : Op) → HasLog (global image).log q → l.op.number ≢ q.number → (location : Text) → IsAttachedIn image location → (mark : Mark) (after : Locals) → IsSwept (global image).log q mark (locals_at image location) after
      → IsDone l.op location (locals_at image location) → IsDone l.op location after
  swept_done q logged differ location here mark after swept done =
      done_swept (global image).maps (global image).mappings (sound_mappings image sound) (global image).log (next_operation image) (are_logged image sound) l.op q stands.logged (apart_logged q logged differ) location (locals_at image location)
      (sound.locals location here) done mark after swept

  -- ---- global changes

  pub stands_global : (g : Store) → HasLog g.log l.op → g.away ≡ (global image).away
      → ((connections : Connections) → asked_number l.command ≡ None → IsOwnOf (with_connections (meaning (with_store image Global g)) connections) l.command None (with_store image Global g) l.op)
      → Stands Needs session l (with_store image Global g)
  stands_global g logged away exchange = record { logged = logged; exchange = exchange; more = under_way_global image l.op _ stands.more g logged away }

  -- one that leaves the meaning
  stands_same : (g : Store) → HasLog g.log l.op → g.away ≡ (global image).away → meaning (with_store image Global g) ≡ meaning image → Stands Needs session l (with_store image Global g)
  stands_same g logged away same = stands_global g logged away (same_exchange (with_store image Global g) same)

  -- the same maps and mappings stand: shards, tables, jobs
  pub stands_tables : (g : Store) → HasLog g.log l.op → g.away ≡ (global image).away → g.maps ≡ (global image).maps → g.mappings ≡ (global image).mappings → Stands Needs session l (with_store image Global g)
  stands_tables g logged away maps mappings = stands_global g logged away
      (λ connections none. tables_same (with_connections (meaning image) connections) (with_connections (meaning (with_store image Global g)) connections) image (with_store image Global g) l.command l.op (sym maps) (sym mappings) (stands.exchange connections none))

  -- a lawful operation has an old or a new mapping
  pub bare : listed l.op.olds ≡ [] → listed l.op.news ≡ [] → ⊥
  bare olds news = let e : None ≡ Some l.op.hull = (λ i. hull_of (sym olds i ++ sym news i)) ∙ (sound.logged.lawful l.op stands.logged).hull in absurd cc

  -- any exchange of mappings that is apart from it: another operation's commit, a token that changes
  pub stands_exchange : (name : Text) (hull : Span) (olds news : List Piece) → IsFit (global image).maps (global image).mappings name hull olds news → (l.op.map ≡ name → IsTrue (overlaps l.op.hull hull) → ⊥) → (g : Store) → HasLog g.log l.op
      → g.away ≡ (global image).away → g.maps ≡ (global image).maps → g.mappings ≡ exchanged (global image).mappings olds news → Stands Needs session l (with_store image Global g)
  stands_exchange name hull olds news fit apart g logged away maps mappings = stands_global g logged away
      (λ connections none. own_stays (global image).maps (global image).mappings (sound_mappings image sound) l.op ((are_logged image sound).fits l.op stands.logged) bare name hull olds news fit apart (with_connections (meaning image) connections)
      (with_connections (meaning (with_store image Global g)) connections) l.command refl refl maps mappings (stands.exchange connections none))

  -- rows are put, deleted, copied or moved at a shard
  pub stands_rows : (location : Text) (store : Store) → store.locals ≡ locals_at image location → Stands Needs session l (with_store image (Shard location) store)
  stands_rows location store same_rows = record {
    logged = stands.logged;
    exchange = λ connections none. tables_same (with_connections (meaning image) connections) (with_connections (meaning (with_store image (Shard location) store)) connections) image (with_store image (Shard location) store) l.command l.op refl refl (stands.exchange connections none);
    more = record {
      logged = stands.logged;
      done = λ at among. subst (IsDone l.op at) (sym (locals_stay at)) (stands.more.done at among);
      unborn = λ at here out. subst (IsUnborn l.op.number) (sym (locals_stay at)) (stands.more.unborn at here out);
    };
  }
    where
      locals_stay : (at : Text) → locals_at (with_store image (Shard location) store) at ≡ locals_at image at
      locals_stay at = by (same location at) refl
        where
          by : (b : Bool) → same location at ≡ b → (cond b store (image.at (Shard at))).locals ≡ (image.at (Shard at)).locals
          by false is = refl
          by true is = same_rows ∙ ap (locals_at image) (same_is location at is)

  -- ---- the transactions of other operations

  removed : (q : Op) → l.op.number ≢ q.number → HasLog (map.remove (global image).log q.number) l.op
  removed q differ = get-remove_other nat_cmp_total exact_unsigned (global image).log q.number l.op.number differ ∙ stands.logged

  pub stands_advance : (q : Op) → l.op.number ≢ q.number → (place : Place) (change : List Edit) → AdvanceStep q image place change → Stands Needs session l (changed_at image place change)
  stands_advance q differ place change (Stepping s) = subst (Stands Needs session l) (sym s.is) (stands_local s.location s.last s.site.here
      (λ done. done_born l.op q s.location s.stepped.middle s.last differ (births_apart image sound l.op q stands.logged s.logged differ) s.stepped.born (swept_done q s.logged differ s.location s.site.here (Old q.number) s.stepped.middle s.stepped.swept done))
      (λ unborn. unborn_born l.op.number q.number s.location (listed q.news) s.stepped.middle s.last differ s.stepped.born (unborn_swept (global image).log q (Old q.number) (locals_at image s.location) s.stepped.middle l.op.number (other_mark l.op.number q.number differ) s.stepped.swept unborn)))
  stands_advance q differ place change (Committing c) = subst (Stands Needs session l) (sym c.is)
      (stands_exchange q.map q.hull (listed q.olds) (listed q.news) ((are_logged image sound).fits q c.logged) (apart_logged q c.logged differ) (global (committed_image image q)) (removed q differ) refl refl refl)
  stands_advance q differ place change (Settling s) = subst (Stands Needs session l) (sym s.is) (stands_local s.location s.last s.here
      (λ done. done_settled q.number (locals_at image s.location) s.last s.settled l.op s.location differ done)
      (λ unborn. unborn_settled q.number (locals_at image s.location) s.last s.settled l.op.number unborn))

  pub stands_undo : (q : Op) → l.op.number ≢ q.number → (place : Place) (change : List Edit) → UndoStep q image place change → Stands Needs session l (changed_at image place change)
  stands_undo q differ place change (AtSite u) = subst (Stands Needs session l) (sym u.is) (stands_local u.location u.last u.site.here
      (λ done. swept_done q u.logged differ u.location u.site.here Plain u.last u.swept done)
      (λ unborn. unborn_swept (global image).log q Plain (locals_at image u.location) u.last l.op.number (plain_not_old l.op.number) u.swept unborn))
  stands_undo q differ place change (LogRow d) = subst (Stands Needs session l) (sym d.is) (stands_same (global (without_log_row image q)) (removed q differ) refl refl)

  -- the log row of another operation is put
  pub stands_log : (q : Op) → q.number ≡ next_operation image → Stands Needs session l (logged_image image q)
  stands_log q number = stands_same (global (logged_image image q)) (get-insert_other nat_cmp_total exact_unsigned (global image).log q.number q l.op.number differ ∙ stands.logged) refl refl
    where
      differ : l.op.number ≢ q.number
      differ same = omega (arith, sound.logged.numbered l.op stands.logged, number, same)
