-- What a command exchanges depends on its map and on the mappings alone, and stays through an exchange that is apart from it.
use Rattle.std.proofs.Common.{◌≡◌, inl, inr, ⊎_elim, refl, sym, ap, ◌∙◌, subst, Some, None, Option, option_map, List, [], ◌∷◌}
use Rattle.std.specs.Prelude.{IsTrue, IfSome, find, ◌&&◌, Bool, true, option_and_then, if◌then◌else◌}
use Rattle.std.proofs.lemmas.Bool.{and_parts}
use Rattle.std.specs.FinMap as map
use Rattle.std.specs.FinSet as set
use Rattle.cell_world.specs.declared.spans.Span.{Span}
use Rattle.cell_world.specs.Texts.{Text}
use Rattle.plain_model.specs.declared.commands.HighText.TheVariants as word
use Rattle.cell_world.specs.declared.spans.Span.TheVariants.{Point}
use Rattle.cell_world.specs.declared.cells.KeyType.{KeyType}
use Rattle.cell_world.specs.declared.cells.MapKind.{MapKind}
use Rattle.cell_world.specs.KeyForms.{is_normal, normal_of}
use Rattle.cell_world.specs.Lists.{IsOneOf}
use Rattle.cell_world.specs.Keys.{same, overlaps, low_of, end_of}
use Rattle.cell_world.specs.Jobs.{part_of}
use Rattle.cell_world.specs.declared.cells.Status.TheVariants.{Offline, Online}
use Rattle.cell_world.specs.Spelled.{listed}
use Rattle.cell_world.specs.Stores.{Maps, Mappings, piece_key, exchanged}
use Rattle.cell_world.specs.Plain.{PlainState, nobody, holds_nothing, owner, owner_in, covers}
use Rattle.cell_world.specs.Sound.{HasPiece, AreMappings}
use Rattle.cell_world.specs.declared.operations.Op.{Op}
use Rattle.cell_world.specs.declared.operations.Piece.{Piece}
use Rattle.cell_world.specs.declared.spans.High.{High}
use Rattle.cell_world.specs.declared.spans.High.TheVariants.{At, Max}
use Rattle.cell_world.specs.Orders.{pair_cmp}
use Rattle.cell_world.proofs.SpanLaws.{overlaps_shared, same_is}
use Rattle.cell_world.proofs.OrderLaws.{pairs_total}
use Rattle.image_laws.specs.Fits.{IsFit, Fits}
use Rattle.image_laws.proofs.OwnerLaws.{owner_stands, PlacedAlone}
use Rattle.image_laws.proofs.ValueLaws.{value_found, value_there}
use Rattle.image_laws.proofs.FitLaws.{owner_stays, low_in, exchange, are_mappings_after}
use Rattle.plain_model.specs.declared.commands.Command.{Command}
use Rattle.plain_model.specs.declared.commands.Command.TheVariants as command
use Rattle.plain_model.specs.Refusing.{mapping_of, key_in, range_in, range_between, next_mapping, begins_at, same_status, same_token}
use Rattle.plain_model.specs.Steps.{Exchange, exchange_of, exchange_by, becomes, added, cut_at, with_status, with_location}

-- ---- what is read

-- a state with these maps and mappings, and nothing else
abbrev pub tables_of : Maps → Mappings → PlainState
tables_of maps mappings = record {
  locations = [];
  maps = maps;
  shards = set.empty;
  tables = set.empty;
  mappings = mappings;
  jobs = map.empty;
  next_job = 1;
  away = map.empty;
  rows = map.empty;
  held = λ location. holds_nothing;
  connections = nobody;
}

-- what a command exchanges depends on the maps and the mappings alone
pub tables_only : (s : PlainState) (c : Command) → exchange_of s c ≡ exchange_of (tables_of s.maps s.mappings) c
tables_only s (command.Add name low high location) = refl
tables_only s (command.Addpoint name key location) = refl
tables_only s (command.Delete name key token) = refl
tables_only s (command.Offline name key token) = refl
tables_only s (command.Online name key token) = refl
tables_only s (command.Move name key location token) = refl
tables_only s (command.Split name key token) = refl
tables_only s (command.Merge name key token) = refl
tables_only s other = refl

-- what `next_mapping` looks for
abbrev follows_it : Piece → Piece → Bool
follows_it piece p = same piece.map p.map && (begins_at (end_of piece.span) p && (same piece.location p.location && (same_status piece.status p.status && same_token piece.token p.token)))

begins_once : (end : Option High) (x y : Piece) → begins_at end x ≡ true → begins_at end y ≡ true → low_of x.span ≡ low_of y.span
begins_once None x y a b = absurd cc
begins_once (Some Max) x y a b = absurd cc
begins_once (Some (At key)) x y a b = sym (same_is key (low_of x.span) a) ∙ same_is key (low_of y.span) b

-- two that follow one stand under the same key
same_place_after : (p x y : Piece) → follows_it p x ≡ true → follows_it p y ≡ true → piece_key x ≡ piece_key y
same_place_after p x y a b =
    let f = and_parts _ _ a in
    let g = and_parts _ _ b in
    let low : low_of x.span ≡ low_of y.span = begins_once (end_of p.span) x y (and_parts _ _ f.1).0 (and_parts _ _ g.1).0 in
    let name : x.map ≡ y.map = sym (same_is p.map x.map f.0) ∙ same_is p.map y.map g.0 in
    ap (λ n. (n, low_of x.span)) name ∙ ap (λ k. (y.map, k)) low

-- ---- the exchange of an operation that has an old or a new mapping

module _ (op : Op) (bare : listed op.olds ≡ [] → listed op.news ≡ [] → ⊥) where
  -- the exchange is the operation's
  abbrev Own : Exchange → Type 0
  Own e = (listed op.olds ≡ e.0) × (listed op.news ≡ e.1)

  first_old : (p : Piece) (ps news : List Piece) → Own (p ∷ ps, news) → IsOneOf (listed op.olds) p
  first_old p ps news own = subst (λ olds. IsOneOf olds p) (sym own.0) (inl refl)

  -- the olds of a cut
  cut_old : (p : Piece) (k : Option Text) (end : Option High) (f : Text → High → List Piece) → Own (exchange_by (λ k. exchange_by (λ end. (p ∷ [], f k end)) end) k) → IsOneOf (listed op.olds) p
  cut_old p None end f own = absurd (bare own.0 own.1)
  cut_old p (Some k) None f own = absurd (bare own.0 own.1)
  cut_old p (Some k) (Some end) f own = first_old p [] (f k end) own

  -- the olds of a merge
  merge_old : (p : Piece) (next : Option Piece) (f : Piece → High → List Piece) → Own (exchange_by (λ next. exchange_by (λ end. (p ∷ next ∷ [], f next end)) (end_of next.span)) next)
      → IsOneOf (listed op.olds) p × ((n : Piece) × (next ≡ Some n) × IsOneOf (listed op.olds) n)
  merge_old p None f own = absurd (bare own.0 own.1)
  merge_old p (Some n) f own = by (end_of n.span) own
    where
      by : (end : Option High) → Own (exchange_by (λ end. (p ∷ n ∷ [], f n end)) end) → IsOneOf (listed op.olds) p × ((m : Piece) × (Some n ≡ Some m) × IsOneOf (listed op.olds) m)
      by None own = absurd (bare own.0 own.1)
      by (Some end) own = (first_old p (n ∷ []) (f n end) own, (n, refl, subst (λ olds. IsOneOf olds n) (sym own.0) (inr (inl refl))))

-- ---- an exchange of mappings that is apart from an operation

-- These olds and news, of a map, with this hull, fit the mappings, and so does the operation; where they are of its map the hulls are apart.
module _ (maps : Maps) (mappings : Mappings) (m : AreMappings maps mappings) (op : Op) (fit : Fits maps mappings op) (bare : listed op.olds ≡ [] → listed op.news ≡ [] → ⊥)
    (name' : Text) (hull : Span) (olds news : List Piece) (fit_q : IsFit maps mappings name' hull olds news) (apart : op.map ≡ name' → IsTrue (overlaps op.hull hull) → ⊥) where
  abbrev after_it : Mappings
  after_it = exchanged mappings olds news

  -- who owns a key of one of its olds stays the owner
  owner_of_old : (name key : Text) (p : Piece) → IsOneOf (listed op.olds) p → owner_in maps mappings name key ≡ Some p → owner_in maps after_it name key ≡ Some p
  owner_of_old name key p among owns =
      let s = owner_stands maps mappings m.placed name key p owns in
      owner_stays maps mappings m name' hull olds news fit_q name key
      (λ same inside. apart (sym (fit.old_map p among) ∙ s.1 ∙ same) (overlaps_shared op.hull hull key (fit.shaped.old_in p among key s.2) inside))
      ∙ owns

  -- one of its old mappings stands on
  old_stands_on : (p : Piece) → IsOneOf (listed op.olds) p → HasPiece after_it p
  old_stands_on p among =
      let low = low_in maps p.map p.span (m.spans p (fit.stand p among)) in
      ⊎_elim
      (λ also. absurd (apart (sym (fit.old_map p among) ∙ fit_q.old_map p also) (overlaps_shared op.hull hull (low_of p.span) (fit.shaped.old_in p among (low_of p.span) low) (fit_q.shaped.old_in p also (low_of p.span) low))))
      (λ kept. kept)
      ((exchange maps mappings m name' hull olds news fit_q).kept p (fit.stand p among))

  placed_after : PlacedAlone after_it
  placed_after = (are_mappings_after maps mappings m name' hull olds news fit_q).placed

  -- and the one after it stays the first that is found
  next_stays : (A B : PlainState) → A.mappings ≡ mappings → B.mappings ≡ after_it → (p n : Piece) → IsOneOf (listed op.olds) n → next_mapping A p ≡ Some n → next_mapping B p ≡ Some n
  next_stays A B a b p n among is =
      ap (λ (m : Mappings). find (follows_it p) (map.values m)) b ∙ found (find (follows_it p) (map.values after_it)) refl
    where
      passes : follows_it p n ≡ true
      passes = (value_found pair_cmp pairs_total (follows_it p) mappings n (sym (ap (λ (m : Mappings). find (follows_it p) (map.values m)) a) ∙ is)).2

      same_some : (x y : Piece) (o : Option Piece) → o ≡ Some x → o ≡ Some y → x ≡ y
      same_some x y o h k = cc

      found : (o : Option Piece) → find (follows_it p) (map.values after_it) ≡ o → o ≡ Some n
      found None e = let some = value_there pair_cmp pairs_total (follows_it p) after_it (piece_key n) n (old_stands_on n among) passes in cc
      found (Some x) e =
          let f = value_found pair_cmp pairs_total (follows_it p) after_it x e in
          let place : piece_key x ≡ f.0 = subst (λ o. IfSome o (λ y. piece_key y ≡ f.0)) f.1 (placed_after f.0) in
          let key : piece_key x ≡ piece_key n = same_place_after p x n f.2 passes in
          ap Some (same_some x n (map.get after_it (piece_key n)) (ap (map.get after_it) (sym key ∙ place) ∙ f.1) (old_stands_on n among))

  abbrev A : PlainState
  A = tables_of maps mappings

  abbrev B : PlainState
  B = tables_of maps after_it

  mapping_stays : (name text : Text) (p : Piece) → IsOneOf (listed op.olds) p → mapping_of A name text ≡ Some p → mapping_of B name text ≡ Some p
  mapping_stays name text p among is = by (key_in A name text) is
    where
      by : (k : Option Text) → option_and_then (owner A name) k ≡ Some p → option_and_then (owner B name) k ≡ Some p
      by None is = absurd cc
      by (Some key) is = owner_of_old name key p among is

  -- an exchange by the mapping over a key
  by_mapping : (f g : Piece → Exchange) (name text : Text) → ((p : Piece) → Own op bare (f p) → IsOneOf (listed op.olds) p) → ((p : Piece) → Own op bare (f p) → Own op bare (g p)) → Own op bare (exchange_by f (mapping_of A name text)) → Own op bare (exchange_by g (mapping_of B name text))
  by_mapping f g name text among same own = by (mapping_of A name text) refl own
    where
      by : (m : Option Piece) → mapping_of A name text ≡ m → Own op bare (exchange_by f m) → Own op bare (exchange_by g (mapping_of B name text))
      by None is own = absurd (bare own.0 own.1)
      by (Some p) is own = subst (λ m. Own op bare (exchange_by g m)) (sym (mapping_stays name text p (among p own) is)) (same p own)

  -- what a command exchanges stays its operation
  exchange_stays : (c : Command) → Own op bare (exchange_of A c) → Own op bare (exchange_of B c)
  exchange_stays (command.Add name low high location) own = own
  exchange_stays (command.Addpoint name key location) own = own
  exchange_stays (command.Delete name key token) own = by_mapping (λ p. (p ∷ [], [])) (λ p. (p ∷ [], [])) name key (λ p own. first_old op bare p [] [] own) (λ p own. own) own
  exchange_stays (command.Offline name key token) own = by_mapping (λ p. (p ∷ [], with_status Offline p ∷ [])) (λ p. (p ∷ [], with_status Offline p ∷ [])) name key (λ p own. first_old op bare p [] _ own) (λ p own. own) own
  exchange_stays (command.Online name key token) own = by_mapping (λ p. (p ∷ [], with_status Online p ∷ [])) (λ p. (p ∷ [], with_status Online p ∷ [])) name key (λ p own. first_old op bare p [] _ own) (λ p own. own) own
  exchange_stays (command.Move name key location token) own = by_mapping (λ p. (p ∷ [], with_location location p ∷ [])) (λ p. (p ∷ [], with_location location p ∷ [])) name key (λ p own. first_old op bare p [] _ own) (λ p own. own) own
  exchange_stays (command.Split name key token) own = by_mapping f f name key (λ p own. cut_old op bare p (key_in A name key) (end_of p.span) (λ k end. part_of p (low_of p.span) (At k) ∷ part_of p k end ∷ []) own) (λ p own. own) own
    where
      f : Piece → Exchange
      f p = exchange_by (λ k. exchange_by (λ end. (p ∷ [], part_of p (low_of p.span) (At k) ∷ part_of p k end ∷ [])) (end_of p.span)) (key_in A name key)
  exchange_stays (command.Merge name key token) own = by_mapping (f A) (f B) name key (λ p own. (merge_old op bare p (next_mapping A p) (λ n end. part_of p (low_of p.span) end ∷ []) own).0) same own
    where
      f : PlainState → Piece → Exchange
      f s p = exchange_by (λ next. exchange_by (λ end. (p ∷ next ∷ [], part_of p (low_of p.span) end ∷ [])) (end_of next.span)) (next_mapping s p)

      same : (p : Piece) → Own op bare (f A p) → Own op bare (f B p)
      same p own = let m = merge_old op bare p (next_mapping A p) (λ n end. part_of p (low_of p.span) end ∷ []) own in
          subst (λ n. Own op bare (exchange_by (λ next. exchange_by (λ end. (p ∷ next ∷ [], part_of p (low_of p.span) end ∷ [])) (end_of next.span)) n)) (m.1.1 ∙ sym (next_stays A B refl refl p m.1.0 m.1.2 m.1.1)) own
  exchange_stays other own = absurd (bare own.0 own.1)

  -- in whatever states these are
  pub own_stays : (s t : PlainState) (c : Command) → s.maps ≡ maps → s.mappings ≡ mappings → t.maps ≡ maps → t.mappings ≡ after_it → Own op bare (exchange_of s c) → Own op bare (exchange_of t c)
  own_stays s t c sm sp tm tp own =
      let one : exchange_of s c ≡ exchange_of A c = tables_only s c ∙ (λ i. exchange_of (tables_of (sm i) (sp i)) c) in
      let two : exchange_of t c ≡ exchange_of B c = tables_only t c ∙ (λ i. exchange_of (tables_of (tm i) (tp i)) c) in
      subst (Own op bare) (sym two) (exchange_stays c (subst (Own op bare) one own))

-- ---- the map of a command

-- the map that a command names
abbrev pub name_of : Command → Text
name_of (command.Add name low high location) = name
name_of (command.Addpoint name key location) = name
name_of (command.Delete name key token) = name
name_of (command.Offline name key token) = name
name_of (command.Online name key token) = name
name_of (command.Move name key location token) = name
name_of (command.Split name key token) = name
name_of (command.Merge name key token) = name
name_of other = []

-- what it exchanges, where its map stands so
abbrev key_from : Option (MapKind × KeyType) → Text → Option Text
key_from m text = option_and_then (λ type. normal_of type text) (option_map (λ x. x.1) m)

abbrev mapping_from : Option (MapKind × KeyType) → Mappings → Text → Text → Option Piece
mapping_from m mappings name text = option_and_then (λ key. option_and_then (λ x. if is_normal x.1 key then find (covers name key) (map.values mappings) else None) m) (key_from m text)

abbrev next_from : Mappings → Piece → Option Piece
next_from mappings p = find (follows_it p) (map.values mappings)

abbrev merged_from : Mappings → Option Piece → Exchange
merged_from mappings = exchange_by (λ p. exchange_by (λ next. exchange_by (λ end. (p ∷ next ∷ [], part_of p (low_of p.span) end ∷ [])) (end_of next.span)) (next_from mappings p))

abbrev exchange_from : Option (MapKind × KeyType) → Mappings → Command → Exchange
exchange_from m mappings (command.Add name low (word.At high) location) = added name location (range_between (key_from m low) (option_map At (key_from m high)))
exchange_from m mappings (command.Add name low word.Max location) = added name location (range_between (key_from m low) (Some Max))
exchange_from m mappings (command.Addpoint name key location) = added name location (option_map Point (key_from m key))
exchange_from m mappings (command.Delete name key token) = exchange_by (λ p. (p ∷ [], [])) (mapping_from m mappings name key)
exchange_from m mappings (command.Offline name key token) = becomes (with_status Offline) (mapping_from m mappings name key)
exchange_from m mappings (command.Online name key token) = becomes (with_status Online) (mapping_from m mappings name key)
exchange_from m mappings (command.Move name key location token) = becomes (with_location location) (mapping_from m mappings name key)
exchange_from m mappings (command.Split name key token) = cut_at (key_from m key) (mapping_from m mappings name key)
exchange_from m mappings (command.Merge name key token) = merged_from mappings (mapping_from m mappings name key)
exchange_from m mappings other = ([], [])

from_map : (s : PlainState) (c : Command) → exchange_of s c ≡ exchange_from (map.get s.maps (name_of c)) s.mappings c
from_map s (command.Add name low (word.At high) location) = refl
from_map s (command.Add name low word.Max location) = refl
from_map s (command.Addpoint name key location) = refl
from_map s (command.Delete name key token) = refl
from_map s (command.Offline name key token) = refl
from_map s (command.Online name key token) = refl
from_map s (command.Move name key location token) = refl
from_map s (command.Split name key token) = refl
from_map s (command.Merge name key token) = refl
from_map s other = refl

-- where the command's map stands the same, and the mappings are the same, so is what it exchanges
pub map_only : (s t : PlainState) (c : Command) → map.get s.maps (name_of c) ≡ map.get t.maps (name_of c) → s.mappings ≡ t.mappings → exchange_of s c ≡ exchange_of t c
map_only s t c m p = from_map s c ∙ (λ i. exchange_from (m i) (p i) c) ∙ sym (from_map t c)

-- The map of a command's operation is the one that it names.
module _ (maps : Maps) (mappings : Mappings) (m : AreMappings maps mappings) (op : Op) (fit : Fits maps mappings op) (bare : listed op.olds ≡ [] → listed op.news ≡ [] → ⊥) where
  abbrev S : PlainState
  S = tables_of maps mappings

  owned_map : (name text : Text) (p : Piece) → mapping_of S name text ≡ Some p → p.map ≡ name
  owned_map name text p is = by (key_in S name text) is
    where
      by : (k : Option Text) → option_and_then (owner S name) k ≡ Some p → p.map ≡ name
      by None is = absurd cc
      by (Some key) is = (owner_stands maps mappings m.placed name key p is).1

  map_by : (f : Piece → Exchange) (name text : Text) → ((p : Piece) → Own op bare (f p) → IsOneOf (listed op.olds) p) → Own op bare (exchange_by f (mapping_of S name text)) → op.map ≡ name
  map_by f name text among own = by (mapping_of S name text) refl own
    where
      by : (o : Option Piece) → mapping_of S name text ≡ o → Own op bare (exchange_by f o) → op.map ≡ name
      by None is own = absurd (bare own.0 own.1)
      by (Some p) is own = sym (fit.old_map p (among p own)) ∙ owned_map name text p is

  map_added : (name location : Text) (span : Option Span) → Own op bare (added name location span) → op.map ≡ name
  map_added name location None own = absurd (bare own.0 own.1)
  map_added name location (Some span) own = sym (fit.new_map (record { map = name; span = span; location = location; status = Online; token = None }) (subst (λ ps. IsOneOf ps (record { map = name; span = span; location = location; status = Online; token = None })) (sym own.1) (inl refl)))

  map_named : (c : Command) → Own op bare (exchange_of S c) → op.map ≡ name_of c
  map_named (command.Add name low high location) own = map_added name location (range_in S name low high) own
  map_named (command.Addpoint name key location) own = map_added name location (option_map Point (key_in S name key)) own
  map_named (command.Delete name key token) own = map_by (λ p. (p ∷ [], [])) name key (λ p own. first_old op bare p [] [] own) own
  map_named (command.Offline name key token) own = map_by (λ p. (p ∷ [], with_status Offline p ∷ [])) name key (λ p own. first_old op bare p [] _ own) own
  map_named (command.Online name key token) own = map_by (λ p. (p ∷ [], with_status Online p ∷ [])) name key (λ p own. first_old op bare p [] _ own) own
  map_named (command.Move name key location token) own = map_by (λ p. (p ∷ [], with_location location p ∷ [])) name key (λ p own. first_old op bare p [] _ own) own
  map_named (command.Split name key token) own = map_by f name key (λ p own. cut_old op bare p (key_in S name key) (end_of p.span) (λ k end. part_of p (low_of p.span) (At k) ∷ part_of p k end ∷ []) own) own
    where
      f : Piece → Exchange
      f p = exchange_by (λ k. exchange_by (λ end. (p ∷ [], part_of p (low_of p.span) (At k) ∷ part_of p k end ∷ [])) (end_of p.span)) (key_in S name key)
  map_named (command.Merge name key token) own = map_by f name key (λ p own. (merge_old op bare p (next_mapping S p) (λ n end. part_of p (low_of p.span) end ∷ []) own).0) own
    where
      f : Piece → Exchange
      f p = exchange_by (λ next. exchange_by (λ end. (p ∷ next ∷ [], part_of p (low_of p.span) end ∷ [])) (end_of next.span)) (next_mapping S p)
  map_named other own = absurd (bare own.0 own.1)

  -- in whatever state that has these
  pub map_of_own : (s : PlainState) (c : Command) → s.maps ≡ maps → s.mappings ≡ mappings → Own op bare (exchange_of s c) → op.map ≡ name_of c
  map_of_own s c sm sp own = map_named c (subst (Own op bare) (tables_only s c ∙ (λ i. exchange_of (tables_of (sm i) (sp i)) c)) own)
