-- What the table of connections answers after a change.
use Rattle.std.proofs.Common.{◌≡◌, ℕ, Bool, true, false, ◌&&◌, ◌==◌, cond, if◌then◌else◌, [], map, refl, ap, ◌∙◌, Option, Some, None, option_map}
use Rattle.std.specs.Map.{lookup}
use Rattle.std.specs.BTreeMap.{BTreeMap, get, Updates, is_at, IsUnchanged}
use Rattle.std.specs.Ordering.{nat_cmp, ordering_then, is_eq}
use Rattle.std.specs.Cmp.{unsigned_tied, nat_eq_equiv}
use Rattle.std.specs.declared.cmp.Ordering.{Ordering}
use Rattle.std.specs.declared.cmp.Ordering.TheVariants.{Less, Equal, Greater}
use Rattle.std.proofs.lemmas.Map.Made.{lookup-map_values}
use Rattle.cell_world.specs.Keys.{same, contains}
use Rattle.cell_world.specs.Plain.{Connection, nobody}
use Rattle.cell_world.specs.declared.operations.Piece.{Piece}
use Rattle.plain_model.specs.Steps.{with_connection, ended_under}
use Rattle.plain_tables.specs.State.{link_cmp, connection, link_shown, connections_of, ended_link}
use Rattle.plain_tables.specs.declared.state.Link.{Link}

then_eq : (x y : Ordering) → is_eq (ordering_then x y) ≡ (is_eq x && is_eq y)
then_eq Less y = refl
then_eq Equal y = refl
then_eq Greater y = refl

same_place : (a b i n : ℕ) → is_at (link_cmp (a, b)) (i, n) ≡ ((i == a) && (n == b))
same_place a b i n = then_eq (nat_cmp a i) (nat_cmp b n) ∙ (λ j. (unsigned_tied a i ∙ nat_eq_equiv.symm a i) j && (unsigned_tied b n ∙ nat_eq_equiv.symm b n) j)

shown_choice : (b : Bool) (w g : Option Link) → link_shown (cond b w g) ≡ cond b (link_shown w) (link_shown g)
shown_choice true w g = refl
shown_choice false w g = refl

-- a connection is put or goes
pub link-update : (m n : BTreeMap (ℕ × ℕ) Link) (session number : ℕ) (w : Option Link) → Updates link_cmp m n (session, number) w → connections_of n ≡ with_connection (connections_of m) session number (link_shown w)
link-update m n session number w u = λ j i x. at i x j
  where
    at : (i x : ℕ) → connections_of n i x ≡ with_connection (connections_of m) session number (link_shown w) i x
    at i x = ap link_shown (u.0 (i, x)) ∙ shown_choice (is_at (link_cmp (session, number)) (i, x)) w (get link_cmp m (i, x)) ∙ ap (λ b. cond b (link_shown w) (connections_of m i x)) (same_place session number i x)

-- the table is as it was
pub link-unchanged : (m n : BTreeMap (ℕ × ℕ) Link) → IsUnchanged m n → connections_of n ≡ connections_of m
link-unchanged m n h = λ j i x. link_shown (lookup (is_at (link_cmp (i, x))) (h j))

shown_end : (piece : Piece) (link : Link) (b : Bool) → connection (if b then record link { live = false } else link) ≡ (if b then record (connection link) { live = false } else connection link)
shown_end piece link true = refl
shown_end piece link false = refl

shown_ends : (piece : Piece) (o : Option Link) → link_shown (option_map (ended_link piece) o) ≡ option_map (λ (c : Connection). if same piece.map c.map && contains piece.span c.key then record c { live = false } else c) (link_shown o)
shown_ends piece None = refl
shown_ends piece (Some link) = ap Some (shown_end piece link (same piece.map link.map && contains piece.span link.key))

-- the connections under a mapping are ended
pub link-ended : (m n : BTreeMap (ℕ × ℕ) Link) (piece : Piece) → n.entries ≡ map (λ (e : (ℕ × ℕ) × Link). (e.0, ended_link piece e.1)) m.entries → connections_of n ≡ ended_under (Some piece) (connections_of m)
link-ended m n piece h = λ j i x. at i x j
  where
    at : (i x : ℕ) → connections_of n i x ≡ ended_under (Some piece) (connections_of m) i x
    at i x = ap (λ es. link_shown (lookup (is_at (link_cmp (i, x))) es)) h ∙ ap link_shown (lookup-map_values (ended_link piece) (is_at (link_cmp (i, x))) m.entries) ∙ shown_ends piece (get link_cmp m (i, x))

-- no connections
pub link-empty : (m : BTreeMap (ℕ × ℕ) Link) → m.entries ≡ [] → connections_of m ≡ nobody
link-empty m h = λ j i x. link_shown (lookup (is_at (link_cmp (i, x))) (h j))
