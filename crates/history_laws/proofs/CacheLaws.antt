-- A span that is in the cache was learnt at its place, and no entry since has dropped it.
use Rattle.std.proofs.Common.{◌≡◌, ◌⊎◌, inl, inr, ⊎_elim, ℕ, ◌<◌, arith, Bool, true, false, ◌&&◌, cond, not, refl, sym, ap, ◌∙◌, subst, Some, None, Option, [], ◌∷◌, length}
use Rattle.std.specs.Prelude.{filter, nat_le, IsTrue}
use Rattle.std.specs.List.{list_any}
use Rattle.cell_world.specs.Texts.{Text}
use Rattle.cell_world.specs.Lists.{IsOneOf}
use Rattle.cell_world.specs.Keys.{same, overlaps}
use Rattle.cell_world.specs.Plain.{PlainState}
use Rattle.cell_world.specs.Stores.{AwaySites}
use Rattle.cell_world.specs.declared.cells.KeyType.{KeyType}
use Rattle.cell_world.specs.declared.operations.Piece.{Piece}
use Rattle.cell_world.proofs.SpanLaws.{same_self, overlaps_comm}
use Rattle.plain_model.specs.declared.commands.Command.{Command}
use Rattle.plain_model.specs.declared.commands.Command.TheVariants as command
use Rattle.plain_model.specs.declared.replies.Reply.{Reply}
use Rattle.plain_model.specs.Caches.{Cache, Learnt, is_hit, knows, forget_key, forget_overlapping, forget_map, learn, after_look, after_open, leaves_cache, is_refused, cache_after}
use Rattle.plain_model.specs.Refusing.{key_in, type_of_map, mapping_of}
use Rattle.plain_model.specs.Timelines.{Made, Past}
use Rattle.plain_model.specs.Follows.{cache_of, Drops, WasLearnt}

-- what passes a test was there, and passes it
in_filter : (p : Learnt → Bool) (cache : Cache) (k : Learnt) → IsOneOf (filter p cache) k → IsOneOf cache k × (p k ≡ true)
in_filter p [] k one = absurd one
in_filter p (x ∷ xs) k one = by (p x) refl one (in_filter p xs k)
  where
    by : (b : Bool) → p x ≡ b → IsOneOf (cond b (x ∷ filter p xs) (filter p xs)) k → (IsOneOf (filter p xs) k → IsOneOf xs k × (p k ≡ true)) → IsOneOf (x ∷ xs) k × (p k ≡ true)
    by true is one more = ⊎_elim (λ this. (inl this, subst (λ k. p k ≡ true) this is)) (λ rest. let m = more rest in (inr m.0, m.1)) one
    by false is one more = let m = more one in (inr m.0, m.1)

-- ---- what an entry makes of the cache

-- The spans after an entry at place n are old ones and those that it learnt, and an old one that is left overlaps none of these.
record Grows (n : ℕ) (cache after : Cache) : Type 0 where
  from : (k : Learnt) → IsOneOf after k → (k.place ≡ n) ⊎ IsOneOf cache k
  apart : ((k : Learnt) → IsOneOf cache k → k.place < n) → (k j : Learnt) → k.place < n → IsOneOf after k → IsOneOf after j → j.place ≡ n → j.map ≡ k.map → IsTrue (overlaps j.span k.span) → ⊥

shrinks : (n : ℕ) (cache after : Cache) → ((k : Learnt) → IsOneOf after k → IsOneOf cache k) → Grows n cache after
shrinks n cache after old = record {
  from = λ k one. inr (old k one);
  apart = λ earlier k j before kept new at_place of_map overlap. absurd (omega (arith, earlier j (old j new), at_place));
}

stays : (n : ℕ) (cache : Cache) → Grows n cache cache
stays n cache = shrinks n cache cache (λ k one. one)

-- the span is not of the map, or doesn't overlap
not_both : (a b : Bool) → not (a && b) ≡ true → a ≡ true → b ≡ true → ⊥
not_both true true is a b = cc
not_both true false is a b = cc
not_both false b is a c = cc

alone : (n : ℕ) (cache : Cache) (new : Learnt) → new.place ≡ n → Grows n cache (new ∷ [])
alone n cache new at = record {
  from = λ k one. ⊎_elim (λ same. inl (sym (ap (λ (k : Learnt). k.place) same) ∙ at)) (λ none. absurd none) one;
  apart = λ earlier k j before kept one at_place of_map overlap. ⊎_elim (λ same. absurd (omega (arith, ap (λ (k : Learnt). k.place) same, at, before))) (λ none. absurd none) kept;
}

beside : (n : ℕ) (cache : Cache) (new : Learnt) → new.place ≡ n → Grows n cache (new ∷ forget_overlapping cache new.map new.span)
beside n cache new at = record {
  from = λ k one. ⊎_elim (λ same. inl (sym (ap (λ (k : Learnt). k.place) same) ∙ at)) (λ old. inr (in_filter passes cache k old).0) one;
  apart = λ earlier k j before kept one at_place of_map overlap. ⊎_elim
      (λ same. absurd (omega (arith, ap (λ (k : Learnt). k.place) same, at, before)))
      (λ old. ⊎_elim (λ same. apart_from k j (in_filter passes cache k old).1 same of_map overlap) (λ older. absurd (omega (arith, earlier j (in_filter passes cache j older).0, at_place))) one) kept;
}
  where
    passes : Learnt → Bool
    passes k = not (same new.map k.map && overlaps k.span new.span)

    apart_from : (k j : Learnt) → not (same new.map k.map && overlaps k.span new.span) ≡ true → new ≡ j → j.map ≡ k.map → IsTrue (overlaps j.span k.span) → ⊥
    apart_from k j passed is of_map overlap = not_both (same new.map k.map) (overlaps k.span new.span) passed
        (ap (λ name. same new.map name) (sym (ap (λ (k : Learnt). k.map) is ∙ of_map)) ∙ same_self new.map)
        (overlaps_comm k.span new.span ∙ ap (λ (j : Learnt). overlaps j.span k.span) is ∙ overlap)

learns : (n : ℕ) (cache : Cache) (new : Learnt) → new.place ≡ n → Grows n cache (learn (forget_overlapping cache new.map new.span) new)
learns n cache new at = by (nat_le 1024 (length (forget_overlapping cache new.map new.span)))
  where
    by : (b : Bool) → Grows n cache (cond b (new ∷ []) (new ∷ forget_overlapping cache new.map new.span))
    by true = alone n cache new at
    by false = beside n cache new at

looks : (cache : Cache) (away : AwaySites) (n : ℕ) (name : Text) (type : KeyType) (key : Text) (found : Option Piece) → Grows n cache (after_look cache away n name type key found)
looks cache away n name type key None = shrinks n cache (forget_key cache name key) (λ k one. (in_filter (λ k. not (knows name key k)) cache k one).0)
looks cache away n name type key (Some piece) = by (list_any (is_hit away name key piece) cache)
  where
    new : Learnt
    new = record { map = name; type = type; span = piece.span; location = piece.location; place = n }

    by : (b : Bool) → Grows n cache (cond b cache (learn (forget_overlapping cache name piece.span) new))
    by true = stays n cache
    by false = learns n cache new refl

opens : (cache : Cache) (away : AwaySites) (n : ℕ) (name : Text) (type : Option KeyType) (key : Option Text) (found : Option Piece) → Grows n cache (after_open cache away n name type key found)
opens cache away n name (Some type) (Some key) found = looks cache away n name type key found
opens cache away n name (Some type) None found = stays n cache
opens cache away n name None key found = stays n cache

grows : (cache : Cache) (s : PlainState) (n : ℕ) (c : Command) (r : Option Reply) → Grows n cache (cache_after cache s n c r)
grows cache s n (command.Open number name text) r = by (leaves_cache r)
  where
    by : (b : Bool) → Grows n cache (cond b cache (after_open cache s.away n name (type_of_map s name) (key_in s name text) (mapping_of s name text)))
    by true = stays n cache
    by false = opens cache s.away n name (type_of_map s name) (key_in s name text) (mapping_of s name text)
grows cache s n (command.Unmap name) r = by (is_refused r)
  where
    by : (b : Bool) → Grows n cache (cond b cache (forget_map cache name))
    by true = stays n cache
    by false = shrinks n cache (forget_map cache name) (λ k one. (in_filter (λ k. not (same name k.map)) cache k one).0)
grows cache s n other r = stays n cache

-- after an `unmap` that wasn't refused no span of the map is left
unmapped : (cache : Cache) (s : PlainState) (n : ℕ) (c : Command) (r : Option Reply) (k : Learnt) → c ≡ command.Unmap k.map → is_refused r ≡ false → IsOneOf (cache_after cache s n c r) k → ⊥
unmapped cache s n c r k unmap accepted one =
    let left : IsOneOf (cond (is_refused r) cache (forget_map cache k.map)) k = subst (λ c. IsOneOf (cache_after cache s n c r) k) unmap one in
    let kept : IsOneOf (forget_map cache k.map) k = subst (λ b. IsOneOf (cond b cache (forget_map cache k.map)) k) accepted left in
    let differs : not (same k.map k.map) ≡ true = (in_filter (λ j. not (same k.map j.map)) cache k kept).1 in
    let itself : not (same k.map k.map) ≡ false = ap not (same_self k.map) in
    absurd cc

-- ---- over a history

pub before_now : (past : Past) (k : Learnt) → IsOneOf (cache_of past) k → k.place < length past
before_now [] k one = absurd one
before_now (m ∷ past) k one = ⊎_elim (λ now. omega (arith, now)) (λ old. let b : k.place < length past = before_now past k old in omega (arith, b))
    ((grows (cache_of past) m.before (length past) m.entry.command m.entry.reply).from k one)

-- an entry after which an old span is still there didn't drop it
not_dropped : (m : Made) (past : Past) (k : Learnt) → IsOneOf (cache_of past) k → IsOneOf (cache_of (m ∷ past)) k → Drops m past k → ⊥
not_dropped m past k old one drops = ⊎_elim (λ gone. gone.1 one) (⊎_elim
    (λ new. (grows (cache_of past) m.before (length past) m.entry.command m.entry.reply).apart (before_now past) k new.0 (before_now past k old) one new.1 new.2 new.3 new.4)
    (λ unmap. unmapped (cache_of past) m.before (length past) m.entry.command m.entry.reply k unmap.0 unmap.1 one)) drops

pub was_learnt : (past : Past) (session : ℕ) (k : Learnt) → IsOneOf (cache_of past) k → WasLearnt past session k
was_learnt [] session k one = absurd one
was_learnt (m ∷ past) session k one = ⊎_elim
    (λ now. inl (now, one))
    (λ old. inr (before_now past k old, (λ mine drops. not_dropped m past k old one drops), was_learnt past session k old))
    ((grows (cache_of past) m.before (length past) m.entry.command m.entry.reply).from k one)
