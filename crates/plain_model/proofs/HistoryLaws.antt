-- Histories with one entry more: the last one, how many replies are of a sort, and sorts that end a history.
use Rattle.std.proofs.Common.{◌≡◌, ◌+◌, Bool, true, false, cond, List, [], ◌∷◌, ◌++◌, length, filter, refl, ap, ◌∙◌, arith}
use Rattle.std.proofs.lemmas.List.{length-append}
use Rattle.std.proofs.lemmas.List.Elements.{filter-append}
use Rattle.std.specs.Prelude.{IsSome}
use Rattle.plain_model.specs.declared.replies.Reply.{Reply}
use Rattle.plain_model.specs.declared.history.Entry.{Entry}
use Rattle.plain_model.specs.Refusing.{if_there}
use Rattle.plain_model.specs.Summary.{replies_of, is_memory}
use Rattle.plain_model.specs.Headline.{EndsAnswered, EndsWithMemory}

-- ---- the last entry

pub ends_answered : (history : List Entry) (e : Entry) → IsSome e.reply → EndsAnswered (history ++ e ∷ [])
ends_answered [] e some = some
ends_answered (x ∷ []) e some = some
ends_answered (x ∷ y ∷ history) e some = ends_answered (y ∷ history) e some

-- ---- counts of replies

pub replies_push : (sort : Reply → Bool) (history : List Entry) (e : Entry) → replies_of sort (history ++ e ∷ []) ≡ replies_of sort history + cond (if_there sort e.reply) 1 0
replies_push sort history e =
    ap length (filter-append (λ (x : Entry). if_there sort x.reply) history (e ∷ []))
    ∙ length-append (filter (λ (x : Entry). if_there sort x.reply) history) (filter (λ (x : Entry). if_there sort x.reply) (e ∷ []))
    ∙ ap (λ n. replies_of sort history + n) (one (if_there sort e.reply))
  where
    one : (b : Bool) → length (cond b (e ∷ []) []) ≡ cond b 1 0
    one true = refl
    one false = refl

-- ---- at most one entry of a sort, which is the last

module _ (Ends : List Entry → Type 0) (sort : Reply → Bool) (none : Ends []) (one : (e : Entry) → Ends (e ∷ [])) (more : (e f : Entry) (es : List Entry) → if_there sort e.reply ≡ false → Ends (f ∷ es) → Ends (e ∷ f ∷ es)) where
  first : (x : Entry) (history : List Entry) → replies_of sort (x ∷ history) ≡ 0 → (if_there sort x.reply ≡ false) × (replies_of sort history ≡ 0)
  first x history = by (if_there sort x.reply)
    where
      by : (b : Bool) → length (cond b (x ∷ filter (λ (y : Entry). if_there sort y.reply) history) (filter (λ (y : Entry). if_there sort y.reply) history)) ≡ 0 → (b ≡ false) × (replies_of sort history ≡ 0)
      by true is = absurd (omega (arith, is))
      by false is = (refl, is)

  -- where no entry is of the sort, one more may be
  pub only_last : (history : List Entry) (e : Entry) → replies_of sort history ≡ 0 → Ends (history ++ e ∷ [])
  only_last [] e counted = one e
  only_last (x ∷ []) e counted = more x e [] (first x [] counted).0 (one e)
  only_last (x ∷ y ∷ history) e counted = let so = first x (y ∷ history) counted in more x y (history ++ e ∷ []) so.0 (only_last (y ∷ history) e so.1)

  -- and none need be
  pub not_once : (history : List Entry) → replies_of sort history ≡ 0 → Ends history
  not_once [] counted = none
  not_once (x ∷ []) counted = one x
  not_once (x ∷ y ∷ history) counted = let so = first x (y ∷ history) counted in more x y history so.0 (not_once (y ∷ history) so.1)

pub memory_last : (history : List Entry) (e : Entry) → replies_of is_memory history ≡ 0 → EndsWithMemory (history ++ e ∷ [])
memory_last = only_last EndsWithMemory is_memory tt (λ e. tt) (λ e f es no ends. (no, ends))

pub memory_none : (history : List Entry) → replies_of is_memory history ≡ 0 → EndsWithMemory history
memory_none = not_once EndsWithMemory is_memory tt (λ e. tt) (λ e f es no ends. (no, ends))
