-- How many entries of a session have a reply.
use Rattle.std.proofs.Common.{◌≡◌, ℕ, suc, Bool, true, false, cond, ◌&&◌, ◌==◌, List, [], ◌∷◌, length, filter, is_some, refl, ap}
use Rattle.plain_model.specs.declared.history.Entry.{Entry}
use Rattle.plain_model.specs.Headline.{answered_by}

pub answered_are : (session : ℕ) (es : List Entry) → length (filter (λ (e : Entry). (e.session == session) && is_some e.reply) es) ≡ length (answered_by session es)
answered_are session [] = refl
answered_are session (e ∷ es) = by ((e.session == session) && is_some e.reply) (answered_are session es)
  where
    by : (b : Bool) → length (filter (λ (e : Entry). (e.session == session) && is_some e.reply) es) ≡ length (answered_by session es)
        → length (cond b (e ∷ filter (λ (e : Entry). (e.session == session) && is_some e.reply) es) (filter (λ (e : Entry). (e.session == session) && is_some e.reply) es))
        ≡ length (cond b (e.command ∷ answered_by session es) (answered_by session es))
    by true more = ap suc more
    by false more = more
