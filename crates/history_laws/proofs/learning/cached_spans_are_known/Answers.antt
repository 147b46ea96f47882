use Rattle.std.proofs.Common.{◌≡◌, Some, refl, sym, subst}
use Rattle.std.specs.Prelude.{IsTrue}
use Rattle.cell_world.specs.Texts.{Text}
use Rattle.cell_world.specs.Keys.{contains}
use Rattle.cell_world.specs.KeyForms.{normal_of}
use Rattle.cell_world.specs.Lists.{IsOneOf}
use Rattle.cell_world.specs.Plain.{PlainState}
use Rattle.plain_model.specs.declared.commands.Command.{Command}
use Rattle.plain_model.specs.declared.commands.Command.TheVariants as command
use Rattle.plain_model.specs.declared.history.Entry.{Entry}
use Rattle.plain_model.specs.declared.replies.Reply.TheVariants as reply
use Rattle.plain_model.specs.Caches.{Learnt}
use Rattle.plain_model.specs.Follows.{Follows, cache_of}
use Rattle.plain_model.specs.Timelines.{Past}
use Rattle.history_laws.proofs.CacheLaws.{was_learnt}
use Rattle.history_laws.proofs.learning.cached_spans_are_known.Goals as goal

-- the entry of a `peek` of the span's map
by_peek : (past : Past) (A : PlainState) (e : Entry) (text key : Text) (k : Learnt) → IsOneOf (cache_of past) k → normal_of k.type text ≡ Some key → IsTrue (contains k.span key)
    → Follows past A (record e { command = command.Peek k.map text }) A (Some (reply.Known k.type k.span k.location k.place))
by_peek past A e text key k one form contained = record { text = text; asked = refl; same = refl; key = key; form = form; contained = contained; learnt = was_learnt past e.session k one }

pub returns : goal.returns
returns c = λ past A e text key k one asked form contained.
    subst (λ (c : Command). Follows past A (record e { command = c }) A (Some (reply.Known k.type k.span k.location k.place))) (sym asked) (by_peek past A e text key k one form contained)
