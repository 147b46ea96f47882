-- How what looks ahead goes on, and which numbers are open.
use Rattle.std.proofs.Common.{◌≡◌, refl, sym, subst, Some, List, [], ◌∷◌, ◌++◌}
use Rattle.cell_world.specs.Images.{Happening, Committed, Wrote, Reopened}
use Rattle.plain_model.specs.declared.replies.Reply.TheVariants as reply
use Rattle.plain_model.specs.declared.history.Entry.{Entry}
use Rattle.plain_model.specs.Timelines.{Timeline, Happened, Entered, history_of}
use Rattle.plain_model.specs.OnTrail.{tried_by}
use Rattle.plain_model.specs.Legal.{AllGoing, Promises, AllNamedNext, AreNamed}
use Rattle.plain_model.specs.GoingOn.{GoesOn, NamesOperations}
use Rattle.plain_model.specs.RunSoFar.{Looks, nothing_going}
use Rattle.plain_model.proofs.PromiseLaws.{promises_more, named_more}

pub looks_first : (going : AllGoing) → Looks going []
looks_first going = record { promises = tt; pendings = tt; named = tt }

-- something happens that tries no log cell
quiet_named : (going : AllGoing) (past : Timeline) (h : Happening) → tried_by h ≡ [] → AreNamed going past [] → AreNamed going (Happened h ∷ past) []
quiet_named going past (Committed place change took) none named = (subst (AllNamedNext going []) (sym none) tt, named)
quiet_named going past (Wrote bytes) none named = named
quiet_named going past (Reopened place cells) none named = named

pub looks_happened : (going : AllGoing) (past : Timeline) (h : Happening) → tried_by h ≡ [] → Looks going past → Looks going (Happened h ∷ past)
looks_happened going past h none looks = record { promises = looks.promises; pendings = looks.pendings; named = quiet_named going past h none looks.named }

-- an entry
pub pendings_more : (history : List Entry) (e : Entry) → NamesOperations history → (e.reply ≡ Some (reply.Pending 0) → ⊥) → NamesOperations (history ++ e ∷ [])
pendings_more [] e h some = (some, tt)
pendings_more (x ∷ history) e h some = (h.0, pendings_more history e h.1 some)

pub looks_entered : (before after : AllGoing) (e : Entry) (past : Timeline) → GoesOn before after e → Promises after e [] e.reply → (e.reply ≡ Some (reply.Pending 0) → ⊥) → Looks before past → Looks after (Entered e ∷ past)
looks_entered before after e past on promise some looks = record {
  promises = promises_more before after e on (history_of past) looks.promises promise;
  pendings = pendings_more (history_of past) e looks.pendings some;
  named = named_more before after e on past [] looks.named;
}

-- where nothing is going, an entry leaves nothing going
pub rests_on : (e : Entry) → GoesOn nothing_going nothing_going e
rests_on e = record { others = λ session other. refl; own = λ g is. absurd cc; further = λ g is. absurd cc }
