-- The run so far over a world that tells its contents alone: how it goes on, and what it promises.
use Rattle.std.proofs.Common.{◌≡◌, ℕ, refl, sym, ap, subst, List, [], ◌∷◌, ◌++◌}
use Rattle.std.proofs.lemmas.List.{append-nil, append_assoc}
use Rattle.cell_world.specs.Images.{Image}
use Rattle.cell_world.specs.Plain.{PlainState, Connections, nobody, with_connections}
use Rattle.cell_world.specs.Meaning.{meaning}
use Rattle.cell_world.specs.Sound.{Sound}
use Rattle.plain_model.specs.declared.history.Entry.{Entry}
use Rattle.plain_model.specs.Timelines.{Timeline, Happened, Entered, image_of, facts_of, history_of, Past, past_of}
use Rattle.plain_model.specs.Follows.{Follows}
use Rattle.plain_model.specs.Legal.{Unfolds}
use Rattle.plain_model.specs.Written.{Mode}
use Rattle.plain_model.specs.Running.{Running}
use Rattle.plain_model.specs.RunningAlone.{entries_of, LeadsTo, RunningAlone}
use Rattle.plain_model.specs.Headline.{FollowsTo}
use Rattle.plain_model.proofs.RunLaws.{sound_now}

pub alone_begins : (first : Image) → Sound first → RunningAlone first [] nobody first
alone_begins first sound = record { leads = refl; sound = sound }

-- the stores become others that stand for the same
pub alone_goes_on : (first : Image) (past : Past) (connections : Connections) (old new : Image) → RunningAlone first past connections old → Sound new → meaning new ≡ meaning old → RunningAlone first past connections new
alone_goes_on first past connections old new run sound same = record { leads = subst (λ (s : PlainState). LeadsTo (meaning first) past (with_connections s connections)) (sym same) run.leads; sound = sound }

-- an entry
pub alone_enters : (first : Image) (past : Past) (before after : Connections) (old new : Image) (e : Entry) → RunningAlone first past before old → Sound new
    → Follows past (with_connections (meaning old) before) e (with_connections (meaning new) after) e.reply → RunningAlone first (record { entry = e; before = meaning old } ∷ past) after new
alone_enters first past before after old new e run sound follows = record { leads = (with_connections (meaning old) before, run.leads, refl, follows); sound = sound }

-- what leads to a state and follows from it
leads_on : (first : PlainState) (past : Past) (now : PlainState) (es : List Entry) (last : PlainState) → LeadsTo first past now → FollowsTo past now es last → FollowsTo [] first (entries_of past ++ es) last
leads_on first [] now es last leads follows = subst (λ (s : PlainState). FollowsTo [] s es last) (sym leads) follows
leads_on first (m ∷ past) now es last leads follows =
    let next : FollowsTo past leads.0 (m.entry ∷ es) last = (now, leads.3, subst (λ (s : PlainState). FollowsTo (record { entry = m.entry; before = s } ∷ past) now es last) (sym leads.2) follows) in
    subst (λ (hs : List Entry). FollowsTo [] first hs last) (sym (append_assoc (entries_of past) (m.entry ∷ []) es)) (leads_on first past leads.0 (m.entry ∷ es) last leads.1 next)

pub alone_follows : (first : Image) (past : Past) (connections : Connections) (image : Image) → RunningAlone first past connections image → FollowsTo [] (meaning first) (entries_of past) (with_connections (meaning image) connections)
alone_follows first past connections image run =
    subst (λ (es : List Entry). FollowsTo [] (meaning first) es (with_connections (meaning image) connections)) (append-nil (entries_of past)) (leads_on (meaning first) past (with_connections (meaning image) connections) [] (with_connections (meaning image) connections) run.leads refl)

-- ---- from a timeline

facts_alone : (start : Image) (past : Timeline) → with_connections (facts_of start past) nobody ≡ facts_of start past
facts_alone start [] = refl
facts_alone start (Happened h ∷ past) = facts_alone start past
facts_alone start (Entered e ∷ past) = refl

unfolds_leads : (since : ℕ) (start : Image) (past : Timeline) (connections : Connections) → Unfolds since start past connections → LeadsTo (meaning start) (past_of start past) (with_connections (facts_of start past) connections)
unfolds_leads since start [] connections u = ap (with_connections (meaning start)) (sym u)
unfolds_leads since start (Happened h ∷ past) connections u = unfolds_leads since start past connections u.0
unfolds_leads since start (Entered e ∷ past) connections u = (with_connections (facts_of start past) u.0, unfolds_leads since start past u.0 u.1, facts_alone start past, u.2.follows)

pub alone_from : (since : ℕ) (start : Image) (mode : Mode) (past : Timeline) (connections : Connections) → Running since start mode past connections → RunningAlone start (past_of start past) connections (image_of start past)
alone_from since start mode past connections run = record {
  leads = subst (λ (s : PlainState). LeadsTo (meaning start) (past_of start past) (with_connections s connections)) (sym run.exact) (unfolds_leads since start past connections run.unfolds);
  sound = sound_now start past run.sound;
}

pub same_entries : (start : Image) (past : Timeline) → entries_of (past_of start past) ≡ history_of past
same_entries start [] = refl
same_entries start (Happened h ∷ past) = same_entries start past
same_entries start (Entered e ∷ past) = ap (λ es. es ++ e ∷ []) (same_entries start past)
