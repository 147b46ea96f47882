-- Legal histories on two empty sites, built as they come about.
use Rattle.std.proofs.Common.{◌≡◌, ℕ, false, ◌+◌, arith, inl, refl, sym, ap, ◌∙◌, [], ◌∷◌, length}
use Rattle.std.specs.FinMap as fin
use Rattle.cell_world.specs.ByteOrder.{byte_cmp}
use Rattle.cell_world.specs.Images.{Wrote}
use Rattle.cell_world.specs.Meaning.{meaning}
use Rattle.cell_world.specs.Plain.{PlainState, nobody, holds_nothing, with_connections}
use Rattle.cell_world.specs.Sound.{Sound}
use Rattle.cell_world.specs.declared.cells.KeyType.{KeyType}
use Rattle.cell_world.specs.declared.cells.KeyType.TheVariants.{Int}
use Rattle.cell_world.specs.declared.cells.MapKind.{MapKind}
use Rattle.cell_world.specs.declared.cells.MapKind.TheVariants as kind
use Rattle.image_laws.proofs.EmptyLaws.{empty_sound}
use Rattle.image_laws.proofs.CatalogCommits.{meaning-put_map, map_keeps_sound}
use Rattle.plain_model.specs.declared.replies.Reply.TheVariants as reply
use Rattle.plain_model.specs.declared.replies.Refusal.TheVariants as refused
use Rattle.plain_model.specs.Legal.{Legal, MayEnter}
use Rattle.plain_model.specs.Timelines.{Timeline, Happened, Entered, image_of, facts_of, happened_of}
use Rattle.plain_model.specs.Lines.{lines_of}
use Rattle.plain_model.specs.Running.{AllSound}
use Rattle.plain_model.specs.Written.{EachReply, WrittenByMoments}
use Rattle.plain_model.specs.OnTrail.{NoneOwed}
use Rattle.plain_model.proofs.OwedLaws.{none_at_first, none_after_entry}
use Rattle.plain_model.proofs.NearLaws.{near_itself}
use Rattle.plain_model.proofs.WrittenAtMoments.{written_by_moments}
use Rattle.model_examples.specs.Values.{two_sites, trail_of, nothing_going, map_trail, map_commit, image_m, map_entry, closing}
use Rattle.world_examples.specs.Examples.{site_a, site_b, map_m}
use Rattle.std.specs.Prelude.{codes}
use Rattle.model_examples.proofs.Closing.{not_open, makes_first}

pub no_history : Legal 0 (trail_of []) nothing_going []
no_history = record { timeline = []; happened = refl; entries = refl; connections = nobody; unfolds = refl; stands = refl; none_owed = none_at_first two_sites; promises = tt; named = tt }

-- ---- one map

means_m : meaning image_m ≡ record (meaning two_sites) { maps = fin.insert fin.empty map_m (kind.Range, Int) }
means_m = meaning-put_map two_sites (empty_sound (site_a ∷ site_b ∷ [])) map_m kind.Range Int (fin.get-empty byte_cmp map_m)

pub enters_m : MayEnter 0 two_sites (Happened map_commit ∷ []) map_entry nobody nobody
enters_m = record {
  moment = refl;
  follows = record {
    held = holds_nothing;
    step = makes_first holds_nothing (meaning two_sites) (fin.get-empty byte_cmp map_m) (fin.len-empty byte_cmp (MapKind × KeyType)) ∙ ap (λ (s : PlainState). (s, reply.Ok)) (sym means_m);
  };
  on_trail = tt;
  planned = tt;
  own = inl refl;
  none_owed = λ number is. absurd cc;
}

pub nothing_open : NoneOwed two_sites (Entered map_entry ∷ Happened map_commit ∷ [])
nothing_open number is = absurd cc

-- the commit, the entry, and then the line
abbrev pub one_map : Legal 0 map_trail nothing_going (map_entry ∷ [])
one_map = record {
  timeline = Happened (Wrote (codes "ok\n")) ∷ Entered map_entry ∷ Happened map_commit ∷ [];
  happened = refl;
  entries = refl;
  connections = nobody;
  unfolds = ((nobody, (refl, near_itself (meaning two_sites), refl, none_at_first two_sites), enters_m), near_itself _, tt, nothing_open);
  stands = refl;
  none_owed = nothing_open;
  promises = (tt, tt);
  named = (tt, tt);
}

-- ---- refused commands

enters_closing : (since : ℕ) (past : Timeline) (moment : ℕ) → moment ≡ since + length (happened_of past) → meaning (image_of two_sites past) ≡ facts_of two_sites past
    → NoneOwed two_sites past → MayEnter since two_sites past (closing moment) nobody nobody
enters_closing since past moment now same none = record {
  moment = now;
  follows = record {
    held = holds_nothing;
    step = not_open holds_nothing (with_connections (facts_of two_sites past) nobody) refl ∙ ap (λ (s : PlainState). (with_connections s nobody, reply.Refused refused.NoConnection)) (sym same);
  };
  on_trail = tt;
  planned = tt;
  own = inl refl;
  none_owed = none_after_entry two_sites past (closing moment) none;
}

pub two_refusals : Legal 0 (trail_of (Wrote [] ∷ [])) nothing_going (closing 0 ∷ closing 1 ∷ [])
two_refusals = record {
  timeline = Entered (closing 1) ∷ Happened (Wrote []) ∷ Entered (closing 0) ∷ [];
  happened = refl;
  entries = refl;
  connections = nobody;
  unfolds = (nobody, ((nobody, refl, enters_closing 0 [] 0 refl refl (none_at_first two_sites)), near_itself (meaning two_sites), tt, λ number is. absurd cc), enters_closing 0 (Happened (Wrote []) ∷ Entered (closing 0) ∷ []) 1 refl refl (λ number is. absurd cc));
  stands = refl;
  none_owed = λ number is. absurd cc;
  promises = (tt, (tt, tt));
  named = tt;
}

pub later_start : Legal 1 (trail_of []) nothing_going (closing 1 ∷ [])
later_start = record {
  timeline = Entered (closing 1) ∷ [];
  happened = refl;
  entries = refl;
  connections = nobody;
  unfolds = (nobody, refl, enters_closing 1 [] 1 refl refl (none_at_first two_sites));
  stands = refl;
  none_owed = λ number is. absurd cc;
  promises = (tt, tt);
  named = tt;
}

pub one_refusal : Legal 0 (trail_of []) nothing_going (closing 0 ∷ [])
one_refusal = record {
  timeline = Entered (closing 0) ∷ [];
  happened = refl;
  entries = refl;
  connections = nobody;
  unfolds = (nobody, refl, enters_closing 0 [] 0 refl refl (none_at_first two_sites));
  stands = refl;
  none_owed = λ number is. absurd cc;
  promises = (tt, tt);
  named = tt;
}

-- ---- what is written of the one map

-- the map alone, without its line
abbrev pub map_unwritten : Legal 0 (trail_of (map_commit ∷ [])) nothing_going (map_entry ∷ [])
map_unwritten = record {
  timeline = Entered map_entry ∷ Happened map_commit ∷ [];
  happened = refl;
  entries = refl;
  connections = nobody;
  unfolds = (nobody, (refl, near_itself (meaning two_sites), refl, none_at_first two_sites), enters_m);
  stands = refl;
  none_owed = nothing_open;
  promises = (tt, tt);
  named = (tt, tt);
}

pub map_written : WrittenByMoments (EachReply false) map_trail 0 (map_entry ∷ [])
unfolding lines_of
map_written = written_by_moments (EachReply false) map_trail 0 one_map.timeline one_map.connections (omega arith) one_map.unfolds refl
    (((tt, record { enough = ([], refl); no_more = ([], refl) }), tt), record { enough = ([], refl); no_more = (codes "ok\n", refl) })
    (record { enough = (codes "ok\n", refl); no_more = ([], refl) })

pub map_unwritten_so_far : WrittenByMoments (EachReply false) (trail_of (map_commit ∷ [])) 0 (map_entry ∷ [])
unfolding lines_of
map_unwritten_so_far = written_by_moments (EachReply false) (trail_of (map_commit ∷ [])) 0 map_unwritten.timeline map_unwritten.connections (omega arith) map_unwritten.unfolds refl
    ((tt, record { enough = ([], refl); no_more = ([], refl) }), tt)
    (record { enough = ([], refl); no_more = (codes "ok\n", refl) })

-- ---- the stores stay sound

pub map_sound : AllSound two_sites one_map.timeline
map_sound = let sound : Sound two_sites = empty_sound (site_a ∷ site_b ∷ []) in
    let after = map_keeps_sound two_sites sound map_m kind.Range Int (fin.get-empty byte_cmp map_m) in
    (after, (after, sound))
