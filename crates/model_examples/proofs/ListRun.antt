-- The run of `list m` where no map stands: it is refused, and its line is written.
use Rattle.std.proofs.Common.{◌≡◌, ◌≤◌, arith, false, inl, refl, None, [], ◌∷◌}
use Rattle.std.specs.FinMap as fin
use Rattle.cell_world.specs.ByteOrder.{byte_cmp}
use Rattle.cell_world.specs.Images.{Wrote}
use Rattle.cell_world.specs.Meaning.{meaning}
use Rattle.cell_world.specs.Plain.{PlainState, holds_nothing, nobody, with_connections}
use Rattle.cell_world.specs.Sound.{Sound}
use Rattle.image_laws.proofs.EmptyLaws.{empty_sound}
use Rattle.plain_model.specs.declared.commands.Command.TheVariants as command
use Rattle.plain_model.specs.declared.finish.RunStatus.TheVariants as status
use Rattle.plain_model.specs.declared.replies.Refusal.TheVariants as refused
use Rattle.plain_model.specs.declared.replies.Reply.TheVariants as reply
use Rattle.plain_model.specs.ByMoments.{RunsByMoments}
use Rattle.plain_model.specs.Follows.{Follows}
use Rattle.plain_model.specs.Headline.{IsLegalHistory, OnlyWhatHappened, EachOnceInOrder}
use Rattle.plain_model.specs.Lines.{lines_of, refusal_text}
use Rattle.plain_model.specs.Refusing.{refusal}
use Rattle.plain_model.specs.Running.{Owing, text_of}
use Rattle.plain_model.specs.Steps.{plain_step}
use Rattle.plain_model.specs.Timelines.{Happened, Entered}
use Rattle.plain_model.specs.Written.{EachReply, AllWritten}
use Rattle.plain_model.proofs.RunLaws.{begins, owing-entered, owing-wrote_all}
use Rattle.plain_model.proofs.RunsAtMoments.{runs_by_moments, all_lines_written}
use Rattle.model_examples.specs.Values.{two_sites}
use Rattle.world_examples.specs.Examples.{map_m, site_a, site_b}
use Rattle.model_examples.specs.Runs.{list_trail, list_asked, list_refused, no_map_line}
use Rattle.model_examples.proofs.Served.{serves}

abbrev pub before_it : PlainState
before_it = with_connections (meaning two_sites) nobody

is_refused : plain_step holds_nothing before_it 1 (command.List map_m) ≡ (before_it, reply.Refused refused.NoMap)
unfolding refusal
is_refused = rw (fin.get-empty byte_cmp map_m) refl

pub follows : Follows [] before_it list_refused before_it list_refused.reply
follows = record { held = holds_nothing; step = is_refused }

pub sound_sites : Sound two_sites
sound_sites = empty_sound (site_a ∷ site_b ∷ [])

entered : Owing 0 two_sites (EachReply false) (Entered list_refused ∷ []) nobody (text_of (EachReply false) list_refused)
entered = owing-entered 0 two_sites (EachReply false) [] nobody nobody list_refused (reply.Refused refused.NoMap) (begins 0 two_sites (EachReply false) sound_sites) refl
    (record { moment = refl; follows = follows; on_trail = tt; planned = tt; own = inl refl; none_owed = λ number is. absurd cc })

wrote : Owing 0 two_sites (EachReply false) (Happened (Wrote no_map_line) ∷ Entered list_refused ∷ []) nobody []
unfolding lines_of refusal_text
wrote = owing-wrote_all 0 two_sites (EachReply false) (Entered list_refused ∷ []) nobody (text_of (EachReply false) list_refused) entered

pub runs : RunsByMoments (EachReply false) list_trail 0 (λ session. None) (list_refused ∷ [])
runs = let begun : 0 ≤ 1 = omega arith in
    runs_by_moments (EachReply false) list_trail 0 (λ session. None) (Happened (Wrote no_map_line) ∷ Entered list_refused ∷ []) nobody begun refl wrote.run (tt, tt) tt

pub is_written : AllWritten (EachReply false) list_trail 0 (list_refused ∷ [])
is_written = let begun : 0 ≤ 1 = omega arith in
    all_lines_written false list_trail 0 (Happened (Wrote no_map_line) ∷ Entered list_refused ∷ []) nobody begun refl wrote

pub is_legal : IsLegalHistory false list_trail 0 list_asked (list_refused ∷ [])
is_legal = record { going = λ session. None; left = λ session. record { none = λ ran. refl; next = tt }; legal = runs.legal }

pub only_this : OnlyWhatHappened (EachReply false) list_trail 0 (list_refused ∷ []) status.Refused
only_this = record { written = runs.written; all = λ ran. is_written; last = inl is_written }

pub once : EachOnceInOrder list_asked (list_refused ∷ []) status.Refused
once = serves (list_refused ∷ []) status.Refused (refl, tt)
