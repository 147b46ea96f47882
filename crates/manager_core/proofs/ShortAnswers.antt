-- The change of a short command is made, or it may be, and its entry follows.
use Rattle.std.proofs.Common.{◌≡◌, inl, inr, ℕ, Bool, true, false, refl, List, [], None}
use Rattle.cell_world.specs.Counts.{Rose}
use Rattle.cell_world.specs.Images.{Image, after_one, global}
use Rattle.cell_world.specs.Plain.{nobody}
use Rattle.cell_world.specs.Meaning.{next_operation}
use Rattle.cell_world.specs.Outside.{Outside, Told, TellsCells, IfContents, IsLater, told_after}
use Rattle.cell_world.specs.Stores.{Store, IsKeyed, changed}
use Rattle.cell_world.specs.declared.changes.Edit.{Edit}
use Rattle.cell_world.proofs.ContentsLaws.{contents_all, contents_both, contents_weaker}
use Rattle.global_tables.specs.Known.{Known, known_of}
use Rattle.plain_model.specs.ShortCommands.{is_short, short_commit, standing_with}
use Rattle.map_ops.proofs.PlannedLaws.{short_is_asked}
use Rattle.op_steps.proofs.Rises.{rose_global}
use Rattle.plain_model.specs.declared.commands.Command.{Command}
use Rattle.plain_model.specs.declared.replies.Reply.TheVariants as reply
use Rattle.plain_model.specs.OnTrail.{logs_put}
use Rattle.plain_model.proofs.ShortCommands.{short_done, short_unmade, short_made}
use Rattle.session_laws.specs.Doing.{AllDoing, Resting}
use Rattle.operation_laws.proofs.Left.{left_short}
use Rattle.operation_laws.proofs.ShortStands.{all_stand_short}
use Rattle.manager_core.specs.Answering.{IsCopy}
use Rattle.manager_core.specs.Asking.{MakesChange, MayMake}
use Rattle.manager_core.specs.Coming.{TriesShort}
use Rattle.manager_core.specs.Steady.{IsSteady, AreSteady}
use Rattle.manager_core.proofs.Copies.{copy_made}
use Rattle.manager_core.proofs.QuietAnswers.{memory_quietly}
use Rattle.manager_core.proofs.SettledStays.{settled_short}
use Rattle.manager_core.proofs.ShortEnds.{CommitsAt, commit_ends}

-- what is tried: the next number stays
tries_short : (change : List Edit) (took : Bool) → logs_put change ≡ [] → (old new : Told) → new ≡ told_after old (short_commit change took) → IfContents old (λ image. next_operation (after_one image (short_commit change true)) ≡ next_operation image) → TriesShort old new
tries_short change took no_log old new told number = record { change = change; took = took; quiet = no_log; told = told; number = by took }
  where
    by : (b : Bool) → IfContents old (λ image. next_operation (after_one image (short_commit change b)) ≡ next_operation image)
    by true = number
    by false = contents_all old (λ image. next_operation image ≡ next_operation image) (λ image. refl)

module _ (change : List Edit) (no_log : logs_put change ≡ []) (known : Known) (old new : Outside) where
  -- what it is where it may be made
  module _ (session : ℕ) (c : Command) (before : AllDoing) (planned : is_short c ≡ true) (rests : before session ≡ Resting None) where
    made_at : (image : Image) → IsSteady before image → MayMake c change image → CommitsAt session c planned reply.Ok refl change true no_log before rests image
    made_at image s may =
        let so = may.changes session in record {
          sound = so.sound;
          numbers = so.numbers;
          follows = short_done session c planned (standing_with image nobody) (standing_with (after_one image (short_commit change true)) nobody) reply.Ok refl (so.accepts nobody) (so.becomes nobody);
          stand = all_stand_short before image s.sound s.stand may.reached (after_one image (short_commit change true)) may.short may.none;
          left = left_short before image (after_one image (short_commit change true)) may.reached s.left may.short;
          settled = settled_short may.reached image (after_one image (short_commit change true)) may.short;
        }

    fault_at : (took : Bool) (image : Image) → IsSteady before image → MayMake c change image → CommitsAt session c planned reply.Fault refl change took no_log before rests image
    fault_at true image s may =
        let so = may.changes session in record {
          sound = so.sound;
          numbers = so.numbers;
          follows = short_made session c planned (standing_with image nobody) (standing_with (after_one image (short_commit change true)) nobody) reply.Ok (so.accepts nobody) (so.becomes nobody);
          stand = all_stand_short before image s.sound s.stand may.reached (after_one image (short_commit change true)) may.short may.none;
          left = left_short before image (after_one image (short_commit change true)) may.reached s.left may.short;
          settled = settled_short may.reached image (after_one image (short_commit change true)) may.short;
        }
    fault_at false image s may = record {
      sound = s.sound;
      numbers = refl;
      follows = short_unmade session c planned (standing_with image nobody) (standing_with image nobody) refl;
      stand = s.stand;
      left = s.left;
      settled = λ op is. is;
    }

    abbrev MayBe : Image → Type 0
    MayBe image = IsSteady before image → known ≡ known_of (global image) → MayMake c change image

    at_steady : AreSteady before old → IsCopy known old.told → IfContents old.told MayBe → IfContents old.told (λ image. IsSteady before image × MayMake c change image)
    at_steady steady copy may = contents_weaker old.told (λ image. (IsSteady before image × (known ≡ known_of (global image))) × MayBe image) (λ image. IsSteady before image × MayMake c change image)
        (λ image all. (all.0.0, all.1 all.0.0 all.0.1))
        (contents_both old.told (λ image. IsSteady before image × (known ≡ known_of (global image))) MayBe (contents_both old.told (IsSteady before) (λ image. known ≡ known_of (global image)) steady copy) may)

  -- ---- the answers of the commit

  pub makes_done : (fresh : Known) → TellsCells old.told → ((s : Store) → IsKeyed s → known ≡ known_of s → fresh ≡ known_of (changed s change)) → new.told ≡ told_after old.told (short_commit change true) → MakesChange change reply.Ok known fresh old new
  makes_done fresh cells follows told = record {
    answers = inl refl;
    tries = λ number. (refl, tries_short change true no_log old.told new.told told number);
    ends = λ session c before planned rests may. commit_ends session c planned reply.Ok refl change true no_log before rests old new told known fresh
        (λ steady copy. contents_weaker old.told (λ image. IsSteady before image × MayMake c change image) (CommitsAt session c planned reply.Ok refl change true no_log before rests)
        (λ image both. made_at session c before planned rests image both.0 both.1) (at_steady session c before planned rests steady copy may))
        (λ ok copy. copy_made old.told new.told known fresh change cells told follows copy);
    cause = λ is. absurd cc;
  }

  pub makes_maybe : (took : Bool) → new.told ≡ told_after old.told (short_commit change took) → IsLater old new → Rose (old.faults_at 0) (new.faults_at 0) → MakesChange change reply.Fault known known old new
  makes_maybe took told later rose = record {
    answers = inr (inl refl);
    tries = λ number. inl (refl, inr (tries_short change took no_log old.told new.told told number));
    ends = λ session c before planned rests may. commit_ends session c planned reply.Fault refl change took no_log before rests old new told known known
        (λ steady copy. contents_weaker old.told (λ image. IsSteady before image × MayMake c change image) (CommitsAt session c planned reply.Fault refl change took no_log before rests)
        (λ image both. fault_at session c before planned rests took image both.0 both.1) (at_steady session c before planned rests steady copy may))
        (λ ok. absurd (ok refl));
    cause = λ is. rose_global old new later.faults rose;
  }

  pub makes_none : new.told ≡ old.told → MakesChange change reply.Memory known known old new
  makes_none same = record {
    answers = inr (inr refl);
    tries = λ number. (refl, same);
    ends = λ session c before planned rests may. memory_quietly session c (short_is_asked c planned) before rests old new same known;
    cause = λ is. absurd cc;
  }
