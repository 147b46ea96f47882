-- A command that has ended is entered, and its lines are written.
use Rattle.std.proofs.Common.{◌≡◌, ℕ, Bool, refl, sym, ap, ◌∙◌, subst, [], ◌∷◌, ◌++◌, Option, Some}
use Rattle.std.specs.Prelude.{IfSome}
use Rattle.cell_world.specs.Texts.{Text}
use Rattle.cell_world.specs.Images.{end_of_trail, global}
use Rattle.cell_world.specs.Outside.{IfContents, IfTrail, IsLater, StoreRoseBy}
use Rattle.plain_model.specs.declared.commands.Command.{Command}
use Rattle.plain_model.specs.declared.history.Entry.{Entry}
use Rattle.plain_model.specs.declared.replies.Reply.{Reply}
use Rattle.plain_model.specs.declared.replies.Reply.TheVariants as reply
use Rattle.plain_model.specs.Lines.{reply_lines, tag_of}
use Rattle.plain_model.specs.Written.{EachReply}
use Rattle.session_laws.specs.Contract.{KeepsCore, KeepsCoreTo}
use Rattle.session_laws.specs.Doing.{IsThen}
use Rattle.operation_laws.specs.Leading.{Leads, with_entry}
use Rattle.global_tables.specs.Known.{Known, known_of}
use Rattle.manager_core.specs.declared.manager.Event.{Event}
use Rattle.manager_core.specs.declared.manager.Event.TheVariants as event
use Rattle.manager_core.specs.Answering.{IsCopy}
use Rattle.manager_core.specs.Concluding.{Waiting, known_after}
use Rattle.manager_core.specs.Cores.{Parts, IsReady, seen_of}
use Rattle.manager_core.specs.Events.{Enters, Settles, StaysReady, WritesOnce, front_of}
use Rattle.manager_core.specs.Steady.{IsSteady, IsSettledOp, seen_with}
use Rattle.manager_core.proofs.OpeningLaws.{rose_by_then}
use Rattle.manager_core.proofs.TableCopies.{if_some}
use Rattle.manager_core.proofs.Writings.{contents_written, core_goes_on_written, core_goes_to_written}

-- the entry of a command that ended with this reply
abbrev pub entry_of : ℕ → Command → Reply → ℕ → ℕ → Entry
entry_of session c r moment number = record { session = session; command = c; reply = Some r; moment = moment; operation = number }

-- where a copy is kept the reply is no fault, and it is the copy that there was
kept_after : (r : Reply) (known : Option Known) (P : Known → Type 0) → ((r ≡ reply.Fault → ⊥) → IfSome known P) → IfSome (known_after r known) P
kept_after reply.Fault known P goes = tt
kept_after r known P goes = goes (λ is. absurd cc)

module _ (session : ℕ) (e : Event) (c : Command) (r : Reply) (number moment : ℕ) (old now : Parts) (w : Waiting session e c r number old now) (made_now : IfTrail now.outside.told (λ trail. moment ≡ end_of_trail trail)) where
  abbrev entry : Entry
  entry = entry_of session c r moment number

  -- the core has the entry, and its lines are still to be written
  module _ (tagged : Bool) (ready : IsReady old) where
    abbrev text : Text
    text = reply_lines (tag_of tagged session) r

    leads : Leads (EachReply tagged) old.outside.told now.outside.told (seen_of old) (with_entry (seen_of old) entry now.doing) text
    leads = w.ends.leads ready.steady (w.is_copy ready) (EachReply tagged) old.history entry (record { of_session = refl; command = refl; answered = refl; operation = refl }) made_now

  -- then so much of them is written, or nothing
  module _ (new : Parts) (added : new.history ≡ now.history ++ entry ∷ []) (same_doing : new.doing ≡ now.doing) (same_known : new.known ≡ known_after r now.known) (written : Option Text)
      (writes : WritesOnce written now.outside.told new.outside.told) (afterwards : IsLater now.outside new.outside) where
    seen : seen_of new ≡ with_entry (seen_of old) entry now.doing
    seen = ap (λ h. seen_with h new.doing) (added ∙ ap (λ h. h ++ entry ∷ []) w.same) ∙ ap (seen_with (old.history ++ entry ∷ [])) same_doing

    risen : (by : ℕ) → StoreRoseBy by old.outside now.outside → StoreRoseBy by old.outside new.outside
    risen by = rose_by_then by old.outside now.outside new.outside afterwards

    settles : (e : Event) → Settles e (old.doing session) (Some r) old now → Settles e (old.doing session) (Some r) old new
    settles (event.Ask asked) so = λ op left memory rose. contents_written now.outside.told new.outside.told written writes (IsSettledOp op) (so op left memory (λ before. rose (risen _ before)))
    settles event.Go so = tt

    pub enters : (tagged : Bool) (rest : Text) → front_of written ++ rest ≡ reply_lines (tag_of tagged session) r → Enters tagged session e r old new written rest
    enters tagged rest split = record {
      command = c;
      of_event = w.of_event;
      number = number;
      entered = record { entry = entry; of_session = refl; command = refl; answered = refl; operation = refl; added = added ∙ ap (λ h. h ++ entry ∷ []) w.same };
      rests = subst (IsThen old.doing session _) (sym same_doing) w.rests;
      may_end = w.may_end;
      numbered = w.numbered;
      waits_for = w.waits_for;
      lines = split;
      between = now.outside.told;
      has_cause = λ ready on. w.has_cause ready;
      writes = writes;
      settles = λ ready. settles e (w.settles ready);
      keeps = λ ready on. subst (λ s. KeepsCore (EachReply tagged) old.outside.told (seen_of old) new.outside.told s rest) (sym seen)
          (λ t0 start trail is core. core_goes_on_written now.outside.told new.outside.told written writes (EachReply tagged) t0 start trail _ rest (text tagged ready) split ((leads tagged ready).keeps t0 start trail is core));
      keeps_to = λ ready on. subst (λ s. KeepsCoreTo old.outside.told (seen_of old) new.outside.told s) (sym seen)
          (λ first image told to. core_goes_to_written now.outside.told new.outside.told written writes first _ ((leads tagged ready).keeps_to first image told to));
      fault = λ is. risen 1 (w.fault is);
    }

    -- and the stores stay ready for the next
    pub stays : StaysReady old new
    stays = record {
      ready = λ ready. record {
        steady = subst (λ d. IfContents new.outside.told (IsSteady d)) (sym same_doing)
            (contents_written now.outside.told new.outside.told written writes (IsSteady now.doing) (w.ends.steady ready.steady (w.is_copy ready)));
        copy = λ on. subst (λ known. IfSome known (λ k. IsCopy k new.outside.told)) (sym same_known)
            (kept_after r now.known (λ k. IsCopy k new.outside.told) (λ no_fault. if_some now.known (λ k. k ≡ w.last) (λ k. IsCopy k new.outside.told)
            (λ k is. contents_written now.outside.told new.outside.told written writes (λ image. k ≡ known_of (global image))
            (subst (λ x. IsCopy x now.outside.told) (sym is) (w.ends.copy no_fault ready.steady (w.is_copy ready)))) w.keeps));
      };
      settled = λ ready on op clean. contents_written now.outside.told new.outside.told written writes (IsSettledOp op) (w.ends.settled ready.steady (w.is_copy ready) op clean);
    }
