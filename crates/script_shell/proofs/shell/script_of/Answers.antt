use Rattle.std.proofs.Common.{map, subst, ap, sym}
use Rattle.std.specs.Prelude.{Err}
use Rattle.std.specs.String.{string_bytes}
use Rattle.script_lang.specs.declared.programs.Program.TheVariants.{Ctl}
use Rattle.script_lang.specs.CommandLine.{options_built, IsAccepted, IsWordsFault}
use Rattle.script_lang.specs.Scripts.{built, IsScriptFault}
use Rattle.plain_model.specs.declared.finish.RunStatus.TheVariants as status
use Rattle.script_shell.specs.Reading.{StopsReading}
use Rattle.script_shell.proofs.CallLaws.{bad_words, words_memory, read_fault, too_long, read_memory, bad_script}
use Rattle.script_shell.proofs.shell.script_of.Goals as goal

pub returns-in-Err-At-clause-err : goal.returns-in-Err-At-clause-err
returns-in-Err-At-clause-err g c =
    subst (λ place. StopsReading (map string_bytes c.args.words.now.items) (g.S.Source.left c.args.source.now) (g.S.Source.left c.args.source.now) (g.S.Source.faults c.args.source.now) (g.S.Source.faults c.args.source.now) (status.BadWords place)) (sym c.in-Err-At.place-is)
    (bad_words (map string_bytes c.args.words.now.items) _ _ c.in-Err-At.place
    (subst (IsWordsFault (IsAccepted Ctl options_built) (map string_bytes c.args.words.now.items)) c.in-Err-At.field-0-is c.in-Err-At.ensures.err))

pub returns-in-Err-Memory-clause-err : goal.returns-in-Err-Memory-clause-err
returns-in-Err-Memory-clause-err g c = words_memory (map string_bytes c.args.words.now.items) _ _

pub returns-in-Err-Fault-clause-err : goal.returns-in-Err-Fault-clause-err
returns-in-Err-Fault-clause-err g c =
    read_fault (map string_bytes c.args.words.now.items) _ _ _ _ c.in-Ok._words c.in-Ok.ensures.ok c.read_all.ensures.falls (c.in-Err-Fault.ensures.fault (ap Err c.in-Err-Fault.field-0-is)) (c.in-Err-Fault.ensures.in_time (ap Err c.in-Err-Fault.field-0-is))

pub returns-in-Err-TooLong-clause-err : goal.returns-in-Err-TooLong-clause-err
returns-in-Err-TooLong-clause-err g c =
    too_long (map string_bytes c.args.words.now.items) _ _ _ _ c.in-Ok._words c.in-Ok.ensures.ok c.read_all.ensures.falls (c.in-Err-TooLong.ensures.long (ap Err c.in-Err-TooLong.field-0-is))

pub returns-in-Err-Memory-read_all-clause-err : goal.returns-in-Err-Memory-read_all-clause-err
returns-in-Err-Memory-read_all-clause-err g c = read_memory (map string_bytes c.args.words.now.items) _ _ _ _ c.in-Ok._words c.in-Ok.ensures.ok c.read_all.ensures.falls

pub returns-in-Err-Line-clause-err : goal.returns-in-Err-Line-clause-err
returns-in-Err-Line-clause-err g c =
    bad_script (map string_bytes c.args.words.now.items) _ _ _ _ c.in-Ok._words c.in-Ok.ensures.ok c.read_all.ensures.falls c.in-Ok-read_all.bytes.items c.in-Err-Line.line c.in-Err-Line.reason
    c.in-Ok-read_all.ensures.all c.in-Ok-read_all.ensures.drained c.in-Ok-read_all.ensures.short
    (subst (IsScriptFault Ctl built c.in-Ok-read_all.bytes.items) c.in-Err-Line.field-0-is (subst (λ text. IsScriptFault Ctl built text c.in-Err-Line.field-0) c.deref.ensures.value c.in-Err-Line.ensures.err))

pub returns-clause-err : goal.returns-clause-err
returns-clause-err g c = read_memory (map string_bytes c.args.words.now.items) _ _ _ _ c.in-Ok._words c.in-Ok.ensures.ok c.read_all.ensures.falls
