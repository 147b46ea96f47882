use Rattle.std.proofs.Common.{Err, refl, sym, ap, ◌∙◌}
use Rattle.script_lang.proofs.ArgumentLaws.{job_words, job_batch}
use Rattle.script_lang.proofs.job_commands.job.Goals as goal

pub returns-in-Ok-clause-ok : goal.returns-in-Ok-clause-ok
returns-in-Ok-clause-ok c =
    let at = c.in_ok-at.ensures in
    record { verb = refl; values = job_words c.args.words.now _ _ _ _ _ _ _ _ _ _ c.in-len5.len_at_least c.in-len5.len_below at.map at.low at.high at.location c.in-Ok.ensures.ok }

pub returns-in-Err-clause-err : goal.returns-in-Err-clause-err
returns-in-Err-clause-err c =
    let at = c.in_ok-at.ensures in
    let bad = c.in-Err.ensures.err in
    job_batch c.args.words.now _ _ _ _ _ _ _ _ _ c.in-len5.len_at_least c.in-len5.len_below at.map at.low at.high at.location bad.1 ∙ ap Err (sym bad.0)
