use Rattle.std.proofs.Common.{refl}
use Rattle.script_lang.proofs.ArgumentLaws.{add_words}
use Rattle.script_lang.proofs.mapping_commands.add.Goals as goal

pub returns-clause-ok : goal.returns-clause-ok
returns-clause-ok c =
    let at = c.in_ok-at.ensures in
    record { verb = refl; values = add_words c.args.words.now _ _ _ _ _ _ _ _ c.in-len4.len_at_least c.in-len4.len_below at.map at.low at.high at.location }
