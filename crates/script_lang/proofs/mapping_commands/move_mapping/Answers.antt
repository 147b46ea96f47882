use Rattle.std.proofs.Common.{Err, refl, sym, ap, ◌∙◌}
use Rattle.script_lang.proofs.ArgumentLaws.{move_plain, move_locked, move_token}
use Rattle.script_lang.proofs.mapping_commands.move_mapping.Goals as goal

pub returns-in_ok-at-in-len3-clause-ok : goal.returns-in_ok-at-in-len3-clause-ok
returns-in_ok-at-in-len3-clause-ok c =
    let is = c.in_ok-at-in-len3.ensures in
    record { verb = refl; values = move_plain c.args.words.now _ _ _ _ _ _ c.in-len3.len_at_least c.in-len3.len_below is.map is.key is.location }

pub returns-in-Ok-clause-ok : goal.returns-in-Ok-clause-ok
returns-in-Ok-clause-ok c =
    let is = c.in_ok-at-in-len4.ensures in
    let token = c.in-Ok.ensures in
    record { verb = refl; values = move_locked c.args.words.now _ _ _ _ _ _ _ _ c.in-len4.len_at_least c.in-len4.len_below is.map is.key is.location (token.maybe ∙ token.ok) }

pub returns-in-Err-clause-err : goal.returns-in-Err-clause-err
returns-in-Err-clause-err c =
    let is = c.in_ok-at-in-len4.ensures in
    let bad = c.in-Err.ensures in
    move_token c.args.words.now _ _ _ _ _ _ _ c.in-len4.len_at_least c.in-len4.len_below is.map is.key is.location (bad.maybe ∙ bad.err.1) ∙ ap Err (sym bad.err.0)
