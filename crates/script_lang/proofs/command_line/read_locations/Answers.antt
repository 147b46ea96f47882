use Rattle.std.proofs.Common.{◌+◌, arith, length, map, refl, ap, sym, subst, ◌∙◌}
use Rattle.script_lang.specs.CommandLine.{AreLocations, IsWordsFault}
use Rattle.script_lang.specs.declared.command_line.WordsFault.TheVariants as fault
use Rattle.script_lang.proofs.LocationLaws.{Taken, nothing, taken_more, taken_stops, taken_few}
use Rattle.script_lang.proofs.command_line.read_locations.Goals as goal

pub loop-word-init : goal.loop-word-init
loop-word-init c = subst (Taken c.args.words.now 0) (sym c.new-found.ensures) (record { these = refl; are = nothing })

pub loop-word-preserved : goal.loop-word-preserved
loop-word-preserved c = taken_more c.args.words.now c.loop-word.word-index _ c.loop-word.found c.as_slice.result.now c.push.new.self c.in-Some.location c.loop-word.invariant c.loop-word-test.true c.as_slice.ensures c.in-Some.ensures c.in-Ok.ensures.ok

pub returns-in-None-clause-err : goal.returns-in-None-clause-err
returns-in-None-clause-err c =
    subst (IsWordsFault (AreLocations c.args.least) (map (λ w. w.now) c.args.words.now)) (sym (c.place_behind.ensures ∙ ap (λ f. fault.At (length f + 1)) c.as_slice-in-None.ensures))
    (taken_stops c.args.least c.args.words.now c.loop-word.word-index _ c.loop-word.found c.as_slice.result.now c.requires c.loop-word.invariant c.loop-word-test.true c.as_slice.ensures c.in-None.ensures)

pub returns-then-as_slice-least-clause-err : goal.returns-then-as_slice-least-clause-err
returns-then-as_slice-least-clause-err c =
    subst (IsWordsFault (AreLocations c.args.least) (map (λ w. w.now) c.args.words.now)) (sym (c.place_behind-then-as_slice-least.ensures ∙ ap (λ f. fault.At (length f + 1)) c.as_slice-then-as_slice-least.ensures))
    (taken_few c.args.least c.args.words.now c.loop-word.word-index c.loop-word.found c.requires c.loop-word.invariant c.loop-word-test.false (omega (arith, ap length c.as_slice-2.ensures, c.if-as_slice-least.true)))
