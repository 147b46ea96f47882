-- What a script asks may be asked, by session 1.
use Rattle.std.proofs.Common.{◌≡◌, inl, inr, Bool, true, false, ◌&&◌, List, [], ◌∷◌, None, refl, sym, ap, ◌∙◌}
use Rattle.std.specs.List.{AllByRecursion, list_all}
use Rattle.cell_world.specs.Texts.{Text}
use Rattle.cell_world.specs.Lists.{IsOneOf}
use Rattle.cell_world.specs.declared.cells.MapKind.TheVariants.{Range}
use Rattle.cell_world.specs.declared.cells.KeyType.TheVariants.{Int}
use Rattle.map_ops.specs.Planning.{is_asked}
use Rattle.plain_model.specs.declared.commands.Asked.{Asked}
use Rattle.plain_model.specs.declared.commands.Command.{Command}
use Rattle.plain_model.specs.declared.commands.Command.TheVariants as command
use Rattle.plain_model.specs.declared.commands.HighText.TheVariants.{Max}
use Rattle.plain_model.specs.declared.commands.Side.TheVariants as side
use Rattle.script_lang.specs.declared.programs.Program.TheVariants.{Ctl}
use Rattle.script_lang.specs.declared.verbs.Verb.{Verb}
use Rattle.script_lang.specs.declared.verbs.Verb.TheVariants as verb
use Rattle.script_lang.specs.Commands.{verb_of}
use Rattle.script_lang.specs.Scripts.{built, IsScript}
use Rattle.script_lang.proofs.WholeScripts.{IsInForce, script_is_in_force}
use Rattle.script_shell.specs.Ran.{IsAskedAlone}

-- a command of each verb
abbrev example_of : Verb → Command
example_of verb.Map = command.Map [] Range Int
example_of verb.Unmap = command.Unmap []
example_of verb.Shard = command.Shard [] []
example_of verb.Unshard = command.Unshard [] []
example_of verb.Table = command.Table [] []
example_of verb.Add = command.Add [] [] Max []
example_of verb.Addpoint = command.Addpoint [] [] []
example_of verb.Delete = command.Delete [] [] None
example_of verb.Offline = command.Offline [] [] None
example_of verb.Online = command.Online [] [] None
example_of verb.Move = command.Move [] [] [] None
example_of verb.Split = command.Split [] [] None
example_of verb.Merge = command.Merge [] [] None
example_of verb.Lock = command.Lock [] [] (record { 0 = 0 })
example_of verb.Unlock = command.Unlock [] [] (record { 0 = 0 })
example_of verb.Find = command.Find [] []
example_of verb.List = command.List []
example_of verb.Shards = command.Shards []
example_of verb.Open = command.Open 0 [] []
example_of verb.Close = command.Close 0
example_of verb.Put = command.Put 0 [] 0 []
example_of verb.Get = command.Get 0 [] 0
example_of verb.Del = command.Del 0 [] 0
example_of verb.Peek = command.Peek [] []
example_of verb.Detach = command.Detach []
example_of verb.Attach = command.Attach []
example_of verb.Differences = command.Differences [] []
example_of verb.Resolve = command.Resolve [] [] 0 side.Shard
example_of verb.Discard = command.Discard []
example_of verb.Clear = command.Clear []
example_of verb.Job = command.Job [] [] Max [] 0
example_of verb.Step = command.Step 0
example_of verb.Run = command.Run 0

-- Whether a command may be asked is told by its verb.
asked_by_verb : (c : Command) → is_asked c ≡ is_asked (example_of (verb_of c))
asked_by_verb (command.Map name kind type) = refl
asked_by_verb c = refl

-- those that are built may be asked
asked_among : (vs : List Verb) → list_all (λ v. is_asked (example_of v)) vs ≡ true → (v : Verb) → IsOneOf vs v → is_asked (example_of v) ≡ true
asked_among [] all v is = absurd is
asked_among (w ∷ vs) all v (inl here) = ap (λ x. is_asked (example_of x)) (sym here) ∙ first (is_asked (example_of w)) (list_all (λ x. is_asked (example_of x)) vs) all
  where
    first : (a b : Bool) → (a && b) ≡ true → a ≡ true
    first true b is = refl
    first false b is = absurd cc
asked_among (w ∷ vs) all v (inr there) = asked_among vs (others (is_asked (example_of w)) (list_all (λ x. is_asked (example_of x)) vs) all) v there
  where
    others : (a b : Bool) → (a && b) ≡ true → b ≡ true
    others true b is = is
    others false b is = absurd cc

built_asked : (v : Verb) → IsOneOf built v → is_asked (example_of v) ≡ true
built_asked = asked_among built refl

all_asked : (script : List Asked) → AllByRecursion (IsInForce built) script → AllByRecursion IsAskedAlone script
all_asked [] all = tt
all_asked (asked ∷ script) all = ((asked_by_verb asked.command ∙ built_asked (verb_of asked.command) all.0.0, all.0.1), all_asked script all.1)

pub script_is_asked : (bytes : Text) (script : List Asked) → IsScript Ctl built bytes script → AllByRecursion IsAskedAlone script
script_is_asked bytes script is = all_asked script (script_is_in_force built bytes script is)
