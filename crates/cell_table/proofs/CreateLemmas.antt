-- What the table begins with.
use Rattle.std.proofs.Common.{◌≡◌, ℕ, [], false, None, Ok, Err, Result, OnOk, sym, ap, subst, ◌∙◌}
use Rattle.sqlite.specs.Change.{created, next_tree}
use Rattle.sqlite.specs.Command.TheVariants.{CreateTable}
use Rattle.sqlite.specs.Does.{Tally, lacks_sequence}
use Rattle.sqlite.specs.Effect.{Database}
use Rattle.sqlite.specs.declared.error.Error.{Error}
use Rattle.sqlite.specs.State.{State, Writes, Executes}
use Rattle.sqlite.proofs.Callers.{runs_as}
use Rattle.cell_table.specs.Cells.{cells, cells_schema, no_schema, Holds}
use Rattle.cell_table.proofs.TextLemmas.{create_text, create_is, create_plain, created_is}
use Rattle.cell_table.proofs.DeleteLemmas.{went, same_value}

pub creates : (old new : State) (r : Result ℕ Error) → old.now.schema ≡ no_schema → Executes create_text [] old new r → OnOk r (Holds new.now [])
creates old new (Err e) has h = tt
creates old new (Ok count) has h =
    let w = subst (λ t. Writes old new None CreateTable t [] count) create_is.1 (runs_as create_text [] old new no_schema has CreateTable create_is.0 create_plain count h) in
    let all = went w.changed in
    let first = went all.1 in
    let made = first.1 in
    let both : Ok made.table ≡ Ok cells = sym made.defined ∙ create_is.2 in
    let same : made.table ≡ cells = cc in
    let schema : first.0.schema ≡ cells_schema = made.is ∙ ap (λ s. created s made.table) has ∙ ap (created no_schema) same ∙ created_is in
    let plain : lacks_sequence first.0.schema ≡ false = ap lacks_sequence schema in
    let now : new.now ≡ first.0 = ap (λ (p : Tally × Database). p.1) (same_value all.2) ∙ same_value (rw plain at first.2) in
    record {
      schema = ap (λ (d : Database). d.schema) now ∙ schema;
      rows = ap (λ (d : Database). d.trees 0) now ∙ subst (λ s. first.0.trees (next_tree s) ≡ []) has made.empty;
      rises = tt;
      apart = tt;
    }

pub creates_mode : (old new : State) (r : Result ℕ Error) → old.now.schema ≡ no_schema → Executes create_text [] old new r → OnOk r (new.in_transaction ≡ old.in_transaction)
creates_mode old new (Err e) has h = tt
creates_mode old new (Ok count) has h = (runs_as create_text [] old new no_schema has CreateTable create_is.0 create_plain count h).shown.mode
