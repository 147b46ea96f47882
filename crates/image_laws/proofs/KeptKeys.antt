-- A sweep and settling keep the key of each row that they leave.
use Rattle.std.proofs.Common.{◌≡◌, ℕ, refl, sym, ap, ◌∙◌, subst, Some, None, Option, inl, inr}
use Rattle.std.specs.Prelude.{IfSome, option_and_then}
use Rattle.std.specs.FinMap as map
use Rattle.cell_world.specs.Texts.{Text}
use Rattle.cell_world.specs.Stores.{Log, Locals, local_key}
use Rattle.cell_world.specs.Sweep.{sweep}
use Rattle.cell_world.specs.declared.operations.Op.{Op}
use Rattle.cell_world.specs.declared.cells.LocalRow.{LocalRow}
use Rattle.cell_world.specs.declared.cells.Mark.{Mark}
use Rattle.image_laws.specs.LocalSteps.{settle, AreKeyed}
use Rattle.image_laws.proofs.Remarks.{same_key}
use Rattle.image_laws.proofs.StepLaws.{sweep_gives, swept_like}
use Rattle.image_laws.proofs.OthersStay.{settle_back}

-- a change of a row keeps its key
abbrev pub KeepsKeys : (LocalRow → Option LocalRow) → Type 0
KeepsKeys f = (row now : LocalRow) → f row ≡ Some now → local_key now ≡ local_key row

-- Where each row is changed so, rows that stood under their own keys still do.
pub keeps_keyed : (f : LocalRow → Option LocalRow) → KeepsKeys f → (before after : Locals) → ((k : Text × (Text × ℕ)) → map.get after k ≡ option_and_then f (map.get before k)) → AreKeyed before → AreKeyed after
keeps_keyed f keeps before after is keyed k = subst (λ o. IfSome o (λ row. local_key row ≡ k)) (sym (is k)) (by (map.get before k) (keyed k))
  where
    by : (o : Option LocalRow) → IfSome o (λ row. local_key row ≡ k) → IfSome (option_and_then f o) (λ row. local_key row ≡ k)
    by None h = tt
    by (Some row) h = of (f row) refl
      where
        of : (o : Option LocalRow) → f row ≡ o → IfSome o (λ now. local_key now ≡ k)
        of None e = tt
        of (Some now) e = keeps row now e ∙ h

pub sweep_keeps : (log : Log) (op : Op) (to : Mark) → KeepsKeys (sweep log op to)
sweep_keeps log op to row now e = same_key row now (swept_like log op to row now (sweep_gives log op to row now e))

pub settle_keeps : (p : ℕ) → KeepsKeys (settle p)
settle_keeps p row now e = elim (settle_back p row now row.mark refl e) [
  | inl is ↦ ap local_key is
  | inr is ↦ ap local_key is.0
]
