use Rattle.std.proofs.Common.{◌≡◌, ℕ, ◌<◌, refl, ap, [], ◌∷◌, arith}
use Rattle.cell_world.specs.declared.cells.Status.TheVariants.{Offline}
use Rattle.cell_world.specs.declared.operations.Extra.TheVariants as extra
use Rattle.cell_world.specs.declared.operations.Op.{Op}
use Rattle.world_examples.specs.Examples.{range, site_a, free_piece, no_pieces, one_piece, op_on, add_at_a}
use Rattle.world_examples.proofs.ImageParts.{offline_not_online}
use Rattle.world_examples.proofs.ShortTables.{op_in}
use Rattle.world_examples.proofs.sound.refused_log_cells.Goals as goal

pub returns-clause-unlawful : goal.returns-clause-unlawful
returns-clause-unlawful c = λ h.
    let op : Op = op_on 1 (range 0 5) no_pieces (one_piece (free_piece 0 5 site_a Offline)) extra.None in
    offline_not_online (h.lawful op (op_in (op ∷ []) tt op refl)).shape.0

pub returns-clause-numbered : goal.returns-clause-numbered
returns-clause-numbered c = λ h. let below : 1 < 1 = h.numbered add_at_a (op_in (add_at_a ∷ []) tt add_at_a refl) in omega arith

pub returns-clause-hulls : goal.returns-clause-hulls
returns-clause-hulls c = λ h.
    let other : Op = record add_at_a { number = 2 } in
    let same = h.hulls add_at_a other (op_in (add_at_a ∷ other ∷ []) tt add_at_a refl) (op_in (add_at_a ∷ other ∷ []) tt other refl) refl refl in
    let number : ◌≡◌ {A = ℕ} 1 2 = ap (λ (op : Op). op.number) same in omega arith
