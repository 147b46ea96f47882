-- The comparisons that the program derives are exact.
use Rattle.std.specs.Prelude.{◌↔◌, Bool, true, false, ◌&&◌, Some, None, IsTrue, nat_eq, refl}
use Rattle.std.specs.Option.{option_eq}
use Rattle.std.proofs.Common.{ap, rules, arith}
use Rattle.cell_world.specs.ByteOrder.{byte_eq}
use Rattle.cell_world.specs.Comparing.{IsExact}
use Rattle.cell_world.specs.declared.operations.Extra.TheVariants as extra
use Rattle.cell_world.specs.contracts.cells.StatusPartialEq.TheImpl as status
use Rattle.cell_world.specs.contracts.cells.MarkPartialEq.TheImpl as mark
use Rattle.cell_world.specs.contracts.cells.LocalRowPartialEq.TheImpl as local
use Rattle.cell_world.specs.contracts.spans.HighPartialEq.TheImpl as high
use Rattle.cell_world.specs.contracts.spans.SpanPartialEq.TheImpl as span
use Rattle.cell_world.specs.contracts.operations.PiecePartialEq.TheImpl as piece
use Rattle.cell_world.specs.contracts.operations.PiecesPartialEq.TheImpl as pieces
use Rattle.cell_world.specs.contracts.operations.PhasePartialEq.TheImpl as phase
use Rattle.cell_world.specs.contracts.operations.JobRowPartialEq.TheImpl as job
use Rattle.cell_world.specs.contracts.operations.ExtraPartialEq.TheImpl as some_extra
use Rattle.cell_world.specs.contracts.operations.OpPartialEq.TheImpl as op

-- two fields, or one and the rest
joined : {p q : Bool} {A B : Type 0} → (IsTrue p ↔ A) → (IsTrue q ↔ B) → IsTrue (p && q) ↔ (A × B)
joined {p = true} {q = q} f g = (λ h. (f.0 refl, g.0 h), λ ab. g.1 ab.1)
joined {p = false} {q = q} f g = (λ h. grind arith, λ ab. f.1 ab.0)

-- numbers, texts, and the values that are made of few of them
numbers : IsExact nat_eq
numbers x y = search rules

texts : IsExact byte_eq
texts x y = search rules

highs : IsExact high.ghosts.eq
highs x y = search rules

spans : IsExact span.ghosts.eq
spans x y = search rules

phases : IsExact phase.ghosts.eq
phases x y = search rules

pub each_piece : IsExact piece.ghosts.eq
each_piece x y = search rules

statuses : IsExact status.ghosts.eq
statuses x y = search rules

marks : IsExact mark.ghosts.eq
marks x y = search rules

-- local rows
pub each_local_row : IsExact local.ghosts.eq
each_local_row x y =
    let parts = joined (texts x.map y.map) (joined (spans x.span y.span) (joined (numbers x.number y.number) (joined (statuses x.status y.status) (marks x.mark y.mark)))) in
    (λ h. let p = parts.0 h in λ i. record { map = p.0 i; span = p.1.0 i; number = p.1.1.0 i; status = p.1.1.1.0 i; mark = p.1.1.1.1 i }, λ e. parts.1 (ap (λ z. z.map) e, (ap (λ z. z.span) e, (ap (λ z. z.number) e, (ap (λ z. z.status) e, ap (λ z. z.mark) e)))))

options : {T : Type 0} (same : T → T → Bool) → IsExact same → IsExact (option_eq same)
options same exact None None = (λ h. refl, λ e. refl)
options same exact None (Some y) = grind arith
options same exact (Some x) None = grind arith
options same exact (Some x) (Some y) = (λ h. ap Some ((exact x y).0 h), λ e. grind (arith, exact x y))

-- up to two pieces
pub all_pieces : IsExact pieces.ghosts.eq
all_pieces x y =
    let parts = joined (options _ each_piece x.one y.one) (options _ each_piece x.two y.two) in
    (λ h. let p = parts.0 h in λ i. record { one = p.0 i; two = p.1 i }, λ e. parts.1 (ap (λ z. z.one) e, ap (λ z. z.two) e))

-- job rows
pub jobs : IsExact job.ghosts.eq
jobs x y =
    let parts = joined (numbers x.number y.number) (joined (texts x.map y.map) (joined (texts x.low y.low) (joined (highs x.high y.high) (joined (texts x.source y.source) (joined (texts x.target y.target) (joined (numbers x.batch y.batch) (joined (highs x.cursor y.cursor) (phases x.phase y.phase)))))))) in
    (λ h. let p = parts.0 h in λ i. record { number = p.0 i; map = p.1.0 i; low = p.1.1.0 i; high = p.1.1.1.0 i; source = p.1.1.1.1.0 i; target = p.1.1.1.1.1.0 i; batch = p.1.1.1.1.1.1.0 i; cursor = p.1.1.1.1.1.1.1.0 i; phase = p.1.1.1.1.1.1.1.1 i }, λ e. parts.1 (ap (λ z. z.number) e, (ap (λ z. z.map) e, (ap (λ z. z.low) e, (ap (λ z. z.high) e, (ap (λ z. z.source) e, (ap (λ z. z.target) e, (ap (λ z. z.batch) e, (ap (λ z. z.cursor) e, ap (λ z. z.phase) e)))))))))

-- what an operation does to a job
pub extras : IsExact some_extra.ghosts.eq
extras extra.None extra.None = (λ h. refl, λ e. refl)
extras (extra.JobPut x) (extra.JobPut y) = (λ h. ap extra.JobPut ((jobs x y).0 h), λ e. grind (arith, jobs x y))
extras (extra.JobDrop x) (extra.JobDrop y) = (λ h. ap extra.JobDrop ((numbers x y).0 h), λ e. grind (arith, numbers x y))
extras extra.None _ = grind arith
extras (extra.JobPut x) _ = grind arith
extras (extra.JobDrop x) _ = grind arith

-- operations
pub ops : IsExact op.ghosts.eq
ops x y =
    let parts = joined (numbers x.number y.number) (joined (texts x.map y.map) (joined (spans x.hull y.hull) (joined (all_pieces x.olds y.olds) (joined (all_pieces x.news y.news) (extras x.extra y.extra))))) in
    (λ h. let p = parts.0 h in λ i. record { number = p.0 i; map = p.1.0 i; hull = p.1.1.0 i; olds = p.1.1.1.0 i; news = p.1.1.1.1.0 i; extra = p.1.1.1.1.1 i }, λ e. parts.1 (ap (λ z. z.number) e, (ap (λ z. z.map) e, (ap (λ z. z.hull) e, (ap (λ z. z.olds) e, (ap (λ z. z.news) e, ap (λ z. z.extra) e))))))
