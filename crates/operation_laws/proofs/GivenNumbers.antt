-- The numbers of live operations stay given.
use Rattle.std.proofs.Common.{◌≡◌, ⊎_elim, ℕ, ap, ◌∙◌, Some, None, Option}
use Rattle.cell_world.specs.declared.operations.Op.{Op}
use Rattle.cell_world.specs.declared.operations.StageName.{StageName}
use Rattle.plain_model.specs.declared.commands.Command.{Command}
use Rattle.session_laws.specs.Doing.{Doing, Operating, AllDoing, Live, live_of, IsThen}
use Rattle.session_laws.proofs.SessionLaws.{live_then}
use Rattle.operation_laws.specs.LiveNumbers.{AreGiven}

none_some : (x : Option Live) (l : Live) → x ≡ None → x ≡ Some l → ⊥
none_some x l a b = cc

some_live : (x y : Live) → Some x ≡ Some y → x ≡ y
some_live x y is = cc

pub given_first : (doing : AllDoing) → ((session : ℕ) → live_of (doing session) ≡ None) → AreGiven doing
given_first doing none t l is = absurd (none_some (live_of (doing t)) l (none t) is)

-- a session has an operation with a number live, whether it had it before or not
pub given_operating : (doing : AllDoing) → AreGiven doing → (session : ℕ) (c : Command) (op : Op) (stage : StageName) → (op.number ≡ 0 → ⊥) → (next : AllDoing) → IsThen doing session (Operating c op stage) next → AreGiven next
given_operating doing given session c op stage some next then t l is zero = ⊎_elim
    (λ this. some (ap (λ (l : Live). l.op.number) (some_live (record { command = c; op = op; stage = stage }) l this.1) ∙ zero))
    (λ other. given t l other.1 zero)
    (live_then doing session (Operating c op stage) next then t l is)

-- or has none live
pub given_idle : (doing : AllDoing) → AreGiven doing → (session : ℕ) (d : Doing) → live_of d ≡ None → (next : AllDoing) → IsThen doing session d next → AreGiven next
given_idle doing given session d none next then t l is zero = ⊎_elim
    (λ this. none_some (live_of d) l none this.1)
    (λ other. given t l other.1 zero)
    (live_then doing session d next then t l is)
