-- The list of live operations that the steps are given, and what the sessions do.
use Rattle.std.specs.Prelude.{◌≡◌, ℕ, true, List, Some}
use Rattle.op_steps.specs.Live.{is_live}
use Rattle.session_laws.specs.Doing.{AllDoing, Live, live_of}

-- a session has the operation of this number live
pub record HasLive (doing : AllDoing) (number : ℕ) : Type 0 where
  pub session : ℕ
  pub live : Live
  pub here : live_of (doing session) ≡ Some live
  pub named : live.op.number ≡ number

-- The numbers are those of the live operations of all sessions.
pub record AreTheLive (numbers : List ℕ) (doing : AllDoing) : Type 0 where
  -- each live operation is listed
  pub listed : (session : ℕ) (l : Live) → live_of (doing session) ≡ Some l → is_live numbers l.op.number ≡ true
  -- and what is listed some session has live
  pub had : (number : ℕ) → is_live numbers number ≡ true → HasLive doing number

-- each live operation has a number from 1 on
abbrev pub AreGiven : AllDoing → Type 0
AreGiven doing = (session : ℕ) (l : Live) → live_of (doing session) ≡ Some l → l.op.number ≡ 0 → ⊥
