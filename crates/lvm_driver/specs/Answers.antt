-- What the answers of a driver say.
use Rattle.std.specs.Prelude.{◌≡◌, ℕ, true, find, IfSome}
use Rattle.lvm_session.specs.declared.bringing.OpenCopy.{OpenCopy}
use Rattle.lvm_session.specs.declared.open.Power.TheVariants as power
use Rattle.lvm_session.specs.Enabled.{is_lost}
use Rattle.lvm_session.specs.Judging.{copies_in}
use Rattle.lvm_session.specs.State.{State}
use Rattle.lvm_session.specs.Calls.{is_asked}
use Rattle.lvm_session.specs.Causes.{AnyFailedSince, IsAnswered, IsCausedAmong}

-- ---- causes

-- the votes are lost where the session is off, and some disk has failed since it began
abbrev pub IsOffSince : State → Type 0
IsOffSince s = s.core.power ≡ power.Off → (is_lost s.core ≡ true) × AnyFailedSince s

-- why this client's request of this number landed as it did, where it has
abbrev pub IsCausedFor : State → ℕ → ℕ → Type 0
IsCausedFor s client id = IfSome (find (is_asked client id) s.core.requests) (IsAnswered s)

-- why the copy that is open ended as failed, where it has
abbrev pub IsCopyCaused : State → Type 0
IsCopyCaused s = IfSome s.core.copy (λ (c : OpenCopy). IsCausedAmong s (copies_in s.core.descriptor c.lv c.lp) c)
