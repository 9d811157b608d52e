-- The buffers that requests have in hand when a session ends.
use Rattle.std.specs.Prelude.{◌≡◌, Bool, true, false, List, [], ◌∷◌, Option, Some, None}
use Rattle.lvm_session.specs.passed.Num.{Buffer}
use Rattle.lvm_session.specs.passed.Pbuf.{IsOut}
use Rattle.lvm_session.specs.declared.open.Open.{Open}
use Rattle.lvm_session.specs.State.{Core}
use Rattle.lvm_session.specs.Bringing.{with_back}
use Rattle.lvm_session.specs.Judging.{is_waiting}
use Rattle.lvm_session.specs.Dark.{AreTold, hand_of_copy}

-- a buffer that comes back is out
abbrev pub IsOutIf : List Bool → Option Buffer → Type 0
IsOutIf pool None = Unit {0}
IsOutIf pool (Some buf) = IsOut pool buf.number

-- it comes back, where this is so
abbrev pub back_if : Bool → Option Buffer → Option Buffer
back_if true got = got
back_if false got = None

-- what one has in hand is out, and one that has landed has nothing in hand
pub record IsInHand (pool : List Bool) (o : Open) : Type 0 where
  pub out : IsOutIf pool o.got
  pub none : is_waiting o ≡ false → o.got ≡ None

-- So it is of each when its turn comes, as the buffers of those before it go back.
abbrev pub AreInHand : List Bool → List Open → Type 0
AreInHand pool [] = Unit {0}
AreInHand pool (o ∷ os) = IsInHand pool o × AreInHand (with_back pool o.got) os

-- A session can end: its table is as the history tells, and what its copy and its requests have in hand is out.
pub record MayEnd (core : Core) : Type 0 where
  pub told : AreTold core.history.facts core.requests
  pub copy : IsOutIf core.pool (hand_of_copy core.copy)
  pub requests : AreInHand (with_back core.pool (hand_of_copy core.copy)) core.requests
