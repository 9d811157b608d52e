-- The commit of a move leaves a sound session sound.
use Rattle.std.specs.Prelude.{◌≡◌, ◌⊎◌, ℕ, true, List, [], None, Some, false, length, replicate, count_by, Bool, Result, Err}
use Rattle.std.specs.List.{AllByRecursion}
use Rattle.lvm_num.specs.declared.descriptor.Mode.{Mode}
use Rattle.lvm_num.specs.declared.descriptor.LvRow.{LvRow}
use Rattle.lvm_num.specs.declared.descriptor.Descriptor.{Descriptor}
use Rattle.lvm_num.specs.declared.place.Pp.{Pp}
use Rattle.lvm_num.specs.Descriptor.{IsValid, volume_of}
use Rattle.lvm_kept.specs.Group.{IsAlike}
use Rattle.lvm_session.specs.declared.bringing.OpenCopy.{OpenCopy}
use Rattle.lvm_session.specs.declared.open.Power.TheVariants as power
use Rattle.lvm_session.specs.Judging.{copies_in, is_move_done}
use Rattle.lvm_session.specs.Marks.{is_among}
use Rattle.lvm_session.specs.Sound.{IsSound}
use Rattle.lvm_session.specs.State.{State}
use Rattle.lvm_core.specs.declared.fault.CommitFault.{CommitFault}
use Rattle.lvm_core.specs.declared.fault.CommitFault.TheVariants as fault
use Rattle.lvm_move.specs.Moving.{CommitsMove}
use Rattle.lvm_move_keeps.specs.Waiting.{IsUnadmitted}

-- The next descriptor has the copies of the group but for one of a logical partition, in whose place it has this partition.
pub record HasMovedTo (lv lp : ℕ) (to : Pp) (group next : Descriptor) : Type 0 where
  pub valid : IsValid next
  pub alike : IsAlike next group
  pub volumes : (n : ℕ) (row : LvRow) → volume_of group n ≡ Some row → (new : LvRow) × (volume_of next n ≡ Some new) × (new.lps ≡ row.lps)
  pub goes : (l n : ℕ) (p : Pp) → is_among (copies_in next l n) p ≡ true → (is_among (copies_in group l n) p ≡ true) ⊎ (p ≡ to)
  pub comes : (l n : ℕ) (p : Pp) → is_among (copies_in group l n) p ≡ true → (is_among (copies_in next l n) p ≡ true) ⊎ ((l ≡ lv) × (n ≡ lp))
  pub here : is_among (copies_in next lv lp) to ≡ true
  pub modes : (test : ℕ → Mode → Bool) → count_by (λ (row : LvRow). test row.number row.mode) next.lvs ≡ count_by (λ (row : LvRow). test row.number row.mode) group.lvs

-- The session is on, and nothing is left to be made of it: what is wanted is committed, nothing is out, no buffer either, and each request has landed or isn't
-- admitted. A copy is open whose move is done.
pub record IsDoneMoving (s : State) (c : OpenCopy) : Type 0 where
  pub on : s.core.power ≡ power.On
  pub idle : s.device.flights ≡ []
  pub in_flight : s.core.status.in_flight ≡ None
  pub committed : s.core.status.committed ≡ s.core.status.wanted
  pub requests : AllByRecursion IsUnadmitted s.core.requests
  pub is_open : s.core.copy ≡ Some c
  pub done : is_move_done s.core c ≡ true
  pub buffers : s.core.pool ≡ replicate (length s.core.pool) false

-- However the commit of its move ends the session stays sound, but where a transfer isn't heard of.
abbrev pub MoveKeepsSound : Type 0
MoveKeepsSound = (s : State) (c : OpenCopy) (next : Descriptor) (content : List ℕ) (before after : ℕ) (new : State) (answer : Result (Unit {0}) CommitFault)
    → IsSound s → IsDoneMoving s c → HasMovedTo c.lv c.lp c.pp s.core.descriptor next
    → CommitsMove next content before after s new answer → (answer ≡ Err fault.Stuck → ⊥) → IsSound new
