-- Worked causes: sessions whose disks fail, and what has no cause where none does. (That what is asked of an event's causes can be met, and is needed.)
use Rattle.std.specs.Prelude.{◌≡◌, ℕ, ◌==◌, if◌then◌else◌, true, false, List, None}
use Rattle.lvm_num.specs.declared.descriptor.Mode.{Mode}
use Rattle.lvm_invariant.specs.State.{ModelState}
use Rattle.lvm_invariant.specs.Found.{Votes}
use Rattle.lvm_invariant.specs.Want.{after_wants}
use Rattle.lvm_invariant.specs.Events.{Event, after_all}
use Rattle.lvm_invariant.specs.First.{no_disk, marks_with, at_rest}
use Rattle.lvm_invariant.specs.Worked.{all_disks, none_fresh, read_fails}
use Rattle.lvm_invariant.specs.Faults.{Faults}
use Rattle.lvm_invariant.specs.Caused.{Caused}
use Rattle.lvm_invariant.specs.CauseLaws.{CausedSteps, at_beginning}

-- no disk has failed, both have, or the first has
abbrev pub none_failed : ℕ → ℕ
none_failed d = 0

abbrev pub both_failed : ℕ → ℕ
both_failed d = 1

abbrev pub first_failed : ℕ → ℕ
first_failed d = if d == 0 then 1 else 0

-- the events lead from a session's beginning, at which no disk has failed, to these counts, each with its causes
pub record LeadsWithCauses (votes : Votes) (events : List Event) (s : ModelState) (counts : ℕ → ℕ) : Type 0 where
  pub after : Faults
  pub now : after.now ≡ counts
  pub steps : CausedSteps votes events s (after_all events s) (at_beginning s none_failed) after

-- Writes of records fail on both disks, and a write finds no usable copy.
abbrev pub LossIsCaused : Type 0
LossIsCaused = (votes : Votes) (mode : Mode) → LeadsWithCauses votes none_fresh (at_rest mode false) both_failed

-- The disk of the one copy that isn't stale fails, and a read with it.
abbrev pub FailedReadIsCaused : Type 0
FailedReadIsCaused = (votes : Votes) (mode : Mode) → LeadsWithCauses votes read_fails (at_rest mode true) first_failed

-- Where no disk has failed since a session began, none may become missing, nor may a copy become wanted stale.
pub record NeedsFault (mode : Mode) : Type 0 where
  pub missing : Caused (at_beginning (at_rest mode false) none_failed) (after_wants (at_rest mode false) (marks_with false false) all_disks None) → ⊥
  pub stale : Caused (at_beginning (at_rest mode false) none_failed) (after_wants (at_rest mode false) (marks_with true false) no_disk None) → ⊥

abbrev pub FaultsAreNeeded : Type 0
FaultsAreNeeded = (mode : Mode) → NeedsFault mode
