-- Dirty marks that aren't needed, and what dropping them answers.
use Rattle.std.specs.Prelude.{◌≡◌, ◌⊎◌, ℕ, ◌==◌, ◌&&◌, not, Bool, List, [], filter, Result, Ok}
use Rattle.std.specs.List.{list_any, range_with_len}
use Rattle.lvm_num.specs.declared.descriptor.LvRow.{LvRow}
use Rattle.lvm_num.specs.declared.descriptor.Descriptor.{Descriptor}
use Rattle.lvm_num.specs.declared.status.Status.{Status}
use Rattle.lvm_num.specs.Descriptor.{copies_of}
use Rattle.lvm_num.specs.Modes.{is_passive}
use Rattle.lvm_num.specs.Status.{calls_dirty}
use Rattle.lvm_session.specs.State.{Core, State}
use Rattle.lvm_volume_plan.specs.CopiesFaults.{has_usable}
use Rattle.lvm_volume_plan.specs.passed.Core.{CommitFault, HasSpareNumbers, MarkEnds, Scope, dirtying}

-- whether a logical partition of the volume has no copy that can be used
abbrev pub lacks_usable : Status → LvRow → Bool
lacks_usable s row = list_any (λ lp. not (has_usable s (copies_of row lp))) (range_with_len 0 row.lps)

-- whether the volume of this number is in mode passive and has such a logical partition; the mark of any other is needed no more once nothing is under way
abbrev pub needs_mark : List LvRow → Status → ℕ → Bool
needs_mark volumes s number = list_any (λ (row : LvRow). row.number == number && is_passive row.mode && lacks_usable s row) volumes

-- the volumes that are dirty without need
abbrev pub unneeded : Descriptor → Status → List ℕ
unneeded d s = filter (λ number. not (needs_mark d.lvs s number)) s.dirty

-- what it may do: drop their marks, which their copies have to let be
abbrev pub to_tidy : Core → Scope
to_tidy core = dirtying [] (unneeded core.descriptor core.status.committed)

-- Enough sequence numbers were left, and a status was committed, or as far as it went, in which those stay dirty whose mark is needed.
pub record HasTidied (patience : ℕ) (old new : State) (answer : Result (Unit {0}) CommitFault) : Type 0 where
  pub numbers : HasSpareNumbers old.core
  pub ends : MarkEnds patience old new answer
  pub marks : (lv : ℕ) → calls_dirty new.core.status.wanted lv ≡ calls_dirty old.core.status.wanted lv && needs_mark old.core.descriptor.lvs old.core.status.wanted lv

-- what it answers
abbrev pub TidyGives : ℕ → State → State → Result (Unit {0}) CommitFault → Type 0
TidyGives patience old new answer = ((HasSpareNumbers old.core → ⊥) × (answer ≡ Ok tt) × (new ≡ old)) ⊎ HasTidied patience old new answer
